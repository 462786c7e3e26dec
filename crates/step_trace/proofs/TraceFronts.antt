-- The first steps of a trace: they are a trace, each follows from the one before, and where a trace is cut.
use Rattle.std.proofs.Common.{ℕ, ◌≡◌, ◌+◌, ◌-◌, ◌<◌, ◌≤◌, inl, inr, None, List, [], ◌∷◌, ◌++◌, length, get_or, take, drop, Some, refl, sym, ap, ◌∙◌, subst, suc, zero, arith}
use Rattle.std.specs.Prelude.{slice_get}
use Rattle.std.proofs.lemmas.Bool.{cases_lt}
use Rattle.std.proofs.lemmas.List.{take_more, take-append-drop, length-take-le, get_or-take}
use Rattle.std.proofs.lemmas.Option.{slice_get-get_or, slice_get_within, get_or_from_slice_get, none-some}
use Rattle.std.proofs.Math.Seq.{take-append_seam}
use Rattle.step_trace.specs.declared.traces.TheConstants.{MAX_TICKS}
use Rattle.step_trace.specs.declared.steps.Step.{Step}
use Rattle.step_trace.specs.Traces.{Recorded, step_at, TakesAt, IsWellFormed}
use Rattle.step_trace.specs.Ticks.{tick_at, tick_of, ComesBefore, IsTimed, IsTrace, with_step, CanAppend}
use Rattle.step_trace.specs.Cuts.{IsCutAt, front_to, first_steps}
use Rattle.step_trace.specs.TickRefusals.{refusal_in}
use Rattle.step_trace.proofs.PagePlaces.{slice_get-left}
use Rattle.step_trace.proofs.FittingTicks.{FitsIn-from_append}
use Rattle.step_trace.proofs.TickReasons.{none_from_FitsIn}
use Rattle.step_trace.proofs.StepPositions.{step_at_within}
use Rattle.step_trace.proofs.TickPositions.{step_exists, tick_of-limit}
use Rattle.step_trace.proofs.TickOrder.{ticks_rise}

-- what is among the first n items is the same in the whole list
slice_get-take : {X : Type 0} (xs : List X) (n k : ℕ) (d : X) → n ≤ length xs → k < n → slice_get (take n xs) k ≡ slice_get xs k
slice_get-take xs n k d l m =
    let long = length-take-le n xs l in
    slice_get-get_or (take n xs) k d (omega (arith, long, m))
    ∙ ap (λ x. Some x) (get_or-take n xs k d m) ∙ sym (slice_get-get_or xs k d (omega (arith, l, m)))

tick_at-take : (ts : List ℕ) (n k : ℕ) → k ≤ n → tick_at (take n ts) k ≡ tick_at ts k
tick_at-take ts n zero l = refl
tick_at-take ts n (suc k) l = get_or-take n ts k 0 (omega (arith, l))

-- what is in the first steps is in all
step_at-taken : (steps : List Step) (n k : ℕ) (x : Step) → n ≤ length steps → step_at (take n steps) k ≡ Some x → step_at steps k ≡ Some x
step_at-taken steps n zero x l h = h
step_at-taken steps n (suc k) x l h =
    let w = step_at_within (take n steps) (suc k) x h in
    let long = length-take-le n steps l in
    sym (slice_get-take steps n k x l (let m = w.1 in omega (arith, m, long))) ∙ h

-- and what is in all at one of their numbers is in them
step_at-take : (steps : List Step) (n k : ℕ) (x : Step)
    → n ≤ length steps → k ≤ n → step_at steps k ≡ Some x → step_at (take n steps) k ≡ Some x
step_at-take steps n zero x l m h = h
step_at-take steps n (suc k) x l m h = slice_get-take steps n k x l (omega (arith, m)) ∙ h

module _ (trace : Recorded) (n tick : ℕ) (sound : IsTrace trace) (inside : n ≤ length trace.steps) where
  whole : (k : ℕ) (x : Step) → step_at (take n trace.steps) k ≡ Some x → step_at trace.steps k ≡ Some x
  whole k x = step_at-taken trace.steps n k x inside

  within : (k : ℕ) (x : Step) → step_at (take n trace.steps) k ≡ Some x → k ≤ n
  within k x h = let w = (step_at_within (take n trace.steps) k x h).1 in
      let long = length-take-le n trace.steps inside in omega (arith, w, long)

  takes : (k s : ℕ) → TakesAt (take n trace.steps) k s → TakesAt trace.steps k s
  takes k s t = (t.0, whole k t.0 t.1, t.2)

  -- the first steps are well formed
  front_well_formed : IsWellFormed trace.config (take n trace.steps)
  front_well_formed = record {
    short = let long = length-take-le n trace.steps inside in let limit = sound.steps.short in omega (arith, long, limit, inside);
    procs = λ k x h. sound.steps.procs k x (whole k x h);
    dests = λ k x h. sound.steps.dests k x (whole k x h);
    rising = λ k x h. sound.steps.rising k x (whole k x h);
    earlier = λ k s x h t. (let e = sound.steps.earlier k s x (whole k x h) t in let low = e.0 in let end = within k x h in
        (low, (e.1.0, step_at-take trace.steps n s _ inside (omega (arith, low, end)) e.1.1)));
    once = λ m k s a b. sound.steps.once m k s (takes m s a) (takes k s b);
  }

  tick_whole : (k : ℕ) → k ≤ n → tick_of (front_to trace n tick) k ≡ tick_of trace k
  tick_whole k l = tick_at-take trace.ticks n k l

  -- and in time, if the tick with which they end is no earlier than theirs
  front_timed : tick_of trace n ≤ tick → tick ≤ MAX_TICKS → IsTimed (front_to trace n tick)
  front_timed late high = record {
    each = let a = length-take-le n trace.steps inside in
        let b = length-take-le n trace.ticks (let long = sound.time.each in omega (arith, long, inside)) in b ∙ sym a;
    end = high;
    inside = λ k x h. (let w = sound.time.inside k x (whole k x h) in let same = tick_whole k (within k x h) in let up = last k x h in
        (let low = w.0 in omega (arith, low, same), omega (arith, same, up, late)));
    order = λ j k a b l p q. order j k a b l p q (sound.time.order j k a b l (whole j a p) (whole k b q));
    later = λ k s t. (let m = sound.time.later k s (takes k s t) in let u = tick_whole k (within k t.0 t.1) in
        let v = tick_whole s (let e = (sound.steps.earlier k s t.0 (whole k t.0 t.1) t.2).0 in
        let w = within k t.0 t.1 in omega (arith, e, w)) in omega (arith, m, u, v));
  } where
    last : (k : ℕ) (x : Step) → step_at (take n trace.steps) k ≡ Some x → tick_of trace k ≤ tick_of trace n
    last k x h = go n refl where
      go : (m : ℕ) → m ≡ n → tick_of trace k ≤ tick_of trace n
      go zero e = absurd (let low = (step_at_within (take n trace.steps) k x h).0 in let up = within k x h in omega (arith, low, up, e))
      go (suc m) e = let y = step_exists trace.steps m (omega (arith, e, inside)) in
          ticks_rise trace sound.time k n x y.0 (whole k x h) (subst (λ i. step_at trace.steps i ≡ Some y.0) e y.1) (within k x h)

    order : (j k : ℕ) (a b : Step) → j < k → step_at (take n trace.steps) j ≡ Some a
        → step_at (take n trace.steps) k ≡ Some b → ComesBefore trace j a k b → ComesBefore (front_to trace n tick) j a k b
    order j k a b l p q (inl m) = inl (let u = tick_whole j (within j a p) in let v = tick_whole k (within k b q) in omega (arith, m, u, v))
    order j k a b l p q (inr m) = inr (tick_whole j (within j a p) ∙ m.0 ∙ sym (tick_whole k (within k b q)), m.1)

  -- so they are a trace
  pub IsTrace-front : tick_of trace n ≤ tick → tick ≤ MAX_TICKS → IsTrace (front_to trace n tick)
  IsTrace-front late high = record { steps = front_well_formed; time = front_timed late high }

  -- which the trace extends, and is cut to, if each further step is in a later tick
  pub IsCutAt-front : tick ≤ trace.last → ((k : ℕ) → n < k → k ≤ length trace.steps → tick < tick_of trace k)
      → IsCutAt trace tick (front_to trace n tick)
  IsCutAt-front low after = record {
    extends = record {
      config = refl;
      steps = record { more = drop n trace.steps; whole = sym (take-append-drop n trace.steps) };
      ticks = record { more = drop n trace.ticks; whole = sym (take-append-drop n trace.ticks) };
      last = low;
      later = λ k x l h. (let m = further k x l h in omega (arith, m));
    };
    last = refl;
    after = further;
  } where
    further : (k : ℕ) (x : Step) → length (take n trace.steps) < k → step_at trace.steps k ≡ Some x → tick < tick_of trace k
    further k x l h = let long = length-take-le n trace.steps inside in
        after k (omega (arith, long, l)) (step_at_within trace.steps k x h).1

-- one step more
pub first_steps-next : (trace : Recorded) (n : ℕ) (x : Step) → IsTrace trace → step_at trace.steps (suc n) ≡ Some x
    → first_steps trace (n + 1) ≡ with_step (first_steps trace n) (tick_of trace (n + 1)) x
first_steps-next trace n x sound h =
    let inside = (step_at_within trace.steps (suc n) x h).1 in
    let long = sound.time.each in
    let steps : take (n + 1) trace.steps ≡ take n trace.steps ++ x ∷ [] = take_more trace.steps n x (omega (arith, inside))
    ∙ ap (λ y. take n trace.steps ++ y ∷ []) (get_or_from_slice_get trace.steps n x x h) in
    let next : n + 1 ≡ suc n = omega arith in
    let ticks : take (n + 1) trace.ticks ≡ take n trace.ticks ++ tick_of trace (n + 1) ∷ [] =
    rw next (rw next at (take_more trace.ticks n 0 (omega (arith, inside, long)))) in
    ap (λ (s : List Step).
    record { config = trace.config; steps = s; ticks = take (n + 1) trace.ticks; last = tick_of trace (n + 1) }) steps
    ∙ ap (λ (t : List ℕ).
    record { config = trace.config; steps = take n trace.steps ++ x ∷ []; ticks = t; last = tick_of trace (n + 1) }) ticks

-- if the next step is in a later tick, all further ones are
pub later_ticks : (trace : Recorded) (n tick : ℕ) → IsTimed trace
    → n < length trace.steps → tick < tick_of trace (n + 1) → (k : ℕ) → n < k → k ≤ length trace.steps → tick < tick_of trace k
later_ticks trace n tick time inside late zero l m = absurd (omega (arith, l))
later_ticks trace n tick time inside late (suc k) l m =
    let next : n + 1 ≡ suc n = omega arith in
    let first = step_exists trace.steps n inside in
    let x = step_exists trace.steps k (omega (arith, m)) in
    let r = ticks_rise trace time (suc n) (suc k) first.0 x.0 first.1 x.1 (omega (arith, l)) in
    let s = rw next at late in
    omega (arith, r, s)

-- a step that a trace has next may be appended to its first ones
pub CanAppend-next : (trace : Recorded) (n : ℕ) (x : Step)
    → IsTrace trace → step_at trace.steps (suc n) ≡ Some x → CanAppend (first_steps trace n) (tick_of trace (n + 1)) x
CanAppend-next trace n x sound h =
    let inside = (step_at_within trace.steps (suc n) x h).1 in
    record {
      forward = rise n refl;
      sound = subst (λ (t : Recorded). IsTrace t) (first_steps-next trace n x sound h)
          (IsTrace-front trace (n + 1) (tick_of trace (n + 1)) sound (omega (arith, inside))
          (omega arith) (let l = tick_of-limit trace sound.time (n + 1) in let e = sound.time.end in omega (arith, l, e)));
    } where
      rise : (m : ℕ) → m ≡ n → tick_of trace n ≤ tick_of trace (n + 1)
      rise zero e = rw (← e) (omega arith)
      rise (suc m) e =
          let inside = (step_at_within trace.steps (suc n) x h).1 in
          let y = step_exists trace.steps m (omega (arith, e, inside)) in
          let next : n + 1 ≡ suc n = omega arith in
          rw next (ticks_rise trace sound.time n (suc n) y.0 x (subst (λ i. step_at trace.steps i ≡ Some y.0) e y.1) h (omega arith))

-- there is a step at each number up to the length
pub no_missing : (steps : List Step) (no : ℕ) → 1 ≤ no → no ≤ length steps → None ≡ step_at steps no → ⊥
no_missing steps zero l m h = omega (arith, l)
no_missing steps (suc k) l m h = let x = step_exists steps k (omega (arith, m)) in none-some x.0 (h ∙ x.1)

-- no reason holds against the step that a trace has next
pub next_fits : (trace front : Recorded) (no tick : ℕ) (x : Step)
    → IsTrace trace → 1 ≤ no → Some x ≡ step_at trace.steps no → front ≡ first_steps trace (no - 1) → tick ≡ tick_of trace no
    → (refusal_in front tick x ≡ None) × (first_steps trace no ≡ with_step front tick x)
next_fits trace front zero tick x sound l h same at = absurd (omega (arith, l))
next_fits trace front (suc k) tick x sound l h same at =
    let before : suc k - 1 ≡ k = omega arith in
    let next : k + 1 ≡ suc k = omega arith in
    let inside = (step_at_within trace.steps (suc k) x (sym h)).1 in
    let first = IsTrace-front trace k (tick_of trace k) sound
    (omega (arith, inside)) (omega arith) (let u = tick_of-limit trace sound.time k in let e = sound.time.end in omega (arith, u, e)) in
    let append = rw next at (CanAppend-next trace k x sound (sym h)) in
    rw (same, before, at) (
      none_from_FitsIn (first_steps trace k) (tick_of trace (suc k)) x
          (FitsIn-from_append (first_steps trace k) (tick_of trace (suc k)) x first append),
      rw next at (first_steps-next trace k x sound (sym h)),
    )

-- a shorter list that a longer one begins with, by numbers
begun : (list first more : List Step) → list ≡ first ++ more → (k : ℕ) (x : Step) → step_at first k ≡ Some x → step_at list k ≡ Some x
begun list first more e zero x h = absurd (none-some x h)
begun list first more e (suc k) x h = rw e (slice_get-left first more k (slice_get_within first k x h) ∙ h)

begun_tick : (list first more : List ℕ) → list ≡ first ++ more → (k : ℕ) → k ≤ length first → tick_at list k ≡ tick_at first k
begun_tick list first more e zero l = refl
begun_tick list first more e (suc k) l =
    let same = slice_get-left first more k (omega (arith, l)) in
    get_or_from_slice_get list k (get_or first k 0) 0 (rw e (same ∙ slice_get-get_or first k 0 (omega (arith, l))))

-- of two cuts neither has more steps
no_longer : (trace c d : Recorded) (tick : ℕ) → IsTimed d → IsCutAt trace tick c → IsCutAt trace tick d → length d.steps ≤ length c.steps
no_longer trace c d tick time p q = elim (cases_lt (length c.steps) (length d.steps)) [
  | inr l ↦ l
  | inl l ↦ absurd (
      let x = step_exists d.steps (length c.steps) l in
      let all = begun trace.steps d.steps q.extends.steps.more q.extends.steps.whole (suc (length c.steps)) x.0 x.1 in
      let late = p.after (suc (length c.steps)) x.0 (omega arith) all in
      let low = (time.inside (suc (length c.steps)) x.0 x.1).1 in
      let each = time.each in
      let same = begun_tick trace.ticks d.ticks q.extends.ticks.more q.extends.ticks.whole
      (suc (length c.steps)) (omega (arith, each, l)) in
      let last = q.last in
      omega (arith, late, low, same, last))
]

same_front : {X : Type 0} (xs ys more rest : List X) → length xs ≡ length ys → xs ++ more ≡ ys ++ rest → xs ≡ ys
same_front xs ys more rest l e = sym (take-append_seam xs more)
    ∙ ap (λ n. take n (xs ++ more)) l ∙ ap (take (length ys)) e ∙ take-append_seam ys rest

-- a trace has one cut at a tick
pub one_cut : (trace c d : Recorded) (tick : ℕ) → IsTimed c → IsTimed d → IsCutAt trace tick c → IsCutAt trace tick d → c ≡ d
one_cut trace c d tick at time p q =
    let a = no_longer trace c d tick time p q in
    let b = no_longer trace d c tick at q p in
    let long : length c.steps ≡ length d.steps = omega (arith, a, b) in
    let config : c.config ≡ d.config = sym p.extends.config ∙ q.extends.config in
    let steps : c.steps ≡ d.steps = same_front c.steps d.steps p.extends.steps.more q.extends.steps.more long
    (sym p.extends.steps.whole ∙ q.extends.steps.whole) in
    let ticks : c.ticks ≡ d.ticks = same_front c.ticks d.ticks p.extends.ticks.more q.extends.ticks.more
    (at.each ∙ long ∙ sym time.each) (sym p.extends.ticks.whole ∙ q.extends.ticks.whole) in
    let last : c.last ≡ d.last = p.last ∙ sym q.last in
    ap (λ z. record { config = z; steps = c.steps; ticks = c.ticks; last = c.last }) config
    ∙ ap (λ (z : List Step). record { config = d.config; steps = z; ticks = c.ticks; last = c.last }) steps
    ∙ ap (λ (z : List ℕ). record { config = d.config; steps = d.steps; ticks = z; last = c.last }) ticks
    ∙ ap (λ (z : ℕ). record { config = d.config; steps = d.steps; ticks = d.ticks; last = z }) last
