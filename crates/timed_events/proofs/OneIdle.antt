-- Events with receives of nothing in short silences have one trace.
use Rattle.std.proofs.Common.{ℕ, ◌≡◌, ◌<◌, ◌≤◌, Bool, List, [], ◌∷◌, ◌++◌, length, get_or, Some, zero, suc, refl, sym, ap, ap₂, ◌∙◌, subst, arith}
use Rattle.std.specs.Prelude.{slice_get, slice_index}
use Rattle.std.specs.List.{AllZip, range_with_len}
use Rattle.std.specs.List.Sorted.{IsPermutation}
use Rattle.std.proofs.lemmas.List.{get_or-map, get_or_default}
use Rattle.std.proofs.lemmas.Option.{same_Some}
use Rattle.std.proofs.lemmas.Slice.Zip.{AllZip-long}
use Rattle.step_trace.specs.declared.steps.Act.{Act}
use Rattle.step_trace.specs.declared.steps.Step.{Step}
use Rattle.step_trace.specs.Traces.{Recorded}
use Rattle.timed_events.specs.declared.events.Event.{Event}
use Rattle.timed_events.specs.declared.events.EventAct.{EventAct}
use Rattle.timed_events.specs.declared.events.EventAct.TheVariants.{Send, Receive}
use Rattle.timed_events.specs.declared.events.Clock.{Clock}
use Rattle.timed_events.specs.declared.idle_ticks.IdleTick.{IdleTick}
use Rattle.timed_events.specs.declared.idle_traces.IdleTrace.{IdleTrace}
use Rattle.timed_events.specs.declared.spread_traces.Moved.{Moved}
use Rattle.timed_events.specs.Checks.{processor_at, moment_of, moment_at}
use Rattle.timed_events.specs.IdleTicks.{AreIdle, IsOfNothing, AreReceives, moments_of, ticks_of, AreRising}
use Rattle.timed_events.specs.IdleTraces.{AreFilledPlaces, IsFilled, IsIdleTimed}
use Rattle.timed_events.specs.Orders.{IsOrder}
use Rattle.timed_events.specs.Spreads.{HasStepsAt, last_of, moved_of}
use Rattle.timed_events.specs.Times.{time_ticks}
use Rattle.timed_events.specs.TimedTraces.{AreIdsOf, HasSteps, IsActOf, IsStepAt, IsTraceOf}
use Rattle.timed_events.proofs.OneOrder.{IsOrder-unique}
use Rattle.timed_events.proofs.OneSpread.{AreTicks-unique}
use Rattle.timed_events.proofs.OneTrace.{IsTraceOf-unique}

abbrev moment : IdleTick → ℕ
moment x = moment_of x.tick x.processor

-- two lists in rising order of moments with the same members are one
record AreAscending (xs : List IdleTick) : Type 0 where
  up : (d : IdleTick) (j k : ℕ) → j < k → k < length xs → moment (get_or xs j d) < moment (get_or xs k d)

ascending-tail : (x : IdleTick) (xs : List IdleTick) → AreAscending (x ∷ xs) → AreAscending xs
ascending-tail x xs h = record { up = λ d j k l m. h.up d (suc j) (suc k) (omega arith) (omega arith) }

record AreAmong (xs ys : List IdleTick) : Type 0 where
  each : (d : IdleTick) (j : ℕ) → j < length xs → (k : ℕ) × (k < length ys) × (get_or ys k d ≡ get_or xs j d)

-- the first of each has no greater moment than that of the other
least-first : (x y : IdleTick) (xs ys : List IdleTick) → AreAscending (y ∷ ys) → AreAmong (x ∷ xs) (y ∷ ys) → moment y ≤ moment x
least-first x y xs ys h w = go (w.each x zero (omega arith)) where
  go : (k : ℕ) × (k < length (y ∷ ys)) × (get_or (y ∷ ys) k x ≡ x) → moment y ≤ moment x
  go (zero, l, e) = let f = ap moment e in omega arith
  go (suc k, l, e) = let u = h.up x zero (suc k) (omega arith) l in let f = ap moment e in omega arith

same-first : (x y : IdleTick) (xs ys : List IdleTick)
    → AreAscending (x ∷ xs) → AreAscending (y ∷ ys) → AreAmong (x ∷ xs) (y ∷ ys) → AreAmong (y ∷ ys) (x ∷ xs) → x ≡ y
same-first x y xs ys g h u v = go (u.each x zero (omega arith)) where
  go : (k : ℕ) × (k < length (y ∷ ys)) × (get_or (y ∷ ys) k x ≡ x) → x ≡ y
  go (zero, l, e) = sym e
  go (suc k, l, e) = let m = least-first y x ys xs g v in
      let r = h.up x zero (suc k) (omega arith) l in let f = ap moment e in absurd (omega arith)

tail-found : (x y d : IdleTick) (xs ys : List IdleTick) (j : ℕ) → AreAscending (x ∷ xs) → x ≡ y → j < length xs
    → (k : ℕ) × (k < length (y ∷ ys)) × (get_or (y ∷ ys) k d ≡ get_or xs j d)
    → (k : ℕ) × (k < length ys) × (get_or ys k d ≡ get_or xs j d)
tail-found x y d xs ys j h e l (zero, m, f) = let u = h.up d zero (suc j) (omega arith) (omega arith) in
    let g = ap moment f in let i = ap moment e in absurd (omega arith)
tail-found x y d xs ys j h e l (suc k, m, f) = (k, omega arith, f)

among-tail : (x y : IdleTick) (xs ys : List IdleTick) → AreAscending (x ∷ xs) → x ≡ y → AreAmong (x ∷ xs) (y ∷ ys) → AreAmong xs ys
among-tail x y xs ys h e w = record { each = λ d j l. tail-found x y d xs ys j h e l (w.each d (suc j) (omega arith)) }

none-among : (x : IdleTick) (xs : List IdleTick) → AreAmong (x ∷ xs) [] → ⊥
none-among x xs w = let l = (w.each x zero (omega arith)).1 in absurd (omega arith)

one-list : (xs ys : List IdleTick) → AreAscending xs → AreAscending ys → AreAmong xs ys → AreAmong ys xs → xs ≡ ys
one-list [] [] g h u v = refl
one-list [] (y ∷ ys) g h u v = absurd (none-among y ys v)
one-list (x ∷ xs) [] g h u v = absurd (none-among x xs u)
one-list (x ∷ xs) (y ∷ ys) g h u v =
    let e = same-first x y xs ys g h u v in
    ap₂ (λ z zs. z ∷ zs) e
    (one-list xs ys (ascending-tail x xs g) (ascending-tail y ys h) (among-tail x y xs ys g e u) (among-tail y x ys xs h (sym e) v))

module _ (n : ℕ) (events : List Event) (ticks : List ℕ) (last limit : ℕ) where
  among : (a b : List IdleTick) → AreIdle n events ticks last limit a → AreIdle n events ticks last limit b → AreAmong a b
  among a b g h = record { each = λ d j l. found d j l } where
    found : (d : IdleTick) (j : ℕ) → j < length a → (k : ℕ) × (k < length b) × (get_or b k d ≡ get_or a j d)
    found d j l =
        let i = g.each j d l in
        let c = h.all (get_or a j d).processor (get_or a j d).tick i.least i.most i.end in
        (c.0, c.1, get_or_default b c.0 d (get_or a j d) c.1 ∙ c.2)

  ascending : (a : List IdleTick) → AreRising a → AreAscending a
  ascending a h = record { up = λ d j k l m. rises d j k l m } where
    at : (d : IdleTick) (j : ℕ) → j < length a → slice_index (moments_of a) j ≡ moment (get_or a j d)
    at d j l = get_or-map (λ (x : IdleTick). moment_of x.tick x.processor) a j d 0 l

    rises : (d : IdleTick) (j k : ℕ) → j < k → k < length a → moment (get_or a j d) < moment (get_or a k d)
    rises d j k l m = let r = h j k l m in let x = at d j (omega arith) in let y = at d k m in omega arith

  -- there is one list of the ticks in which short silences end
  pub AreIdle-unique : (a b : List IdleTick) → AreIdle n events ticks last limit a → AreIdle n events ticks last limit b → a ≡ b
  AreIdle-unique a b g h = one-list a b (ascending a g.rising) (ascending b h.rising) (among a b g h) (among b a h g)

-- events that make the same step
abbrev IsSameAct : EventAct → EventAct → Type 0
IsSameAct (Send to) (Send for) = to ≡ for
IsSameAct (Send to) (Receive messages) = ⊥
IsSameAct (Receive messages) (Send to) = ⊥
IsSameAct (Receive messages) (Receive others) = messages ≡ others

record IsSame (x y : Event) : Type 0 where
  own : x.processor ≡ y.processor
  act : IsSameAct x.act y.act

same-act : (a : EventAct) → IsSameAct a a
same-act (Send to) = refl
same-act (Receive messages) = refl

nothing-same : (a b : EventAct) → IsOfNothing a → IsOfNothing b → IsSameAct a b
nothing-same (Send to) b g h = absurd g
nothing-same (Receive messages) (Send to) g h = absurd h
nothing-same (Receive messages) (Receive others) g h = g ∙ sym h

same-added : (idles : List IdleTick) (xs ys : List Event) → AreReceives idles xs → AreReceives idles ys → AllZip IsSame xs ys
same-added [] [] [] g h = tt
same-added [] [] (y ∷ ys) g h = absurd h
same-added [] (x ∷ xs) ys g h = absurd g
same-added (i ∷ idles) [] ys g h = absurd g
same-added (i ∷ idles) (x ∷ xs) [] g h = absurd h
same-added (i ∷ idles) (x ∷ xs) (y ∷ ys) g h =
    (record { own = g.0.own ∙ sym h.0.own; act = nothing-same x.act y.act g.0.act h.0.act }, same-added idles xs ys g.1 h.1)

same-all : (events xs ys : List Event) → AllZip IsSame xs ys → AllZip IsSame (events ++ xs) (events ++ ys)
same-all [] xs ys h = h
same-all (e ∷ events) xs ys h = (record { own = refl; act = same-act e.act }, same-all events xs ys h)

same-processor : (xs ys : List Event) (i : ℕ) → AllZip IsSame xs ys → processor_at xs i ≡ processor_at ys i
same-processor [] [] i h = refl
same-processor [] (y ∷ ys) i h = absurd h
same-processor (x ∷ xs) [] i h = absurd h
same-processor (x ∷ xs) (y ∷ ys) zero h = h.0.own
same-processor (x ∷ xs) (y ∷ ys) (suc i) h = same-processor xs ys i h.1

same-event : (xs ys : List Event) (i : ℕ) (x : Event)
    → AllZip IsSame xs ys → slice_get xs i ≡ Some x → (y : Event) × (slice_get ys i ≡ Some y) × IsSame x y
same-event [] ys i x h e = absurd (cc)
same-event (z ∷ xs) [] i x h e = absurd h
same-event (z ∷ xs) (y ∷ ys) zero x h e = (y, refl, subst (λ v. IsSame v y) (same_Some z x e) h.0)
same-event (z ∷ xs) (y ∷ ys) (suc i) x h e = same-event xs ys i x h.1 e

same-does : (numbers : List ℕ) (a b : EventAct) (s : Act) → IsSameAct a b → IsActOf numbers a s → IsActOf numbers b s
same-does numbers (Send to) (Send for) s e h = subst (λ p. IsActOf numbers (Send p) s) e h
same-does numbers (Send to) (Receive messages) s e h = absurd e
same-does numbers (Receive messages) (Send to) s e h = absurd e
same-does numbers (Receive messages) (Receive others) s e h = (h.0, h.1, subst (λ ms. AreIdsOf numbers ms h.0) e h.2)

same-step : (xs ys : List Event) (numbers : List ℕ) (place : ℕ) (s : Step)
    → AllZip IsSame xs ys → IsStepAt xs numbers place s → IsStepAt ys numbers place s
same-step xs ys numbers place s h t =
    let f = same-event xs ys place t.event h t.at in
    record { event = f.0; at = f.1; proc = t.proc ∙ f.2.own; does = same-does numbers t.event.act f.0.act s.act f.2.act t.does }

same-steps : (xs ys : List Event) (numbers places : List ℕ) (steps : List Step)
    → AllZip IsSame xs ys → AllZip (IsStepAt xs numbers) places steps → AllZip (IsStepAt ys numbers) places steps
same-steps xs ys numbers [] [] h t = t
same-steps xs ys numbers [] (s ∷ steps) h t = absurd t
same-steps xs ys numbers (p ∷ places) [] h t = absurd t
same-steps xs ys numbers (p ∷ places) (s ∷ steps) h t = (same-step xs ys numbers p s h t.0, same-steps xs ys numbers places steps h t.1)

-- events that make the same steps have the same trace
same-trace : (n : ℕ) (xs ys : List Event) (ticks : List ℕ) (last : ℕ) (trace : Recorded)
    → AllZip IsSame xs ys → IsTraceOf n xs ticks last trace → IsTraceOf n ys ticks last trace
same-trace n xs ys ticks last trace h t = record {
  order = t.order;
  numbers = t.numbers;
  ordered = record {
    places = subst (λ k. IsPermutation (range_with_len 0 k) t.order) (sym (AllZip-long IsSame xs ys h)) t.ordered.places;
    rising = λ j k l m. (let a = at (slice_index t.order j) in
        let b = at (slice_index t.order k) in let r = t.ordered.rising j k l m in omega arith);
  };
  numbered = t.numbered;
  has = record { config = t.has.config; steps = same-steps xs ys t.numbers t.order trace.steps h t.has.steps; timed = t.has.timed };
  end = t.end;
} where
  at : (i : ℕ) → moment_at xs ticks i ≡ moment_at ys ticks i
  at i = ap (moment_of (slice_index ticks i)) (same-processor xs ys i h)

filled-once : (n : ℕ) (events new more : List Event) (ticks : List ℕ) (last : ℕ) (idles : List IdleTick)
    (a b : Recorded) → IsFilled n events new ticks last idles a → IsFilled n events more ticks last idles b → a ≡ b
filled-once n events new more ticks last idles a b s t =
    IsTraceOf-unique n (events ++ t.added) (ticks ++ ticks_of idles) last a b
    (same-trace n (events ++ s.added) (events ++ t.added) (ticks ++ ticks_of idles) last a
    (same-all events s.added t.added (same-added idles s.added t.added s.receives t.receives)) s.trace) t.trace

-- events with times have one trace with receives of nothing in short silences
pub IsIdleTimed-unique : (spread : Bool) (n : ℕ) (events : List Event) (clock : Clock) (limit : ℕ) (a b : IdleTrace)
    (new more : List Event) → IsIdleTimed spread n events clock limit a new
    → IsIdleTimed spread n events clock limit b more → a ≡ b
IsIdleTimed-unique spread n events clock limit a b new more s t =
    let ticks = AreTicks-unique spread events clock t.ticks s.ticks s.passed t.are s.are in
    let idle = subst (λ xs. AreIdle n events xs (last_of events clock xs) limit t.idles) ticks t.idle in
    let idles = AreIdle-unique n events s.ticks (last_of events clock s.ticks) limit t.idles s.idles idle s.idle in
    let filled = subst (λ is. IsFilled n events more s.ticks (last_of events clock s.ticks) is b.trace) idles
    (subst (λ xs. IsFilled n events more xs (last_of events clock xs) t.idles b.trace) ticks t.filled) in
    let trace = filled-once n events new more s.ticks (last_of events clock s.ticks) s.idles a.trace b.trace s.filled filled in
    let moved = s.moved ∙ sym (ap (moved_of (time_ticks events clock)) ticks) ∙ sym t.moved in
    let added = s.added ∙ sym (ap length idles) ∙ sym t.added in
    same-parts a b trace moved added where
      same-parts : (a b : IdleTrace) → a.trace ≡ b.trace → a.moved ≡ b.moved → a.added ≡ b.added → a ≡ b
      same-parts a b t m k =
          ap₂ (λ (x : Recorded) (y : Moved). let z : IdleTrace = record { trace = x; moved = y; added = a.added } in z) t m
          ∙ ap (λ (k : ℕ). let z : IdleTrace = record { trace = b.trace; moved = b.moved; added = k } in z) k

-- the steps of the trace are those of the events and of the receives behind them at these places, in this order
pub steps-filled : (spread : Bool) (n : ℕ) (events : List Event) (clock : Clock) (limit : ℕ) (timed : IdleTrace)
    (new : List Event) (places : List ℕ) → IsIdleTimed spread n events clock limit timed new
    → AreFilledPlaces spread n events clock limit new places → HasStepsAt n new places timed.trace
steps-filled spread n events clock limit timed new places t p =
    let ticks = AreTicks-unique spread events clock p.ticks t.ticks t.passed p.are t.are in
    let last = last_of events clock t.ticks in
    let idle = subst (λ xs. AreIdle n events xs (last_of events clock xs) limit p.idles) ticks p.idle in
    let idles = AreIdle-unique n events t.ticks last limit p.idles t.idles idle t.idle in
    let all = t.ticks ++ ticks_of t.idles in
    let made = subst (λ es. IsTraceOf n es all last timed.trace) (sym t.filled.grown) t.filled.trace in
    let ordered = subst (λ is. IsOrder new (t.ticks ++ ticks_of is) places) idles
    (subst (λ xs. IsOrder new (xs ++ ticks_of p.idles) places) ticks p.ordered) in
    let order = IsOrder-unique new all made.order places made.ordered ordered in
    record { ticks = all; numbers = made.numbers; has = subst (λ xs. HasSteps n new all made.numbers xs timed.trace) order made.has }
