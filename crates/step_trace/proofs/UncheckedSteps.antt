-- Steps that are checked one after the other.
use Rattle.std.proofs.Common.{ℕ, ◌≡◌, ◌+◌, ◌<◌, ◌∙◌, List, [], ◌∷◌, ◌++◌, length, get_or, take, drop, Some, None, Ok, sym, ap, subst, refl, suc, arith, length-drop}
use Rattle.std.proofs.lemmas.List.{take_more, take_all, drop_all, at_drop_more}
use Rattle.std.proofs.Math.Seq.{take-append_seam, drop-append_seam}
use Rattle.std.proofs.lemmas.Option.{get_or_from_slice_get}
use Rattle.step_trace.specs.declared.steps.Step.{Step}
use Rattle.step_trace.specs.declared.loose_steps.StepRefused.{StepRefused}
use Rattle.step_trace.specs.Configurations.{Setup}
use Rattle.step_trace.specs.Traces.{Recorded, step_at}
use Rattle.step_trace.specs.Ticks.{tick_at, with_step}
use Rattle.step_trace.specs.TickRefusals.{refusal_in}
use Rattle.step_trace.specs.PlacedSteps.{Ticked}
use Rattle.step_trace.specs.AppendedSteps.{appended, unless_refused, IsReached, IsStepRefusal}
use Rattle.step_trace.specs.UncheckedSteps.{front_of, rest_of}
use Rattle.step_trace.proofs.StepPositions.{step_at_within}
use Rattle.step_trace.proofs.AppendedSteps.{appended-none, appended-next, appended-refused, reached-first, reached-next}

module _ (config : Setup) (placed : Ticked) (n last tick : ℕ) (x : Step) (each : length placed.ticks ≡ length placed.steps)
    (at : step_at placed.steps (n + 1) ≡ Some x) (time : tick ≡ tick_at placed.ticks (n + 1)) where
  after : step_at placed.steps (suc n) ≡ Some x
  after = subst (λ k. step_at placed.steps k ≡ Some x) (let e : n + 1 ≡ suc n = omega arith in e) at

  inside : n < length placed.steps
  inside = let w = (step_at_within placed.steps (suc n) x after).1 in omega (arith, w)

  the_step : get_or placed.steps n x ≡ x
  the_step = get_or_from_slice_get placed.steps n x x after

  the_tick : get_or placed.ticks n 0 ≡ tick
  the_tick = sym (time ∙ (let e : n + 1 ≡ suc n = omega arith in ap (λ k. tick_at placed.ticks k) e))

  -- the trace of one step more
  pub front-next : front_of config placed (n + 1) tick ≡ with_step (front_of config placed n last) tick x
  front-next =
      let steps : take (n + 1) placed.steps ≡ take n placed.steps ++ x ∷ [] = take_more placed.steps n x inside
      ∙ ap (λ y. take n placed.steps ++ y ∷ []) the_step in
      let ticks : take (n + 1) placed.ticks ≡ take n placed.ticks ++ tick ∷ [] =
      take_more placed.ticks n 0 (let l = inside in omega (arith, l, each)) ∙ ap (λ t. take n placed.ticks ++ t ∷ []) the_tick in
      ap (λ (s : List Step). record { config = config; steps = s; ticks = take (n + 1) placed.ticks; last = tick }) steps
      ∙ ap (λ (t : List ℕ). record { config = config; steps = take n placed.steps ++ x ∷ []; ticks = t; last = tick }) ticks

  -- the steps that are left begin with the next one
  steps-left : drop n placed.steps ≡ x ∷ drop (n + 1) placed.steps
  steps-left = at_drop_more (λ xs. xs) placed.steps n x inside ∙ ap (λ y. y ∷ drop (n + 1) placed.steps) the_step

  ticks-left : drop n placed.ticks ≡ tick ∷ drop (n + 1) placed.ticks
  ticks-left = at_drop_more (λ ts. ts) placed.ticks n 0 (let l = inside in omega (arith, l, each))
      ∙ ap (λ t. t ∷ drop (n + 1) placed.ticks) the_tick

  rest : rest_of config placed n last ≡ appended (front_of config placed n last)
      (x ∷ drop (n + 1) placed.steps) (tick ∷ drop (n + 1) placed.ticks)
  rest = ap (λ xs. appended (front_of config placed n last) xs (drop n placed.ticks)) steps-left
      ∙ ap (λ ts. appended (front_of config placed n last) (x ∷ drop (n + 1) placed.steps) ts) ticks-left

  -- it is reached
  pub left-here : IsReached (front_of config placed n last) (drop n placed.steps) (drop n placed.ticks) (length (take n placed.steps) + 1)
  left-here = rw (steps-left, ticks-left)
      (reached-first (front_of config placed n last) (x ∷ drop (n + 1) placed.steps) (tick ∷ drop (n + 1) placed.ticks)
      (omega arith) (let e = sym (ap length ticks-left) in let f = sym (ap length steps-left) in
      omega (arith, each, e, f, length-drop n placed.ticks, length-drop n placed.steps)))

  -- if nothing is against it, so is what is left after it
  pub left-next : (m : ℕ) → refusal_in (front_of config placed n last) tick x ≡ None
      → IsReached (front_of config placed (n + 1) tick) (drop (n + 1) placed.steps) (drop (n + 1) placed.ticks) m
      → IsReached (front_of config placed n last) (drop n placed.steps) (drop n placed.ticks) m
  left-next m none h = rw (steps-left, ticks-left)
      (reached-next (front_of config placed n last) x (drop (n + 1) placed.steps) tick (drop (n + 1) placed.ticks) m none
      (subst (λ (t : Recorded). IsReached t (drop (n + 1) placed.steps) (drop (n + 1) placed.ticks) m) front-next h))

  -- if nothing is against it, the others lead on from the trace with it
  pub rest-next : refusal_in (front_of config placed n last) tick x ≡ None
      → rest_of config placed (n + 1) tick ≡ rest_of config placed n last
  rest-next none =
      ap (λ t. appended t (drop (n + 1) placed.steps) (drop (n + 1) placed.ticks)) front-next
      ∙ sym (appended-next (front_of config placed n last) x (drop (n + 1) placed.steps) tick (drop (n + 1) placed.ticks) none)
      ∙ sym rest

  -- or else it is refused
  pub rest-refused : (e : StepRefused) → IsStepRefusal (unless_refused (refusal_in (front_of config placed n last) tick x)
      (length (take n placed.steps) + 1) (Ok (front_of config placed n last))) e → IsStepRefusal (rest_of config placed n last) e
  rest-refused e h other = rest
      ∙ appended-refused (front_of config placed n last) x (drop (n + 1) placed.steps) tick (drop (n + 1) placed.ticks) e h other

-- a trace and further steps, of which none is checked yet
pub left-begin : (P : Recorded → List Step → List ℕ → Type 0) (t : Recorded) (xs : List Step) (ts : List ℕ) (n : ℕ)
    → n ≡ length t.steps → length t.ticks ≡ length t.steps → P t xs ts
    → P (front_of t.config (record { steps = t.steps ++ xs; ticks = t.ticks ++ ts }) n t.last)
    (drop n (t.steps ++ xs)) (drop n (t.ticks ++ ts))
left-begin P t xs ts n e each h =
    let steps : take n (t.steps ++ xs) ≡ t.steps = ap (λ k. take k (t.steps ++ xs)) e ∙ take-append_seam t.steps xs in
    let ticks : take n (t.ticks ++ ts) ≡ t.ticks = ap (λ k. take k (t.ticks ++ ts)) (e ∙ sym each) ∙ take-append_seam t.ticks ts in
    let more : drop n (t.steps ++ xs) ≡ xs = ap (λ k. drop k (t.steps ++ xs)) e ∙ drop-append_seam t.steps xs in
    let later : drop n (t.ticks ++ ts) ≡ ts = ap (λ k. drop k (t.ticks ++ ts)) (e ∙ sym each) ∙ drop-append_seam t.ticks ts in
    rw (steps, ticks, more, later) h

pub rest-begin : (t : Recorded) (xs : List Step) (ts : List ℕ) (n : ℕ) → n ≡ length t.steps → length t.ticks ≡ length t.steps
    → rest_of t.config (record { steps = t.steps ++ xs; ticks = t.ticks ++ ts }) n t.last ≡ appended t xs ts
rest-begin t xs ts n e each = left-begin (λ u ys us. appended u ys us ≡ appended t xs ts) t xs ts n e each refl

-- all steps are checked
pub rest-end : (config : Setup) (placed : Ticked) (n last : ℕ) → n ≡ length placed.steps → length placed.ticks ≡ length placed.steps
    → rest_of config placed n last ≡ Ok (record { config = config; steps = placed.steps; ticks = placed.ticks; last = last })
rest-end config placed n last e each = appended-none
    (front_of config placed n last) (drop n placed.steps) (drop n placed.ticks) (ap length (drop_all n placed.steps (omega (arith, e))))
    ∙ ap (λ (s : List Step). Ok (record { config = config; steps = s; ticks = take n placed.ticks; last = last }))
    (take_all n placed.steps (omega (arith, e))) ∙ ap (λ (s : List ℕ).
    Ok (record { config = config; steps = placed.steps; ticks = s; last = last })) (take_all n placed.ticks (omega (arith, e, each)))
