-- The steps of a trace of events, and the events of its steps.
use Rattle.std.proofs.Common.{ℕ, ◌≡◌, ◌<◌, ◌≤◌, ◌⊎◌, inl, inr, List, length, get_or, Some, suc, sym, ap, ◌∙◌, subst, arith}
use Rattle.std.specs.Prelude.{slice_index}
use Rattle.std.proofs.lemmas.Bool.{cases_lt}
use Rattle.std.proofs.lemmas.List.{get_or-map, get_or_past, take_all}
use Rattle.idle_laws.proofs.Common.{Step, Recorded, step_at, tick_of, Event, HasSteps, IsStepAt, IsTraceOf, known, zip-step, place-found, places-inside}

-- step k, which is x, is that of the event at this place
pub record EventOf (events : List Event) (ticks numbers : List ℕ) (trace : Recorded) (k : ℕ) (x : Step) : Type 0 where
  pub place : ℕ
  pub inside : place < length events
  pub number : slice_index numbers place ≡ k
  pub is : IsStepAt events numbers place x
  pub tick : tick_of trace k ≡ slice_index ticks place

-- the step of the event at a place, which has its number
pub record StepOf (events : List Event) (ticks numbers : List ℕ) (trace : Recorded) (place : ℕ) : Type 0 where
  pub step : Step
  pub at : step_at trace.steps (slice_index numbers place) ≡ Some step
  pub is : IsStepAt events numbers place step
  pub tick : tick_of trace (slice_index numbers place) ≡ slice_index ticks place

module _ (n : ℕ) (events : List Event) (ticks : List ℕ) (last : ℕ) (trace : Recorded) (t : IsTraceOf n events ticks last trace) where
  pub event-of : (k : ℕ) (x : Step) → step_at trace.steps k ≡ Some x → EventOf events ticks t.numbers trace k x
  event-of k x e =
      let m = length t.order in
      let has = subst (λ (xs : List ℕ). HasSteps n events ticks t.numbers xs trace) (sym (take_all m t.order (omega arith))) t.has in
      let f = known n events ticks t.numbers t.order m trace k x (omega arith) has e in
      let place = slice_index t.order f.j in
      let number = t.numbered.each f.j f.inside in
      record {
        place = place;
        inside = (places-inside (length events) t.order t.ordered.places).1 f.j f.inside;
        number = number ∙ (let s = f.number in omega arith);
        is = f.is;
        tick = f.tick;
      }

  -- where an event is in the order
  pub place-in : (p : ℕ) → p < length events → (j : ℕ)
      × (j < length t.order) × (slice_index t.order j ≡ p) × (slice_index t.numbers p ≡ suc j)
  place-in p l =
      let c = place-found (length events) t.order p t.ordered.places l in
      let number = t.numbered.each c.0 c.1 in
      (c.0, c.1, c.2, ap (slice_index t.numbers) (sym c.2) ∙ number ∙ omega arith)

  pub step-of : (p : ℕ) → p < length events → StepOf events ticks t.numbers trace p
  step-of p l =
      let c = place-in p l in
      let z = zip-step (IsStepAt events t.numbers) t.order trace.steps c.0 t.has.steps c.1 in
      record {
        step = z.0;
        at = ap (step_at trace.steps) c.3 ∙ z.1;
        is = subst (λ q. IsStepAt events t.numbers q z.0) c.2 z.2;
        tick = ap (tick_of trace) c.3 ∙ ap (λ ts. get_or ts c.0 0) t.has.timed
            ∙ get_or-map (slice_index ticks) t.order c.0 0 0 c.1 ∙ ap (slice_index ticks) c.2;
      }

  -- only an event has its number
  pub one-number : (p q : ℕ) → p < length events → slice_index t.numbers q ≡ slice_index t.numbers p → q ≡ p
  one-number p q l e = go (cases_lt q (length events)) where
    go : (q < length events) ⊎ (length events ≤ q) → q ≡ p
    go (inl inside) =
        let a = place-in p l in
        let b = place-in q inside in
        let same : b.0 ≡ a.0 = (let x = a.3 in let y = b.3 in omega arith) in
        sym b.2 ∙ ap (slice_index t.order) same ∙ a.2
    go (inr past) =
        let a = place-in p l in
        let all = (places-inside (length events) t.order t.ordered.places).0 in
        let none = get_or_past t.numbers q 0 (omega (arith, t.numbered.long)) in
        absurd (omega (arith, a.3, t.numbered.long))
