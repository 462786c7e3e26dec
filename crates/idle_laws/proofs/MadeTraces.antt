-- Events at moments of their own have a trace.
use Rattle.std.proofs.Common.{ℕ, ◌≡◌, ◌<◌, ◌≤◌, ◌⊎◌, inl, inr, false, List, [], ◌∷◌, length, map, suc, refl, sym, arith}
use Rattle.std.specs.Prelude.{slice_index}
use Rattle.std.specs.List.{AllZip, range_with_len}
use Rattle.std.specs.List.Sorted.{IsNonDecreasingBy, IsPermutation}
use Rattle.std.proofs.lemmas.Bool.{cases_lt}
use Rattle.idle_laws.proofs.Common.{Act, Step, Recorded, Event, EventAct, Send, Receive, HaveOwnMoments, moment_at}
use Rattle.idle_laws.proofs.Common.{IsOrder, IsActOf, IsStepAt, IsTraceOf, sent_number, setup_of, places-apart}
use Rattle.idle_laws.proofs.Common.{places-inside}
use Rattle.step_trace.specs.declared.steps.Act.TheVariants as act
use Rattle.timed_events.proofs.BriefEvents.{event-at}
use Rattle.idle_laws.proofs.SortedPlaces.{numbered, sorted}

act-of : (numbers : List ℕ) (e : EventAct) → (a : Act) × IsActOf numbers e a
act-of numbers (Send to) = (act.Send to, refl)
act-of numbers (Receive messages) =
    let r = sorted (λ x. x) (map (sent_number numbers) messages) in
    (act.Receive false r.0, (r.0, refl, record { each = r.1; rising = r.2 }))

steps-at : (events : List Event) (numbers places : List ℕ) → ((k : ℕ) → k < length places → slice_index places k < length events)
    → (steps : List Step) × AllZip (IsStepAt events numbers) places steps
steps-at events numbers [] h = ([], tt)
steps-at events numbers (p ∷ places) h =
    let e = event-at events p (h 0 (omega arith)) in
    let a = act-of numbers e.0.act in
    let rest = steps-at events numbers places (λ k l. h (suc k) (omega arith)) in
    (record { proc = e.0.processor; act = a.0 } ∷ rest.0, (record { event = e.0; at = e.1; proc = refl; does = a.1 }, rest.1))

ordered : (events : List Event) (ticks order : List ℕ) → HaveOwnMoments events ticks
    → IsPermutation (range_with_len 0 (length events)) order → IsNonDecreasingBy (moment_at events ticks) order
    → IsOrder events ticks order
ordered events ticks order own h up = record { places = h; rising = rising } where
  rising : (j k : ℕ) → j < k → k < length order → moment_at events ticks (slice_index order j)
      < moment_at events ticks (slice_index order k)
  rising j k l m =
      let o = up j k 0 (omega arith) m in
      let inside = (places-inside (length events) order h).1 in
      let differ : ¬ (slice_index order j ≡ slice_index order k) =
      (λ e. (let z = (places-apart (length events) order h).each j k (omega arith) m e in omega arith)) in
      let other = apart (slice_index order j) (slice_index order k) (inside j (omega arith)) (inside k m) differ in
      omega arith where
        apart : (p q : ℕ) → p < length events → q < length events → ¬ (p ≡ q) → ¬ (moment_at events ticks p ≡ moment_at events ticks q)
        apart p q lp lq d e = go (cases_lt p q) (cases_lt q p) where
          go : (p < q) ⊎ (q ≤ p) → (q < p) ⊎ (p ≤ q) → ⊥
          go (inl less) c = own p q less lq e
          go (inr more) (inl less) = own q p less lp (sym e)
          go (inr more) (inr least) = d (omega arith)

pub made : (n : ℕ) (events : List Event) (ticks : List ℕ) (last : ℕ)
    → HaveOwnMoments events ticks → (trace : Recorded) × IsTraceOf n events ticks last trace
made n events ticks last own =
    let order = sorted (moment_at events ticks) (range_with_len 0 (length events)) in
    let numbers = numbered (length events) order.0 order.1 in
    let steps = steps-at events numbers.0 order.0 (places-inside (length events) order.0 order.1).1 in (
      record { config = setup_of n; steps = steps.0; ticks = map (slice_index ticks) order.0; last = last },
      record {
        order = order.0;
        numbers = numbers.0;
        ordered = ordered events ticks order.0 own order.1 order.2;
        numbered = numbers.1;
        has = record { config = refl; steps = steps.1; timed = refl };
        end = refl;
      },
    )
