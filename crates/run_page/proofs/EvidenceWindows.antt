-- The window that shows the first evidence of a report is one of the trace.
use Rattle.std.proofs.Common.{ℕ, ◌≡◌, ◌-◌, ◌≤◌, inl, inr, Bool, true, false, cond, List, [], ◌∷◌, find, Contains, Option, Some, None, IfSome, refl, subst, arith, max}
use Rattle.std.specs.Prelude.{nat_lt, slice_get, if◌then◌else◌}
use Rattle.std.specs.Option.{option_and_then}
use Rattle.std.proofs.lemmas.List.Elements.{Contains-append_cases}
use Rattle.std.proofs.lemmas.List.Sorted.{IsPermutation-sym, Contains-permutation}
use Rattle.std.proofs.lemmas.Option.{none-some, same_Some}
use Rattle.step_trace.specs.declared.rows.Row.{Row}
use Rattle.step_trace.specs.Traces.{Recorded}
use Rattle.step_trace.specs.Ticks.{IsTimed, tick_of}
use Rattle.step_trace.specs.Witnesses.{IsGap, IsMiss, NamesMiss, NamesGap}
use Rattle.step_trace.specs.Fronts.{IsReport}
use Rattle.step_trace.proofs.ListMembers.{Contains-slice_get, Contains-from_map, Contains-from_filter, Contains-head, Contains-rest}
use Rattle.run_story.specs.declared.delays.Delay.{Delay}
use Rattle.run_story.specs.declared.evidence.Evidence.{Evidence}
use Rattle.run_story.specs.declared.stalls.Stall.{Stall}
use Rattle.run_story.specs.Delays.{IsDelay}
use Rattle.run_story.specs.Evidence.{AreEvidence, all_evidence, alone, explained, explains, other_evidence, stall_evidence, with_delay}
use Rattle.run_story.specs.Stalls.{IsStall}
use Rattle.run_page.specs.declared.scales.Span.{Span}
use Rattle.run_page.specs.EvidenceTicks.{IsWindowOf, around_gap, around_miss, both, core_of, drawn_of, miss_end}

-- some ticks that begin in a trace with this last tick
record Begins (last : ℕ) (s : Span) : Type 0 where
  order : s.first ≤ s.to
  inside : s.first ≤ last
  some : 1 ≤ last

-- the row of a witness
row_with : {X : Type 0} (f : Row → Option X) (rows : List Row) (k : ℕ) (x : X)
    → option_and_then f (slice_get rows k) ≡ Some x → (r : Row) × Contains rows r × (f r ≡ Some x)
row_with f rows k x is = go (slice_get rows k) refl is where
  go : (o : Option Row) → slice_get rows k ≡ o → option_and_then f o ≡ Some x → (r : Row) × Contains rows r × (f r ≡ Some x)
  go None e h = absurd (none-some x h)
  go (Some r) e h = (r, Contains-slice_get rows k r e, h)

-- what is found is an element
found_in : {X : Type 0} (p : X → Bool) (xs : List X) (x : X) → find p xs ≡ Some x → Contains xs x
found_in p [] x h = absurd (none-some x h)
found_in p (y ∷ ys) x h = go (p y) h (found_in p ys x) where
  go : (b : Bool) → cond b (Some y) (find p ys) ≡ Some x → (find p ys ≡ Some x → Contains ys x) → Contains (y ∷ ys) x
  go true g rest = subst (λ z. Contains (y ∷ ys) z) (same_Some y x g) (Contains-head y ys)
  go false g rest = Contains-rest y x ys (rest g)

drawn-inside : (last : ℕ) (s : Span) → Begins last s → IsWindowOf last (drawn_of last s)
drawn-inside last s b =
    let order = b.order in
    let inside = b.inside in
    let some = b.some in
    record { first = omega arith; order = omega (arith, order, inside, some); end = omega arith; few = omega arith }

module _ (set : ℕ) (trace : Recorded) where
  gap-begins : (s : Stall) → IsGap set trace s.gap → Begins trace.last (around_gap trace.last s)
  gap-begins s gap =
      let start = gap.start in
      let order = gap.order in
      let inside = gap.inside in
      record {
        order = omega (arith, start, order, inside);
        inside = omega (arith, start, order, inside);
        some = omega (arith, start, order, inside);
      }

  ends_late : (d : Delay) (taken : Option ℕ) → tick_of trace d.miss.missed ≤ miss_end trace d taken
  ends_late d None = omega arith
  ends_late d (Some r) = go (nat_lt (tick_of trace r - tick_of trace d.miss.missed) (max d.ticks 20)) where
    go : (b : Bool)
        → tick_of trace d.miss.missed ≤ (if b then max (tick_of trace r) (tick_of trace d.miss.missed) else tick_of trace d.miss.missed)
    go true = omega arith
    go false = omega arith

  miss-begins : (d : Delay) (taken : Option ℕ) → IsTimed trace → IsMiss set trace d.miss → Begins trace.last (around_miss trace d taken)
  miss-begins d taken time miss =
      let late = miss.late in
      let inside = (time.inside d.miss.missed _ miss.receive.step).1 in
      let end = ends_late d taken in
      record { order = omega (arith, late, end); inside = omega (arith, late, inside); some = omega (arith, late, inside) }

  both-begins : (a b : Span) → Begins trace.last a → Begins trace.last b → Begins trace.last (both a b)
  both-begins a b one other =
      let order = one.order in
      let inside = one.inside in
      let some = one.some in
      record { order = omega (arith, order); inside = omega (arith, inside); some = some }

  joined-begins : (s : Stall) (o : Option Delay) (taken : Option ℕ) → IsTimed trace → IsGap set trace s.gap
      → IfSome o (λ d. IsMiss set trace d.miss) → Begins trace.last (core_of trace (with_delay s o).stall (with_delay s o).delay taken)
  joined-begins s None taken time gap miss = gap-begins s gap
  joined-begins s (Some d) taken time gap miss = both-begins
      (around_gap trace.last s) (around_miss trace d taken) (gap-begins s gap) (miss-begins d taken time miss)

  module _ (rows : List Row) (time : IsTimed trace) (report : IsReport set trace rows) where
    gap_of : (s : Stall) → IsStall rows s → IsGap set trace s.gap
    gap_of s is =
        let at = row_with (λ (r : Row). r.gap) rows s.first s.gap is.named.named in
        let r = at.0 in
        let names : NamesGap set trace r.gst r.phi (Some s.gap) = subst (NamesGap set trace r.gst r.phi) at.2 (report.sound r at.1).gap in
        names.1.gap

    miss_of : (d : Delay) → IsDelay trace rows d → IsMiss set trace d.miss
    miss_of d is =
        let at = row_with (λ (r : Row). r.miss) rows d.first d.miss is.run.named in
        let r = at.0 in
        let names : NamesMiss set trace r.gst r.delta (Some d.miss) =
        subst (NamesMiss set trace r.gst r.delta) at.2 (report.sound r at.1).miss in
        names.1.miss

    -- each piece of evidence begins in the trace
    evidence-begins : (list : List Evidence) → AreEvidence trace rows list
        → (e : Evidence) → Contains list e → (taken : Option ℕ) → Begins trace.last (core_of trace e.stall e.delay taken)
    evidence-begins list are e c taken =
        let all = all_evidence trace are.stalls are.delays in
        let here : Contains all e = Contains-permutation list all e (IsPermutation-sym all list are.each) c in
        elim (Contains-append_cases (stall_evidence trace are.stalls are.delays)
        (other_evidence (stall_evidence trace are.stalls are.delays) are.delays) e here) [
          | inl one ↦ (
              let from = Contains-from_map (λ (s : Stall). with_delay s (explained trace are.delays s)) are.stalls e one in
              let s = from.0 in
              subst (λ (x : Evidence). Begins trace.last (core_of trace x.stall x.delay taken)) from.2
              (joined-begins s (explained trace are.delays s) taken time
              (gap_of s (are.are_stalls.right s from.1)) (explained_miss are s (explained trace are.delays s) refl)))
          | inr other ↦ (
              let from = Contains-from_map alone _ e other in
              let d = from.0 in
              let was = (Contains-from_filter _ are.delays d from.1).0 in
              subst (λ (x : Evidence). Begins trace.last (core_of trace x.stall x.delay taken)) from.2
              (miss-begins d taken time (miss_of d (are.are_delays.right d was))))
        ]
      where
        explained_miss : (are : AreEvidence trace rows list) (s : Stall) (o : Option Delay)
            → explained trace are.delays s ≡ o → IfSome o (λ d. IsMiss set trace d.miss)
        explained_miss are s None e = tt
        explained_miss are s (Some d) e = miss_of d (are.are_delays.right d (found_in (explains trace s) are.delays d e))

    -- the window of the first evidence
    pub window-inside : (list : List Evidence) → AreEvidence trace rows list → (e : Evidence) → Contains list e → (taken : Option ℕ)
        → IsWindowOf trace.last (drawn_of trace.last (core_of trace e.stall e.delay taken))
    window-inside list are e c taken = drawn-inside trace.last (core_of trace e.stall e.delay taken) (evidence-begins list are e c taken)
