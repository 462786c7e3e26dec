-- In a report bounds fall from row to row, and with them the time that a formula gives.
use Rattle.std.proofs.Common.{ℕ, ◌≡◌, ◌+◌, ◌<◌, ◌≤◌, inl, inr, List, Some, max, map, arith}
use Rattle.std.specs.Prelude.{slice_get}
use Rattle.std.specs.List.Sorted.{IsStrictlyIncreasing}
use Rattle.std.proofs.lemmas.Bool.{cases_lt}
use Rattle.std.proofs.lemmas.Option.{slice_get_within, get_or_from_slice_get}
use Rattle.step_trace.specs.declared.rows.Row.{Row}
use Rattle.step_trace.specs.Configurations.{Setup}
use Rattle.step_trace.specs.Traces.{Recorded}
use Rattle.step_trace.specs.Fronts.{Dominates, IsFeasible, IsReport, Triple, triple_of}
use Rattle.step_trace.proofs.BoundLaws.{DeltaHolds-later, PhiHolds-later}
use Rattle.step_trace.proofs.ListMembers.{Contains-slice_get}
use Rattle.front.proofs.LastBegun.{IsNonDecreasingBy-rising}
use Rattle.decision_claims.specs.Formulas.{Terms, deadline}
use Rattle.decision_claims.proofs.FrontClaims.{deadline-monotone}
use Rattle.judged_runs.specs.LateInTime.{AreFalling}

pub gst_below : (rows : List Row) (j k : ℕ) (a b : Row)
    → IsStrictlyIncreasing (map (λ r. r.gst) rows) → j < k → slice_get rows j ≡ Some a → slice_get rows k ≡ Some b → a.gst ≤ b.gst
gst_below rows j k a b rising l p q =
    let rise = IsNonDecreasingBy-rising rows rising j k a (omega (arith, l)) (slice_get_within rows k b q) in
    rw (get_or_from_slice_get rows j a a p, get_or_from_slice_get rows k b a q) at rise

-- a row with a greater communication bound than an earlier one would be dominated
delta_falls : (set : ℕ) (trace : Recorded) (a b : Row) → a.gst ≤ b.gst → IsFeasible set trace (triple_of a)
    → IsFeasible set trace (triple_of b) → ((o : Triple) → IsFeasible set trace o → ¬ Dominates o (triple_of b)) → b.delta ≤ a.delta
delta_falls set trace a b later first second undominated = elim (cases_lt a.delta b.delta) [
  | inr l ↦ l
  | inl l ↦ absurd (undominated (record { gst = b.gst; delta = a.delta; phi = b.phi }) (record {
    start = second.start;
    end = second.end;
    delta_positive = first.delta_positive;
    phi_positive = second.phi_positive;
    delta = DeltaHolds-later set trace a.gst b.gst a.delta later first.delta;
    phi = second.phi;
  }) (record { gst = omega arith; delta = omega (arith, l); phi = omega arith; smaller = inr (inl l) }))
]

-- so would one with a greater processor bound
phi_falls : (set : ℕ) (trace : Recorded) (a b : Row) → a.gst ≤ b.gst → IsFeasible set trace (triple_of a)
    → IsFeasible set trace (triple_of b) → ((o : Triple) → IsFeasible set trace o → ¬ Dominates o (triple_of b)) → b.phi ≤ a.phi
phi_falls set trace a b later first second undominated = elim (cases_lt a.phi b.phi) [
  | inr l ↦ l
  | inl l ↦ absurd (undominated (record { gst = b.gst; delta = b.delta; phi = a.phi }) (record {
    start = second.start;
    end = second.end;
    delta_positive = second.delta_positive;
    phi_positive = first.phi_positive;
    delta = second.delta;
    phi = PhiHolds-later set trace a.gst b.gst a.phi later first.phi;
  }) (record { gst = omega arith; delta = omega arith; phi = omega (arith, l); smaller = inr (inr l) }))
]

pub falling : (set : ℕ) (trace : Recorded) (rows : List Row) → IsReport set trace rows → AreFalling rows
falling set trace rows report = record {
  delta = λ j k a b l p q.
      let first = (report.sound a (Contains-slice_get rows j a p)).front in
      let second = (report.sound b (Contains-slice_get rows k b q)).front in
      delta_falls set trace a b (gst_below rows j k a b report.rising l p q) first.feasible second.feasible second.undominated;
  phi = λ j k a b l p q.
      let first = (report.sound a (Contains-slice_get rows j a p)).front in
      let second = (report.sound b (Contains-slice_get rows k b q)).front in
      phi_falls set trace a b (gst_below rows j k a b report.rising l p q) first.feasible second.feasible second.undominated;
}

-- what a row's deadline leaves as time, that of a row with greater bounds leaves too
pub time_kept : (config : Setup) (start : ℕ) (terms : Terms) (a b : Row) (time : ℕ) → b.delta ≤ a.delta → b.phi ≤ a.phi → max
    b.gst start + time ≤ deadline config start terms (triple_of b) → max a.gst start + time ≤ deadline config start terms (triple_of a)
time_kept config start terms a b time delta phi kept =
    let rises = (deadline-monotone config start terms).rises
    (record { gst = a.gst; delta = b.delta; phi = b.phi }) (triple_of a) (omega arith) delta phi in
    omega (arith, rises, kept)
