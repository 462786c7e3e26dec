-- The row that applies to a tick is one of the report's.
use Rattle.std.proofs.Common.{ℕ, ◌≡◌, inl, inr, List, [], ◌∷◌, Option, Some, None, Bool, true, false, cond, ◌&&◌, refl, ◌∙◌, subst, arith}
use Rattle.std.specs.Prelude.{Contains, nat_le}
use Rattle.std.proofs.lemmas.Option.{none-some, same_Some}
use Rattle.step_trace.specs.declared.rows.Row.{Row}
use Rattle.step_trace.specs.Traces.{Recorded}
use Rattle.step_trace.specs.Ticks.{IsTimed}
use Rattle.step_trace.specs.Fronts.{IsReport}
use Rattle.step_trace.proofs.ListMembers.{Contains-head, Contains-rest, Contains-cons_cases, Contains-nil}
use Rattle.front.specs.Reports.{Reported, first_of, last_begun, row_at}
use Rattle.timeouts.specs.Timeouts.{IsRow, AreRows}
use Rattle.timeouts.proofs.RowTimeouts.{IsRow-from_report_row}

last_begun-among : (rows : List Row) (g : ℕ) (row : Row) → last_begun rows g ≡ Some row → Contains rows row
last_begun-among [] g row some = absurd (none-some row some)
last_begun-among (x ∷ rest) g row some = go (last_begun rest g) refl
    (nat_le x.gst g) (λ later. last_begun-among rest g row later) some where
      go : (o : Option Row) → last_begun rest g ≡ o → (b : Bool)
          → (last_begun rest g ≡ Some row → Contains rest row) → first_of o (cond b (Some x) None) ≡ Some row → Contains (x ∷ rest) row
      go (Some r) e b among is = Contains-rest x row rest (among (e ∙ is))
      go None e true among is = subst (Contains (x ∷ rest)) (same_Some x row is) (Contains-head x rest)
      go None e false among is = absurd (none-some row is)

row_at-among : (report : Reported) (g : ℕ) (row : Row) → row_at report g ≡ Some row → Contains report.rows row
row_at-among report g row some = go (nat_le 1 g && nat_le g report.len) some where
  go : (b : Bool) → cond b (last_begun report.rows g) None ≡ Some row → Contains report.rows row
  go true is = last_begun-among report.rows g row is
  go false is = absurd (none-some row is)

-- so it alone is a row of a front
pub AreRows-one : (set : ℕ) (trace : Recorded) (report : Reported) (g : ℕ) (row : Row)
    → IsTimed trace → IsReport set trace report.rows → row_at report g ≡ Some row → AreRows set trace (row ∷ [])
AreRows-one set trace report g row time exact some = record {
  rising = λ k inside. absurd (omega (arith, inside));
  each = λ r among. elim (Contains-cons_cases row r [] among) [
    | inl same ↦ subst (IsRow set trace) same (IsRow-from_report_row set trace row time (exact.sound row (row_at-among report g row some)))
    | inr none ↦ absurd (Contains-nil r none)
  ];
}
