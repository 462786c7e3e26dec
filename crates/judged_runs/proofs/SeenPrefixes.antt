-- A prefix that an analyst has seen, with its report.
use Rattle.std.proofs.Common.{ℕ, ◌≡◌, ◌≤◌, List, sym, subst}
use Rattle.step_trace.specs.declared.rows.Row.{Row}
use Rattle.step_trace.specs.Traces.{Recorded}
use Rattle.step_trace.specs.Ticks.{IsTrace}
use Rattle.step_trace.specs.Cuts.{IsCutAt}
use Rattle.step_trace.specs.Fronts.{IsReport}
use Rattle.decision_claims.proofs.PrefixClaims.{has_cut}

-- the trace cut at tick x has these rows
pub record HasRows (set : ℕ) (trace : Recorded) (x : ℕ) (rows : List Row) : Type 0 where
  pub cut : Recorded
  pub sound : IsTrace cut
  pub at : IsCutAt trace x cut
  pub report : IsReport set cut rows

pub has_rows : (set : ℕ) (trace : Recorded) (x : ℕ) (given rows : List Row) → IsTrace trace → x ≤ trace.last
    → ((cut : Recorded) → IsTrace cut → IsCutAt trace x cut → IsReport set cut given) → rows ≡ given → HasRows set trace x rows
has_rows set trace x given rows sound inside report same =
    let d = has_cut trace x sound inside in
    record { cut = d.cut; sound = d.sound; at = d.at; report = subst (IsReport set d.cut) (sym same) (report d.cut d.sound d.at) }
