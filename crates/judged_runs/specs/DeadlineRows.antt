-- The rows of a report with their deadlines, as CSV (docs/FORMATS.md).
use Rattle.std.specs.Prelude.{ℕ, ◌≡◌, ◌-◌, List, [], ◌∷◌, ◌++◌, Option, Some}
use Rattle.std.specs.Prelude.{None, codes, decimal, nat_le, if◌then◌else◌}
use Rattle.step_trace.specs.declared.rows.Row.{Row}
use Rattle.step_trace.specs.Traces.{Recorded}
use Rattle.step_trace.specs.Fronts.{IsReport, Triple, triple_of}
use Rattle.decision_claims.specs.declared.decisions.Decision.{Decision}
use Rattle.decision_claims.specs.Decisions.{HaveDecidedBy, IsFrom}
use Rattle.decision_claims.specs.LateRows.{is_due}

-- the deadline of a row, if it is no later than the last tick
abbrev pub due_entry : Recorded → (Triple → ℕ) → Row → Option ℕ
due_entry trace due r = if is_due trace due r then Some (due (triple_of r)) else None

-- a number, or nothing
abbrev pub entry_text : Option ℕ → List ℕ
entry_text None = []
entry_text (Some k) = decimal k

-- how many ticks before the deadline all members had decided, with a minus for ticks after it; nothing if one of the
-- two lacks
abbrev pub margin_text : Option ℕ → Option ℕ → List ℕ
margin_text None decided = []
margin_text (Some y) None = []
margin_text (Some y) (Some x) = if nat_le x y then decimal (y - x) else codes "-" ++ decimal (x - y)

-- a row's line: gst, delta, phi, deadline, decided, margin
abbrev pub deadline_line : Row → Option ℕ → Option ℕ → List ℕ
deadline_line r y x = decimal r.gst
    ++ (codes ","
    ++ (decimal r.delta
    ++ (codes ","
    ++ (decimal r.phi
    ++ (codes ","
    ++ (entry_text y ++ (codes "," ++ (entry_text x ++ (codes "," ++ (margin_text y x ++ 10 ∷ []))))))))))

-- the lines of these rows
abbrev pub deadline_lines : Recorded → (Triple → ℕ) → Option ℕ → List Row → List ℕ
deadline_lines trace due decided [] = []
deadline_lines trace due decided (r ∷ rows) = deadline_line r (due_entry trace due r) decided
    ++ deadline_lines trace due decided rows

-- the header, and these lines
abbrev pub told_rows : Recorded → (Triple → ℕ) → Option ℕ → List Row → List ℕ
told_rows trace due decided rows = codes "gst,delta,phi,deadline,decided,margin"
    ++ (10 ∷ deadline_lines trace due decided rows)

-- The text has the rows of the report with their deadlines, and the tick by which all members have decided.
pub record IsRowsText (set : ℕ) (trace : Recorded) (decisions : List Decision) (due : Triple → ℕ)
    (text : List ℕ) : Type 0 where
  pub rows : List Row
  pub report : IsReport set trace rows
  pub decided : Option ℕ
  pub from_then : IsFrom (HaveDecidedBy set decisions) decided
  pub told : text ≡ told_rows trace due decided rows
