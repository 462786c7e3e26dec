-- Lines of a text that encode a step in canonical form.
use Rattle.std.specs.Prelude.{ℕ, ◌≡◌, ◌<◌, ◌≤◌, List, [], ◌∷◌, length, drop, Option}
use Rattle.std.specs.Prelude.{Some, None, Ok, false, true, if◌then◌else◌, codes}
use Rattle.std.specs.Str.{bytes_eq}
use Rattle.step_trace.specs.declared.steps.Act.{Act}
use Rattle.step_trace.specs.declared.steps.Act.TheVariants.{Send, Receive}
use Rattle.trace_text.specs.declared.versions.Version.{Version}
use Rattle.trace_text.specs.Records.{records_of_text}
use Rattle.shared_reading.specs.declared.step_lines.StepLine.{StepLine}
use Rattle.shared_reading.specs.Lines.{line_of}

-- what a processor does by the operation that a field names, with this number: its destination, or its one id
abbrev pub act_with : List ℕ → ℕ → Option Act
act_with operation n =
    if bytes_eq operation (codes "S") then Some (Send n)
    else if bytes_eq operation (codes "R") then Some (Receive false (n ∷ []))
    else if bytes_eq operation (codes "E") then Some (Receive true (n ∷ []))
    else None

-- the first record from a place on encodes this step, and the others are those from its end on
pub record IsStepLine (v : Version) (text : List ℕ) (at : ℕ) (l : StepLine) : Type 0 where
  pub end : l.end ≤ length text
  pub some : at < l.end
  pub fields : List (List ℕ)
  pub records : records_of_text (drop at text) ≡ fields ∷ records_of_text (drop l.end text)
  pub told : line_of v fields ≡ Ok l.line
