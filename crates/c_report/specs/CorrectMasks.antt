-- The processors that a caller names as correct.
use Rattle.std.specs.Prelude.{ℕ, ◌==◌, if◌then◌else◌}
use Rattle.step_trace.specs.declared.correct_sets.Correct.{Correct}
use Rattle.step_trace.specs.declared.correct_sets.Correct.TheVariants as correct
use Rattle.c_report.specs.declared.answers.TheConstants.{ALL}

-- all of the trace for the mask that has every bit, else processor p if bit p - 1 is set
abbrev pub correct_of : ℕ → Correct
correct_of mask = if mask == ALL then correct.All else correct.These mask
