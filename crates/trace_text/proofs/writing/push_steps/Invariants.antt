use Rattle.std.proofs.Common.{◌≡◌, ◌≤◌, ◌+◌, ◌-◌, ◌++◌, drop, take}
use Rattle.trace_text.specs.Records.{text_of_records}
use Rattle.trace_text.specs.TraceTexts.{step_records}
use Rattle.trace_text.proofs.writing.push_steps.Given as goal

-- the steps before the next were written
abbrev pub invariant-loop-before : goal.invariant-loop-before
invariant-loop-before l = record {
  order : l.from ≤ l.before;
  text : l.text.items ≡ l.fn.text.items ++ text_of_records
      (step_records l.version l.trace.ticks (l.from + 1) (take (l.before - l.from) (drop l.from l.trace.steps)));
}
