use Rattle.std.proofs.Common.{◌≡◌, take}
use Rattle.event_log.specs.StepTables.{joined_fields}
use Rattle.event_log.proofs.step_tables.joined_fields.Given as goal

-- what the records of the events so far have
abbrev pub invariant-loop-place : goal.invariant-loop-place
invariant-loop-place l = l.text.items ≡ joined_fields l.messages (take l.place-index l.part)
