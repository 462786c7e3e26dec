use Rattle.std.proofs.Common.{◌≡◌, drop, map}
use Rattle.event_log.specs.LogRecords.{said}
use Rattle.event_log.specs.ToldLines.{after_rows}
use Rattle.event_log.proofs.reading.Reading.take_told.Given as goal

-- the rows that are left lead where all lead
abbrev pub invariant-loop-told : goal.invariant-loop-told
invariant-loop-told l = after_rows l.fn.self (map said l.rows) ≡ after_rows l.self (map said (drop l.told-index l.rows))
