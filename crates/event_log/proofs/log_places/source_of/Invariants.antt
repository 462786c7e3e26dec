use Rattle.std.proofs.Common.{◌≡◌, drop}
use Rattle.event_log.specs.LogPlaces.{source_of}
use Rattle.event_log.proofs.log_places.source_of.Given as goal

-- the events so far have not this message
abbrev pub invariant-loop-place : goal.invariant-loop-place
invariant-loop-place l = source_of l.events (drop l.place-index l.part) l.message ≡ source_of l.events l.part l.initial.message
