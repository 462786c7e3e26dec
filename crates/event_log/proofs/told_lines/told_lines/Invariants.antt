use Rattle.event_log.specs.ToldLines.{AreTold}
use Rattle.event_log.proofs.told_lines.told_lines.Given as goal

-- what the lines up to the next one say
abbrev pub invariant-loop : goal.invariant-loop
invariant-loop l = AreTold l.rules l.text l.at l.told
