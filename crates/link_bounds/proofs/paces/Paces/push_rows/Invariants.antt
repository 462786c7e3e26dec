use Rattle.link_bounds.specs.Passes.{ListsBefore}
use Rattle.link_bounds.proofs.paces.Paces.push_rows.Given as goal

-- the members before `proc` are listed
abbrev pub invariant-loop-proc : goal.invariant-loop-proc
invariant-loop-proc l = ListsBefore l.set l.trace l.at l.proc l.rows.items
