use Rattle.std.proofs.lemmas.Result.{err_from_is_err_and}
use Rattle.clock_offsets.proofs.EventNeeds.{offsets-of-needs, refusal-of-needs}
use Rattle.clock_offsets.proofs.alignments.clock_offsets.Goals as goal

pub returns-in_err-of-clause-refused : goal.returns-in_err-of-clause-refused
returns-in_err-of-clause-refused c =
    let p = err_from_is_err_and c.from_residual-in_err-of.result c.from_residual-in_err-of.ensures.1 in
    rw (p.1, p.2) (
    refusal-of-needs c.args.n c.args.events.now c.deref.result.now c.in_ok-needs.needs.items c.deref-2.result.now _
    c.requires.most c.in_ok-hops.ensures.hops c.deref.ensures.value c.deref-2.ensures.value
    c.in_ok-needs.ensures.needs c.in_err-of.ensures.refused)

pub returns-clause-offsets : goal.returns-clause-offsets
returns-clause-offsets c =
    offsets-of-needs c.args.n c.args.events.now c.requires.meant c.requires.most c.in_ok-hops.hops.items
    c.deref.result.now c.in_ok-needs.needs.items c.deref-2.result.now c.in_ok-of.of.items c.in_ok-hops.ensures.hops
    c.deref.ensures.value c.deref-2.ensures.value c.in_ok-needs.ensures.needs c.in_ok-of.ensures.offsets
