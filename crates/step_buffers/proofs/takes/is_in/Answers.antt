use Rattle.std.proofs.Common.{◌∙◌}
use Rattle.std.proofs.lemmas.List.Sorted.{searched}
use Rattle.step_buffers.proofs.RemovedIds.{rising-nondecreasing, is_in-searched}
use Rattle.step_buffers.proofs.takes.is_in.Goals as goal

pub returns : goal.returns
returns c = c.is_ok.ensures.value ∙ is_in-searched c.args.ids.now c.args.id c.binary_search.result (searched c.args.ids.now
    c.args.id c.binary_search.result c.binary_search.ensures.position (rising-nondecreasing c.args.ids.now c.requires))
