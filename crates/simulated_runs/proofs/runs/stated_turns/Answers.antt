use Rattle.std.proofs.Common.{◌∙◌}
use Rattle.simulated_runs.proofs.Openings.{opened}
use Rattle.simulated_runs.proofs.runs.stated_turns.Goals as goal

pub returns : goal.returns
returns c = opened c.args.n c.args.crashes.now c.args.bounds c.deref.result.now c.new.result
    (c.deref.ensures.value ∙ c.in_ok-live.ensures) c.new.ensures.queue c.new.ensures.gst c.new.ensures.phi
