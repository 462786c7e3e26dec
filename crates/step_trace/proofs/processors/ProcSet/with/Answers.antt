use Rattle.std.proofs.Common.{◌∙◌, ap}
use Rattle.step_trace.specs.Processors.{has_proc}
use Rattle.step_trace.proofs.ProcessorSets.{has_proc_set_same, has_proc_set_other}
use Rattle.step_trace.proofs.processors.ProcSet.with.Goals as goal

pub returns-clause-added : goal.returns-clause-added
returns-clause-added c = has_proc_set_same c.self.inside.mask c.args.p c.requires.low c.requires.high

pub returns-clause-others : goal.returns-clause-others
returns-clause-others c = λ q ne. has_proc_set_other c.self.inside.mask c.args.p q c.requires.low c.requires.high ne
    ∙ ap (λ m. has_proc m q) c.self.view_is
