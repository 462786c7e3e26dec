use Rattle.std.proofs.Common.{◌∙◌, sym}
use Rattle.std.proofs.lemmas.Result.{err_from_is_err_and}
use Rattle.step_buffers.proofs.ReplayedSteps.{made-next, made-all, IsReplayRefusal-next, memory-from_run}
use Rattle.step_buffers.proofs.replays.replay.Goals as goal

pub loop-step-preserved : goal.loop-step-preserved
loop-step-preserved c =
    let is = c.loop-step.invariant in
    record {
      config = c.in_ok-follow.ensures.config ∙ is.config;
      limit = c.in_ok-follow.ensures.limit ∙ is.limit;
      steps = rw c.in_ok-follow.ensures.made
          (made-next c.args.trace.now.steps c.loop-step.world.trace.steps c.in-Some.step.now is.steps (sym c.in-Some.ensures.value));
    }

pub returns-in_err-follow-clause-refused : goal.returns-in_err-follow-clause-refused
returns-in_err-follow-clause-refused c =
    let is = c.loop-step.invariant in
    let why = err_from_is_err_and c.from_residual.result c.from_residual.ensures.1 in
    rw (why.1, why.2) (IsReplayRefusal-next c.args.trace.now.config
    c.args.trace.now.steps c.loop-step.world.trace.steps c.in-Some.step.now c.in_err-follow.field-0.0 is.steps
    (sym c.in-Some.ensures.value) (rw is.config at c.in_err-follow.ensures.refused))

pub returns-in_err-follow-clause-complete : goal.returns-in_err-follow-clause-complete
returns-in_err-follow-clause-complete c = λ run.
    memory-from_run c.args.trace.now.config c.args.trace.now.steps c.from_residual.result (returns-in_err-follow-clause-refused c) run

pub returns-clause-steps : goal.returns-clause-steps
returns-clause-steps c =
    let is = c.loop-step.invariant in
    made-all c.args.trace.now.steps c.loop-step.world.trace.steps is.steps (sym c.in_default-next_step.ensures.value)

pub returns-clause-run : goal.returns-clause-run
returns-clause-run c =
    let is = c.loop-step.invariant in
    let steps = made-all c.args.trace.now.steps c.loop-step.world.trace.steps is.steps (sym c.in_default-next_step.ensures.value) in
    rw (is.config, steps) at c.in_default-next_step.ensures.run
