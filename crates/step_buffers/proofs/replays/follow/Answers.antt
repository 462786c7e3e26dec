use Rattle.std.proofs.Common.{rules, ◌≡◌, ◌∙◌, ◌+◌, ◌++◌, ◌∷◌, [], ap, length}
use Rattle.step_buffers.proofs.Common.{due_for, IsRun}
use Rattle.step_buffers.proofs.ReplayedSteps.{IsReplayRefusal-off}
use Rattle.step_buffers.proofs.replays.follow.Goals as goal

pub returns-in-Ok-false-clause-refused : goal.returns-in-Ok-false-clause-refused
returns-in-Ok-false-clause-refused c =
    let config = c.args.world.now.trace.config in
    let steps = c.args.world.now.trace.steps in
    let x = c.args.step.now in
    let count : c.len.result ≡ length steps = c.len.ensures.value ∙ ap (λ t. length t.steps) c.trace.ensures.value in
    let off : ¬ IsRun config (steps ++ x ∷ []) = search rules in
    IsReplayRefusal-off config steps x (c.len.result + 1) c.due_instead.result c.trace.ensures.run
    (ap (λ n. n + 1) count) off c.due_instead.ensures.proc
    (c.due_instead.ensures.what ∙ ap (λ next. due_for next x.act) c.next_destination-next.ensures)
