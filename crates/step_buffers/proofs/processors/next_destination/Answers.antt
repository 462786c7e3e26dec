use Rattle.std.proofs.Common.{◌∙◌, sym, arith}
use Rattle.step_buffers.proofs.NextSends.{destination_after-found, destination_after-none}
use Rattle.step_buffers.proofs.processors.next_destination.Goals as goal
use Rattle.step_buffers.proofs.processors.next_destination.Goals.{else-to-n-via-then-to-n+else-sends_to, else-to-n-via-else-to-n}

pub returns-then-sends_to-clause-destination : goal.returns-then-sends_to-clause-destination
returns-then-sends_to-clause-destination c =
    let n = c.n.ensures.value in
    let within = c.if-to-n.true in
    let later = c.candidate-to.ensures.later in
    sym (destination_after-found c.args.config.now c.args.node.now c.args.p c.args.round c.args.last c.candidate-to.result
    later (omega arith) (c.candidate-to.ensures.first c.args.node.now c.args.p) (sym c.sends_to.ensures ∙ c.if-sends_to.true))

pub returns-clause-destination : goal.returns-clause-destination
returns-clause-destination c =
    let n = c.n.ensures.value in
    sym (destination_after-none c.args.config.now c.args.node.now c.args.p c.args.round c.args.last (λ t l h. elim c.else-to-n.branch [
      | else-to-n-via-then-to-n+else-sends_to w ↦ c.candidate-to.ensures.only c.args.node.now c.args.p t l
          (sym w.sends_to.ensures ∙ w.if-sends_to.false)
      | else-to-n-via-else-to-n w ↦ (let beyond = w.if-to-n.false in
          c.candidate-to.ensures.first c.args.node.now c.args.p t l (omega arith))
    ]))
