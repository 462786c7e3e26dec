use Rattle.std.proofs.Common.{◌≡◌, false, is_some, sym, ap, ◌∙◌}
use Rattle.deciding_runs.proofs.Common.{next_send, ends_round}
use Rattle.step_buffers.specs.declared.moves.Move.TheVariants.{Receive}
use Rattle.step_buffers.specs.declared.moves.Take.TheVariants.{All}
use Rattle.deciding_runs.proofs.paces.Pace.next_move.Goals as goal

pub returns-clause-moved : goal.returns-clause-moved
returns-clause-moved c =
    let t = c.args.world.now.trace in
    let none : is_some (next_send t.config t.steps c.args.p) ≡ false = ap is_some (sym c.next_destination.ensures)
    ∙ sym c.is_some.ensures ∙ c.if-is_some.false in
    let ends : c.is_over-ends.result ≡ ends_round t.config t.steps c.args.p c.args.self.now =
    rw (c.config.ensures, c.trace.ensures.value, c.node.ensures, c.round-round.ensures, c.hear_waiting.ensures.heard)
    at c.is_over-ends.ensures in
    rw none (ap (λ b. Receive All b) ends)

pub returns-clause-pace : goal.returns-clause-pace
returns-clause-pace c =
    let t = c.args.world.now.trace in
    let none : is_some (next_send t.config t.steps c.args.p) ≡ false = ap is_some (sym c.next_destination.ensures)
    ∙ sym c.is_some.ensures ∙ c.if-is_some.false in
    let ends : c.is_over-ends.result ≡ ends_round t.config t.steps c.args.p c.args.self.now =
    rw (c.config.ensures, c.trace.ensures.value, c.node.ensures, c.round-round.ensures, c.hear_waiting.ensures.heard)
    at c.is_over-ends.ensures in
    rw none (rw (ends, c.round-round.ensures, c.hear_waiting.ensures.heard) at c.receive.ensures.received)
