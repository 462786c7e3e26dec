use Rattle.std.proofs.Common.{◌≡◌, ◌+◌, sym, ap, subst, ◌∙◌, arith}
use Rattle.step_buffers.proofs.Common.{passed, round_of, IsSend}
use Rattle.step_buffers.proofs.BufferSteps.{IsWaiting-from_buffer}
use Rattle.step_buffers.proofs.MessageOrigins.{sender_of-sent, round_ahead-early, round_ahead-late}
use Rattle.step_buffers.proofs.worlds.World.origin.Goals as goal

pub returns-then-round-clause-sent : goal.returns-then-round-clause-sent
returns-then-round-clause-sent c =
    let steps = c.self.inside.trace.steps in
    let waits = IsWaiting-from_buffer steps c.args.p c.args.id (rw (← c.self.view_is) at c.requires.waiting) in
    rw (← c.self.view_is)
    (subst (λ q. IsSend steps q c.args.p c.args.id)
    (sym (c.sender_of-sender.ensures ∙ sender_of-sent steps waits.sender c.args.p c.args.id waits.sent)) waits.sent)

pub returns-else-round-clause-sent : goal.returns-else-round-clause-sent
returns-else-round-clause-sent c =
    let steps = c.self.inside.trace.steps in
    let waits = IsWaiting-from_buffer steps c.args.p c.args.id (rw (← c.self.view_is) at c.requires.waiting) in
    rw (← c.self.view_is)
    (subst (λ q. IsSend steps q c.args.p c.args.id)
    (sym (c.sender_of-sender.ensures ∙ sender_of-sent steps waits.sender c.args.p c.args.id waits.sent)) waits.sent)

pub returns-then-round-clause-processor : goal.returns-then-round-clause-processor
returns-then-round-clause-processor c =
    let steps = c.self.inside.trace.steps in
    let waits = IsWaiting-from_buffer steps c.args.p c.args.id (rw (← c.self.view_is) at c.requires.waiting) in
    rw (← c.self.view_is, c.sender_of-sender.ensures, sender_of-sent steps waits.sender c.args.p c.args.id waits.sent)
    (c.self.invariant.0.paced.run.well_formed.procs c.args.id _ waits.sent)

pub returns-else-round-clause-processor : goal.returns-else-round-clause-processor
returns-else-round-clause-processor c =
    let steps = c.self.inside.trace.steps in
    let waits = IsWaiting-from_buffer steps c.args.p c.args.id (rw (← c.self.view_is) at c.requires.waiting) in
    rw (← c.self.view_is, c.sender_of-sender.ensures, sender_of-sent steps waits.sender c.args.p c.args.id waits.sent)
    (c.self.invariant.0.paced.run.well_formed.procs c.args.id _ waits.sent)

pub returns-then-round-clause-round : goal.returns-then-round-clause-round
returns-then-round-clause-round c =
    let steps = c.self.inside.trace.steps in
    let waits = IsWaiting-from_buffer steps c.args.p c.args.id (rw (← c.self.view_is) at c.requires.waiting) in
    let kept : c.round_of-round.result ≡ round_of c.self.inside.letters.items c.args.id = c.round_of-round.ensures
    ∙ ap (λ xs. round_of xs c.args.id) c.deref.ensures.value in
    let mine : c.round.result ≡ passed steps c.args.p + 1 = rw (← c.self.view_is) at c.round.ensures in
    let less = c.if-round.true in
    rw (← c.self.view_is)
    (sym (round_ahead-early c.self.inside.trace.config
    steps c.self.inside.letters.items waits.sender c.args.p c.args.id c.self.invariant.0.letters waits.sent (omega arith)))

pub returns-else-round-clause-round : goal.returns-else-round-clause-round
returns-else-round-clause-round c =
    let steps = c.self.inside.trace.steps in
    let waits = IsWaiting-from_buffer steps c.args.p c.args.id (rw (← c.self.view_is) at c.requires.waiting) in
    let kept : c.round_of-round.result ≡ round_of c.self.inside.letters.items c.args.id = c.round_of-round.ensures
    ∙ ap (λ xs. round_of xs c.args.id) c.deref.ensures.value in
    let mine : c.round.result ≡ passed steps c.args.p + 1 = rw (← c.self.view_is) at c.round.ensures in
    let more = c.if-round.false in
    rw (← c.self.view_is)
    (kept ∙ sym (round_ahead-late c.self.inside.trace.config
    steps c.self.inside.letters.items waits.sender c.args.p c.args.id c.self.invariant.0.letters waits.sent (omega arith)))
