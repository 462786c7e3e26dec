use Rattle.std.proofs.Common.{◌≡◌, ◌∙◌, Some, None, sym, ap, arith}
use Rattle.std.specs.Prelude.{option_copied}
use Rattle.std.proofs.lemmas.List.{append-nil, get_or_default}
use Rattle.step_buffers.specs.Letters.{letter_at, said_by, body_from}
use Rattle.step_buffers.proofs.HeardInboxes.{heard_from-more}
use Rattle.step_buffers.proofs.letters.heard_from.Goals as goal
use Rattle.step_buffers.proofs.letters.heard_from.Goals.{After-said_by}

-- what is said by the sender whose turn it is
said : (c : After-said_by) → body_from c.args.letters.now c.args.ids.now c.loop-sender.sender ≡ option_copied c.said_by.result
said c =
    let long = c.in_ok-first.ensures.long in
    let turn = c.loop-sender-test.true in
    let low = c.loop-sender.auto.sender in
    sym (c.in_ok-first.ensures.each c.loop-sender.sender (omega arith))
    ∙ ap (λ s. said_by c.loop-sender.sender (letter_at c.args.letters.now s))
    (get_or_default c.in_ok-first.first.items c.loop-sender.sender 0 c.index.result.now (omega arith) ∙ sym c.index.ensures)
    ∙ sym c.said_by.ensures

pub loop-sender-preserved-in_default : goal.loop-sender-preserved-in_default
loop-sender-preserved-in_default c =
    let none : body_from c.args.letters.now c.args.ids.now c.loop-sender.sender
    ≡ None = said (goal.at.loop-sender-preserved-in_default c).After-said_by ∙ ap option_copied c.in_default.is in
    c.loop-sender.invariant
    ∙ sym (append-nil _) ∙ sym (heard_from-more c.args.letters.now c.args.ids.now c.loop-sender.sender None (omega arith) none)

pub loop-sender-preserved : goal.loop-sender-preserved
loop-sender-preserved c =
    let some : body_from c.args.letters.now c.args.ids.now c.loop-sender.sender
    ≡ Some c.in-Some.body.now = said (goal.at.loop-sender-preserved c).After-said_by ∙ ap option_copied c.in-Some.is in
    c.in_ok-push.ensures.items ∙ rw (c.in_ok-copied.ensures, c.loop-sender.invariant)
    (sym (heard_from-more c.args.letters.now c.args.ids.now c.loop-sender.sender (Some c.in-Some.body.now) (omega arith) some))
