use Rattle.std.proofs.Common.{ℕ, ◌≡◌, Option, Some, None, is_some, true, sym, ap, ◌∙◌}
use Rattle.std.specs.Prelude.{IsSome}
use Rattle.std.proofs.lemmas.Result.{IfOk-weaker}
use Rattle.step_buffers.proofs.Common.{Setup, State, Letter, IsSaid, IsPlaceOf}
use Rattle.lock_phases.specs.NodeFunctions.{out}
use Rattle.lock_phases.proofs.Sendings.{out_by_part}
use Rattle.step_buffers.proofs.sends.said_to.Goals as goal

-- what a processor said to one in a round it says to all to whom it sends in it
IsPlaceOf-said : (c : Setup) (p : ℕ) (node : State) (r to : ℕ) (said place : Option Letter)
    → IsSaid c p node r said → is_some said ≡ true → place ≡ said → IsSome (out c node p r to) → IsPlaceOf c p node r to place
IsPlaceOf-said c p node r to None place is some same sends = cc
IsPlaceOf-said c p node r to (Some x) place is some same sends = (
  x,
  same,
  record {
    sender = is.1.sender;
    round = is.1.round;
    body = out_by_part c node p r to sends ∙ sym (out_by_part c node p r is.0 (ap is_some is.1.body)) ∙ is.1.body;
  },
)

pub returns-then-has_letter : goal.returns-then-has_letter
returns-then-has_letter c =
    let config = c.args.config.now in
    let x = c.args.sender.now in
    IfOk-weaker c.share.result _ _
    (λ place e. IsPlaceOf-said config c.args.p x.node x.round c.args.to x.said place c.requires.said
    (sym c.has_letter.ensures ∙ c.if-has_letter.true) e c.requires.sends)
    c.share.ensures
