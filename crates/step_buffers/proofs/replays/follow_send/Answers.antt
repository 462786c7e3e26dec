use Rattle.std.proofs.Common.{ℕ, ◌≡◌, ◌∙◌, ◌++◌, ◌∷◌, [], Option, Some, true, refl, sym, ap, eq-eqb}
use Rattle.std.specs.Prelude.{option_map}
use Rattle.std.proofs.lemmas.Bool.{false≢true}
use Rattle.std.proofs.lemmas.Option.{same_Some}
use Rattle.step_buffers.proofs.Common.{Send, Step}
use Rattle.step_buffers.proofs.ReplayedSteps.{IsDue-from_run, step_refusal-send, off-from_refusal}
use Rattle.step_buffers.proofs.replays.follow_send.Goals as goal

pub returns-in-Ok-clause-off : goal.returns-in-Ok-clause-off
returns-in-Ok-clause-off c = λ off run.
    let config = c.args.world.now.trace.config in
    let steps = c.args.world.now.trace.steps in
    let p = c.args.p in
    let to = c.args.to in
    let x : Step = record { proc = p; act = Send to } in
    let due = IsDue-from_run config steps x run in
    let before = c.args.world.now.trace.steps in
    let one : Some (before ++ x ∷ []) ≡ Some c.advance.new.self.trace.steps =
    sym (ap (λ (o : Option ℕ). option_map (λ (y : Step). before ++ y ∷ [])
    (option_map (λ (t : ℕ). let y : Step = record { proc = p; act = Send t } in y) o)) due) ∙ c.in-Ok.ensures.made in
    let made : c.advance.new.self.trace.steps ≡ before ++ x ∷ [] = sym (same_Some (before ++ x ∷ []) c.advance.new.self.trace.steps one) in
    let yes : c.last_sends_to.result ≡ true = c.last_sends_to.ensures before x (rw c.trace.ensures.value made) ∙ eq-eqb to to refl in
    false≢true (sym off ∙ yes)

pub returns-in-Err-clause-off : goal.returns-in-Err-clause-off
returns-in-Err-clause-off c =
    let config = c.args.world.now.trace.config in
    let steps = c.args.world.now.trace.steps in
    off-from_refusal c.not_made.result c.in-Err.why _ _ c.not_made.ensures.reason c.in-Err.ensures.refused
    (step_refusal-send config c.args.world.now.limit steps c.args.p c.args.to c.requires)
