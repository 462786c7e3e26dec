use Rattle.std.proofs.Common.{ℕ, ◌+◌, ◌∙◌, [], List, ap₂, sym}
use Rattle.std.specs.Prelude.{slice_index_or}
use Rattle.std.proofs.lemmas.List.Sums.{fold_more}
use Rattle.event_log.specs.StepTables.{with_field}
use Rattle.event_log.proofs.step_tables.joined_fields.Goals as goal

pub loop-place-preserved : goal.loop-place-preserved
loop-place-preserved c =
    let messages = c.args.messages.now in
    let part = c.args.part.now in
    let k = c.loop-place.place-index in
    c.in_ok-push_words.ensures ∙ ap₂ (λ (text field : List ℕ). with_field text field) c.loop-place.invariant c.message_at.ensures
    ∙ sym (fold_more (λ (text : List ℕ) (p : ℕ). with_field text (slice_index_or messages (p + 1) [])) [] part k 0 c.loop-place-test.true)
