use Rattle.std.proofs.Common.{◌∙◌, ◌==◌, ◌∷◌, [], get_or, take}
use Rattle.std.specs.List.{list_any}
use Rattle.std.proofs.lemmas.List.{take_more}
use Rattle.std.proofs.lemmas.List.Folds.{list_any-append}
use Rattle.step_buffers.specs.Letters.{letter_at}
use Rattle.step_buffers.proofs.KeptLetters.{letter_left-more}
use Rattle.step_buffers.proofs.kept_messages.release.Goals as goal

pub loop-id-preserved : goal.loop-id-preserved
loop-id-preserved c = (
  c.release_one.ensures.places ∙ c.loop-id.invariant.0,
  λ s.
      let ids = c.args.ids.now in
      let i = c.loop-id.id-index in
      let id = get_or ids i 0 in
      rw (take_more ids i 0 c.loop-id-test.true, list_any-append (λ j. j == s) (take i ids) (id ∷ []))
      (letter_left-more (letter_at c.args.letters.now.items s)
      (letter_at c.loop-id.letters.items s) (letter_at c.release_one.new.letters.items s)
      (list_any (λ j. j == s) (take i ids)) (list_any (λ j. j == s) (id ∷ [])) c.args.round
      (c.loop-id.invariant.1 s) (c.release_one.ensures.left s)),
)
