use Rattle.std.proofs.Common.{rules, ◌≡◌, Some, subst, arith}
use Rattle.suffix_staircase.proofs.LevelBounds.{AreLevels-from_first}
use Rattle.chunk_join.specs.Summaries.{IsPiece}
use Rattle.chunk_join.proofs.SharedTicks.{IsSummary-cut}
use Rattle.chunk_join.proofs.SufficientDigests.{Suffices-summary}
use Rattle.chunk_join.proofs.pieces.Piece.finish.Goals as goal

pub returns-in-Ok-clause-stairs : goal.returns-in-Ok-clause-stairs
returns-in-Ok-clause-stairs c = λ whole k h cut sound at.
    (let value : c.args.self.now ≡ Some c.in-Some.part = search rules in
    let is : IsPiece whole 0 k (Some c.in-Some.part) = subst (IsPiece whole 0 k) value h in
    AreLevels-from_first whole.set cut _
    (c.in-Ok.ensures whole.set cut sound (Suffices-summary whole.set cut sound c.in-Some.part
    (IsSummary-cut whole.set whole.trace cut k c.in-Some.part whole.sound sound at is.1 is.2)) (omega arith)))

pub returns-in-Ok-clause-whole : goal.returns-in-Ok-clause-whole
returns-in-Ok-clause-whole c = λ whole h.
    (let value : c.args.self.now ≡ Some c.in-Some.part = search rules in
    let is : IsPiece whole 0 whole.trace.last (Some c.in-Some.part) = subst (IsPiece whole 0 whole.trace.last) value h in
    AreLevels-from_first whole.set whole.trace _ (c.in-Ok.ensures whole.set whole.trace whole.sound
    (Suffices-summary whole.set whole.trace whole.sound c.in-Some.part is.2) (omega arith)))
