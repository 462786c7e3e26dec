use Rattle.std.proofs.Common.{◌∙◌, ◌-◌, ap, sym, drop, take}
use Rattle.std.specs.Prelude.{slice_index}
use Rattle.merged_receives.proofs.Pieces.{no-piece, piece-at}
use Rattle.merged_receives.proofs.parts.piece_at.Goals as goal

pub returns-then-k-ends : goal.returns-then-k-ends
returns-then-k-ends c = no-piece 0 c.args.ends.now c.args.places.now c.args.k c.if-k-ends.true

pub returns : goal.returns
returns c =
    let ends = c.args.ends.now in
    let places = c.args.places.now in
    c.piece.ensures
    ∙ ap (λ b. take (slice_index ends c.args.k - b) (drop b places)) c.begin_of.ensures
    ∙ sym (piece-at 0 ends places c.args.k c.if-k-ends.false)
