use Rattle.std.proofs.Common.{◌≡◌, ◌++◌, take, map}
use Rattle.run_page.specs.Pieces.{pieces_text}
use Rattle.run_page.proofs.pieces.push_pieces.Given as goal

abbrev pub invariant-loop-piece : goal.invariant-loop-piece
invariant-loop-piece l = l.out.items ≡ l.fn.out.items ++ pieces_text (map (λ x. x.now) l.names) l.said l.clock (take l.piece-index l.pieces)
