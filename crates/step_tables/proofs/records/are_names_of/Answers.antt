use Rattle.std.proofs.Common.{◌≡◌, ◌∙◌, arith, length}
use Rattle.step_tables.proofs.SortedWords.{are_names_of-reordered}
use Rattle.step_tables.proofs.records.are_names_of.Goals as goal

pub returns : goal.returns
returns c =
    let as_many : length c.args.words.now ≡ length c.args.ids.now = omega (arith, c.if-words-ids.false) in
    c.are_among.ensures
    ∙ are_names_of-reordered c.args.rows.now c.args.ids.now
    c.args.words.now c.sort_unstable.new.self as_many c.sort_unstable.ensures.permutation
