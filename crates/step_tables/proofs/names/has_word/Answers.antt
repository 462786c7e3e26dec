use Rattle.std.proofs.Common.{◌∙◌}
use Rattle.step_tables.proofs.SortedWords.{has_name-searched}
use Rattle.step_tables.proofs.names.has_word.Goals as goal

pub returns : goal.returns
returns c = c.is_ok.ensures.value ∙ has_name-searched
    c.args.words.now c.args.name c.binary_search.result c.requires c.binary_search.ensures.bound c.binary_search.ensures.position
