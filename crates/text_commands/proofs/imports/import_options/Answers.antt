use Rattle.std.proofs.Common.{subst}
use Rattle.text_commands.specs.Imports.{NeedsOptionMemory}
use Rattle.text_commands.proofs.imports.import_options.Goals as goal

pub returns-clause-more : goal.returns-clause-more
returns-clause-more c = λ e. subst NeedsOptionMemory c.texts_in.ensures (c.options_of.ensures.more e)
