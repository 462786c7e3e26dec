use Rattle.std.proofs.Common.{rules}
use Rattle.text_commands.proofs.WrittenAnswers.{no-failed_read}
use Rattle.text_commands.proofs.texts.read_whole.Goals as goal

pub returns-in-Err-TooLarge-clause-read : goal.returns-in-Err-TooLarge-clause-read
returns-in-Err-TooLarge-clause-read g c = no-failed_read _ _ c.args.too_large c.requires (search rules)
