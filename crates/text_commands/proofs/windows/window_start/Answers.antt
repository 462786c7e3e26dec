use Rattle.std.proofs.Common.{rules}
use Rattle.text_commands.proofs.windows.window_start.Goals as goal

pub returns-in-None-clause-refused : goal.returns-in-None-clause-refused
returns-in-None-clause-refused c = (c.in-Some.text.now, search rules, λ end. c.in-None.ensures.none (search rules) end)
