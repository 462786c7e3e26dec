use Rattle.command_line.proofs.jobs.run.command.Goals as goal

pub returns : goal.returns
returns c = c.new_command.ensures _ (rw c.in_ok-arguments.ensures.items (
  c.number_option.ensures,
  (
    c.number_option-2.ensures,
    (
      c.option_argument.ensures,
      (
        c.optional_argument.ensures,
        (c.patience_option.ensures, (c.number_option-3.ensures, (c.optional_argument-2.ensures, (c.optional_argument-3.ensures, tt)))),
      ),
    ),
  ),
))
