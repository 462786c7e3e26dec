use Rattle.command_line.proofs.jobs.draw.command.Goals as goal

pub returns : goal.returns
returns c = c.new_command.ensures _ (rw c.in_ok-arguments.ensures.items (
  c.file_argument.ensures,
  (
    c.correct_argument.ensures,
    (
      c.tick_argument.ensures,
      (
        c.tick_argument-2.ensures,
        (
          c.optional_argument.ensures,
          (c.optional_argument-2.ensures, (c.optional_argument-3.ensures, (c.optional_argument-4.ensures, tt))),
        ),
      ),
    ),
  ),
))
