use Rattle.command_line.proofs.jobs.import.command.Goals as goal

pub returns : goal.returns
returns c = c.new_command.ensures _ (rw c.in_ok-arguments.ensures.items (
  c.positional_argument.ensures,
  (
    c.optional_argument.ensures,
    (
      c.optional_argument-2.ensures,
      (
        c.optional_argument-3.ensures,
        (
          c.optional_argument-4.ensures,
          (
            c.optional_argument-5.ensures,
            (
              c.optional_argument-6.ensures,
              (
                c.flag_argument.ensures,
                (
                  c.flag_argument-2.ensures,
                  (c.flag_argument-3.ensures, (c.flag_argument-4.ensures, (c.flag_argument-5.ensures, (c.flag_argument-6.ensures, tt)))),
                ),
              ),
            ),
          ),
        ),
      ),
    ),
  ),
))
