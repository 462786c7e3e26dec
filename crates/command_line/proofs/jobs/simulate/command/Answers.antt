use Rattle.command_line.proofs.jobs.simulate.command.Goals as goal

pub returns : goal.returns
returns c = c.new_command.ensures _
    (rw c.in_ok-arguments.ensures.items (
      c.number_option.ensures,
      (
        c.number_option-2.ensures,
        (
          c.option_argument.ensures,
          (
            c.number_option-3.ensures,
            (
              c.number_option-4.ensures,
              (
                c.number_option-5.ensures,
                (
                  c.optional_argument.ensures,
                  (
                    c.limited_option.ensures,
                    (
                      c.limited_option-2.ensures,
                      (c.limited_option-3.ensures, (c.optional_argument-2.ensures, (c.limited_option-4.ensures, tt))),
                    ),
                  ),
                ),
              ),
            ),
          ),
        ),
      ),
    ))
