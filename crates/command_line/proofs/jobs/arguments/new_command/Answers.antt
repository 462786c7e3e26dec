use Rattle.std.proofs.Common.{[], rules}
use Rattle.std.proofs.lemmas.Result.{IfOk-weaker}
use Rattle.command_line.specs.Arguments.{IsCommand, command_app}
use Rattle.command_line.proofs.Shapes.{all_arguments}
use Rattle.command_line.proofs.jobs.arguments.new_command.Goals as goal

pub returns : goal.returns
returns c = λ taken are.
    let opening : IsCommand (command_app c.args.name.now []) c.after_help.result = search rules in
    IfOk-weaker c.args-2.result _ _
    (λ r h. all_arguments c.args.name.now [] taken c.args.arguments.items c.after_help.result r opening are h) c.args-2.ensures
