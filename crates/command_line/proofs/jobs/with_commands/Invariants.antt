use Rattle.std.proofs.Common.{◌≡◌, ◌++◌, length}
use Rattle.std.specs.Vec.Iter.{into_iter_items, into_iter_len}
use Rattle.clap.specs.Words.{app_of}
use Rattle.command_line.proofs.Shapes.{Adds}
use Rattle.command_line.proofs.jobs.with_commands.Given as goal

abbrev pub invariant-loop-below : goal.invariant-loop-below
invariant-loop-below l = record {
  all : l.yielded ++ into_iter_items l.below-iterator ≡ into_iter_items l.initial.below-iterator;
  counted : into_iter_len l.below-iterator ≡ length (into_iter_items l.below-iterator);
  adds : Adds l.yielded (app_of l.initial.program) (app_of l.program);
}
