use Rattle.std.proofs.Common.{◌≡◌, ◌++◌}
use Rattle.run_words.specs.Escapes.{escaped_to}
use Rattle.run_words.proofs.escapes.push_escaped.Given as goal

abbrev pub invariant-loop-i : goal.invariant-loop-i
invariant-loop-i l = l.out.items ≡ l.fn.out.items ++ escaped_to l.text l.i
