use Rattle.std.proofs.Common.{◌≡◌, replicate}
use Rattle.link_bounds.proofs.copies.copies.Given as goal

abbrev pub invariant-loop-so_far : goal.invariant-loop-so_far
invariant-loop-so_far g l = l.all.items ≡ replicate l.so_far l.value
