use Rattle.std.proofs.Common.{◌≡◌, ◌+◌, drop}
use Rattle.run_words.specs.ShortNames.{start_of}
use Rattle.run_words.proofs.short_names.start_of.Given as goal

-- what is left, from here on
abbrev pub invariant-loop-i : goal.invariant-loop-i
invariant-loop-i l = l.i + start_of l.left (drop l.i l.text) ≡ start_of l.fn.number l.text
