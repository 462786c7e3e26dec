use Rattle.std.proofs.Common.{◌≡◌, map}
use Rattle.step_tables.proofs.names.words_of.Given as goal

-- the words so far
abbrev pub invariant-loop-word : goal.invariant-loop-word
invariant-loop-word l = (goal.iterator-loop-word).can_next l.word-iterator × (goal.iterator-loop-word).is_finite l.word-iterator
    × (map (λ word. word.now) l.words.items ≡ map (λ word. word.now) l.yielded)
