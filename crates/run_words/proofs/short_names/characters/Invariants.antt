use Rattle.std.proofs.Common.{◌≡◌, ◌≤◌, take}
use Rattle.run_words.specs.ShortNames.{characters}
use Rattle.run_words.proofs.short_names.characters.Given as goal

-- the characters that begin so far
abbrev pub invariant-loop-byte : goal.invariant-loop-byte
invariant-loop-byte l = (l.count ≡ characters (take l.byte-index l.text)) × (l.count ≤ l.byte-index)
