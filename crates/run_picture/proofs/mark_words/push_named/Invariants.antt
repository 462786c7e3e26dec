use Rattle.std.proofs.Common.{◌≡◌, ◌++◌, take}
use Rattle.run_picture.specs.MarkWords.{named_text}
use Rattle.run_picture.proofs.mark_words.push_named.Given as goal

abbrev pub invariant-loop-id : goal.invariant-loop-id
invariant-loop-id l = l.out.items ≡ l.fn.out.items ++ named_text l.said (take l.id-index l.ids)
