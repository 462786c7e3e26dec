use Rattle.std.proofs.Common.{◌≡◌, ◌∷◌, map}
use Rattle.std.specs.Prelude.{codes, string_bytes}
use Rattle.c_report.proofs.words.words_of.Given as goal

abbrev pub invariant-loop-line : goal.invariant-loop-line
invariant-loop-line l = map string_bytes l.words.items ≡ codes "synchrony" ∷ map (λ x. x.now) l.yielded
