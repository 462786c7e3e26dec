-- Results of any types.
use Rattle.std.specs.Prelude.{Result, Ok}
use Rattle.trace_text.specs.Records.{◌>>=◌}

-- both values, or the first error
abbrev pub both : {A B E : Type 0} → Result A E → Result B E → Result (A × B) E
both a b = a >>= λ x. b >>= λ y. Ok (x, y)
