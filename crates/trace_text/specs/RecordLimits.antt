-- Records of too many fields, and the front of a text up to the first of them.
use Rattle.std.specs.Prelude.{ℕ, ◌≡◌, ◌<◌, ◌+◌, List, [], ◌∷◌, ◌++◌, length, Result, Err, nat_lt, if◌then◌else◌}
use Rattle.csv.specs.Machine.{step}
use Rattle.csv.specs.Reading.{default_config}
use Rattle.csv.specs.declared.parser.State.{State}
use Rattle.csv.specs.declared.parser.Action.{Action}
use Rattle.csv.specs.declared.parser.Action.TheVariants as act
use Rattle.trace_text.specs.declared.record_limits.TheConstants.{MAX_FIELDS}

-- a record that begins with more fields than there may be is refused alike, for any fields after them
abbrev pub RefusesLong : {S E : Type 0} → (S → List (List ℕ) → Result S E) → Type 0
RefusesLong {S} {E} next = (s : S) (front : List (List ℕ)) → MAX_FIELDS < length front
    → (e : E) × ((more : List (List ℕ)) → next s (front ++ more) ≡ Err e)

-- how many fields of a record are whole after one more action
abbrev pub count_after : Action → ℕ → ℕ
count_after act.Skip n = n
count_after act.Copy n = n
count_after act.EndField n = n + 1
count_after act.EndRecord n = 0

-- The bytes up to the end of the first field that is one too many in its record; all if there is none. They are read
-- from this state, where so many fields of a record are whole.
unfoldable pub front_from : ℕ → State → List ℕ → List ℕ
front_from n s [] = []
front_from n s (c ∷ rest) =
    c ∷ (if nat_lt MAX_FIELDS (count_after (step default_config s c).1 n) then []
    else front_from (count_after (step default_config s c).1 n) (step default_config s c).0 rest)
