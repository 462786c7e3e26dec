-- A refusal goes on through what would have come after it.
use Rattle.std.proofs.Common.{◌≡◌, Bool, true, false, Err, refl}
use Rattle.std.specs.Prelude.{MatchBool, Result, ⊤}
use Rattle.trace_text.specs.Records as texts
use Rattle.step_tables.specs.declared.refusals.TableError.{TableError}
use Rattle.step_tables.specs.Tables.{is_memory}

pub refusal-goes_on : {A B : Type 0} (r : Result A TableError) (f : A → Result B TableError) (e : TableError)
    → MatchBool (is_memory e) ⊤ (r ≡ Err e) → MatchBool (is_memory e) ⊤ (texts.◌>>=◌ r f ≡ Err e)
refusal-goes_on r f e h = go (is_memory e) h where
  go : (b : Bool) → MatchBool b ⊤ (r ≡ Err e) → MatchBool b ⊤ (texts.◌>>=◌ r f ≡ Err e)
  go true k = tt
  go false k = rw k refl
