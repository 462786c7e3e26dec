-- Texts that begin with a line feed.
use Rattle.std.proofs.Common.{◌≡◌, ◌∙◌, ℕ, List, [], ◌∷◌, ◌++◌, refl, ap}
use Rattle.csv.specs.Machine.{next_record}
use Rattle.csv.specs.Reading.{default_config, records, records_from}
use Rattle.trace_text.specs.Records.{records_of_text}
use Rattle.shared_reading.specs.Seams.{state_after, IsClosed}
use Rattle.shared_reading.proofs.Splits.{records-split}
use Rattle.shared_reading.proofs.QuoteFree.{strip-one}

closed-line : IsClosed (10 ∷ [])
unfolding state_after
closed-line = refl

no-row : records default_config (10 ∷ []) ≡ []
unfolding records_from next_record
no-row = refl

-- the records of the text are those behind the line feed
pub rows-behind-line : (xs : List ℕ) → records_of_text (10 ∷ xs) ≡ records default_config xs
rows-behind-line xs = ap (λ ys. records default_config ys) (strip-one xs)
    ∙ records-split (10 ∷ []) xs closed-line ∙ ap (λ (rs : List (List (List ℕ))). rs ++ records default_config xs) no-row

-- so is what may be cut off
pub closed-behind-line : (xs : List ℕ) → IsClosed (10 ∷ xs) → IsClosed xs
unfolding state_after
closed-behind-line xs h = h
