-- A report text's record of too many fields is refused as soon as it has them.
use Rattle.std.specs.Prelude.{ℕ, ◌≡◌, ◌<◌, ◌+◌, List, ◌++◌, length, Some, None, false, ◌==◌}
use Rattle.std.proofs.Common.{refl, arith, length-append}
use Rattle.trace_text.specs.declared.record_limits.TheConstants.{MAX_FIELDS}
use Rattle.trace_text.specs.RecordLimits.{RefusesLong}
use Rattle.front.specs.declared.refusals.ReportError.TheVariants.{BadHeader, BadFields}
use Rattle.front.specs.ReportRefusals.{next_rows}

-- it hasn't the fields of a header or a row
pub not_eight : (front more : List (List ℕ)) → MAX_FIELDS < length front → (length (front ++ more) == 8) ≡ false
not_eight front more long =
    let larger : 8 < length (front ++ more) = omega (arith, long, length-append front more) in
    apart (length (front ++ more)) larger where
      apart : (n : ℕ) → 8 < n → (n == 8) ≡ false
      apart n h = grind arith

pub refuses_long : RefusesLong next_rows
refuses_long None front long = (BadHeader, λ more. (let other = not_eight front more long in rw other refl))
refuses_long (Some rows) front long =
    (BadFields (length rows + 1), λ more. (let other = not_eight front more long in rw other refl))
