-- A record of too many fields encodes no step.
use Rattle.std.specs.Prelude.{ℕ, ◌≡◌, ◌<◌, List, ◌++◌, length, Result, Err, Bool, true, false, ◌==◌, codes}
use Rattle.std.proofs.Common.{cond, refl, arith}
use Rattle.std.specs.Str.{bytes_eq}
use Rattle.trace_text.specs.declared.record_limits.TheConstants.{MAX_FIELDS}
use Rattle.trace_text.specs.declared.versions.Version.{Version}
use Rattle.trace_text.specs.declared.refusals.TextError.{TextError}
use Rattle.trace_text.specs.declared.refusals.TextError.TheVariants.{BadFields}
use Rattle.trace_text.specs.Records.{field_of}
use Rattle.trace_text.specs.RecordLimits.{RefusesLong}
use Rattle.trace_text.specs.TextRefusals.{step_fields}
use Rattle.trace_text.specs.LongRefusals.{apart, few_fields, longer}
use Rattle.shared_reading.specs.declared.lines.Line.{Line}
use Rattle.shared_reading.specs.Lines.{line_of, next_read}

either : (b : Bool) (x : Result Line TextError) → x ≡ Err (BadFields 0)
    → cond b (Err (BadFields 0)) x ≡ Err (BadFields 0)
either true x h = refl
either false x h = h

no_line : (v : Version) (fields : List (List ℕ)) → MAX_FIELDS < length fields → line_of v fields ≡ Err (BadFields 0)
no_line v fields long =
    let other : (length fields == step_fields v) ≡ false =
    apart (step_fields v) (length fields) (omega (arith, long, few_fields v)) in
    rw other (either (bytes_eq (field_of fields 0) (codes "end")) (Err (BadFields 0)) refl)

pub tells_none : RefusesLong next_read
tells_none r front long = (BadFields 0, λ more. rw (no_line r.version (front ++ more) (longer front more long)) refl)
