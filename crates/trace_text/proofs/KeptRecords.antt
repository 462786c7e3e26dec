-- What has to be kept for the parts of a step's record has to be kept for the record.
use Rattle.std.proofs.Common.{ℕ, ◌≡◌, ◌+◌, List, length, Result, Ok, Err, true, refl}
use Rattle.std.specs.Prelude.{⊤, is_ok}
use Rattle.std.proofs.lemmas.Bool.{or_right}
use Rattle.step_trace.specs.Traces.{Recorded}
use Rattle.trace_text.specs.declared.versions.Version.{Version}
use Rattle.trace_text.specs.declared.refusals.TextError.{TextError}
use Rattle.trace_text.specs.Records.{WantsOnlyWhere}
use Rattle.trace_text.specs.TextRefusals.{is_memory, is_numbered, step_stage, step_keeps, step_record_keeps}

pub wants-numbered : (v : Version) (t : Recorded) (fields : List (List ℕ)) (result : Result ⊤ TextError)
    → is_numbered v (length t.steps + 1) fields ≡ true → WantsOnlyWhere is_memory result (step_keeps v (length t.steps + 1) fields)
    → WantsOnlyWhere is_memory result (step_record_keeps v t fields)
wants-numbered v t fields (Ok x) at h = tt
wants-numbered v t fields (Err e) at h = λ m. let kept = h m in rw (at, kept) (or_right (is_ok (step_stage v t fields)) true refl)
