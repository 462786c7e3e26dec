-- Audits: what the seats and the views of a recorder must be for its trace.
use Rattle.std.specs.Prelude.{ℕ, ◌≡◌, ◌+◌, ◌<◌, ◌==◌, slice_index_or, List, length}
use Rattle.std.specs.Prelude.{Option, IfSome, All, map, filter, take}
use Rattle.std.specs.List.{enumerate_from}
use Rattle.step_trace.specs.declared.steps.Step.{Step}
use Rattle.step_trace.specs.Configurations.{Setup}
use Rattle.step_trace.specs.Traces.{Recorded}
use Rattle.step_trace.specs.Extensions.{Extends}
use Rattle.step_trace.specs.OwnSteps.{own_steps}
use Rattle.round_model.specs.RoundStates.{processors}
use Rattle.step_buffers.specs.declared.moves.Done.{Done}
use Rattle.step_buffers.specs.HeardTables.{passed}
use Rattle.step_buffers.specs.Runs.{node_at}
use Rattle.locked_recorder.specs.declared.errors.AuditError.{AuditError}
use Rattle.locked_recorder.specs.declared.errors.AuditError.TheVariants as audit_error
use Rattle.locked_recorder.specs.Seats.{Turns}
use Rattle.locked_recorder.specs.Recorders.{Identity}
use Rattle.locked_recorder.specs.Prefixes.{IsRunOf}

-- what is done in the last of some steps: the step, with the round and decision of its processor after it
abbrev pub done_last : Setup → List Step → Step → Done
done_last c steps x = record {
  no = length steps;
  step = x;
  round = passed steps x.proc + 1;
  decision = (node_at c steps x.proc).decision;
}

-- what is done in a numbered step of a trace
abbrev pub done_at : Setup → List Step → ℕ × Step → Done
done_at c steps x = record (done_last c (take x.0 steps) x.1) { no = x.0 }

-- all that is done in a trace, and what of it processor p does
abbrev pub all_done : Setup → List Step → List Done
all_done c steps = map (λ x. done_at c steps x) (enumerate_from 1 steps)

abbrev pub done_by : Setup → List Step → ℕ → List Done
done_by c steps p = map (λ x. done_at c steps x) (own_steps steps p)

-- what of all that is done is of processor p
abbrev pub done_of : List Done → ℕ → List Done
done_of all p = filter (λ d. d.step.proc == p) all

-- there is one seat for each processor, in order
abbrev pub AreInOrder : Setup → List Turns → Type 0
AreInOrder c seats = map (λ s. s.proc) seats ≡ processors c

-- they are seats of recorders with this tag
abbrev pub AreTagged : ℕ → List Turns → Type 0
AreTagged tag seats = All (λ s. s.tag ≡ tag) seats

-- the seat did exactly what its processor does in the trace; and each seat did
abbrev pub Agrees : Setup → List Step → Turns → Type 0
Agrees c steps s = s.done ≡ done_by c steps s.proc

abbrev pub AgreeWith : Setup → List Step → List Turns → Type 0
AgreeWith c steps seats = All (λ s. Agrees c steps s) seats

-- the trace extends what a view has seen; and what each view has seen
abbrev pub IsExtended : Recorded → Option Recorded → Type 0
IsExtended trace v = IfSome v (λ seen. Extends trace seen)

abbrev pub AreExtended : Recorded → List (Option Recorded) → Type 0
AreExtended trace views = All (λ v. IsExtended trace v) views

-- the element at k is the first of which P doesn't hold
pub record IsFirstWithout {X : Type 0} (P : X → Type 0) (xs : List X) (k : ℕ) : Type 0 where
  pub within : k < length xs
  pub before : All P (take k xs)
  pub without : (d : X) → ¬ P (slice_index_or xs k d)

-- how the seats or the views are off a trace: the seat of p is the first that doesn't agree with it. Or all seats
-- agree, and the view of index k is the first that isn't extended.
abbrev pub IsOff : Recorded → List Turns → List (Option Recorded) → AuditError → Type 0
IsOff trace seats views (audit_error.SeatDiffers p) = (k : ℕ) × (p ≡ k + 1)
    × IsFirstWithout (λ s. Agrees trace.config trace.steps s) seats k
IsOff trace seats views (audit_error.ViewDiffers k) = AgreeWith trace.config trace.steps seats
    × IsFirstWithout (λ v. IsExtended trace v) views k
IsOff trace seats views audit_error.Memory = Unit {0}
IsOff trace seats views why = ⊥

-- Some run of the configuration is such a trace.
pub record IsOffSome (c : Setup) (seats : List Turns) (views : List (Option Recorded)) (why : AuditError) : Type 0 where
  pub trace : Recorded
  pub run : IsRunOf c trace
  pub off : IsOff trace seats views why

-- Why an audit refuses. ForeignSeat shows nothing but that the seats are in order; any later reason is answered to
-- seats of the recorder's tag alone.
abbrev pub IsAuditRefusal : Identity → List Turns → List (Option Recorded) → AuditError → Type 0
IsAuditRefusal r seats views audit_error.SeatCount = ¬ AreInOrder r.config seats
IsAuditRefusal r seats views audit_error.ForeignSeat = AreInOrder r.config seats
IsAuditRefusal r seats views audit_error.Memory = AreInOrder r.config seats × AreTagged r.tag seats
IsAuditRefusal r seats views why = AreInOrder r.config seats × AreTagged r.tag seats
    × IsOffSome r.config seats views why
