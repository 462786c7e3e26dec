-- Runs that have ended: each processor has as many steps as were made from its seat.
use Rattle.std.proofs.Common.{◌≡◌, ◌≤◌, inl, inr, ℕ, List, length, map, get_or, Option, ap, subst, sym, ◌∙◌}
use Rattle.std.specs.Prelude.{All}
use Rattle.std.proofs.lemmas.List.{length-map}
use Rattle.std.proofs.lemmas.List.Elements.{All-map}
use Rattle.step_trace.specs.declared.steps.Step.{Step}
use Rattle.step_trace.specs.Configurations.{Setup}
use Rattle.step_trace.specs.Traces.{Recorded}
use Rattle.step_trace.specs.OwnSteps.{own_steps}
use Rattle.trace_text.specs.declared.refusals.WriteError.{WriteError}
use Rattle.trace_text.specs.declared.refusals.WriteError.TheVariants as unwritten
use Rattle.trace_text.specs.TextWriting.{WroteBefore}
use Rattle.trace_text.specs.TraceTexts.{trace_text}
use Rattle.locked_recorder.specs.Audits.{done_at, AreInOrder, AgreeWith}
use Rattle.locked_recorder.specs.Prefixes.{IsRunOf}
use Rattle.locked_recorder.specs.Seats.{Turns}
use Rattle.round_model.specs.RoundStates.{processors}
use Rattle.command_options.specs.declared.RunEnd.{RunEnd}
use Rattle.command_options.specs.declared.RunEnd.TheVariants as end
use Rattle.command_faults.specs.Faults.{fault_of_write}
use Rattle.node_runs.specs.Runs.{AllDecided, HaveEnded, IsEndedRun, IsUnwrittenRun}

-- what holds of how much was done from each seat holds of how many steps its processor has
own_counts : (P : ℕ → Type 0) (c : Setup) (steps : List Step) (seats : List Turns)
    → AgreeWith c steps seats → All (λ s. P (length s.done)) seats → All (λ p. P (length (own_steps steps p))) (map (λ s. s.proc) seats)
own_counts P c steps seats agree made = All-map (λ p. P (length (own_steps steps p))) (λ s. s.proc) seats (λ i d within. subst P
    (ap length (agree i d within) ∙ length-map (own_steps steps (get_or seats i d).proc) (λ x. done_at c steps x)) (made i d within))

-- so of each processor, if there is a seat for each
counts : (P : ℕ → Type 0) (c : Setup) (t : Recorded) (seats : List Turns) → AreInOrder c seats
    → AgreeWith t.config t.steps seats → All (λ s. P (length s.done)) seats → All (λ p. P (length (own_steps t.steps p))) (processors c)
counts P c t seats order agree made = subst (λ ps. All (λ p. P (length (own_steps t.steps p))) ps) order
    (own_counts P t.config t.steps seats agree made)

-- what was done from the seats makes up a run that has ended
pub ended_run : (e : RunEnd) (c : Setup) (n : ℕ) (t : Recorded) (seats : List Turns)
    → IsRunOf c t → AreInOrder c seats → AgreeWith t.config t.steps seats → HaveEnded e t.config n t.steps seats → IsEndedRun e c n t
ended_run end.Steps c n t seats run order agree made = record { run = run; ended = counts (λ k. k ≡ n) c t seats order agree made }
ended_run end.Decided c n t seats run order agree made = record {
  run = run;
  ended = (
    counts (λ k. k ≤ n) c t seats order agree made.0,
    elim made.1 [
      | inl decided ↦ inl (subst (λ d. AllDecided d t.steps) run.config decided)
      | inr all ↦ inr (counts (λ k. k ≡ n) c t seats order agree all)
    ],
  );
}

-- such a run that wasn't written whole
pub unwritten_run : (Run : Recorded → Type 0) (t shown : Recorded) (before after : Option (List ℕ)) (why : WriteError)
    → Run t → shown ≡ t → WroteBefore why (trace_text shown) before after → IsUnwrittenRun Run before after (fault_of_write why)
unwritten_run Run t shown before after (unwritten.Write k) over same part = (shown, subst Run (sym same) over, part.0, part.1)
unwritten_run Run t shown before after unwritten.Memory over same part = tt
