-- The decisions of a run: which processor decides, with which step, and what. (Section 3: at the end of a round a
-- node may decide; own: a step may end its processor's round.)
use Rattle.std.specs.Prelude.{ℕ, ◌-◌, List, Option, Some, None, Bool, true, false, filter_map}
use Rattle.std.specs.Option.{option_and_then}
use Rattle.step_trace.specs.declared.steps.Step.{Step}
use Rattle.step_trace.specs.Configurations.{Setup}
use Rattle.step_trace.specs.Traces.{step_at}
use Rattle.round_model.specs.RoundStates.{state_after}
use Rattle.step_buffers.specs.HeardTables.{act_ends, numbers, round_at, heard_table}
use Rattle.deciding_runs.specs.declared.decisions.Decision.{Decision}

-- the decision with which p ends a round, if it has none in the round and this one after it
abbrev pub new_decision : ℕ → ℕ → Option ℕ → Option ℕ → Option Decision
new_decision p k None (Some v) = Some (record { processor = p; step = k; value = v })
new_decision p k _ _ = None

-- what p has decided after so many rounds
abbrev pub decision_after : Setup → List Step → ℕ → ℕ → Option ℕ
decision_after c steps rounds p = (state_after c (heard_table steps) rounds p).decision

-- what p decides if it ends its round with step k
abbrev pub decision_of_round : Setup → List Step → ℕ → ℕ → Option Decision
decision_of_round c steps p k = new_decision p k (decision_after c steps (round_at steps p k - 1) p)
    (decision_after c steps (round_at steps p k) p)

-- what step k decides: nothing, unless it ends a round
abbrev pub ended_decision : Setup → List Step → ℕ → ℕ → Bool → Option Decision
ended_decision c steps k p false = None
ended_decision c steps k p true = decision_of_round c steps p k

-- what the step of this number decides, if it decides anything
abbrev pub decision_at : Setup → List Step → ℕ → Option Decision
decision_at c steps k = option_and_then (λ (x : Step). ended_decision c steps k x.proc (act_ends x.act))
    (step_at steps k)

-- the decisions of a run, in the order of their steps
abbrev pub decisions : Setup → List Step → List Decision
decisions c steps = filter_map (decision_at c steps) (numbers steps)
