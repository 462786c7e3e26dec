-- The text of a replay: a header, and the round and the decision of each processor at the end of a
-- trace.
use Rattle.std.specs.Prelude.{ℕ, ◌+◌, List, [], ◌∷◌, Option, Some, None, map, decimal, codes}
use Rattle.step_trace.specs.declared.steps.Step.{Step}
use Rattle.step_trace.specs.Configurations.{Setup}
use Rattle.trace_text.specs.Records.{text_of_records}
use Rattle.round_model.specs.RoundStates.{processors}
use Rattle.step_buffers.specs.HeardTables.{passed}
use Rattle.step_buffers.specs.Runs.{node_at}

-- the names of the fields
abbrev pub replay_header : List (List ℕ)
replay_header = codes "proc" ∷ codes "round" ∷ codes "decision" ∷ []

-- the field of a decision, empty if there is none
abbrev pub decision_field : Option ℕ → List ℕ
decision_field None = []
decision_field (Some v) = decimal v

-- the record of processor p: its number, its round and its decision after these steps
abbrev pub processor_record : Setup → List Step → ℕ → List (List ℕ)
processor_record c steps p = decimal p ∷ decimal (passed steps p + 1) ∷ decision_field (node_at c steps p).decision ∷ []

-- the records of a replay
abbrev pub replay_records : Setup → List Step → List (List (List ℕ))
replay_records c steps = replay_header ∷ map (processor_record c steps) (processors c)

-- the text of a replay
abbrev pub replay_text : Setup → List Step → List ℕ
replay_text c steps = text_of_records (replay_records c steps)
