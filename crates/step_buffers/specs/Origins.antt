-- Where a message comes from: who sent it, and in which round.
use Rattle.std.specs.Prelude.{ℕ, List, nat_lt, if◌then◌else◌}
use Rattle.std.specs.Option.{option_map_or}
use Rattle.step_trace.specs.declared.steps.Step.{Step}
use Rattle.step_trace.specs.Traces.{step_at}
use Rattle.step_buffers.specs.HeardTables.{passed, round_at}

-- the processor that made step s; 0 if there is no such step
abbrev pub sender_of : List Step → ℕ → ℕ
sender_of steps s = option_map_or (λ x. x.proc) (step_at steps s) 0

-- The round in which message s was sent, if p hasn't passed that round; and else 0. What was sent in a round that p has
-- passed it never hears.
abbrev pub round_ahead : List Step → ℕ → ℕ → ℕ
round_ahead steps p s =
    if nat_lt (passed steps p) (round_at steps (sender_of steps s) s) then round_at steps (sender_of steps s) s else 0
