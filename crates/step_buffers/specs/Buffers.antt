-- Buffers (section 2: the messages that were sent to a processor and that it has not received).
use Rattle.std.specs.Prelude.{ℕ, List, Bool, ◌&&◌, not, filter}
use Rattle.step_trace.specs.declared.steps.Step.{Step}
use Rattle.step_trace.specs.PushRefusals.{is_sent_to, is_taken}
use Rattle.step_buffers.specs.HeardTables.{numbers}

-- whether message s waits for p: it was sent to p, and no step takes it
abbrev pub waits_for : List Step → ℕ → ℕ → Bool
waits_for steps p s = is_sent_to steps s p && not (is_taken steps s)

-- the messages that wait for p, by their rising ids
abbrev pub buffer : List Step → ℕ → List ℕ
buffer steps p = filter (λ s. waits_for steps p s) (numbers steps)
