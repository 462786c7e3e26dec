-- Atomic steps (section 2: Send(m, q) and Receive(p)).
use Rattle.std.specs.Prelude.{ℕ, List, [], Option, Some, None, Bool, true, false, ◌==◌}
use Rattle.std.specs.List.{list_any}
use Rattle.step_trace.specs.declared.steps.Act.{Act}
use Rattle.step_trace.specs.declared.steps.Act.TheVariants.{Send, Receive}

-- the ids that a step takes
abbrev pub act_ids : Act → List ℕ
act_ids (Send to) = []
act_ids (Receive ends ids) = ids

-- where a step sends to
abbrev pub act_dest : Act → Option ℕ
act_dest (Send to) = Some to
act_dest (Receive ends ids) = None

-- whether it is a Send
abbrev pub act_sends : Act → Bool
act_sends (Send to) = true
act_sends (Receive ends ids) = false

-- whether it is a Send to p
abbrev pub act_sends_to : Act → ℕ → Bool
act_sends_to (Send to) p = to == p
act_sends_to (Receive ends ids) p = false

-- whether it takes message s
abbrev pub act_takes : Act → ℕ → Bool
act_takes a s = list_any (λ i. i == s) (act_ids a)
