-- The silence that ended shortly before a message was missed (own). Places of evidence count from 0.
use Rattle.std.specs.Prelude.{ℕ, ◌-◌, ◌+◌, ◌*◌, ◌==◌, ◌&&◌, ◌||◌, Bool, false, nat_le}
use Rattle.std.specs.Prelude.{nat_lt, List, length, Option, Some, None}
use Rattle.std.specs.Option.{option_map_or}
use Rattle.step_trace.specs.Ticks.{tick_of}
use Rattle.step_trace.specs.Traces.{Recorded}
use Rattle.run_story.specs.declared.delays.Delay.{Delay}
use Rattle.run_story.specs.declared.ended_silences.TheConstants.{MUCH, SHORTLY}
use Rattle.run_story.specs.declared.evidence.Evidence.{Evidence}
use Rattle.run_story.specs.declared.stalls.Stall.{Stall}
use Rattle.run_story.specs.Messages.{sender_of}
use Rattle.run_story.specs.Named.{IsPlaceBelow}

-- whether a silence is one of the sender or of the receiver of a late message
abbrev pub is_of_pair : Recorded → Delay → Stall → Bool
is_of_pair trace d s = s.gap.proc == sender_of trace.steps d.miss.sent || s.gap.proc == d.to

-- whether it ended shortly before the Send, or later, but before the Receive that misses the message
abbrev pub ended_shortly : Recorded → Delay → Stall → Bool
ended_shortly trace d s =
    nat_le (tick_of trace d.miss.sent) (s.gap.to + SHORTLY * d.ticks) && nat_lt s.gap.to (tick_of trace d.miss.missed)

-- whether it was much longer than so many ticks
abbrev pub is_much_longer : Stall → ℕ → Bool
is_much_longer s ticks = nat_le (MUCH * ticks) (s.gap.to - (s.gap.from - 1))

-- whether it may have made the message late
abbrev pub may_matter : Recorded → Delay → Stall → Bool
may_matter trace d s = is_of_pair trace d s && (ended_shortly trace d s && is_much_longer s d.ticks)

-- the same for evidence
abbrev pub matters : Recorded → Delay → Evidence → Bool
matters trace d e = option_map_or (may_matter trace d) e.stall false

-- the first place of evidence that passes a test; none if there is none
abbrev pub IsFirstPlace : (Evidence → Bool) → List Evidence → Option ℕ → Type 0
IsFirstPlace test list None = IsPlaceBelow test list (length list) None
IsFirstPlace test list (Some k) = IsPlaceBelow test list (length list) (Some k) × IsPlaceBelow test list k None
