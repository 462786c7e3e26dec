-- Evidence: silences with the late messages that they explain, and the other late messages (own).
use Rattle.std.specs.Prelude.{ℕ, ◌≡◌, ◌-◌, ◌*◌, ◌<◌, ◌≤◌, ◌⊎◌, ◌==◌, ◌&&◌, Bool, false, not, nat_le}
use Rattle.std.specs.Prelude.{min, max, List, ◌++◌, map, filter, find, AllPairs, Option, Some, None}
use Rattle.std.specs.List.{list_any}
use Rattle.std.specs.List.Sorted.{IsPermutation}
use Rattle.std.specs.Option.{option_map_or}
use Rattle.step_trace.specs.declared.rows.Row.{Row}
use Rattle.step_trace.specs.declared.traces.TheConstants.{MAX_TICKS}
use Rattle.step_trace.specs.Traces.{Recorded}
use Rattle.step_trace.specs.Ticks.{tick_of}
use Rattle.run_story.specs.declared.delays.Delay.{Delay}
use Rattle.run_story.specs.declared.evidence.Evidence.{Evidence}
use Rattle.run_story.specs.declared.stalls.Stall.{Stall}
use Rattle.run_story.specs.Delays.{AreDelays}
use Rattle.run_story.specs.Stalls.{AreStalls}

-- how many ticks of the miss of a delay are in the gap of a stall
abbrev pub shared_ticks : Recorded → Stall → Delay → ℕ
shared_ticks trace s d = min s.gap.to (tick_of trace d.miss.missed) - (max s.gap.from (tick_of trace d.miss.sent) - 1)

-- whether both share a row
abbrev pub share_row : Stall → Delay → Bool
share_row s d = nat_le d.first s.last && nat_le s.first d.last

-- whether a stall explains a delay: some row names both, the silent processor is the receiver, and the silence has half
-- of the miss at least
abbrev pub explains : Recorded → Stall → Delay → Bool
explains trace s d = share_row s d && (s.gap.proc == d.to && nat_le d.ticks (2 * shared_ticks trace s d))

-- the first delay that a stall explains, if there is one
abbrev pub explained : Recorded → List Delay → Stall → Option Delay
explained trace delays s = find (explains trace s) delays

-- the evidence of a stall, with the delay that it explains
abbrev pub with_delay : Stall → Option Delay → Evidence
with_delay s None = record { stall = Some s; delay = None; first = s.first; last = s.last }
with_delay s (Some d) = record { stall = Some s; delay = Some d; first = min s.first d.first; last = max s.last d.last }

-- the evidence of a delay that no stall explains
abbrev pub alone : Delay → Evidence
alone d = record { stall = None; delay = Some d; first = d.first; last = d.last }

-- whether evidence has the delay whose first row is at place k
abbrev pub has_delay : ℕ → Evidence → Bool
has_delay k e = option_map_or (λ d. d.first == k) e.delay false

-- the evidence of all stalls
abbrev pub stall_evidence : Recorded → List Stall → List Delay → List Evidence
stall_evidence trace stalls delays = map (λ s. with_delay s (explained trace delays s)) stalls

-- that of the delays that this evidence hasn't
abbrev pub other_evidence : List Evidence → List Delay → List Evidence
other_evidence evidence delays = map alone (filter (λ d. not (list_any (has_delay d.first) evidence)) delays)

-- all evidence of stalls and delays
abbrev pub all_evidence : Recorded → List Stall → List Delay → List Evidence
all_evidence trace stalls delays =
    let evidence = stall_evidence trace stalls delays in
    evidence ++ other_evidence evidence delays

-- the length of its gap or of its miss, the longer of the two, in ticks; none in a trace is above MAX_TICKS
abbrev pub ticks_of : Evidence → ℕ
ticks_of e = min MAX_TICKS
    (max (option_map_or (λ s. s.gap.to - (s.gap.from - 1)) e.stall 0) (option_map_or (λ d. d.ticks) e.delay 0))

-- the earlier first row comes first, and of one first row the longer evidence
abbrev pub IsBefore : Evidence → Evidence → Type 0
IsBefore a b = (a.first < b.first) ⊎ ((a.first ≡ b.first) × (ticks_of b ≤ ticks_of a))

-- the evidence of rows of a trace, in order: that of their stalls and delays
pub record AreEvidence (trace : Recorded) (rows : List Row) (list : List Evidence) : Type 0 where
  pub stalls : List Stall
  pub delays : List Delay
  pub are_stalls : AreStalls rows stalls
  pub are_delays : AreDelays trace rows delays
  pub each : IsPermutation (all_evidence trace stalls delays) list
  pub ordered : AllPairs IsBefore list
