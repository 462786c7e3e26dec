-- The level of a tick from that of the next one, by what a summary keeps (own). A part's lists are scanned from the
-- back, with a number of entries left.
use Rattle.std.specs.Prelude.{ℕ, ◌≡◌, ◌+◌, ◌-◌, ◌<◌, ◌≤◌, List, length, Option, Some}
use Rattle.std.specs.Prelude.{None, slice_get, suc, zero, if◌then◌else◌, nat_le}
use Rattle.step_trace.specs.declared.rows.Gap.{Gap}
use Rattle.step_trace.specs.Ticks.{IsTrace}
use Rattle.step_trace.specs.Traces.{Recorded}
use Rattle.step_trace.specs.Cuts.{IsCutAt}
use Rattle.suffix_staircase.specs.declared.levels.Level.{Level}
use Rattle.suffix_staircase.specs.Levels.{CanStandBefore}
use Rattle.suffix_staircase.specs.Analysis.{KnowsMissesAfter, KnowsGaps, AreLevels, AreLevelsFrom, with_miss, with_gap}
use Rattle.chunk_join.specs.declared.summaries.Place.{Place}
use Rattle.chunk_join.specs.declared.summaries.Fate.TheVariants.{Open, Taken}
use Rattle.chunk_join.specs.declared.summaries.Fate.{Fate}
use Rattle.chunk_join.specs.declared.summaries.Message.{Message}
use Rattle.chunk_join.specs.Summaries.{Summary, Whole, last_of}
use Rattle.chunk_join.specs.Sufficient.{Suffices}
use Rattle.chunk_join.specs.Parts.{after}

-- the piece is empty, or begins with tick 1
abbrev pub BeginsWithFirst : Option Summary → Type 0
BeginsWithFirst None = Unit {0}
BeginsWithFirst (Some s) = s.from ≡ 1

-- these are the levels of the trace as if it ended at tick k
abbrev pub AreLevelsUntil : Whole → ℕ → List Level → Type 0
AreLevelsUntil whole k levels = (cut : Recorded) → IsTrace cut → IsCutAt whole.trace k cut
    → AreLevels whole.set cut levels

-- the last of the first n
abbrev pub last_at : {X : Type 0} → List X → ℕ → Option X
last_at xs zero = None
last_at xs (suc k) = slice_get xs k

-- the last Receive that misses a message with this fate
abbrev pub missed_with : List (Option Place) → Message → Fate → Option Place
missed_with last m Open = after m.sent (last_of last m.to)
missed_with last m (Taken missed) = missed

abbrev pub missed : List (Option Place) → Message → Option Place
missed last m = missed_with last m m.fate

-- a tick of the part, which ends here
abbrev pub up_to : ℕ → ℕ → ℕ
up_to end x = if nat_le x end then x else end

-- the level, with this miss of the message; no miss ends after the part
abbrev pub with_missed : ℕ → Level → Message → Option Place → Level
with_missed end level m None = level
with_missed end level m (Some r) = with_miss level (record { sent = m.sent.no; missed = r.no })
    (up_to end r.tick - m.sent.tick)

-- the level, with the gap that this silence has from tick g on
abbrev pub with_silence : Level → ℕ → Option Gap → Level
with_silence level g None = level
with_silence level g (Some w) = with_gap level w.proc g (w.to + 1)

-- the number of the last of the first n messages, and 0 if there is none
abbrev pub number_of : Option Message → ℕ
number_of None = 0
number_of (Some m) = m.sent.no

abbrev pub number_at : List Message → ℕ → ℕ
number_at sent n = number_of (last_at sent n)

-- the messages from number `left` on are sent in tick g or later
abbrev pub SentFrom : List Message → ℕ → ℕ → Type 0
SentFrom sent g left = (k : ℕ) (m : Message) → left ≤ k → slice_get sent k ≡ Some m → g ≤ m.sent.tick

-- the silences from number `left` on begin after tick g
abbrev pub BeginAfter : List Gap → ℕ → ℕ → Type 0
BeginAfter silent g left = (k : ℕ) (w : Gap) → left ≤ k → slice_get silent k ≡ Some w → g < w.from

-- If the part is a whole trace, the level's misses are those of its messages from number `left` on.
abbrev pub HasMissesFrom : Summary → ℕ → Level → Type 0
HasMissesFrom part left level = (set : ℕ) (trace : Recorded) → IsTrace trace → Suffices set trace part
    → KnowsMissesAfter set trace (number_at part.sent left) level.delta level.miss

-- going from so many messages left to fewer keeps that
abbrev pub KeepsMisses : Summary → ℕ → Level → ℕ → Level → Type 0
KeepsMisses part count old left new = HasMissesFrom part count old → HasMissesFrom part left new

-- If it is a whole trace, the level's gaps and the levels so far are those from tick g on.
pub record HasTicksFrom (part : Summary) (g : ℕ) (level : Level) (levels : List Level) : Type 0 where
  pub gaps : (set : ℕ) (trace : Recorded) → IsTrace trace → Suffices set trace part
      → KnowsGaps set trace g level.phi level.gap
  pub each : (set : ℕ) (trace : Recorded) → IsTrace trace → Suffices set trace part → AreLevelsFrom set trace g levels

-- From tick g on, down to which this level goes, neither the messages nor the silences that are left give another.
pub record IsQuietFrom (part : Summary) (g messages silences phi : ℕ) : Type 0 where
  pub start : 1 ≤ g
  pub message : (m : Message) → last_at part.sent messages ≡ Some m → m.sent.tick < g
  pub begun : (w : Gap) → last_at part.silent silences ≡ Some w → w.from ≤ g
  pub short : (w : Gap) → last_at part.silent silences ≡ Some w → w.to + 1 < g + phi

-- what is known of a part whose ticks from g on are scanned, with so many messages and silences left
pub record IsGoneOver (part : Summary) (g messages silences : ℕ) (level : Level) (levels : List Level) : Type 0 where
  pub count : length levels + g ≡ part.to + 1
  pub messages_within : messages ≤ length part.sent
  pub silences_within : silences ≤ length part.silent
  pub positive : 1 ≤ level.phi
  pub falling : CanStandBefore level levels
  pub sent : SentFrom part.sent g messages
  pub silent : BeginAfter part.silent g silences
  pub misses : HasMissesFrom part messages level
  pub ticks : HasTicksFrom part g level levels
