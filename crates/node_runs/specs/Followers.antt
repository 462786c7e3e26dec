-- What a follower of a run prints.
use Rattle.std.specs.Prelude.{ℕ, ◌≡◌, ◌⊎◌, ◌*◌, ◌-◌, ◌<◌, ◌≤◌, List, [], ◌∷◌, ◌++◌}
use Rattle.std.specs.Prelude.{length, Option, Some, None, flat_map, take, false, ⊤}
use Rattle.std.specs.Io.KnownBytes.{Appends}
use Rattle.step_trace.specs.Configurations.{Setup}
use Rattle.step_trace.specs.declared.correct_sets.Correct.{Correct}
use Rattle.step_trace.specs.CorrectSets.{named}
use Rattle.step_trace.specs.Processors.{IsWithin}
use Rattle.step_trace.specs.Traces.{Recorded}
use Rattle.chunk_join.specs.Analysts.{opening}
use Rattle.trace_text.specs.declared.counting.Counting.{Counting}
use Rattle.deciding_runs.specs.declared.decisions.Decision.{Decision}
use Rattle.deciding_runs.specs.Decisions.{decisions}
use Rattle.locked_recorder.specs.Prefixes.{IsRunOf}
use Rattle.command_faults.specs.declared.faults.Fault.{Fault}
use Rattle.command_faults.specs.declared.faults.SetOption.TheVariants as option
use Rattle.command_faults.specs.Outside.{IsSetFault}
use Rattle.node_runs.specs.declared.standings.Standing.{Standing}
use Rattle.node_runs.specs.Standings.{IsStanding}
use Rattle.node_runs.specs.DecisionLines.{told_later}
use Rattle.node_runs.specs.StandingLines.{told_standing, told_stop}
use Rattle.trace_text.specs.Faults.{inner_of}
use Rattle.node_runs.specs.declared.followers.Follower.{Follower}
use Rattle.node_runs.specs.declared.followers.TheConstants.{PORTIONS}

-- The line reports the least bounds of the trace for the set, and then this news.
pub record TellsOf (set : ℕ) (trace : Recorded) (news line : List ℕ) : Type 0 where
  pub standing : Option Standing
  pub stands : IsStanding set trace standing
  pub told : line ≡ told_standing standing ++ news

-- it does, or reports that the follower stops
abbrev pub IsLineOf : ℕ → Recorded → List ℕ → List ℕ → Type 0
IsLineOf set trace news line = TellsOf set trace news line ⊎ (line ≡ told_stop)

-- The line reports the bounds of a trace of `until` steps, and which of these decisions came after `since` steps.
pub record TellsSince (set : ℕ) (trace : Recorded) (ds : List Decision) (since until : ℕ) (line : List ℕ) : Type 0 where
  pub later : since < until
  pub steps : until ≡ length trace.steps
  pub tells : TellsOf set trace (told_later trace.config.n since ds) line

-- it does, or reports that the follower stops
abbrev pub IsNextLineOf : ℕ → Recorded → List Decision → ℕ → ℕ → List ℕ → Type 0
IsNextLineOf set trace ds since until line = TellsSince set trace ds since until line
    ⊎ ((since ≤ until) × (line ≡ told_stop))

-- The line reports the bounds of the trace that a run of the configuration has at its step `until`, and what was
-- decided in it after its step `since`.
pub record TellsOfRun (c : Setup) (set since until : ℕ) (line : List ℕ) : Type 0 where
  pub trace : Recorded
  pub run : IsRunOf c trace
  pub tells : TellsSince set trace (decisions c trace.steps) since until line

-- The line reports the bounds of the trace of a run of the configuration, and none of its decisions.
pub record TellsOfEnd (c : Setup) (set : ℕ) (line : List ℕ) : Type 0 where
  pub trace : Recorded
  pub run : IsRunOf c trace
  pub tells : TellsOf set trace [] line

-- it does, or reports that the follower stops
abbrev pub IsEndLine : Setup → ℕ → List ℕ → Type 0
IsEndLine c set line = TellsOfEnd c set line ⊎ (line ≡ told_stop)

-- a line after those of the decisions up to step `since`; it reports those up to step `until`, or none
abbrev pub IsLine : Setup → ℕ → ℕ → ℕ → List ℕ → Type 0
IsLine c set since until line = TellsOfRun c set since until line ⊎ ((since ≤ until) × IsEndLine c set line)

-- So many first bytes of one such line went out: all of them, unless the writer failed; none if nothing was printed.
pub record HasBegun (Line : List ℕ → Type 0) (before after : Option (List ℕ)) : Type 0 where
  pub line : List ℕ
  pub line_is : Line line
  pub count : ℕ
  pub out : Appends before after (take count line)

-- One such line went out whole.
pub record HasToldOne (Line : List ℕ → Type 0) (before after : Option (List ℕ)) : Type 0 where
  pub line : List ℕ
  pub line_is : Line line
  pub out : Appends before after line

-- the first bytes of such a line, or all of it
pub record IsPartOf (Line : List ℕ → Type 0) (part : List ℕ) : Type 0 where
  pub line : List ℕ
  pub line_is : Line line
  pub count : ℕ
  pub part_is : part ≡ take count line

-- parts of lines, each with the decisions after those of the one before; so each decision is in one line at most
unfoldable pub AreParts : (ℕ → ℕ → List ℕ → Type 0) → ℕ → ℕ → List (List ℕ) → Type 0
AreParts Line since until [] = since ≡ until
AreParts Line since until (part ∷ parts) = (next : ℕ) × IsPartOf (Line since next) part × AreParts Line next until parts

-- So of lines one after the other.
pub record HasTold (Line : ℕ → ℕ → List ℕ → Type 0) (since until : ℕ) (before after : Option (List ℕ)) : Type 0 where
  pub parts : List (List ℕ)
  pub each : AreParts Line since until parts
  pub out : Appends before after (flat_map (λ part. part) parts)

-- A follower of a run of the configuration, in which so many steps are to be made: it has seen none of them, and its
-- writer is the one that was lent.
pub record IsFreshFollower {T : Type 0} (c : Setup) (all : ℕ) (writer : Counting T) (f : Follower T) : Type 0 where
  pub analyst : f.analyst ≡ opening c f.analyst.set
  pub all_is : f.all ≡ all
  pub told : f.told ≡ 0
  pub fed : f.fed ≡ 0
  pub goes_on : f.is_over ≡ false
  pub writer_is : f.writer ≡ writer

-- A line is due as before, and a follower that was over stays over.
pub record GoesOnAlike {T : Type 0} (old new : Follower T) : Type 0 where
  pub all : new.all ≡ old.all
  pub told : new.told ≡ old.told
  pub is_over : new.is_over ≡ old.is_over

-- all that the follower, if there is one, printed meanwhile are such lines of runs of the configuration, for its set
abbrev pub HasFollowed : {T : Type 0} → (T → Option (List ℕ)) → Setup → Option (Follower T)
    → Option (Follower T) → Type 0
HasFollowed contents c None new = new ≡ None
HasFollowed contents c (Some old) None = ⊥
HasFollowed contents c (Some old) (Some new) = (new.analyst.set ≡ old.analyst.set)
    × ((until : ℕ) × HasTold (IsLine c old.analyst.set) old.told until (contents (inner_of old.writer))
    (contents (inner_of new.writer)))

-- all that it printed at the end is one such line, without decisions
abbrev pub HasToldEnd : {T : Type 0} → (T → Option (List ℕ)) → Setup → Option (Follower T)
    → Option (Follower T) → Type 0
HasToldEnd contents c None new = new ≡ None
HasToldEnd contents c (Some old) None = ⊥
HasToldEnd contents c (Some old) (Some new) =
    (new.analyst.set ≡ old.analyst.set) × HasBegun (IsEndLine c old.analyst.set) (contents (inner_of old.writer))
    (contents (inner_of new.writer))

-- not all steps are made yet, but a portion of them since the last line
abbrev pub IsDue : ℕ → ℕ → ℕ → Type 0
IsDue all told count = (count < all) × (all ≤ (count - told) * PORTIONS)

-- the processors for which a run is followed are among n
abbrev pub AreAmong : Option Correct → ℕ → Type 0
AreAmong None n = ⊤
AreAmong (Some correct) n = IsWithin (named correct n) n

-- there are such processors, with one above n
abbrev pub IsSetRefusal : Option Correct → ℕ → Fault → Type 0
IsSetRefusal (Some correct) n why = IsSetFault option.Follow (named correct n) n why
IsSetRefusal None n why = ⊥
