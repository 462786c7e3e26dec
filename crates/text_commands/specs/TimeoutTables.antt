-- How long the followers of a leader have to wait, as the program reports it by a trace.
use Rattle.std.specs.Prelude.{ℕ, ◌≡◌, ◌+◌, ◌<◌, ◌≤◌, List, length, Option, Some, None, unwrap_or, ⊤}
use Rattle.step_trace.specs.declared.correct_sets.Correct.{Correct}
use Rattle.step_trace.specs.declared.processors.TheConstants.{MAX_MEMBER}
use Rattle.step_trace.specs.CorrectSets.{named}
use Rattle.step_trace.specs.Processors.{IsWithin}
use Rattle.step_trace.specs.Traces.{Recorded}
use Rattle.timeouts.specs.declared.timeouts.Turns.{Turns}
use Rattle.front_timeouts.specs.Followers.{AreReceivers, members_to}
use Rattle.front_timeouts.specs.Tables.{IsTimeoutsText}
use Rattle.command_options.specs.declared.TimeoutTable.{TimeoutTable}
use Rattle.command_faults.specs.declared.faults.Fault.{Fault}
use Rattle.command_faults.specs.declared.faults.Fault.TheVariants as fault
use Rattle.command_faults.specs.declared.faults.MemberOutside.{MemberOutside}
use Rattle.command_faults.specs.declared.faults.ReportOption.{ReportOption}
use Rattle.command_faults.specs.declared.faults.ReportOption.TheVariants as option
use Rattle.command_faults.specs.declared.faults.SetOption.TheVariants as set_option
use Rattle.command_faults.specs.declared.faults.TickOutside.{TickOutside}
use Rattle.command_faults.specs.Outside.{IsMemberOutside}
use Rattle.text_verdicts.specs.Cuts.{IsReportedTo}
use Rattle.text_commands.specs.ReportParts.{IsNoTickOf}

-- how often the leader sends and the follower receives; 0 denotes what isn't known
abbrev pub turns_of : TimeoutTable → Turns
turns_of o = record { every = unwrap_or o.every 0; polls = unwrap_or o.polls 0 }

-- there are all followers that are named, if there are n processors
abbrev pub HasFollowers : Option Correct → ℕ → Type 0
HasFollowers None n = ⊤
HasFollowers (Some followers) n = IsWithin (named followers n) n

-- the followers: those that are named, or all to which the leader sends
abbrev pub AreFollowersOf : Option Correct → ℕ → Recorded → ℕ → Type 0
AreFollowersOf None p t set = AreReceivers t.steps p (length t.steps + 1) set
AreFollowersOf (Some followers) p t set = set ≡ named followers t.config.n

-- The text is that of the timeouts of the followers, in rising order, by this trace.
pub record IsTableOf (o : TimeoutTable) (t : Recorded) (out : List ℕ) : Type 0 where
  pub followers : ℕ
  pub are : AreFollowersOf o.to o.from t followers
  pub told : IsTimeoutsText t o.from (members_to followers MAX_MEMBER) (turns_of o) o.at out

-- there is the leader, and all followers that are named, if there are n processors
abbrev pub HasLink : TimeoutTable → ℕ → Type 0
HasLink o n = (o.from ≤ n) × HasFollowers o.to n

-- The trace has leader and followers. The text is that of their timeouts by the trace, or by the trace up to the tick
-- that is asked for.
pub record AreTimeoutsOf (o : TimeoutTable) (t : Recorded) (out : List ℕ) : Type 0 where
  pub link : HasLink o t.config.n
  pub reported : Recorded
  pub until : IsReportedTo o.until t reported
  pub table : IsTableOf o reported out

-- the leader is above n; its number is reported, and how many processors there are
pub record IsLeaderOutside (p n : ℕ) (m : MemberOutside) : Type 0 where
  pub leader : m.member ≡ p
  pub above : n < p
  pub count : m.count ≡ n

-- followers are named of which some are above n; the least of them is reported, and n
abbrev pub IsFollowerOutside : Option Correct → ℕ → MemberOutside → Type 0
IsFollowerOutside None n m = ⊥
IsFollowerOutside (Some followers) n m = IsMemberOutside (named followers n) n m

-- why there is no link: the leader, or else a follower
abbrev pub IsLinkFault : TimeoutTable → ℕ → Fault → Type 0
IsLinkFault o n (fault.Set set_option.From m) = IsLeaderOutside o.from n m
IsLinkFault o n (fault.Set set_option.To m) = (o.from ≤ n) × IsFollowerOutside o.to n m
IsLinkFault o n _ = ⊥

-- which tick the trace hasn't: the one up to which it counts, or, up to that, the one whose row is asked for
abbrev pub IsNoTickFor : TimeoutTable → Recorded → ReportOption → TickOutside → Type 0
IsNoTickFor o t option.Until x = IsNoTickOf o.until t x
IsNoTickFor o t option.At x = (reported : Recorded) × IsReportedTo o.until t reported × IsNoTickOf o.at reported x
IsNoTickFor o t option.Start x = ⊥

-- why there is no table: the leader or a follower, or else a tick
abbrev pub IsNoTable : TimeoutTable → Recorded → Fault → Type 0
IsNoTable o t (fault.Report which x) = HasLink o t.config.n × IsNoTickFor o t which x
IsNoTable o t w = IsLinkFault o t.config.n w
