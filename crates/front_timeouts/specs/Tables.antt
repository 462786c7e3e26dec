-- The timeouts of followers.
use Rattle.std.specs.Prelude.{ℕ, ◌≡◌, ◌≤◌, List, [], ◌∷◌, Option, Some, None, All, map, Contains}
use Rattle.step_trace.specs.declared.rows.Row.{Row}
use Rattle.step_trace.specs.Traces.{Recorded}
use Rattle.step_trace.specs.Fronts.{IsReport}
use Rattle.front.specs.Reports.{row_at}
use Rattle.timeouts.specs.declared.timeouts.Timeout.{Timeout}
use Rattle.timeouts.specs.declared.timeouts.Turns.{Turns}
use Rattle.timeouts.specs.Timeouts.{AreTimeouts}
use Rattle.front_timeouts.specs.declared.tables.FollowerTimeouts.{FollowerTimeouts}
use Rattle.front_timeouts.specs.Followers.{IsPair}
use Rattle.front_timeouts.specs.TimeoutTexts.{timeouts_text, AreOf64, StandsFor}

-- the tick is one of the trace
abbrev pub IsInside : Recorded → ℕ → Type 0
IsInside trace tick = (1 ≤ tick) × (tick ≤ trace.last)

-- the rows of a report, or the one of them that applies to a tick
abbrev pub AreRowsAt : Recorded → Option ℕ → List Row → List Row → Type 0
AreRowsAt trace None report rows = rows ≡ report
AreRowsAt trace (Some tick) report rows = (row : Row)
    × (row_at (record { len = trace.last; rows = report }) tick ≡ Some row) × (rows ≡ row ∷ [])

-- the timeouts of the follower q of p, for these rows of the report of this set
pub record AreTimeoutsFor (set : ℕ) (trace : Recorded) (p q : ℕ) (given : Turns) (at : Option ℕ)
    (ts : List Timeout) : Type 0 where
  pub report : List Row
  pub exact : IsReport set trace report
  pub rows : List Row
  pub asked : AreRowsAt trace at report rows
  pub timeouts : AreTimeouts trace p q given rows ts

-- The set is the leader and the follower alone.
pub record IsFollowed (trace : Recorded) (p : ℕ) (given : Turns) (at : Option ℕ) (f : FollowerTimeouts) : Type 0 where
  pub set : ℕ
  pub pair : IsPair p f.follower set
  pub timeouts : AreTimeoutsFor set trace p f.follower given at f.timeouts.items

-- the timeouts of these followers, in their order
pub record AreFollowed (trace : Recorded) (p : ℕ) (given : Turns) (at : Option ℕ) (followers : List ℕ)
    (all : List FollowerTimeouts) : Type 0 where
  pub order : map (λ f. f.follower) all ≡ followers
  pub each : (f : FollowerTimeouts) → Contains all f → IsFollowed trace p given at f

-- The text is that of the timeouts of these followers of p, which csv reads back from it, as far as numbers have 64
-- bits.
pub record IsTimeoutsText (trace : Recorded) (p : ℕ) (followers : List ℕ) (given : Turns) (at : Option ℕ)
    (out : List ℕ) : Type 0 where
  pub all : List FollowerTimeouts
  pub followed : AreFollowed trace p given at followers all
  pub written : out ≡ timeouts_text all
  pub read : All AreOf64 all → StandsFor out all
