-- Evidence that a claim isn't kept in time (own).
use Rattle.std.specs.Prelude.{ℕ, ◌≡◌, ◌≤◌, ◌<◌, ◌+◌, List, Some, slice_get}
use Rattle.step_trace.specs.Traces.{Recorded}
use Rattle.step_trace.specs.Ticks.{IsTrace}
use Rattle.step_trace.specs.Cuts.{IsCutAt}
use Rattle.step_trace.specs.declared.rows.Row.{Row}
use Rattle.step_trace.specs.Fronts.{Triple, IsFeasible, IsReport, triple_of}
use Rattle.decision_claims.specs.declared.decisions.Decision.{Decision}
use Rattle.decision_claims.specs.declared.lateness.Late.{Late}
use Rattle.decision_claims.specs.Decisions.{HaveDecidedBy}
use Rattle.decision_claims.specs.LateRows.{IsFirstLate, IsLeastUndecided}
use Rattle.judged_runs.specs.declared.prefixes.Ahead.{Ahead}
use Rattle.judged_runs.specs.declared.prefixes.Looked.{Looked}
use Rattle.judged_runs.specs.declared.prefixes.Looked.TheVariants.{LateBy, GoOn}

-- the deadlines before tick x are kept in time
pub record KeepsBefore (set : ℕ) (trace : Recorded) (decisions : List Decision) (deadline : Triple → ℕ)
    (x : ℕ) : Type 0 where
  pub each : (t : Triple) (cut : Recorded) → deadline t < x → IsTrace cut → IsCutAt trace (deadline t) cut
      → IsFeasible set cut t → HaveDecidedBy set decisions (deadline t)

-- the first row of the report that refutes the claim
pub record IsLateByReport (set : ℕ) (trace : Recorded) (decisions : List Decision) (deadline : Triple → ℕ)
    (w : Late) : Type 0 where
  pub rows : List Row
  pub report : IsReport set trace rows
  pub first : IsFirstLate set trace rows decisions deadline w

-- The bounds of the row hold from its stabilization time up to the deadline, a tick of the trace. The processor is the
-- least member that had not decided by it. Each earlier deadline was kept. Of the report on the prefix that ends with
-- the deadline, the row is the first one that refutes the claim.
pub record IsLateInTime (set : ℕ) (trace : Recorded) (decisions : List Decision) (deadline : Triple → ℕ)
    (w : Late) : Type 0 where
  pub by : w.deadline ≡ deadline (triple_of w.row)
  pub due : w.deadline ≤ trace.last
  pub proc : IsLeastUndecided set decisions w.deadline w.proc
  pub feasible : (cut : Recorded) → IsTrace cut → IsCutAt trace w.deadline cut → IsFeasible set cut (triple_of w.row)
  pub first : KeepsBefore set trace decisions deadline w.deadline
  pub row : (cut : Recorded) → IsTrace cut → IsCutAt trace w.deadline cut → IsLateByReport set cut decisions deadline w

-- No bounds that hold from tick `after` or an earlier one on, in a prefix that ends in tick x or later, have a deadline
-- before tick y.
pub record AreOldLater (set : ℕ) (trace : Recorded) (deadline : Triple → ℕ) (x after y : ℕ) : Type 0 where
  pub each : (t : Triple) (z : ℕ) (cut : Recorded) → x ≤ z → IsTrace cut → IsCutAt trace z cut → IsFeasible set cut t
      → t.gst ≤ after → y ≤ deadline t

-- No deadline falls into a tick from x on that is before y.
pub record AreNoneDue (set : ℕ) (trace : Recorded) (deadline : Triple → ℕ) (x y : ℕ) : Type 0 where
  pub each : (t : Triple) (cut : Recorded) → x ≤ deadline t → deadline t < y → IsTrace cut
      → IsCutAt trace (deadline t) cut → ¬ IsFeasible set cut t

-- A glance at the prefix that ends in tick x goes on there: no deadline is due before, and none of old bounds is
-- earlier than that.
pub record IsGlance (set : ℕ) (trace : Recorded) (deadline : Triple → ℕ) (x : ℕ) (a : Ahead) : Type 0 where
  pub none : AreNoneDue set trace deadline x a.tick
  pub order : a.after ≤ a.tick
  pub old : AreOldLater set trace deadline a.tick a.after a.old

-- A search goes on at this tick: each deadline before it is kept, and none of old bounds is earlier than that.
pub record IsAhead (set : ℕ) (trace : Recorded) (decisions : List Decision) (deadline : Triple → ℕ)
    (a : Ahead) : Type 0 where
  pub before : KeepsBefore set trace decisions deadline a.tick
  pub order : a.after ≤ a.tick
  pub old : AreOldLater set trace deadline a.tick a.after a.old

-- what a look at the prefix that ends in tick x finds, if each deadline before x was kept
abbrev pub IsLook : ℕ → Recorded → List Decision → (Triple → ℕ) → ℕ → Looked → Type 0
IsLook set trace decisions deadline x (LateBy w) = IsLateInTime set trace decisions deadline w
IsLook set trace decisions deadline x (GoOn next) = (x < next.tick) × IsAhead set trace decisions deadline next

-- the least bounds that there are, from the tick after x on
abbrev pub begun_after : ℕ → Triple
begun_after x = record { gst = x + 1; delta = 1; phi = 1 }

-- A tick after x. If it isn't the next one, no row that begins by x has an earlier deadline, and no bounds that hold
-- from a tick after x on.
pub record IsNextTick (rows : List Row) (deadline : Triple → ℕ) (x next : ℕ) : Type 0 where
  pub later : x < next
  pub of_rows : x + 1 < next → (k : ℕ) (r : Row) → slice_get rows k ≡ Some r → r.gst ≤ x → next ≤ deadline (triple_of r)
  pub of_others : x + 1 < next → next ≤ deadline (begun_after x)

-- no deadline is earlier of those of these rows that begin by this tick
pub record AreNoEarlier (rows : List Row) (deadline : Triple → ℕ) (until y : ℕ) : Type 0 where
  pub each : (k : ℕ) (r : Row) → slice_get rows k ≡ Some r → r.gst ≤ until → y ≤ deadline (triple_of r)

-- the bounds fall from row to row
pub record AreFalling (rows : List Row) : Type 0 where
  pub delta : (j k : ℕ) (a b : Row) → j < k → slice_get rows j ≡ Some a → slice_get rows k ≡ Some b → b.delta ≤ a.delta
  pub phi : (j k : ℕ) (a b : Row) → j < k → slice_get rows j ≡ Some a → slice_get rows k ≡ Some b → b.phi ≤ a.phi

-- The search goes on at such a tick, after the prefix that ends in tick x. By these rows none of old bounds has an
-- earlier deadline.
pub record IsNextLook (rows : List Row) (deadline : Triple → ℕ) (x : ℕ) (a : Ahead) : Type 0 where
  pub tick : IsNextTick rows deadline x a.tick
  pub order : a.after ≤ x
  pub old : AreNoEarlier rows deadline a.after a.old
