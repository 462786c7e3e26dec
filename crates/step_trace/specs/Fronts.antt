-- Triples of a stabilization time, a communication bound and a processor bound, and their front. (Own;
-- section 2 has the bounds, and the global stabilization time from which they hold.)
use Rattle.std.specs.Prelude.{ℕ, ◌<◌, ◌≤◌, List, map, Contains, ◌⊎◌}
use Rattle.std.specs.List.Sorted.{IsStrictlyIncreasing}
use Rattle.step_trace.specs.declared.rows.Row.{Row}
use Rattle.step_trace.specs.Traces.{Recorded}
use Rattle.step_trace.specs.Bounds.{DeltaHolds, PhiHolds}
use Rattle.step_trace.specs.Witnesses.{NamesMiss, NamesGap}

-- a stabilization time, a communication bound and a processor bound, in ticks
pub record Triple : Type 0 where
  pub gst : ℕ
  pub delta : ℕ
  pub phi : ℕ

-- both bounds are positive and hold from a tick of the trace
pub record IsFeasible (set : ℕ) (trace : Recorded) (t : Triple) : Type 0 where
  pub start : 1 ≤ t.gst
  pub end : t.gst ≤ trace.last
  pub delta_positive : 1 ≤ t.delta
  pub phi_positive : 1 ≤ t.phi
  pub delta : DeltaHolds set trace t.gst t.delta
  pub phi : PhiHolds set trace t.gst t.phi

-- nowhere greater, and somewhere smaller
pub record Dominates (a b : Triple) : Type 0 where
  pub gst : a.gst ≤ b.gst
  pub delta : a.delta ≤ b.delta
  pub phi : a.phi ≤ b.phi
  pub smaller : (a.gst < b.gst) ⊎ ((a.delta < b.delta) ⊎ (a.phi < b.phi))

-- a feasible triple that no feasible triple dominates
pub record IsOnFront (set : ℕ) (trace : Recorded) (t : Triple) : Type 0 where
  pub feasible : IsFeasible set trace t
  pub undominated : (o : Triple) → IsFeasible set trace o → ¬ Dominates o t

-- the triple of a row
abbrev pub triple_of : Row → Triple
triple_of r = record { gst = r.gst; delta = r.delta; phi = r.phi }

-- a triple of the front with its named witnesses
pub record IsReportRow (set : ℕ) (trace : Recorded) (r : Row) : Type 0 where
  pub front : IsOnFront set trace (triple_of r)
  pub miss : NamesMiss set trace r.gst r.delta r.miss
  pub gap : NamesGap set trace r.gst r.phi r.gap

-- the report: the front in rising stabilization time, each triple with its named witnesses
pub record IsReport (set : ℕ) (trace : Recorded) (rows : List Row) : Type 0 where
  pub rising : IsStrictlyIncreasing (map (λ r. r.gst) rows)
  pub sound : (r : Row) → Contains rows r → IsReportRow set trace r
  pub complete : (t : Triple) → IsOnFront set trace t → Contains (map triple_of rows) t
