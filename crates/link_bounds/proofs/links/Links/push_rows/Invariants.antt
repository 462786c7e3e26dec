use Rattle.std.proofs.Common.{ℕ, ◌+◌}
use Rattle.step_trace.specs.Processors.{IsWithin}
use Rattle.step_trace.specs.Ticks.{IsTimed}
use Rattle.step_trace.specs.Traces.{Recorded}
use Rattle.link_bounds.specs.declared.links.TheConstants.{RECEIVERS}
use Rattle.link_bounds.specs.Passes.{KnowsLinksFrom, ListsBefore}
use Rattle.link_bounds.proofs.links.Links.push_rows.Given as goal

-- the links before `place` are listed
abbrev pub invariant-loop-place : goal.invariant-loop-place
invariant-loop-place l = (set : ℕ) (trace : Recorded) (at : ℕ) → IsTimed trace → IsWithin set trace.config.n → KnowsLinksFrom
    set trace at l.self → ListsBefore set trace at RECEIVERS l.fn.rows.items → ListsBefore set trace at (RECEIVERS + l.place) l.rows.items
