-- What is known of the gaps of each processor after a step.
use Rattle.std.specs.Prelude.{ℕ, ◌≡◌, ◌+◌, ◌-◌, ◌≤◌, length, slice_index, slice_index_or}
use Rattle.step_trace.specs.declared.rows.Gap.{Gap}
use Rattle.step_trace.specs.declared.processors.TheConstants.{MAX_MEMBER}
use Rattle.step_trace.specs.Traces.{Recorded}
use Rattle.step_trace.specs.Ticks.{IsTrace}
use Rattle.step_trace.specs.Witnesses.{IsGap}
use Rattle.suffix_staircase.specs.NextSteps.{AreNextTicks}
use Rattle.link_bounds.specs.declared.bounds.LeastBound.{LeastBound}
use Rattle.link_bounds.specs.declared.paces.Paces.{Paces}
use Rattle.link_bounds.specs.Links.{only}
use Rattle.link_bounds.specs.Evidence.{AllowsAll, noted, without_evidence}

-- a gap of p that begins in tick g or later
pub record IsOwnGap (trace : Recorded) (p g : ℕ) (w : Gap) : Type 0 where
  pub gap : IsGap (only p) trace w
  pub from : g ≤ w.from

-- all gaps of p that begin in tick g or later allow this bound; of equally long ones the latest is named
abbrev pub KnowsGapsOf : Recorded → ℕ → ℕ → LeastBound Gap → Type 0
KnowsGapsOf trace p g bound = AllowsAll Gap (IsOwnGap trace p g) (λ w. w.from) (λ w. w.from) (λ w. w.to + 1) bound

-- what is known of the gaps of each processor after number done
pub record KnowsPaces (trace : Recorded) (done : ℕ) (paces : Paces) : Type 0 where
  pub sound : IsTrace trace
  pub few : trace.config.n ≤ MAX_MEMBER
  pub next : AreNextTicks (λ p. 1 ≤ p) trace done paces.next_steps.items
  pub long : length paces.bounds.items ≡ trace.config.n + 1
  pub each : (p : ℕ) → 1 ≤ p → p ≤ trace.config.n → KnowsGapsOf trace p (slice_index paces.next_steps.items p)
      (slice_index_or paces.bounds.items p without_evidence)

-- the bound of p, with the gap from tick g to before its next step if the bound allows none so long
abbrev pub bound_from : Paces → ℕ → ℕ → LeastBound Gap
bound_from paces p g =
    let until = slice_index paces.next_steps.items p in
    noted (slice_index_or paces.bounds.items p without_evidence)
    (record { proc = p; from = g; to = until - 1 }) (until - g)
