-- What is known of the misses of each link after a step.
use Rattle.std.specs.Prelude.{ℕ, ◌≡◌, ◌+◌, ◌*◌, ◌<◌, ◌≤◌, length, slice_index_or, Option, Some, None}
use Rattle.step_trace.specs.declared.rows.Miss.{Miss}
use Rattle.step_trace.specs.declared.processors.TheConstants.{MAX_MEMBER}
use Rattle.step_trace.specs.Traces.{Recorded}
use Rattle.step_trace.specs.Ticks.{tick_of}
use Rattle.link_bounds.specs.declared.bounds.LeastBound.{LeastBound}
use Rattle.link_bounds.specs.declared.links.Links.{Links}
use Rattle.link_bounds.specs.declared.links.TheConstants.{RECEIVERS}
use Rattle.link_bounds.specs.Evidence.{AllowsAll}
use Rattle.link_bounds.specs.Links.{IsMessageOn, IsLinkMiss}

-- a miss of a message of p to q after number done
pub record IsLaterMiss (set : ℕ) (trace : Recorded) (p q done : ℕ) (m : Miss) : Type 0 where
  pub miss : IsLinkMiss set trace p q m
  pub after : done < m.sent

-- all of these misses allow this bound; of equally long ones that of the last message is named
abbrev pub KnowsMissesOf : ℕ → Recorded → ℕ → ℕ → ℕ → LeastBound Miss → Type 0
KnowsMissesOf set trace p q done bound = AllowsAll Miss (IsLaterMiss set trace p q done) (λ m. m.sent)
    (λ m. tick_of trace m.sent) (λ m. tick_of trace m.missed) bound

-- what is known of a link after number done: it has no message there, or it has one, and a bound
abbrev pub KnowsLink : ℕ → Recorded → ℕ → ℕ → ℕ → Option (LeastBound Miss) → Type 0
KnowsLink set trace p q done None = (s : ℕ) → done < s → ¬ IsMessageOn set trace.steps p q s
KnowsLink set trace p q done (Some bound) = ((s : ℕ) × (done < s) × IsMessageOn set trace.steps p q s)
    × KnowsMissesOf set trace p q done bound

-- where the bound of a link is
abbrev pub place_of : ℕ → ℕ → ℕ
place_of p q = p * RECEIVERS + q

-- what is known of all links after number done
pub record KnowsLinks (set : ℕ) (trace : Recorded) (done : ℕ) (links : Links) : Type 0 where
  pub long : length links.bounds.items ≡ (trace.config.n + 1) * RECEIVERS
  pub each : (p q : ℕ) → p ≤ trace.config.n → q ≤ MAX_MEMBER
      → KnowsLink set trace p q done (slice_index_or links.bounds.items (place_of p q) None)
