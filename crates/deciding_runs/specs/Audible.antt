-- Whom a processor may hear in a round, as far as its own node knows (own; by the table of Algorithm 1).
use Rattle.std.specs.Prelude.{ℕ, Bool, true, false, is_some, not, ◌==◌, ◌&&◌, ◌||◌}
use Rattle.step_trace.specs.Configurations.{Setup}
use Rattle.lock_phases.specs.Rounds.{phase_of, part_of, owner, Part, Listing, Locking}
use Rattle.lock_phases.specs.Rounds.{Acknowledging, Releasing, part_at}
use Rattle.lock_phases.specs.Nodes.{State}

-- Whom p, with this node, may hear in each part of a phase. The owner may be sent lists, and acknowledgements if it
-- has a proposal. It may send a lock, unless it is p itself and has no proposal. All send their locks.
abbrev pub may_hear_in : Part → State → ℕ → ℕ → ℕ → Bool
may_hear_in Listing node owner p q = p == owner
may_hear_in Locking node owner p q = q == owner && (not (p == owner) || is_some node.proposal)
may_hear_in Acknowledging node owner p q = p == owner && is_some node.proposal
may_hear_in Releasing node owner p q = true

-- whether p, with this node, may hear q in a round
abbrev pub may_hear : Setup → State → ℕ → ℕ → ℕ → Bool
may_hear c node round p q = may_hear_in (part_at (part_of round)) node (owner c.n (phase_of round)) p q

-- whether p may hear everybody in a part of a phase
abbrev pub may_hear_all_in : Part → State → ℕ → ℕ → Bool
may_hear_all_in Listing node owner p = p == owner
may_hear_all_in Locking node owner p = false
may_hear_all_in Acknowledging node owner p = p == owner && is_some node.proposal
may_hear_all_in Releasing node owner p = true

-- whether p, with this node, may hear everybody in a round
abbrev pub may_hear_all : Setup → State → ℕ → ℕ → Bool
may_hear_all c node round p = may_hear_all_in (part_at (part_of round)) node (owner c.n (phase_of round)) p
