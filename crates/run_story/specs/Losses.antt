-- The few receivers of most lost messages (own).
use Rattle.std.specs.Prelude.{ℕ, ◌≡◌, ◌+◌, ◌*◌, ◌≤◌, ◌&&◌, ◌||◌, ◌==◌, ◌++◌, ◌∷◌, Bool, nat_le, nat_lt}
use Rattle.std.specs.Prelude.{List, [], length, slice_index_or, suc, zero, if◌then◌else◌}
use Rattle.step_trace.specs.Processors.{has_proc}
use Rattle.step_trace.specs.Traces.{Recorded}
use Rattle.run_story.specs.declared.losses.LostReceivers.{LostReceivers}
use Rattle.run_story.specs.declared.losses.TheConstants.{FEW, LEAST_LOST, MOST}
use Rattle.run_story.specs.MessageCounts.{count_of, is_lost}
use Rattle.run_story.specs.Messages.{receiver_of}

-- how many of the first n messages are lost ones for p
abbrev pub lost_for : ℕ → Recorded → ℕ → ℕ → ℕ
lost_for set trace p n = count_of (λ s. is_lost set trace s && receiver_of trace.steps s == p) n

-- how many are for p, in a list with a count for each processor
abbrev pub count_at : List ℕ → ℕ → ℕ
count_at counts p = slice_index_or counts p 0

-- the shares of the first n processors together
abbrev pub sum_to : (ℕ → ℕ) → ℕ → ℕ
sum_to share zero = 0
sum_to share (suc n) = sum_to share n + share (suc n)

-- whether q comes before p: more are for it, or as many and its number is smaller
abbrev pub comes_before : List ℕ → ℕ → ℕ → Bool
comes_before counts p q = nat_lt (count_at counts p) (count_at counts q) ||
    (count_at counts q == count_at counts p && nat_lt q p)

-- how many are for q, if it comes before p
abbrev pub share_before : List ℕ → ℕ → ℕ → ℕ
share_before counts p q = if comes_before counts p q then count_at counts q else 0

-- whether p is one of the fewest of n processors that most are for: those before it have less
abbrev pub is_needed : ℕ → List ℕ → ℕ → Bool
is_needed n counts p = nat_lt (100 * sum_to (share_before counts p) n) (MOST * sum_to (count_at counts) n)

-- how many are for p, if it is one of them
abbrev pub share_needed : ℕ → List ℕ → ℕ → ℕ
share_needed n counts p = if is_needed n counts p then count_at counts p else 0

-- those of the first k processors that are
abbrev pub needed_to : ℕ → List ℕ → ℕ → List ℕ
needed_to n counts zero = []
needed_to n counts (suc k) = if is_needed n counts (suc k) then needed_to n counts k
    ++ suc k ∷ [] else needed_to n counts k

-- whether enough are lost, and so many receivers are few among so many members
abbrev pub are_few : ℕ → List ℕ → ℕ → ℕ → Bool
are_few n counts who members = nat_le LEAST_LOST (sum_to (count_at counts) n) && nat_le (FEW * who) members

-- the fewest that most are for, unless too few are lost, or these receivers are too many
abbrev pub few_of : ℕ → List ℕ → ℕ → List ℕ
few_of n counts members = if are_few n counts (length (needed_to n counts n)) members then needed_to n counts n else []

-- these receivers, and how many are for the fewest
pub record AreFewOf (n : ℕ) (counts : List ℕ) (members : ℕ) (found : LostReceivers) : Type 0 where
  pub who : found.who.items ≡ few_of n counts members
  pub lost : found.lost ≡ sum_to (share_needed n counts) n

-- the few receivers of most lost messages
pub record AreLostReceivers (set : ℕ) (trace : Recorded) (found : LostReceivers) : Type 0 where
  pub counts : List ℕ
  pub each : (p : ℕ) → p ≤ trace.config.n → count_at counts p ≡ lost_for set trace p (length trace.steps)
  pub few : AreFewOf trace.config.n counts (count_of (has_proc set) trace.config.n) found
