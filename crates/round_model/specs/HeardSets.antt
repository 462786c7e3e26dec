-- Tables of who heard whom: for each processor and each round the set of the senders heard.
use Rattle.std.specs.Prelude.{ℕ, zero, suc, ◌≡◌, ◌≤◌, List, [], length, map, All, Vec, slice_index_or}
use Rattle.step_trace.specs.declared.configurations.TheConstants.{MIN_PROCESSORS, MAX_PROCESSORS}
use Rattle.step_trace.specs.Processors.{has_proc, IsWithin}
use Rattle.round_model.specs.declared.heard_sets.TheConstants.{MAX_ROUNDS}
use Rattle.round_model.specs.RoundStates.{Table}

-- so many processors and so many rounds, and for each processor the sets of its rounds, in their order
pub record HeardTable : Type 0 where
  pub n : ℕ
  pub rounds : ℕ
  pub sets : List (List ℕ)

-- rows of vectors as lists
abbrev pub rows_of : {X A : Type 0} → List (Vec X A) → List (List X)
rows_of rows = map (λ row. row.items) rows

-- the element with this number, which counts from 1, or d if there is none
abbrev pub numbered : {X : Type 0} → X → List X → ℕ → X
numbered d xs zero = d
numbered d xs (suc k) = slice_index_or xs k d

-- the set of the senders that p hears in a round: no sender outside the table
abbrev pub heard_set : HeardTable → ℕ → ℕ → ℕ
heard_set h p round = numbered 0 (numbered [] h.sets p) round

-- the same as a table: who hears whom in a round
abbrev pub table_of : HeardTable → Table
table_of h p round sender = has_proc (heard_set h p round) sender

-- A table within the limits (own) of processors and rounds. It has a set for each processor and each
-- round, and all senders are processors.
pub record IsHeardTable (h : HeardTable) : Type 0 where
  pub least : MIN_PROCESSORS ≤ h.n
  pub most : h.n ≤ MAX_PROCESSORS
  pub limit : h.rounds ≤ MAX_ROUNDS
  pub processors : length h.sets ≡ h.n
  pub lengths : All (λ sets. length sets ≡ h.rounds) h.sets
  pub within : All (λ sets. All (λ set. IsWithin set h.n) sets) h.sets
