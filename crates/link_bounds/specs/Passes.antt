-- What a backward pass knows after a step, and the rows that were listed so far.
use Rattle.std.specs.Prelude.{ℕ, ◌≡◌, ◌+◌, ◌<◌, ◌≤◌, List, Some, Contains, AllPairs, IsTrue}
use Rattle.step_trace.specs.declared.rows.Miss.{Miss}
use Rattle.step_trace.specs.declared.rows.Gap.{Gap}
use Rattle.step_trace.specs.declared.steps.Step.{Step}
use Rattle.step_trace.specs.Processors.{has_proc}
use Rattle.step_trace.specs.Traces.{Recorded, step_at}
use Rattle.step_trace.specs.Ticks.{tick_of}
use Rattle.suffix_staircase.specs.Receives.{KnowsReceives}
use Rattle.link_bounds.specs.declared.bounds.LeastBound.{LeastBound}
use Rattle.link_bounds.specs.declared.links.TheConstants.{RECEIVERS}
use Rattle.link_bounds.specs.declared.links.Links.{Links}
use Rattle.link_bounds.specs.declared.paces.Paces.{Paces}
use Rattle.link_bounds.specs.declared.passes.Pass.{Pass}
use Rattle.link_bounds.specs.declared.rows.BoundRow.{BoundRow}
use Rattle.link_bounds.specs.declared.rows.BoundRow.TheVariants.{Phi, Delta}
use Rattle.link_bounds.specs.KnownGaps.{KnowsPaces}
use Rattle.link_bounds.specs.KnownMisses.{KnowsLinks, place_of}
use Rattle.link_bounds.specs.Rows.{IsRow, IsSentFrom, Precedes}

-- what a pass over these members knows that has gone back over the steps after number done
pub record KnowsAfter (set : ℕ) (trace : Recorded) (done : ℕ) (pass : Pass) : Type 0 where
  pub members : pass.set ≡ set
  pub receives : KnowsReceives set trace done pass.receives
  pub paces : KnowsPaces trace done pass.paces
  pub links : KnowsLinks set trace done pass.links

-- the steps up to number done are those before tick g
pub record AreBefore (trace : Recorded) (g done : ℕ) : Type 0 where
  pub below : (k : ℕ) (x : Step) → step_at trace.steps k ≡ Some x → k ≤ done → tick_of trace k < g
  pub above : (k : ℕ) (x : Step) → step_at trace.steps k ≡ Some x → done < k → g ≤ tick_of trace k

-- the pass has gone back over the steps from tick g on
pub record KnowsFrom (set : ℕ) (trace : Recorded) (g : ℕ) (pass : Pass) : Type 0 where
  pub done : ℕ
  pub known : KnowsAfter set trace done pass
  pub before : AreBefore trace g done

-- so do the gaps that it knows
pub record KnowsPacesFrom (trace : Recorded) (g : ℕ) (paces : Paces) : Type 0 where
  pub done : ℕ
  pub known : KnowsPaces trace done paces
  pub before : AreBefore trace g done

-- and the misses
pub record KnowsLinksFrom (set : ℕ) (trace : Recorded) (g : ℕ) (links : Links) : Type 0 where
  pub done : ℕ
  pub known : KnowsLinks set trace done links
  pub before : AreBefore trace g done

-- the place of a row among all that may be
abbrev pub rank_of : BoundRow → ℕ
rank_of (Phi p bound) = p
rank_of (Delta p q bound) = RECEIVERS + place_of p q

-- the rows from tick g before place k
pub record ListsBefore (set : ℕ) (trace : Recorded) (g k : ℕ) (rows : List BoundRow) : Type 0 where
  pub right : (r : BoundRow) → Contains rows r → IsRow set trace g r × (rank_of r < k)
  pub processors : (p : ℕ) → IsTrue (has_proc set p) → p < k → (bound : LeastBound Gap) × Contains rows (Phi p bound)
  pub links : (p q s : ℕ) → IsSentFrom set trace p q g s → RECEIVERS + place_of p q < k
      → (bound : LeastBound Miss) × Contains rows (Delta p q bound)
  pub ordered : AllPairs Precedes rows
