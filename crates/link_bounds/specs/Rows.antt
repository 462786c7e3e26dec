-- The rows for the bounds of processors and of links from a tick on.
use Rattle.std.specs.Prelude.{ℕ, ◌≡◌, ◌<◌, ◌≤◌, ◌⊎◌, List, [], ◌∷◌, Contains, AllPairs, IsTrue, max, ⊤}
use Rattle.step_trace.specs.declared.rows.Miss.{Miss}
use Rattle.step_trace.specs.declared.rows.Gap.{Gap}
use Rattle.step_trace.specs.Processors.{has_proc}
use Rattle.step_trace.specs.Traces.{Recorded}
use Rattle.step_trace.specs.Ticks.{tick_of}
use Rattle.step_trace.specs.Bounds.{IsLeastBound, IsPhi}
use Rattle.step_trace.specs.Witnesses.{NamesGap}
use Rattle.link_bounds.specs.declared.bounds.LeastBound.{LeastBound}
use Rattle.link_bounds.specs.declared.rows.BoundRow.{BoundRow}
use Rattle.link_bounds.specs.declared.rows.BoundRow.TheVariants.{Phi, Delta}
use Rattle.link_bounds.specs.Links.{only, IsMessageOn, LinkHolds, NamesLinkMiss}

-- message s of p to q is sent in tick g or later
pub record IsSentFrom (set : ℕ) (trace : Recorded) (p q g s : ℕ) : Type 0 where
  pub message : IsMessageOn set trace.steps p q s
  pub from : g ≤ tick_of trace s

-- the member p has this processor bound from tick g, with this named gap
pub record IsPhiRow (set : ℕ) (trace : Recorded) (g p : ℕ) (bound : LeastBound Gap) : Type 0 where
  pub member : IsTrue (has_proc set p)
  pub least : IsPhi (only p) trace g bound.least
  pub named : NamesGap (only p) trace g bound.least bound.witness

-- the member p sends messages to the member q in tick g or later, and they have this communication bound, with this
-- named miss
pub record IsDeltaRow (set : ℕ) (trace : Recorded) (g p q : ℕ) (bound : LeastBound Miss) : Type 0 where
  pub sent : (s : ℕ) × IsSentFrom set trace p q g s
  pub least : IsLeastBound (LinkHolds set trace p q g) bound.least
  pub named : NamesLinkMiss set trace p q g bound.least bound.witness

-- the row says what holds from tick g
abbrev pub IsRow : ℕ → Recorded → ℕ → BoundRow → Type 0
IsRow set trace g (Phi p bound) = IsPhiRow set trace g p bound
IsRow set trace g (Delta p q bound) = IsDeltaRow set trace g p q bound

-- rows of processors come first, by their numbers; then rows of links, by senders and then by receivers
abbrev pub Precedes : BoundRow → BoundRow → Type 0
Precedes (Phi p b) (Phi q c) = p < q
Precedes (Phi p b) (Delta q r c) = ⊤
Precedes (Delta p q b) (Phi r c) = ⊥
Precedes (Delta p q b) (Delta r s c) = (p < r) ⊎ ((p ≡ r) × (q < s))

-- These are the rows from tick g. Each is right, each member has one, and so has each link with a message sent in g or
-- later. They are in order, and none comes twice.
pub record AreRows (set : ℕ) (trace : Recorded) (g : ℕ) (rows : List BoundRow) : Type 0 where
  pub right : (r : BoundRow) → Contains rows r → IsRow set trace g r
  pub processors : (p : ℕ) → IsTrue (has_proc set p) → (bound : LeastBound Gap) × Contains rows (Phi p bound)
  pub links : (p q s : ℕ) → IsSentFrom set trace p q g s → (bound : LeastBound Miss) × Contains rows (Delta p q bound)
  pub ordered : AllPairs Precedes rows

-- the greatest bound of the rows of processors: 1 if there is none
abbrev pub greatest_phi : List BoundRow → ℕ
greatest_phi [] = 1
greatest_phi (Phi p bound ∷ rest) = max bound.least (greatest_phi rest)
greatest_phi (Delta p q bound ∷ rest) = greatest_phi rest

-- the greatest bound of the rows of links: 1 if there is none
abbrev pub greatest_delta : List BoundRow → ℕ
greatest_delta [] = 1
greatest_delta (Phi p bound ∷ rest) = greatest_delta rest
greatest_delta (Delta p q bound ∷ rest) = max bound.least (greatest_delta rest)
