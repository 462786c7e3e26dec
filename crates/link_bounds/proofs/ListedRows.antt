-- The rows of processors and of links are listed one by one.
use Rattle.std.proofs.Common.{ℕ, ◌≡◌, ◌+◌, ◌/◌, ◌%◌, ◌<◌, ◌≤◌, inl, inr, List, ◌∷◌, ◌++◌, [], length, get_or, Some, None, IsTrue, ap, subst, arith}
use Rattle.std.proofs.lemmas.Bool.{cases_lt}
use Rattle.step_trace.specs.declared.rows.Miss.{Miss}
use Rattle.step_trace.specs.declared.processors.TheConstants.{MAX_MEMBER}
use Rattle.step_trace.specs.Processors.{has_proc, IsWithin}
use Rattle.step_trace.specs.Traces.{Recorded}
use Rattle.step_trace.specs.Ticks.{IsTimed}
use Rattle.suffix_staircase.specs.NextSteps.{IsNextTick}
use Rattle.suffix_staircase.proofs.LongestGaps.{member_range}
use Rattle.link_bounds.specs.declared.bounds.LeastBound.{LeastBound}
use Rattle.link_bounds.specs.declared.links.Links.{Links}
use Rattle.link_bounds.specs.declared.links.TheConstants.{RECEIVERS}
use Rattle.link_bounds.specs.declared.paces.Paces.{Paces}
use Rattle.link_bounds.specs.declared.rows.BoundRow.{BoundRow}
use Rattle.link_bounds.specs.declared.rows.BoundRow.TheVariants.{Delta}
use Rattle.link_bounds.specs.Evidence.{without_evidence}
use Rattle.link_bounds.specs.KnownGaps.{bound_from}
use Rattle.link_bounds.specs.KnownMisses.{KnowsLink, place_of}
use Rattle.link_bounds.specs.Passes.{AreBefore, KnowsPacesFrom, KnowsLinksFrom, ListsBefore}
use Rattle.link_bounds.specs.Rows.{IsPhiRow, IsSentFrom}
use Rattle.link_bounds.proofs.OwnGaps.{IsNextFrom, KnowsGapsOf-from}
use Rattle.link_bounds.proofs.KnownRows.{IsPhiRow-from_known, IsDeltaRow-from_known, none_sent}
use Rattle.link_bounds.proofs.RowLists.{ListsBefore-push, ListsBefore-skip}

-- from a tick on, the next step of p is the one after the steps before
IsNextFrom-before : (t : Recorded) (p g done next : ℕ)
    → 1 ≤ g → g ≤ t.last + 1 → AreBefore t g done → IsNextTick t p done next → IsNextFrom t p g done next
IsNextFrom-before t p g done next start end before n = record {
  start = start;
  passed = λ k low own. before.below k _ own.1 low;
  tick = n;
  above = elim (cases_lt t.last next) [
    | inl past ↦ omega arith
    | inr some ↦ (let i = n.step some in let from = before.above i.0 _ i.2.1 i.1 in let same = i.3 in omega arith)
  ];
}

-- the row of a member, with the gap at the tick
pub IsPhiRow-listed : (members : ℕ) (t : Recorded) (g p : ℕ) (paces : Paces) → 1 ≤ g → g ≤ t.last + 1
    → IsWithin members t.config.n → KnowsPacesFrom t g paces → IsTrue (has_proc members p) → IsPhiRow members t g p (bound_from paces p g)
IsPhiRow-listed members t g p paces start end within k member =
    let range = member_range members p member in
    let known = k.known in
    let inside = within p member in
    IsPhiRow-from_known members t g p (bound_from paces p g) start member
    (KnowsGapsOf-from t p g k.done (get_or paces.next_steps.items p 0) (get_or paces.bounds.items p without_evidence) range.0 range.1
    (IsNextFrom-before t p g k.done (get_or paces.next_steps.items p 0) start end k.before (known.next.each p range.0 inside range.0))
    (known.each p range.0 inside))

-- the link of a place
module _ (members : ℕ) (t : Recorded) (time : IsTimed t) (g place : ℕ) (links : Links) (rows : List BoundRow) (k : KnowsLinksFrom
    members t g links) (inside : place < length links.bounds.items) (lists : ListsBefore members t g (RECEIVERS + place) rows) where
  abbrev from : ℕ
  from = place / RECEIVERS

  abbrev to : ℕ
  to = place % RECEIVERS

  at : place_of from to ≡ place
  at = omega arith

  known : KnowsLink members t from to k.done (get_or links.bounds.items place None)
  known =
      let long = k.known.long in
      let sender : from ≤ t.config.n = omega arith in
      let receiver : to ≤ MAX_MEMBER = omega arith in
      rw at at (k.known.each from to sender receiver)

  next : RECEIVERS + (place + 1) ≡ RECEIVERS + place + 1
  next = omega arith

  -- its row is pushed, if it has a bound
  pub ListsBefore-link : (bound : LeastBound Miss) → get_or links.bounds.items place None ≡ Some bound
      → ListsBefore members t g (RECEIVERS + (place + 1)) (rows ++ Delta from to bound ∷ [])
  ListsBefore-link bound is =
      let some = rw is at known in
      rw next (ListsBefore-push members t g (RECEIVERS + place) rows (Delta from to bound)
      (IsDeltaRow-from_known members t time g k.done from to bound k.before some.1 some.0) (ap (λ (i : ℕ). RECEIVERS + i) at) lists)

  -- and else there is no row
  pub ListsBefore-no_link : get_or links.bounds.items place None ≡ None → ListsBefore members t g (RECEIVERS + (place + 1)) rows
  ListsBefore-no_link is =
      let none = rw is at known in
      rw next (ListsBefore-skip members t g (RECEIVERS + place) rows
      (λ member. absurd (let range = (member_range members (RECEIVERS + place) member).1 in omega arith))
      (λ p q s e sent. (let few = (member_range members q sent.message.receiver).1 in
      let same_p : p ≡ from = omega arith in
      let same_q : q ≡ to = omega arith in
      none_sent members t g k.done from to s k.before none
      (subst (λ (i : ℕ). IsSentFrom members t from i g s) same_q (subst (λ (i : ℕ). IsSentFrom members t i q g s) same_p sent)))) lists)
