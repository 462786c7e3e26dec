-- The greatest bounds of rows are those of the set.
use Rattle.std.proofs.Common.{ℕ, ◌≡◌, ◌≤◌, inl, inr, List, [], ◌∷◌, IsTrue, sym, subst, max, arith}
use Rattle.std.specs.Prelude.{Contains}
use Rattle.step_trace.specs.declared.rows.Gap.{Gap}
use Rattle.step_trace.specs.declared.rows.Miss.{Miss}
use Rattle.step_trace.specs.Processors.{has_proc}
use Rattle.step_trace.specs.Traces.{Recorded}
use Rattle.step_trace.specs.Bounds.{DeltaHolds, PhiHolds, IsDelta, IsPhi}
use Rattle.step_trace.proofs.ListMembers.{Contains-head, Contains-rest, Contains-cons_cases, Contains-nil}
use Rattle.suffix_staircase.proofs.LongestGaps.{member_range}
use Rattle.link_bounds.specs.declared.bounds.LeastBound.{LeastBound}
use Rattle.link_bounds.specs.declared.rows.BoundRow.{BoundRow}
use Rattle.link_bounds.specs.declared.rows.BoundRow.TheVariants.{Phi, Delta}
use Rattle.link_bounds.specs.Links.{only, IsMessageOn}
use Rattle.link_bounds.specs.Rows.{IsRow, AreRows, greatest_phi, greatest_delta}
use Rattle.link_bounds.proofs.OwnGaps.{only_has, only_member}

-- each is positive
phi_positive : (rows : List BoundRow) → 1 ≤ greatest_phi rows
phi_positive [] = omega arith
phi_positive (Phi p b ∷ rows) = let rest = phi_positive rows in omega arith
phi_positive (Delta p q b ∷ rows) = phi_positive rows

delta_positive : (rows : List BoundRow) → 1 ≤ greatest_delta rows
delta_positive [] = omega arith
delta_positive (Phi p b ∷ rows) = delta_positive rows
delta_positive (Delta p q b ∷ rows) = let rest = delta_positive rows in omega arith

-- no row has a greater bound
phi_above : (rows : List BoundRow) (p : ℕ) (b : LeastBound Gap) → Contains rows (Phi p b) → b.least ≤ greatest_phi rows
phi_above [] p b c = absurd (Contains-nil (Phi p b) c)
phi_above (Phi q d ∷ rows) p b c = elim (Contains-cons_cases (Phi q d) (Phi p b) rows c) [
  | inl e ↦ (let same : d ≡ b = cc in subst (λ (v : LeastBound Gap). v.least ≤ max d.least (greatest_phi rows)) same (omega arith))
  | inr later ↦ (let rest = phi_above rows p b later in omega arith)
]
phi_above (Delta q r d ∷ rows) p b c = elim (Contains-cons_cases (Delta q r d) (Phi p b) rows c)
    [ inl e ↦ absurd (cc) | inr later ↦ phi_above rows p b later ]

delta_above : (rows : List BoundRow) (p q : ℕ) (b : LeastBound Miss) → Contains rows (Delta p q b) → b.least ≤ greatest_delta rows
delta_above [] p q b c = absurd (Contains-nil (Delta p q b) c)
delta_above (Phi r d ∷ rows) p q b c = elim (Contains-cons_cases (Phi r d) (Delta p q b) rows c)
    [ inl e ↦ absurd (cc) | inr later ↦ delta_above rows p q b later ]
delta_above (Delta r s d ∷ rows) p q b c = elim (Contains-cons_cases (Delta r s d) (Delta p q b) rows c) [
  | inl e ↦ (let same : d ≡ b = cc in subst (λ (v : LeastBound Miss). v.least ≤ max d.least (greatest_delta rows)) same (omega arith))
  | inr later ↦ (let rest = delta_above rows p q b later in omega arith)
]

-- a bound that holds for all members holds for each, and so no row's bound is above it
phi_least : (members : ℕ) (t : Recorded) (g e : ℕ) (rows : List BoundRow)
    → 1 ≤ e → PhiHolds members t g e → ((r : BoundRow) → Contains rows r → IsRow members t g r) → greatest_phi rows ≤ e
phi_least members t g e [] low holds right = low
phi_least members t g e (Phi p b ∷ rows) low holds right =
    let row = right (Phi p b) (Contains-head (Phi p b) rows) in
    let start = (member_range members p row.member).0 in
    let own : PhiHolds (only p) t g e = record {
      each = λ x from until q m. holds.each x from until q
          (subst (λ (v : ℕ). IsTrue (has_proc members v)) (sym (only_member p q start m)) row.member);
    } in
    let here = row.least.least e low own in
    let rest = phi_least members t g e rows low holds (λ r c. right r (Contains-rest (Phi p b) r rows c)) in
    omega arith
phi_least members t g e (Delta p q b ∷ rows) low holds right =
    phi_least members t g e rows low holds (λ r c. right r (Contains-rest (Delta p q b) r rows c))

delta_least : (members : ℕ) (t : Recorded) (g e : ℕ) (rows : List BoundRow)
    → 1 ≤ e → DeltaHolds members t g e → ((r : BoundRow) → Contains rows r → IsRow members t g r) → greatest_delta rows ≤ e
delta_least members t g e [] low holds right = low
delta_least members t g e (Phi p b ∷ rows) low holds right =
    delta_least members t g e rows low holds (λ r c. right r (Contains-rest (Phi p b) r rows c))
delta_least members t g e (Delta p q b ∷ rows) low holds right =
    let row = right (Delta p q b) (Contains-head (Delta p q b) rows) in
    let here = row.least.least e low (record { each = λ s from m. holds.each s from }) in
    let rest = delta_least members t g e rows low holds (λ r c. right r (Contains-rest (Delta p q b) r rows c)) in
    omega arith

-- the greatest bound of the processors is the processor bound of the set
pub IsPhi-greatest : (members : ℕ) (t : Recorded) (g : ℕ) (rows : List BoundRow)
    → AreRows members t g rows → IsPhi members t g (greatest_phi rows)
IsPhi-greatest members t g rows all = record {
  positive = phi_positive rows;
  holds = record {
    each = λ x from until p m.
        (let own = all.processors p m in
        let row = all.right (Phi p own.0) own.1 in
        let most = phi_above rows p own.0 own.1 in
        let range = member_range members p m in
        let w = row.least.holds.each x from (omega arith) p (only_has p range.0 range.1) in
        let end = w.until in
        record { tick = w.tick; from = w.from; until = omega arith; step = w.step });
  };
  least = λ e low holds. phi_least members t g e rows low holds all.right;
}

-- the greatest bound of the links is the communication bound of the set
pub IsDelta-greatest : (members : ℕ) (t : Recorded) (g : ℕ) (rows : List BoundRow)
    → AreRows members t g rows → IsDelta members t g (greatest_delta rows)
IsDelta-greatest members t g rows all = record {
  positive = delta_positive rows;
  holds = record {
    each = λ s from. record {
      on_time = λ r b v receive late.
          (let message : IsMessageOn members t.steps v.from b s = record { sent = v.sent; sender = v.sender; receiver = v.receiver } in
          let link = all.links v.from b s (record { message = message; from = from }) in
          let row = all.right (Delta v.from b link.0) link.1 in
          let most = delta_above rows v.from b link.0 link.1 in
          (row.least.holds.each s from message).on_time r b v receive (omega arith));
    };
  };
  least = λ e low holds. delta_least members t g e rows low holds all.right;
}
