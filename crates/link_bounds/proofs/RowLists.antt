-- Rows are listed by their places.
use Rattle.std.proofs.Common.{ℕ, ◌≡◌, ◌+◌, ◌*◌, ◌<◌, ◌≤◌, inl, inr, List, [], ◌∷◌, ◌++◌, get_or, IsTrue, ap, subst, ◌∙◌, arith}
use Rattle.std.specs.Prelude.{Contains}
use Rattle.std.proofs.lemmas.Bool.{cases_eq, cases_lt}
use Rattle.std.proofs.lemmas.List.Elements.{Contains-push, Contains-push_cases, Contains-append_left, Contains-get_or}
use Rattle.std.proofs.lemmas.List.Quantifiers.{all_pairs_push}
use Rattle.step_trace.specs.declared.rows.Gap.{Gap}
use Rattle.step_trace.specs.declared.rows.Miss.{Miss}
use Rattle.step_trace.specs.declared.processors.TheConstants.{MAX_MEMBER}
use Rattle.step_trace.specs.Processors.{has_proc, IsWithin}
use Rattle.step_trace.specs.Traces.{Recorded}
use Rattle.suffix_staircase.proofs.LongestGaps.{member_range}
use Rattle.link_bounds.specs.declared.bounds.LeastBound.{LeastBound}
use Rattle.link_bounds.specs.declared.links.TheConstants.{RECEIVERS}
use Rattle.link_bounds.specs.declared.rows.BoundRow.{BoundRow}
use Rattle.link_bounds.specs.declared.rows.BoundRow.TheVariants.{Phi, Delta}
use Rattle.link_bounds.specs.KnownMisses.{place_of}
use Rattle.link_bounds.specs.Passes.{rank_of, ListsBefore}
use Rattle.link_bounds.specs.Rows.{IsRow, IsSentFrom, Precedes, AreRows}

module _ (members : ℕ) (t : Recorded) (g : ℕ) where
  -- the row at the place of a processor is its row
  phi_at : (r : BoundRow) → IsRow members t g r → (p : ℕ) → p ≤ MAX_MEMBER → rank_of r ≡ p → (bound : LeastBound Gap) × (r ≡ Phi p bound)
  phi_at (Phi q b) row p few e = (b, ap (λ (i : ℕ). Phi i b) e)
  phi_at (Delta q s b) row p few e = absurd (omega arith)

  -- the row at the place of a link is its row
  delta_at : (r : BoundRow) → IsRow members t g r → (p q : ℕ)
      → q ≤ MAX_MEMBER → rank_of r ≡ RECEIVERS + place_of p q → (bound : LeastBound Miss) × (r ≡ Delta p q bound)
  delta_at (Phi v b) row p q few e = absurd (let range = (member_range members v row.member).1 in omega arith)
  delta_at (Delta v w b) row p q few e =
      let range = (member_range members w row.sent.1.message.receiver).1 in
      let from : v ≡ p = omega arith in
      let to : w ≡ q = omega arith in
      (b, subst (λ (i : ℕ). Delta v w b ≡ Delta i q b) from (ap (λ (i : ℕ). Delta v i b) to))

  -- a row at an earlier place precedes one at a later place
  precedes_later : (a b : BoundRow) → IsRow members t g a → IsRow members t g b → rank_of a < rank_of b → Precedes a b
  precedes_later (Phi p c) (Phi q d) x y l = l
  precedes_later (Phi p c) (Delta q r d) x y l = tt
  precedes_later (Delta p q c) (Phi r d) x y l = absurd (let range = (member_range members r y.member).1 in omega arith)
  precedes_later (Delta p q c) (Delta r s d) x y l =
      let range = (member_range members q x.sent.1.message.receiver).1 in
      let range' = (member_range members s y.sent.1.message.receiver).1 in
      elim (cases_lt p r) [ inl below ↦ inl below | inr above ↦ inr (omega arith, omega arith) ]

  -- one row more
  pub ListsBefore-push : (k : ℕ) (rows : List BoundRow) (r : BoundRow)
      → IsRow members t g r → rank_of r ≡ k → ListsBefore members t g k rows → ListsBefore members t g (k + 1) (rows ++ r ∷ [])
  ListsBefore-push k rows r row place lists = record {
    right = λ o c. elim (Contains-push_cases rows r o c) [
      | inl old ↦ (let h = lists.right o old in let below = h.1 in (h.0, omega arith))
      | inr same ↦ subst (λ (v : BoundRow). IsRow members t g v × (rank_of v < k + 1)) same (row, omega arith)
    ];
    processors = λ p m l. elim (cases_eq k p) [
      | inl e ↦ (let at = phi_at r row p (member_range members p m).1 (place ∙ e) in
          (at.0, subst (λ (v : BoundRow). Contains (rows ++ r ∷ []) v) at.1 (Contains-push rows r)))
      | inr ne ↦ (let old = lists.processors p m (omega (arith, ne)) in (old.0, Contains-append_left rows (r ∷ []) _ old.1))
    ];
    links = λ p q s sent l. elim (cases_eq k (RECEIVERS + place_of p q)) [
      | inl e ↦ (let at = delta_at r row p q (member_range members q sent.message.receiver).1 (place ∙ e) in
          (at.0, subst (λ (v : BoundRow). Contains (rows ++ r ∷ []) v) at.1 (Contains-push rows r)))
      | inr ne ↦ (let old = lists.links p q s sent (omega (arith, ne)) in (old.0, Contains-append_left rows (r ∷ []) _ old.1))
    ];
    ordered = all_pairs_push Precedes rows r lists.ordered (λ i d u. (let h = lists.right (get_or rows i d) (Contains-get_or rows i d u) in
        let below = h.1 in precedes_later (get_or rows i d) r h.0 row (omega arith)));
  }

  -- no row at this place
  pub ListsBefore-skip : (k : ℕ) (rows : List BoundRow) → ¬ IsTrue (has_proc members k)
      → ((p q s : ℕ) → RECEIVERS + place_of p q ≡ k → ¬ IsSentFrom members t p q g s) → ListsBefore members t g k rows
      → ListsBefore members t g (k + 1) rows
  ListsBefore-skip k rows none unsent lists = record {
    right = λ r c. (let h = lists.right r c in let below = h.1 in (h.0, omega arith));
    processors = λ p m l. elim (cases_eq p k) [
      | inl e ↦ absurd (none (subst (λ (v : ℕ). IsTrue (has_proc members v)) e m))
      | inr ne ↦ lists.processors p m (omega (arith, ne))
    ];
    links = λ p q s sent l. elim (cases_eq (RECEIVERS + place_of p q) k) [
      | inl e ↦ absurd (unsent p q s e sent)
      | inr ne ↦ lists.links p q s sent (omega (arith, ne))
    ];
    ordered = lists.ordered;
  }

  -- the rows before the last place are all
  pub AreRows-from_lists : (k : ℕ) (rows : List BoundRow) → IsWithin members t.config.n
      → RECEIVERS + (t.config.n + 1) * RECEIVERS ≤ k → ListsBefore members t g k rows → AreRows members t g rows
  AreRows-from_lists k rows within all lists = record {
    right = λ r c. (lists.right r c).0;
    processors = λ p m. lists.processors p m (let range = (member_range members p m).1 in omega arith);
    links = λ p q s sent. lists.links p q s sent (
        let high = within p sent.message.sender in
        let range = (member_range members q sent.message.receiver).1 in
        omega arith);
    ordered = lists.ordered;
  }
