-- Gaps by the next steps of processors, and the longest gap that begins in one tick.
use Rattle.std.proofs.Common.{ℕ, ◌≡◌, ◌+◌, ◌-◌, ◌<◌, ◌≤◌, inl, inr, List, [], ◌∷◌, ◌++◌, length, get_or, Some, IsTrue, refl, ap, sym, subst, ◌∙◌, suc, zero, arith}
use Rattle.std.specs.Prelude.{slice_get}
use Rattle.std.proofs.lemmas.Bool.{cases_eq, cases_lt}
use Rattle.std.proofs.lemmas.Option.{slice_get_read}
use Rattle.std.proofs.lemmas.List.{length-append}
use Rattle.certificate_checker.proofs.Common.{Gap, has_proc, Recorded, IsGap, Silence, IsNextStep, IsSilence, AreSilences, slice_get-push_cases}

-- the silence of a member, if it is read
pub silence_of : (set : ℕ) (t : Recorded) (silences : List Silence) (p : ℕ) (s : Silence) → AreSilences set t silences
    → IsTrue (has_proc set p) → p ≤ t.config.n → s ≡ get_or silences p s → IsSilence t p s
silence_of set t silences p s k member within e = let long = k.long in
    k.each p s member (slice_get_read silences (length silences) p s refl (omega (arith, long, within)) e)

-- one silence more at the end of a list
pub pushed_long : (list new : List Silence) (s : Silence) (p : ℕ) → new ≡ list ++ s ∷ [] → length list ≡ p → length new ≡ p + 1
pushed_long list new s p e long = ap (λ (xs : List Silence). length xs) e ∙ length-append list (s ∷ []) ∙ ap (λ (n : ℕ). n + 1) long

pub pushed_each : (Holds : ℕ → Silence → Type 0) (list new : List Silence) (s : Silence) (p : ℕ) → new ≡ list ++ s ∷ []
    → length list ≡ p → ((q : ℕ) (x : Silence) → slice_get list q ≡ Some x → Holds q x) → Holds p s
    → (q : ℕ) (x : Silence) → slice_get new q ≡ Some x → Holds q x
pushed_each Holds list new s p e long each here q x h =
    elim (slice_get-push_cases list s x q (subst (λ (xs : List Silence). slice_get xs q ≡ Some x) e h)) [
      | inl old ↦ each q x old
      | inr last ↦ subst (λ (m : ℕ). Holds m x) (sym (last.0 ∙ long)) (subst (λ (y : Silence). Holds p y) last.1 here)
    ]

-- a member is no number 0
pub member_low : (set p : ℕ) → IsTrue (has_proc set p) → 1 ≤ p
member_low set zero m = absurd (search (arith, m))
member_low set (suc p) m = omega arith

-- a member is silent up to before its next step
pub gap_before : (set : ℕ) (t : Recorded) (p x y next : ℕ)
    → IsNextStep t p x next → IsTrue (has_proc set p) → 1 ≤ x → x ≤ y → y < next → IsGap set t (record { proc = p; from = x; to = y })
gap_before set t p x y next n member low order below = record {
  member = member;
  start = low;
  order = order;
  inside = (let u = n.until in omega (arith, u, below));
  silent = λ z a b s. n.silent z a (omega (arith, b, below)) s;
}

-- and no further
pub gap_ends : (set : ℕ) (t : Recorded) (w : Gap) (next : ℕ) → IsNextStep t w.proc w.from next → IsGap set t w → w.to < next
gap_ends set t w next n g = elim (cases_lt w.to next) [
  | inl l ↦ l
  | inr l ↦ absurd (let i = g.inside in g.silent next n.from l (n.step (omega (arith, i, l))))
]

-- of the members below p, the one whose next step from x on comes last, then the least; 0 if no such member is silent
-- in x
pub record KnowsLongest (set : ℕ) (t : Recorded) (x p proc end : ℕ) : Type 0 where
  pub within : x ≤ end
  pub inside : end ≤ t.last + 1
  pub alone : proc ≡ 0 → end ≡ x
  pub found : 0 < proc → IsGap set t (record { proc = proc; from = x; to = end - 1 }) × (x < end)
  pub shorter : (o : Gap) → IsGap set t o → o.from ≡ x → o.proc < p → o.to < end
  pub least : (o : Gap) → IsGap set t o → o.from ≡ x → o.proc < proc → o.to + 1 < end

-- a gap of p that begins in x ends before its next step
own_end : (set : ℕ) (t : Recorded) (x p next : ℕ) (o : Gap) → IsNextStep t p x next → IsGap set t o → o.from ≡ x → o.proc ≡ p → o.to < next
own_end set t x p next o n g from proc = gap_ends set t o next
    (subst (λ (q : ℕ). IsNextStep t q o.from next) (sym proc) (subst (λ (y : ℕ). IsNextStep t p y next) (sym from) n)) g

-- over a processor that is no member
pub KnowsLongest-other : (set : ℕ) (t : Recorded) (x p proc end : ℕ)
    → (¬ IsTrue (has_proc set p)) → KnowsLongest set t x p proc end → KnowsLongest set t x (p + 1) proc end
KnowsLongest-other set t x p proc end outside k = record {
  within = k.within;
  inside = k.inside;
  alone = k.alone;
  found = k.found;
  shorter = λ o g e l. elim (cases_eq o.proc p) [
    | inl same ↦ absurd (outside (subst (λ (q : ℕ). IsTrue (has_proc set q)) same g.member))
    | inr other ↦ k.shorter o g e (omega (arith, other, l))
  ];
  least = k.least;
}

-- over a member whose next step comes no later
pub KnowsLongest-passed : (set : ℕ) (t : Recorded) (x p proc end next : ℕ)
    → IsNextStep t p x next → next ≤ end → KnowsLongest set t x p proc end → KnowsLongest set t x (p + 1) proc end
KnowsLongest-passed set t x p proc end next n early k = record {
  within = k.within;
  inside = k.inside;
  alone = k.alone;
  found = k.found;
  shorter = λ o g e l. elim (cases_eq o.proc p) [
    | inl same ↦ (let own = own_end set t x p next o n g e same in omega (arith, own, early))
    | inr other ↦ k.shorter o g e (omega (arith, other, l))
  ];
  least = k.least;
}

-- over a member whose next step comes later
pub KnowsLongest-taken : (set : ℕ) (t : Recorded) (x p proc end next : ℕ) → IsNextStep t p x next
    → IsTrue (has_proc set p) → 1 ≤ x → end < next → KnowsLongest set t x p proc end
    → KnowsLongest set t x (p + 1) p next
KnowsLongest-taken set t x p proc end next n member low later k =
    let within = k.within in
    record {
      within = omega (arith, within, later);
      inside = n.until;
      alone = λ e. absurd (omega (arith, e, member_low set p member));
      found = λ _. (
        gap_before set t p x (next - 1) next n member low (omega (arith, within, later)) (omega (arith, later)),
        omega (arith, within, later),
      );
      shorter = λ o g e l. elim (cases_eq o.proc p) [
        | inl same ↦ own_end set t x p next o n g e same
        | inr other ↦ (let short = k.shorter o g e (omega (arith, other, l)) in omega (arith, short, later))
      ];
      least = λ o g e l. (let short = k.shorter o g e l in omega (arith, short, later));
    }
