-- What encodes the parts of a trace, with none for the empty part, joins as parts do.
use Rattle.std.proofs.Common.{ℕ, ◌≡◌, ◌+◌, ◌<◌, ◌≤◌, Option, Some, None, refl, sym, ap, subst, ◌∙◌, arith, eq-eqb}
use Rattle.step_trace.specs.Traces.{Recorded}
use Rattle.chunk_join.specs.Joins.{JoinedLaws}
use Rattle.chunk_join.specs.Summaries.{Summary, Whole, IsPartBy}
use Rattle.chunk_join.specs.Parts.{joined_by, refusal}

-- A part that isn't empty is encoded by one value, which gives its set and its ticks. For two adjacent ones
-- `both` gives the value of both together.
pub record StandsForParts (Is : ℕ → Recorded → ℕ → ℕ → Summary → Type 0)
    (both : Summary → Summary → Summary) : Type 0 where
  pub members : (set : ℕ) (t : Recorded) (i j : ℕ) (x : Summary) → Is set t i j x → x.set ≡ set
  pub from : (set : ℕ) (t : Recorded) (i j : ℕ) (x : Summary) → Is set t i j x → x.from ≡ i + 1
  pub to : (set : ℕ) (t : Recorded) (i j : ℕ) (x : Summary) → Is set t i j x → x.to ≡ j
  pub one : (whole : Whole) (i j : ℕ) (x y : Summary) → Is whole.set whole.trace i j x
      → Is whole.set whole.trace i j y → x ≡ y
  pub part : (whole : Whole) (i m j : ℕ) (x y : Summary) → i < m → m < j → j ≤ whole.trace.last
      → Is whole.set whole.trace i m x → Is whole.set whole.trace m j y → Is whole.set whole.trace i j (both x y)

pub parts_join : (Is : ℕ → Recorded → ℕ → ℕ → Summary → Type 0) (both : Summary → Summary → Summary)
    → StandsForParts Is both → JoinedLaws (IsPartBy Is) None refusal (joined_by both)
parts_join Is both stands = record {
  left_unit = λ x. refl;
  right_unit = right_unit;
  left_fits = λ x. refl;
  right_fits = right_fits;
  empty_part = empty_part;
  one = one;
  fit = fit;
  part = part;
} where
  right_unit : (x : Option Summary) → joined_by both x None ≡ x
  right_unit None = refl
  right_unit (Some x) = refl

  right_fits : (x : Option Summary) → refusal x None ≡ None
  right_fits None = refl
  right_fits (Some x) = refl

  empty_part : (whole : Whole) (i : ℕ) (x : Option Summary) → IsPartBy Is whole i i x → x ≡ None
  empty_part whole i None h = refl
  empty_part whole i (Some x) h = absurd (omega (arith, h.0))

  one : (whole : Whole) (i j : ℕ) (x y : Option Summary) → IsPartBy Is whole i j x → IsPartBy Is whole i j y → x ≡ y
  one whole i j None None a b = refl
  one whole i j None (Some y) a b = absurd (omega (arith, b.0, a))
  one whole i j (Some x) None a b = absurd (omega (arith, a.0, b))
  one whole i j (Some x) (Some y) a b = ap (λ (s : Summary). Some s) (stands.one whole i j x y a.2 b.2)

  fit : (whole : Whole) (i j k : ℕ) (x y : Option Summary) → IsPartBy Is whole i j x → IsPartBy Is whole j k y
      → refusal x y ≡ None
  fit whole i j k None y a b = refl
  fit whole i j k (Some x) None a b = refl
  fit whole i j k (Some x) (Some y) a b =
      let seam : x.to + 1 ≡ y.from = ap (λ n. n + 1) (stands.to _ _ _ _ x a.2) ∙ sym (stands.from _ _ _ _ y b.2) in
      let members : x.set ≡ y.set = stands.members _ _ _ _ x a.2 ∙ sym (stands.members _ _ _ _ y b.2) in
      rw (eq-eqb _ _ seam, eq-eqb _ _ members) refl

  part : (whole : Whole) (i j k : ℕ) (x y : Option Summary) → IsPartBy Is whole i j x → IsPartBy Is whole j k y
      → IsPartBy Is whole i k (joined_by both x y)
  part whole i j k None y a b = subst (λ n. IsPartBy Is whole n k y) (sym a) b
  part whole i j k (Some x) None a b = subst (λ n. IsPartBy Is whole i n (Some x)) b a
  part whole i j k (Some x) (Some y) a b =
      (omega (arith, a.0, b.0), b.1, stands.part whole i j k x y a.0 b.0 b.1 a.2 b.2)
