-- Names by their places.
use Rattle.std.proofs.Common.{ℕ, ◌≡◌, ◌≢◌, ◌∙◌, ◌+◌, ◌<◌, ◌↔◌, inl, inr, Bool, true, false, IsTrue, Bor, List, [], length, map, get_or, eqb, refl, sym, subst, arith}
use Rattle.std.specs.Cmp.Lexicographic.{same_text, other_text}
use lib.Pointwise.{pointwise}
use Rattle.std.proofs.lemmas.Bool.{cases_lt}
use Rattle.std.proofs.lemmas.List.{get_or-map}
use Rattle.run_words.specs.Names.{name_at}

-- what holds below n and at n holds below n + 1
pub below_more : (P : ℕ → Type 0) (n : ℕ) → ((k : ℕ) → k < n → P k) → P n → (k : ℕ) → k < n + 1 → P k
below_more P n below here k l = elim (cases_lt k n) [
  | inl m ↦ below k m
  | inr m ↦ let same : n ≡ k = omega arith in subst P same here
]

-- a name in the list of texts is that of the list
pub name_at-map : {X : Type 0} (f : X → List ℕ) (names : List X) (k : ℕ) (d : X)
    → k < length names → name_at (map f names) k ≡ f (get_or names k d)
name_at-map f names k d inside = get_or-map f names k d [] inside

-- the text of this place, of the texts that a list lends
abbrev pub text_at : List (Bor (List ℕ)) → ℕ → List ℕ
text_at names k = (get_or names k (record { ref_ptr = (0, 0); now = [] })).now

pub name_at-text : (names : List (Bor (List ℕ))) (k : ℕ) → k < length names → name_at (map (λ x. x.now) names) k ≡ text_at names k
name_at-text names k inside = name_at-map (λ (x : Bor (List ℕ)). x.now) names k (record { ref_ptr = (0, 0); now = [] }) inside

pub same_names : (names : List (Bor (List ℕ))) (j i : ℕ) → j < length names → i < length names
    → true ≡ pointwise eqb (text_at names j) (text_at names i) → name_at (map (λ x. x.now) names) j ≡ name_at (map (λ x. x.now) names) i
same_names names j i p q e = name_at-text names j p ∙ same_text (text_at names j) (text_at names i) e ∙ sym (name_at-text names i q)

pub other_names : (names : List (Bor (List ℕ))) (j i : ℕ) → j < length names → i < length names
    → false ≡ pointwise eqb (text_at names j) (text_at names i) → name_at (map (λ x. x.now) names) j ≢ name_at (map (λ x. x.now) names) i
other_names names j i p q e = λ same. other_text (text_at names j)
    (text_at names i) e (sym (name_at-text names j p) ∙ same ∙ name_at-text names i q)

-- whether a name is this text
pub same_name : (names : List (Bor (List ℕ))) (i : ℕ) (text : List ℕ)
    → i < length names → true ≡ pointwise eqb (text_at names i) text → name_at (map (λ x. x.now) names) i ≡ text
same_name names i text inside e = name_at-text names i inside ∙ same_text (text_at names i) text e

pub other_name : (names : List (Bor (List ℕ))) (i : ℕ) (text : List ℕ)
    → i < length names → false ≡ pointwise eqb (text_at names i) text → name_at (map (λ x. x.now) names) i ≢ text
other_name names i text inside e = λ same. other_text (text_at names i) text e (sym (name_at-text names i inside) ∙ same)

-- what a test that decides P shows
pub confirmed : (b : Bool) (P : Type 0) → IsTrue b ↔ P → b ≡ true → P
confirmed true P e h = e.0 refl
confirmed false P e h = cc
