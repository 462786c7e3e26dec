-- Needs of 64 clocks in a list.
use Rattle.std.proofs.Common.{ℕ, zero, suc, ◌≡◌, ◌+◌, ◌*◌, ◌/◌, ◌%◌, ◌<◌, ◌≤◌, ◌⊎◌, inl, inr, List, [], ◌∷◌, ◌++◌}
use Rattle.std.proofs.Common.{length, Option, Some, None, refl, sym, ap, ◌∙◌, subst, arith, ℤ, pos, ◌+ℤ◌, ◌≤ℤ◌}
use Rattle.std.specs.Prelude.{slice_index_or}
use Rattle.std.proofs.lemmas.Bool.{cases_lt}
use Rattle.std.proofs.lemmas.List.{length_push}
use Rattle.clock_offsets.specs.ClockOffsets.{Needs, AreLeastOffsets, through, greater, plus, best_of, best_with, offset_of}
use Rattle.clock_offsets.specs.declared.refusals.OffsetError.{OffsetError}
use Rattle.clock_offsets.specs.declared.refusals.OffsetError.TheVariants.{Cycle, TooFar, Memory}
use Rattle.clock_offsets.specs.Matrices.{needs_at, next_at, AreNext, AreGreatest, AreOffsetsOf, IsWant, IsOffsetRefusal}
use Rattle.clock_offsets.proofs.ClockOffsets.{least-offsets}

-- one element more
pushed-same : {A : Type 0} (xs : List A) (x d : A) (n : ℕ) → n ≡ length xs → slice_index_or (xs ++ x ∷ []) n d ≡ x
pushed-same [] x d zero e = refl
pushed-same [] x d (suc n) e = absurd (omega arith)
pushed-same (y ∷ xs) x d zero e = absurd (omega arith)
pushed-same (y ∷ xs) x d (suc n) e = pushed-same xs x d n (omega arith)

pushed-other : {A : Type 0} (xs : List A) (x d : A) (k : ℕ) → k < length xs → slice_index_or (xs ++ x ∷ []) k d ≡ slice_index_or xs k d
pushed-other [] x d k l = absurd (omega arith)
pushed-other (y ∷ xs) x d zero l = refl
pushed-other (y ∷ xs) x d (suc k) l = pushed-other xs x d k (omega arith)

pub grown : {A : Type 0} (f : ℕ → A) (d : A) (xs ys : List A) (x : A) (n : ℕ) → length xs ≡ n
    → ((k : ℕ) → k < n → slice_index_or xs k d ≡ f k) → x ≡ f n → ys ≡ xs ++ x ∷ []
    → (length ys ≡ n + 1) × ((k : ℕ) → k < n + 1 → slice_index_or ys k d ≡ f k)
grown f d xs ys x n l h e g =
    (ap length g ∙ (let p = length_push xs x in omega arith), λ k b. ap (λ zs. slice_index_or zs k d) g ∙ go k (cases_lt k n) b) where
      go : (k : ℕ) → (k < n) ⊎ (n ≤ k) → k < n + 1 → slice_index_or (xs ++ x ∷ []) k d ≡ f k
      go k (inl below) b = pushed-other xs x d k (omega arith) ∙ h k below
      go k (inr above) b = let s : n ≡ k = omega arith in pushed-same xs x d k (omega arith) ∙ e ∙ ap f s

-- the needs by way of the first clocks, none of which is ahead of itself
pub record IsThrough (needs : List (Option ℤ)) (k : ℕ) (items : List (Option ℤ)) : Type 0 where
  pub long : length items ≡ 4096
  pub each : (i j : ℕ) → i < 64 → j < 64 → needs_at items i j ≡ through (needs_at needs) k i j
  pub below : (m : ℕ) (by : ℤ) → m < k → through (needs_at needs) m m m ≡ Some by → by ≤ℤ pos 0

pub through-more : (needs items read new : List (Option ℤ)) (k : ℕ) → k < 64 → IsThrough needs k items → read ≡ items
    → ((by : ℤ) → needs_at items k k ≡ Some by → by ≤ℤ pos 0) → AreNext read k new → IsThrough needs (k + 1) new
through-more needs items read new k lk h e diag n = record { long = n.long; each = each; below = below } where
  step : (i j : ℕ) → i < 64 → j < 64 → needs_at new i j ≡ greater (needs_at items i j) (plus (needs_at items i k) (needs_at items k j))
  step i j li lj =
      let x = n.each (i * 64 + j) (omega arith) in
      let q : (i * 64 + j) / 64 ≡ i = omega arith in
      let r : (i * 64 + j) % 64 ≡ j = omega arith in
      x ∙ ap (λ xs. next_at xs k (i * 64 + j)) e
      ∙ ap
      (λ a. greater (needs_at items i j)
      (plus (slice_index_or items (a * 64 + k) None) (slice_index_or items (k * 64 + (i * 64 + j) % 64) None)))
      q
      ∙ ap (λ b. greater (needs_at items i j) (plus (needs_at items i k) (slice_index_or items (k * 64 + b) None)))
      r

  each : (i j : ℕ) → i < 64 → j < 64 → needs_at new i j ≡ through (needs_at needs) (k + 1) i j
  each i j li lj =
      let s : suc k ≡ k + 1 = omega arith in
      step i j li lj ∙ ap (λ o. greater o (plus (needs_at items i k) (needs_at items k j))) (h.each i j li lj)
      ∙ ap (λ o. greater (through (needs_at needs) k i j) (plus o (needs_at items k j))) (h.each i k li lk)
      ∙ ap (λ o. greater (through (needs_at needs) k i j) (plus (through (needs_at needs) k i k) o))
      (h.each k j lk lj) ∙ ap (λ m. through (needs_at needs) m i j) s

  below : (m : ℕ) (by : ℤ) → m < k + 1 → through (needs_at needs) m m m ≡ Some by → by ≤ℤ pos 0
  below m by b t = go (cases_lt m k) where
    go : (m < k) ⊎ (k ≤ m) → by ≤ℤ pos 0
    go (inl less) = h.below m by less t
    go (inr more) = let s : m ≡ k = omega arith in diag by (h.each k k lk lk ∙ ap (λ x. through (needs_at needs) x x x) (sym s) ∙ t)

best-same : (f g : ℕ → Option ℤ) (n : ℕ) → ((i : ℕ) → i < n → f i ≡ g i) → best_of f n ≡ best_of g n
best-same f g zero h = refl
best-same f g (suc n) h = ap (λ x. best_with x (f n)) (best-same f g n (λ i l. h i (omega arith)))
    ∙ ap (best_with (best_of g n)) (h n (omega arith))

-- offsets that are the same as the least ones are the least ones
same-least : (n : ℕ) (needs : Needs) (x y : ℕ → ℤ) → ((i : ℕ) → i < n → y i ≡ x i) → AreLeastOffsets n needs x → AreLeastOffsets n needs y
same-least n needs x y s h = record {
  right = λ i j by li lj e. subst (λ a. (a +ℤ by) ≤ℤ y j)
      (sym (s i li)) (subst (λ b. (x i +ℤ by) ≤ℤ b) (sym (s j lj)) (h.right i j by li lj e));
  forward = λ i l. subst (λ a. pos 0 ≤ℤ a) (sym (s i l)) (h.forward i l);
  least = λ z r f i l. subst (λ a. a ≤ℤ z i) (sym (s i l)) (h.least z r f i l);
}

pub through-offsets : (n : ℕ) (needs items read : List (Option ℤ)) (offsets : List ℤ)
    → n ≤ 64 → IsThrough needs n items → read ≡ items → AreGreatest n read offsets → AreOffsetsOf n needs offsets
through-offsets n needs items read offsets few h e g = record {
  long = g.long;
  least = same-least n (needs_at needs) (offset_of n (needs_at needs))
      (λ j. slice_index_or offsets j (pos 0)) same (least-offsets n (needs_at needs) (λ k by l t. h.below k by l t));
} where
  same : (j : ℕ) → j < n → slice_index_or offsets j (pos 0) ≡ offset_of n (needs_at needs) j
  same j l = g.each j l ∙ best-same (λ i. needs_at read i j)
      (λ i. through (needs_at needs) n i j) n (λ i b. ap (λ xs. needs_at xs i j) e ∙ h.each i j (omega arith) (omega arith))

pub best-end : (f : ℕ → Option ℤ) (k n : ℕ) (x : ℤ) → x ≡ best_of f k → k ≤ n → n ≤ k → x ≡ best_of f n
best-end f k n x e a b = let s : k ≡ n = omega arith in e ∙ ap (best_of f) s

pub through-end : (needs items : List (Option ℤ)) (k n : ℕ) → IsThrough needs k items → k ≤ n → n ≤ k → IsThrough needs n items
through-end needs items k n h a b = let s : k ≡ n = omega arith in subst (λ m. IsThrough needs m items) s h

pub want-refused : (n : ℕ) (needs : List (Option ℤ)) (why : OffsetError) → IsWant why → IsOffsetRefusal n needs why
want-refused n needs (Cycle clock) h = absurd h
want-refused n needs TooFar h = tt
want-refused n needs Memory h = tt
