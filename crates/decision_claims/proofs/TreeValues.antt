-- The values of formulas as trees are those of their parts.
use Rattle.std.proofs.Common.{ℕ, ◌≡◌, ◌+◌, ◌*◌, ◌≤◌, List, [], ◌∷◌, ◌++◌, max, refl, ap, ◌∙◌, arith}
use Rattle.std.proofs.Math.Nat.{one-mul}
use Rattle.decision_claims.specs.declared.formulas.Part.{Part}
use Rattle.decision_claims.specs.declared.formulas.Part.TheVariants.{Plus, Times, Over, Comma, Close}
use Rattle.decision_claims.specs.declared.formulas.Words.{Words}
use Rattle.decision_claims.specs.declared.values.Frame.{Frame}
use Rattle.decision_claims.specs.Formulas.{Tally, quotient, value_from, value_of, whole, with_part}
use Rattle.decision_claims.specs.FormulaTrees.{IsBound, Tree, Leaf, Group, Most, Product, Quotient, Sum, Row, binding, parts_of, tree_value}

-- what was read after these parts
abbrev after : Words → Tally → List Part → Tally
after words t [] = t
after words t (part ∷ parts) = after words (with_part words t part) parts

after-append : (words : Words) (t : Tally) (xs ys : List Part) → after words t (xs ++ ys) ≡ after words (after words t xs) ys
after-append words t [] ys = refl
after-append words t (x ∷ xs) ys = after-append words (with_part words t x) xs ys

value_from-after : (words : Words) (t : Tally) (parts : List Part) → value_from words t parts ≡ whole (after words t parts).here
value_from-after words t [] = refl
value_from-after words t (part ∷ parts) = value_from-after words (with_part words t part) parts

abbrev frame : ℕ → ℕ → ℕ → List Frame → Tally
frame most sum product around = record { here = record { most = most; sum = sum; product = product }; around = around }

-- a sum of products was read
record ReadsSum (words : Words) (f : Tree) (most : ℕ) (around : List Frame) : Type 0 where
  pub sum : ℕ
  pub product : ℕ
  pub read : after words (frame most 0 1 around) (parts_of f) ≡ frame most sum product around
  pub value : sum + product ≡ tree_value words f

-- a row of sums was read
record ReadsRow (words : Words) (f : Tree) (around : List Frame) : Type 0 where
  pub most : ℕ
  pub sum : ℕ
  pub product : ℕ
  pub read : after words (frame 0 0 1 around) (parts_of f) ≡ frame most sum product around
  pub value : max most (sum + product) ≡ tree_value words f

-- what reading the parts of a formula gives, by how closely it is bound
record Reads (words : Words) (f : Tree) : Type 0 where
  pub operand : 3 ≤ binding f → (m s p : ℕ) (around : List Frame)
      → after words (frame m s p around) (parts_of f) ≡ frame m s (p * tree_value words f) around
  pub product : 2 ≤ binding f → (m s : ℕ) (around : List Frame)
      → after words (frame m s 1 around) (parts_of f) ≡ frame m s (tree_value words f) around
  pub sum : 1 ≤ binding f → (m : ℕ) (around : List Frame) → ReadsSum words f m around
  pub row : (around : List Frame) → ReadsRow words f around

row_of-sum : (words : Words) (f : Tree) (around : List Frame) → ReadsSum words f 0 around → ReadsRow words f around
row_of-sum words f around r =
    record { most = 0; sum = r.sum; product = r.product; read = r.read; value = let v = r.value in omega (arith, v) }

sum_of-product : (words : Words) (f : Tree) (m : ℕ) (around : List Frame)
    → after words (frame m 0 1 around) (parts_of f) ≡ frame m 0 (tree_value words f) around → ReadsSum words f m around
sum_of-product words f m around e = record { sum = 0; product = tree_value words f; read = e; value = omega arith }

from_operand : (words : Words) (f : Tree) → ((m s p : ℕ) (around : List Frame)
    → after words (frame m s p around) (parts_of f) ≡ frame m s (p * tree_value words f) around) → Reads words f
from_operand words f h =
    let product : (m s : ℕ) (around : List Frame)
    → after words (frame m s 1 around) (parts_of f) ≡ frame m s (tree_value words f) around =
    λ m s around. h m s 1 around ∙ ap (λ v. frame m s v around) (one-mul (tree_value words f)) in
    let sum : (m : ℕ) (around : List Frame)
    → ReadsSum words f m around = λ m around. sum_of-product words f m around (product m 0 around) in
    record { operand = λ l. h; product = λ l. product; sum = λ l. sum; row = λ around. row_of-sum words f around (sum 0 around) }

from_product : (words : Words) (f : Tree) → binding f ≡ 2 → ((m s : ℕ) (around : List Frame)
    → after words (frame m s 1 around) (parts_of f) ≡ frame m s (tree_value words f) around) → Reads words f
from_product words f b h =
    let sum : (m : ℕ) (around : List Frame) → ReadsSum words f m around = λ m around. sum_of-product words f m around (h m 0 around) in
    record {
      operand = λ l. absurd (omega (arith, l, b));
      product = λ l. h;
      sum = λ l. sum;
      row = λ around. row_of-sum words f around (sum 0 around);
    }

from_sum : (words : Words) (f : Tree) → binding f ≡ 1 → ((m : ℕ) (around : List Frame) → ReadsSum words f m around) → Reads words f
from_sum words f b h = record {
  operand = λ l. absurd (omega (arith, l, b));
  product = λ l. absurd (omega (arith, l, b));
  sum = λ l. h;
  row = λ around. row_of-sum words f around (h 0 around);
}

from_row : (words : Words) (f : Tree) → binding f ≡ 0 → ((around : List Frame) → ReadsRow words f around) → Reads words f
from_row words f b h = record {
  operand = λ l. absurd (omega (arith, l, b));
  product = λ l. absurd (omega (arith, l, b));
  sum = λ l. absurd (omega (arith, l, b));
  row = h;
}

-- a row in parentheses, and what they close
in_group : (words : Words) (a : Tree) → Reads words a → (m s p : ℕ) (around : List Frame) → after words (frame 0 0 1
    (record { most = m; sum = s; product = p } ∷ around)) (parts_of a ++ Close ∷ []) ≡ frame m s (p * tree_value words a) around
in_group words a reads m s p around =
    let out : List Frame = record { most = m; sum = s; product = p } ∷ around in
    let r = reads.row out in
    after-append words (frame 0 0 1 out) (parts_of a) (Close ∷ [])
    ∙ ap (λ t. after words t (Close ∷ [])) r.read ∙ ap (λ v. frame m s (p * v) around) r.value

in_product : (words : Words) (a b : Tree) → 2 ≤ binding a → 3 ≤ binding b → Reads words a → Reads words b → (m s : ℕ) (around : List Frame)
    → after words (frame m s 1 around) (parts_of a ++ Times ∷ parts_of b) ≡ frame m s (tree_value words a * tree_value words b) around
in_product words a b la lb ra rb m s around = after-append words (frame m s 1 around) (parts_of a) (Times ∷ parts_of b)
    ∙ ap (λ t. after words t (Times ∷ parts_of b)) (ra.product la m s around) ∙ rb.operand lb m s (tree_value words a) around

in_quotient : (words : Words) (a : Tree) (k : ℕ) → 2 ≤ binding a → Reads words a → (m s : ℕ) (around : List Frame)
    → after words (frame m s 1 around) (parts_of a ++ Over k ∷ []) ≡ frame m s (quotient (tree_value words a) k) around
in_quotient words a k la ra m s around =
    after-append words (frame m s 1 around) (parts_of a) (Over k ∷ []) ∙ ap (λ t. after words t (Over k ∷ [])) (ra.product la m s around)

in_sum : (words : Words) (a b : Tree) → 1 ≤ binding a
    → 2 ≤ binding b → Reads words a → Reads words b → (m : ℕ) (around : List Frame) → ReadsSum words (Sum a b) m around
in_sum words a b la lb ra rb m around =
    let r = ra.sum la m around in
    record {
      sum = r.sum + r.product;
      product = tree_value words b;
      read = after-append words (frame m 0 1 around) (parts_of a) (Plus ∷ parts_of b)
          ∙ ap (λ t. after words t (Plus ∷ parts_of b)) r.read ∙ rb.product lb m (r.sum + r.product) around;
      value = ap (λ v. v + tree_value words b) r.value;
    }

in_row : (words : Words) (a b : Tree) → 1 ≤ binding b
    → Reads words a → Reads words b → (around : List Frame) → ReadsRow words (Row a b) around
in_row words a b lb ra rb around =
    let r = ra.row around in
    let q = rb.sum lb (max r.most (r.sum + r.product)) around in
    record {
      most = max r.most (r.sum + r.product);
      sum = q.sum;
      product = q.product;
      read = after-append words (frame 0 0 1 around) (parts_of a) (Comma ∷ parts_of b)
          ∙ ap (λ t. after words t (Comma ∷ parts_of b)) r.read ∙ q.read;
      value = ap (λ v. max v (q.sum + q.product)) r.value ∙ ap (λ v. max (tree_value words a) v) q.value;
    }

reads : (words : Words) (f : Tree) → IsBound f → Reads words f
reads words (Leaf o) b = from_operand words (Leaf o) (λ m s p around. refl)
reads words (Group a) b = from_operand words (Group a) (in_group words a (reads words a b.1))
reads words (Most a) b = from_operand words (Most a) (in_group words a (reads words a b))
reads words (Product a b) h = from_product words (Product a b) refl (in_product words a b h.0 h.1 (reads words a h.2) (reads words b h.3))
reads words (Quotient a k) h = from_product words (Quotient a k) refl (in_quotient words a k h.0 (reads words a h.1))
reads words (Sum a b) h = from_sum words (Sum a b) refl (in_sum words a b h.0 h.1 (reads words a h.2) (reads words b h.3))
reads words (Row a b) h = from_row words (Row a b) refl (in_row words a b h.0 (reads words a h.1) (reads words b h.2))

-- so the value of a formula's parts is that of its tree
pub value_of-tree : (words : Words) (f : Tree) → IsBound f
    → value_of words (record { factors = []; parts = parts_of f }) ≡ tree_value words f
value_of-tree words f b =
    let r = (reads words f b).row [] in
    value_from-after words (frame 0 0 1 []) (parts_of f) ∙ ap (λ (t : Tally). whole t.here) r.read ∙ r.value
