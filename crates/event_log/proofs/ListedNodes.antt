-- The nodes that a text lists, one after the other.
use Rattle.std.proofs.Common.{◌≡◌, ◌∙◌, ℕ, zero, suc, ◌<◌, ◌≤◌, arith, List, [], ◌∷◌, ◌++◌, length, take, get_or, Bool, true, false, not, ap, sym, refl}
use Rattle.std.specs.Prelude.{◌&&◌, nat_lt, All}
use Rattle.std.specs.List.{AllByRecursion, IsDistinct}
use Rattle.std.specs.Str.{bytes_eq}
use Rattle.std.proofs.lemmas.Cmp.{nat_list_eq_equiv}
use Rattle.std.proofs.lemmas.List.{length-append}
use Rattle.std.proofs.lemmas.List.Elements.{All-nil, All-push, All-tail, All-head}
use Rattle.std.proofs.lemmas.Map.Keys.{IsDistinct-push}
use Rattle.std.proofs.lemmas.Bool.{and_parts, not-true, or_from}
use borrow.Author.Tests.{ltb-true, lt-ltb}
use Rattle.trace_text.specs.Names.{has_name, is_node_name}
use Rattle.event_log.specs.Names.{with_name}
use Rattle.event_log.specs.Options.{AreNodes, IsNodeFault, is_next_node}
use Rattle.event_log.specs.declared.options.OptionError.{OptionError}
use Rattle.event_log.specs.declared.options.OptionError.TheVariants as option

-- a name that isn't there goes last
pub with_name-new : (names : List (List ℕ)) (name : List ℕ) → has_name names name ≡ false → with_name names name ≡ names ++ name ∷ []
unfolding with_name
with_name-new names name e = rw e refl

-- what holds of the nodes so far
pub record AreListed (names : List (List ℕ)) : Type 0 where
  pub few : length names ≤ 64
  pub each : All (λ name. is_node_name name ≡ true) names
  pub different : IsDistinct bytes_eq names

pub listed-none : AreListed []
unfolding IsDistinct
listed-none = record { few = omega arith; each = All-nil (λ name. is_node_name name ≡ true); different = tt }

pub listed-next : (names : List (List ℕ)) (name : List ℕ)
    → AreListed names → is_next_node names name ≡ true → AreListed (names ++ name ∷ [])
listed-next names name h e =
    let a = and_parts (is_node_name name && nat_lt (length names) 64) (not (has_name names name)) e in
    let b = and_parts (is_node_name name) (nat_lt (length names) 64) a.0 in
    let few = ltb-true (length names) 64 b.1 in
    record {
      few = omega (arith, few, length-append names (name ∷ []));
      each = All-push (λ name. is_node_name name ≡ true) names name h.each b.0;
      different = IsDistinct-push nat_list_eq_equiv names name h.different (not-true (has_name names name) a.1);
    }

-- a name differs from those before it
apart-from : (x : List ℕ) (done rest : List (List ℕ)) (P : List ℕ → Type 0) → AllByRecursion P (done ++ x ∷ rest) → P x
apart-from x [] rest P h = h.0
apart-from x (y ∷ done) rest P h = apart-from x done rest P h.1

different-front : (x : List ℕ) (done rest : List (List ℕ)) → IsDistinct bytes_eq (done ++ x ∷ rest) → has_name done x ≡ false
unfolding IsDistinct
different-front x [] rest h = refl
different-front x (y ∷ done) rest h =
    let apart = apart-from x done rest (λ z. bytes_eq y z ≡ false) h.0 in
    or_from (bytes_eq x y) (has_name done x) (nat_list_eq_equiv.symm x y ∙ apart) (different-front x done rest h.1)

name-at : (x : List ℕ) (done rest : List (List ℕ)) → All (λ name. is_node_name name ≡ true) (done ++ x ∷ rest) → is_node_name x ≡ true
name-at x [] rest h = All-head (λ name. is_node_name name ≡ true) x rest h
name-at x (y ∷ done) rest h = name-at x done rest (All-tail (λ name. is_node_name name ≡ true) y (done ++ x ∷ rest) h)

all-three : (a b c : Bool) → a ≡ true → b ≡ true → c ≡ false → (a && b && not c) ≡ true
all-three a b c e f g = rw (e, f, g) refl

next-in : (x : List ℕ) (done rest : List (List ℕ)) → AreNodes (done ++ x ∷ rest) → is_next_node done x ≡ true
next-in x done rest h =
    let few = h.few in
    let short : length done < 64 = omega (arith, few, length-append done (x ∷ rest)) in
    all-three (is_node_name x) (nat_lt (length done) 64)
    (has_name done x) (name-at x done rest h.each) (lt-ltb (length done) 64 short) (different-front x done rest h.different)

cut : (xs : List (List ℕ)) (k : ℕ) (d : List ℕ) → k < length xs → (rest : List (List ℕ)) × (xs ≡ take k xs ++ get_or xs k d ∷ rest)
cut [] k d lt = absurd (omega (arith, lt))
cut (x ∷ xs) zero d lt = (xs, refl)
cut (x ∷ xs) (suc k) d lt = let r = cut xs k d (omega (arith, lt)) in (r.0, ap (λ ys. x ∷ ys) r.1)

-- so one that may not come next refuses the whole list
pub nodes-refused : (names done : List (List ℕ)) (x : List ℕ) (k : ℕ)
    → done ≡ take k names → k < length names → x ≡ get_or names k x → is_next_node done x ≡ false → ¬ AreNodes names
nodes-refused names done x k e lt at bad h =
    let r = cut names k x lt in
    let same : names ≡ done ++ x ∷ r.0 = r.1 ∙ ap (λ ys. ys ++ get_or names k x ∷ r.0) (sym e) ∙ ap (λ y. done ++ y ∷ r.0) (sym at) in
    let next = next-in x done r.0 (rw (← same) h) in
    absurd (true-false (sym next ∙ bad)) where
      true-false : true ≡ false → ⊥
      true-false e = cc e

-- fewer than two are no list
pub too-few : (names : List (List ℕ)) → length names < 2 → ¬ AreNodes names
too-few names lt h = let two = h.two in absurd (omega (arith, two, lt))

-- a fault of one node is one of all
pub fault-from : {P Q : Type 0} (why : OptionError) → (P → Q) → IsNodeFault P why → IsNodeFault Q why
fault-from option.Nodes f h = f h
fault-from option.Unit f h = h
fault-from option.Tick f h = h
fault-from option.Until f h = h
fault-from option.Idle f h = h
fault-from option.Memory f h = tt
