-- Items of a list in pages, by their places.
use Rattle.std.proofs.Common.{ℕ, ◌≡◌, ◌+◌, ◌-◌, ◌*◌, ◌/◌, ◌%◌, ◌<◌, ◌≤◌, List, [], ◌∷◌, ◌++◌, length, Some, refl, sym}
use Rattle.std.proofs.Common.{ap, ◌∙◌, suc, zero, arith, append_assoc, length-append, Bool, true, false, nat_lt}
use Rattle.std.specs.Prelude.{slice_get, All, None}
use Rattle.std.specs.List.{flat_map, AllZip}
use Rattle.std.proofs.lemmas.Option.{none-some, same_Some, slice_get_within}
use Rattle.std.proofs.lemmas.List.{append-nil, nil_from_length}
use Rattle.std.proofs.lemmas.List.Concat.{flat_map-cons, flat_map-append}
use Rattle.std.proofs.lemmas.List.Elements.{All-head, All-tail, All-cons, All-push, length_all_zip}
use Rattle.std.proofs.lemmas.Nat.{div-add-mod', mod_below}
use Rattle.std.proofs.lemmas.Bool.Decides.{nat_tests}
use Rattle.step_trace.specs.declared.paged_lists.TheConstants.{PAGE_LEN}
use Rattle.step_trace.specs.declared.traces.TheConstants.{MAX_STEPS}
use Rattle.step_trace.specs.Pages.{all_items, AreInPages, IsPage, BeginAlike}

-- a place in the first of two lists, and one after it
pub slice_get-left : {X : Type 0} (xs ys : List X) (k : ℕ) → k < length xs → slice_get (xs ++ ys) k ≡ slice_get xs k
slice_get-left [] ys k l = absurd (omega (arith, l))
slice_get-left (x ∷ xs) ys zero l = refl
slice_get-left (x ∷ xs) ys (suc k) l = slice_get-left xs ys k (let m : suc k < suc (length xs) = l in omega (arith, m))

pub slice_get-right : {X : Type 0} (xs ys : List X) (n k : ℕ) → n ≡ length xs → slice_get (xs ++ ys) (n + k) ≡ slice_get ys k
slice_get-right [] ys n k e = let z : n + k ≡ k = omega (arith, e) in ap (slice_get ys) z
slice_get-right (x ∷ xs) ys zero k e = absurd (let f : 0 ≡ suc (length xs) = e in omega (arith, f))
slice_get-right (x ∷ xs) ys (suc n) k e = let z : suc n + k ≡ suc (n + k) = omega arith in
    rw z (slice_get-right xs ys n k (let f : suc n ≡ suc (length xs) = e in omega (arith, f)))

-- if nothing is there, the list has ended
past : {X : Type 0} (xs : List X) (i : ℕ) → slice_get xs i ≡ None → length xs ≤ i
past [] i h = omega arith
past (x ∷ xs) zero h = absurd (none-some x (sym h))
past (x ∷ xs) (suc i) h = let l = past xs i h in let e : length (x ∷ xs) ≡ length xs + 1 = omega arith in omega (arith, l, e)

module _ {P X : Type 0} (items : P → List X) where
  -- full pages hold `PAGE_LEN` items each
  pub length-pages : (pages : List P) → All (λ p. length (items p) ≡ PAGE_LEN) pages
      → length (flat_map items pages) ≡ length pages * PAGE_LEN
  length-pages [] full = refl
  length-pages (p ∷ pages) full =
      let head = All-head (λ (q : P). length (items q) ≡ PAGE_LEN) p pages full in
      let rest = length-pages pages (All-tail (λ (q : P). length (items q) ≡ PAGE_LEN) p pages full) in
      let cut : length (flat_map items (p ∷ pages)) ≡ length (items p) + length (flat_map items pages) =
      ap length (flat_map-cons items p pages) ∙ length-append (items p) (flat_map items pages) in
      let more : length (p ∷ pages) ≡ length pages + 1 = omega arith in
      omega (arith, head, rest, cut, more)

  -- so all are as many as the pages make, and those of the last one
  pub length-all : (pages : List P) (last : List X)
      → All (λ p. length (items p) ≡ PAGE_LEN) pages → length (all_items items pages last) ≡ length pages * PAGE_LEN + length last
  length-all pages last full = length-append (flat_map items pages) last ∙ ap (λ n. n + length last) (length-pages pages full)

  -- where a page ends, the last page has no items
  pub none-at_end : (pages : List P) (last : List X)
      → AreInPages items pages last → length (all_items items pages last) % PAGE_LEN ≡ 0 → last ≡ []
  none-at_end pages last a h =
      let n = length (all_items items pages last) in
      let all = length-all pages last a.full in
      let less = a.less in
      let whole : n / PAGE_LEN * PAGE_LEN + n % PAGE_LEN ≡ n = div-add-mod' n PAGE_LEN in
      nil_from_length last (omega (arith, all, less, whole, h))

  -- one full page more
  pub all-with_page : (pages : List P) (p : P) → all_items items (pages ++ p ∷ []) [] ≡ all_items items pages [] ++ items p
  all-with_page pages p =
      append-nil (flat_map items (pages ++ p ∷ []))
      ∙ flat_map-append items pages (p ∷ [])
      ∙ ap (λ xs. flat_map items pages ++ xs) (flat_map-cons items p [] ∙ append-nil (items p))
      ∙ ap (λ xs. xs ++ items p) (sym (append-nil (flat_map items pages)))

  pub AreInPages-page : (pages : List P) (p : P) → AreInPages items pages []
      → length (items p) ≡ PAGE_LEN → length (all_items items pages []) + PAGE_LEN ≤ MAX_STEPS → AreInPages items (pages ++ p ∷ []) []
  AreInPages-page pages p a long room = record {
    full = All-push (λ (q : P). length (items q) ≡ PAGE_LEN) pages p a.full long;
    less = omega arith;
    limit = let all = length-all pages [] a.full in let more = length-append pages (p ∷ []) in omega (arith, all, more, room);
  }

  -- place r of page q
  at_page : (pages : List P) (last : List X) → All (λ p. length (items p) ≡ PAGE_LEN) pages → (q r : ℕ) (p : P)
      → r < PAGE_LEN → slice_get pages q ≡ Some p → slice_get (all_items items pages last) (q * PAGE_LEN + r) ≡ slice_get (items p) r
  at_page [] last full q r p low h = absurd (none-some p h)
  at_page (x ∷ pages) last full zero r p low h =
      let head = All-head (λ (q : P). length (items q) ≡ PAGE_LEN) x pages full in
      let at : 0 * PAGE_LEN + r ≡ r = omega arith in
      let whole : all_items items (x ∷ pages) last ≡ items x ++ all_items items pages last =
      ap (λ xs. xs ++ last) (flat_map-cons items x pages) ∙ append_assoc (items x) (flat_map items pages) last in
      rw (at, whole) (slice_get-left (items x) (all_items items pages last) r (omega (arith, head, low))
      ∙ ap (λ y. slice_get (items y) r) (same_Some x p h))
  at_page (x ∷ pages) last full (suc q) r p low h =
      let head = All-head (λ (q : P). length (items q) ≡ PAGE_LEN) x pages full in
      let rest = All-tail (λ (q : P). length (items q) ≡ PAGE_LEN) x pages full in
      let at : suc q * PAGE_LEN + r ≡ PAGE_LEN + (q * PAGE_LEN + r) = omega arith in
      let whole : all_items items (x ∷ pages) last ≡ items x ++ all_items items pages last =
      ap (λ xs. xs ++ last) (flat_map-cons items x pages) ∙ append_assoc (items x) (flat_map items pages) last in
      rw (at, whole) (slice_get-right (items x) (all_items items pages last) PAGE_LEN (q * PAGE_LEN + r) (sym head)
      ∙ at_page pages last rest q r p low h)

  -- a full page is that of its number
  pub is_page : (pages : List P) (last : List X) → AreInPages items pages last
      → (q : ℕ) (p : P) → slice_get pages q ≡ Some p → IsPage (items p) (all_items items pages last) q
  is_page pages last a q p h = record {
    inside = let l : q < length pages = slice_get_within pages q p h in let n = length-all pages last a.full in omega (arith, l, n);
    items = λ r l. sym (at_page pages last a.full q r p l h);
  }

  -- an item of a full page
  pub in_page : (pages : List P) (last : List X) → AreInPages items pages last → (i : ℕ) (p : P) → slice_get pages (i / PAGE_LEN) ≡ Some p
      → slice_get (all_items items pages last) i ≡ slice_get (items p) (i % PAGE_LEN)
  in_page pages last a i p h = ap (slice_get (all_items items pages last)) (sym (div-add-mod' i PAGE_LEN))
      ∙ at_page pages last a.full (i / PAGE_LEN) (i % PAGE_LEN) p (mod_below i PAGE_LEN (omega arith)) h

  -- an item after the full pages
  pub after_pages : (pages : List P) (last : List X) → AreInPages items pages last → (i : ℕ) → slice_get pages (i / PAGE_LEN) ≡ None
      → slice_get (all_items items pages last) i ≡ slice_get last (i - length pages * PAGE_LEN)
  after_pages pages last a i h =
      let l : length pages ≤ i / PAGE_LEN = past pages (i / PAGE_LEN) h in
      let m : i / PAGE_LEN * PAGE_LEN + i % PAGE_LEN ≡ i = div-add-mod' i PAGE_LEN in
      let at : i ≡ length pages * PAGE_LEN + (i - length pages * PAGE_LEN) = omega (arith, l, m) in
      ap (slice_get (all_items items pages last)) at ∙ slice_get-right
      (flat_map items pages) last (length pages * PAGE_LEN) (i - length pages * PAGE_LEN) (sym (length-pages pages a.full))

  -- pages of the same items hold the same list
  pub flat_map-same : (R : P → P → Type 0) → ((p q : P) → R p q → items q ≡ items p)
      → (pages copies : List P) → AllZip R pages copies → flat_map items copies ≡ flat_map items pages
  flat_map-same R same [] [] z = refl
  flat_map-same R same [] (q ∷ copies) z = absurd z
  flat_map-same R same (p ∷ pages) [] z = absurd z
  flat_map-same R same (p ∷ pages) (q ∷ copies) z = flat_map-cons items q copies
      ∙ ap (λ xs. xs ++ flat_map items copies) (same p q z.0)
      ∙ ap (λ xs. items p ++ xs) (flat_map-same R same pages copies z.1) ∙ sym (flat_map-cons items p pages)

  -- and are full if those are
  full-same : (R : P → P → Type 0) → ((p q : P) → R p q → items q ≡ items p) → (pages copies : List P) → AllZip R pages copies
      → All (λ p. length (items p) ≡ PAGE_LEN) pages → All (λ p. length (items p) ≡ PAGE_LEN) copies
  full-same R same [] [] z full = full
  full-same R same [] (q ∷ copies) z full = absurd z
  full-same R same (p ∷ pages) [] z full = absurd z
  full-same R same (p ∷ pages) (q ∷ copies) z full =
      let rest = full-same R same pages copies z.1 (All-tail (λ (q : P). length (items q) ≡ PAGE_LEN) p pages full) in
      let head = All-head (λ (q : P). length (items q) ≡ PAGE_LEN) p pages full in
      All-cons (λ (q : P). length (items q) ≡ PAGE_LEN) q copies (ap length (same p q z.0) ∙ head) rest

  -- and so are such pages with a last page of the same length
  pub AreInPages-copy : (R : P → P → Type 0) → ((p q : P) → R p q → items q ≡ items p) → (pages copies : List P) (last more : List X)
      → AllZip R pages copies → length more ≡ length last → AreInPages items pages last → AreInPages items copies more
  AreInPages-copy R same pages copies last more z e a = record {
    full = full-same R same pages copies z a.full;
    less = let b = a.less in omega (arith, b, e);
    limit = let b = a.limit in let n = length_all_zip R pages copies z in rw (← n, e) b;
  }

-- lists that begin alike, and have the same at the places of one page more, begin alike with it
pub alike-with_page : {X : Type 0} (xs ys here there : List X) (q : ℕ) → BeginAlike xs ys (q * PAGE_LEN)
    → IsPage here xs q → IsPage there ys q → BeginAlike here there PAGE_LEN → BeginAlike xs ys ((q + 1) * PAGE_LEN)
alike-with_page xs ys here there q before one other same i l = go (nat_lt i (q * PAGE_LEN)) refl
  where
    go : (t : Bool) → nat_lt i (q * PAGE_LEN) ≡ t → slice_get xs i ≡ slice_get ys i
    go true e = before i (grind (arith, nat_tests))
    go false e =
        let r : i - q * PAGE_LEN < PAGE_LEN = grind (arith, nat_tests) in
        let at : q * PAGE_LEN + (i - q * PAGE_LEN) ≡ i = grind (arith, nat_tests) in
        rw at at (sym (one.items (i - q * PAGE_LEN) r) ∙ same (i - q * PAGE_LEN) r ∙ other.items (i - q * PAGE_LEN) r)
