-- Words in the order of their bytes: they are those of any other order, and a binary search finds just them.
use Rattle.std.proofs.Common.{ℕ, ◌≡◌, inl, inr, ◌||◌, ◌&&◌, List, [], ◌∷◌, length, get_or, map, Result, Ok, Err, refl, sym, ap, ◌∙◌, arith, eq-eqb}
use Rattle.std.specs.Cmp.Lexicographic.{slice_cmp}
use Rattle.std.specs.List.{list_all, list_any}
use Rattle.std.specs.List.Sorted.{IsBinarySearchResult, IsPermutation, IsSearchInRange, IsSorted}
use Rattle.std.specs.Ordering.{is_eq, nat_cmp}
use Rattle.std.specs.Result.{is_ok}
use Rattle.std.specs.Str.{bytes_eq}
use Rattle.std.proofs.lemmas.Bool.{cases_lt}
use Rattle.std.proofs.lemmas.Cmp.{nat_list_cmp_total, nat_list_eq_equiv}
use Rattle.std.proofs.lemmas.List.{length-map}
use Rattle.std.proofs.lemmas.List.Folds.{list_any_at, list_any_none}
use Rattle.std.proofs.lemmas.List.Sorted.{list_any-IsPermutation, searchable_from_sorted}
use Rattle.std.proofs.lemmas.Map.Text.{is_eq-slice_cmp}
use Rattle.trace_text.specs.Names.{has_name}
use Rattle.step_tables.specs.Records.{are_names_of, message_at}
use Rattle.step_tables.specs.Told.{Said}
use denote.Ref.{Bor}

-- whether a name is among words that are lent
has_name-lent : (words : List (Bor (List ℕ))) (name : List ℕ)
    → has_name (map (λ word. word.now) words) name ≡ list_any (λ word. bytes_eq name word.now) words
has_name-lent [] name = refl
has_name-lent (w ∷ ws) name = ap (λ t. bytes_eq name w.now || t) (has_name-lent ws name)

-- another order of the words has the same names
pub has_name-reordered : (words others : List (Bor (List ℕ))) (name : List ℕ) → IsPermutation words others
    → has_name (map (λ word. word.now) others) name ≡ has_name (map (λ word. word.now) words) name
has_name-reordered words others name same =
    has_name-lent others name
    ∙ sym (list_any-IsPermutation (λ word. bytes_eq name word.now) words others same)
    ∙ sym (has_name-lent words name)

-- so messages have their names in one list exactly if they have them in the other, if there are as many of both
pub are_names_of-reordered : (rows : List Said) (ids : List ℕ) (words others : List (Bor (List ℕ)))
    → length words ≡ length ids → IsPermutation words others → list_all
    (λ id. has_name (map (λ word. word.now) others) (message_at rows id)) ids ≡ are_names_of rows ids (map (λ word. word.now) words)
are_names_of-reordered rows ids words others many same =
    let all_named = list_all (λ id. has_name (map (λ word. word.now) words) (message_at rows id)) ids in
    let as_many = eq-eqb (length (map (λ word. word.now) words)) (length ids) (length-map words (λ word. word.now) ∙ many) in
    (λ i. list_all (λ id. has_name-reordered words others (message_at rows id) same i) ids) ∙ sym (ap (λ t. t && all_named) as_many)

-- a name is the word that an order finds equal to it
same-from-cmp : (word name : List ℕ) → bytes_eq name word ≡ is_eq (slice_cmp nat_cmp word name)
same-from-cmp word name = nat_list_eq_equiv.symm name word ∙ sym (is_eq-slice_cmp word name)

-- a binary search finds just the names that are among the words
pub has_name-searched : (words : List (Bor (List ℕ))) (name : Bor (List ℕ)) (r : Result ℕ ℕ)
    → IsSorted (λ x y. slice_cmp nat_cmp x.now y.now) words
    → IsSearchInRange r (length words)
    → IsBinarySearchResult (λ word. slice_cmp nat_cmp word.now name.now) words r
    → is_ok r ≡ has_name (map (λ word. word.now) words) name.now
has_name-searched words name (Ok i) sorted inside found =
    sym (has_name-lent words name.now
    ∙ list_any_at (λ word. bytes_eq name.now word.now) words i name inside
    (same-from-cmp (get_or words i name).now name.now ∙ ap is_eq (found name)))
has_name-searched words name (Err i) sorted inside parted =
    let parts = parted (searchable_from_sorted nat_list_cmp_total (λ (word : Bor (List ℕ)). word.now) words name.now sorted) in
    sym (has_name-lent words name.now
    ∙ list_any_none (λ word. bytes_eq name.now word.now) words (λ k d l. elim (cases_lt k i) [
      | inl below ↦ same-from-cmp (get_or words k d).now name.now ∙ ap is_eq (parts.0 k d (omega arith) below)
      | inr above ↦ same-from-cmp (get_or words k d).now name.now ∙ ap is_eq (parts.1 k d above l)
    ]))
