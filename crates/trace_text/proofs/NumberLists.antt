-- Lists of numbers: those of the fields of a record, and those with one space between them.
use Rattle.std.proofs.Common.{ℕ, zero, suc, ◌≡◌, ◌+◌, ◌-◌, ◌<◌, ◌≤◌, ◌^◌, ◌==◌, ◌∙◌, List, [], ◌∷◌, ◌++◌, length, map}
use Rattle.std.proofs.Common.{take, drop, get_or, Option, Some, None, Bool, true, false, refl, sym, ap, arith, decimal}
use Rattle.std.proofs.Common.{drop-cons}
use Rattle.std.specs.Prelude.{All, IsTrue}
use Rattle.std.specs.List.{slice_split, join_with_byte}
use Rattle.std.specs.Option.{option_and_then, option_map}
use Rattle.std.specs.Char.{digit_value}
use Rattle.std.specs.Str.Parse.{AllDigits}
use Rattle.std.proofs.Math.Seq.{take-suc}
use Rattle.std.proofs.lemmas.Bool.{eqb-true}
use Rattle.std.proofs.lemmas.Fmt.{digits_decimal, decimal_nonempty}
use Rattle.std.proofs.lemmas.List.{take-append-drop}
use Rattle.std.proofs.lemmas.List.Elements.{All-nil, All-cons, All-head, All-tail}
use Rattle.std.proofs.lemmas.List.Splits.{slice_split_at, slice_split_none, join_with_byte-slice_split}
use Rattle.std.proofs.lemmas.Grind.{common_steps}
use Rattle.csv.specs.Records.{field_at}
use Rattle.trace_text.specs.Records.{field_of, number_of}
use Rattle.trace_text.specs.TextRefusals.{numbers_of, begins_with_number, parts_of, ids_of}
use Rattle.step_trace.proofs.Digits.{decimal_digits}
use Rattle.trace_text.proofs.Numbers.{number_of-decimal, number_of-some}

-- one more field that is a number
pub numbers_of-more : (fs : List (List ℕ)) (ns : List ℕ) (f : List ℕ) (n : ℕ)
    → numbers_of fs ≡ Some ns → number_of f ≡ Some n → numbers_of (fs ++ f ∷ []) ≡ Some (ns ++ n ∷ [])
numbers_of-more [] ns f n h k = let e : [] ≡ ns = cc in rw (← e, k) refl
numbers_of-more (g ∷ fs) ns f n h k = first (λ ms b. numbers_of-more fs ms f n b k) (number_of g) (numbers_of fs) refl refl h where
  first : ((ms : List ℕ) → numbers_of fs ≡ Some ms → numbers_of (fs ++ f ∷ []) ≡ Some (ms ++ n ∷ []))
      → (o : Option ℕ) (p : Option (List ℕ)) → number_of g ≡ o → numbers_of fs ≡ p
      → option_and_then (λ n. option_map (λ ns. n ∷ ns) p) o ≡ Some ns
      → numbers_of (g ∷ (fs ++ f ∷ [])) ≡ Some (ns ++ n ∷ [])
  first more None p a b c = cc c
  first more (Some m) None a b c = cc c
  first more (Some m) (Some ms) a b c = let e : m ∷ ms ≡ ns = cc c in rw (a, more ms b, ← e) refl

-- one field that is no number
pub numbers_of-stops : (fs rest : List (List ℕ)) (f : List ℕ) → number_of f ≡ None → numbers_of (fs ++ f ∷ rest) ≡ None
numbers_of-stops [] rest f k = rw k refl
numbers_of-stops (g ∷ fs) rest f k = rw (numbers_of-stops fs rest f k) (none (number_of g)) where
  none : (o : Option ℕ) → option_and_then (λ n. option_map (λ ns. n ∷ ns) None) o ≡ None
  none None = refl
  none (Some n) = refl

-- the field at the place k is read, after those before it
pub numbers_of-turn : (fs : List (List ℕ)) (k : ℕ) (ns : List ℕ) (f : List ℕ) (n : ℕ) (d : List ℕ) → k < length fs
    → f ≡ get_or fs k d → numbers_of (take k fs) ≡ Some ns → number_of f ≡ Some n → numbers_of (take (suc k) fs) ≡ Some (ns ++ n ∷ [])
numbers_of-turn fs k ns f n d l e h m = rw (take-suc fs k d l, ← e) (numbers_of-more (take k fs) ns f n h m)

pub numbers_of-turn_none : (fs : List (List ℕ)) (k : ℕ) (f : List ℕ) (d : List ℕ)
    → k < length fs → f ≡ get_or fs k d → number_of f ≡ None → numbers_of fs ≡ None
numbers_of-turn_none fs k f d l e m =
    let whole : fs ≡ take k fs ++ (f ∷ drop (suc k) fs) = sym (take-append-drop k fs)
    ∙ ap (λ r. take k fs ++ r) (drop-cons fs k d l ∙ ap (λ g. g ∷ drop (suc k) fs) (sym e)) in
    ap numbers_of whole ∙ numbers_of-stops (take k fs) (drop (suc k) fs) f m

-- the field of a place
pub field_of-get_or : (fs : List (List ℕ)) (k : ℕ) → field_of fs k ≡ get_or fs k []
unfolding field_at
field_of-get_or [] k = refl
field_of-get_or (f ∷ fs) zero = refl
field_of-get_or (f ∷ fs) (suc k) = field_of-get_or fs k

-- the texts of numbers are read as these numbers
pub numbers_of-decimals : (ns : List ℕ) → All (λ n. n < 2 ^ 64) ns → numbers_of (map decimal ns) ≡ Some ns
numbers_of-decimals [] h = refl
numbers_of-decimals (n ∷ ns) h =
    rw (number_of-decimal n (All-head (λ n. n < 2 ^ 64) n ns h), numbers_of-decimals ns (All-tail (λ n. n < 2 ^ 64) n ns h)) refl

-- and nothing else is
pub numbers_of-some : (fs : List (List ℕ)) (ns : List ℕ) → numbers_of fs ≡ Some ns → (fs ≡ map decimal ns) × All (λ n. n < 2 ^ 64) ns
numbers_of-some [] ns h = let e : [] ≡ ns = cc in rw (← e) (refl, All-nil (λ n. n < 2 ^ 64))
numbers_of-some (f ∷ fs) ns h = first (λ ms b. numbers_of-some fs ms b) (number_of f) (numbers_of fs) refl refl h where
  first : ((ms : List ℕ) → numbers_of fs ≡ Some ms → (fs ≡ map decimal ms) × All (λ n. n < 2 ^ 64) ms)
      → (o : Option ℕ) (p : Option (List ℕ)) → number_of f ≡ o → numbers_of fs ≡ p
      → option_and_then (λ n. option_map (λ ns. n ∷ ns) p) o ≡ Some ns
      → (f ∷ fs ≡ map decimal ns) × All (λ n. n < 2 ^ 64) ns
  first more None p a b c = cc c
  first more (Some m) None a b c = cc c
  first more (Some m) (Some ms) a b c =
      let e : m ∷ ms ≡ ns = cc c in
      let one = number_of-some f m a in
      let rest = more ms b in
      rw (← e) (rw (one.0, rest.0) refl, All-cons (λ n. n < 2 ^ 64) m ms one.1 rest.1)

-- no digit is a space
no_space : (ds : List ℕ) → AllDigits 10 ds → All (λ c. (c == 32) ≡ false) ds
no_space [] h = All-nil (λ c. (c == 32) ≡ false)
no_space (d ∷ ds) h = All-cons (λ c. (c == 32) ≡ false) d ds (go (d == 32) refl) (no_space ds h.1) where
  go : (t : Bool) → (d == 32) ≡ t → t ≡ false
  go true e = let same : d ≡ 32 = eqb-true d 32 e in absurd (let low : digit_value 32 < 10 = rw same at h.0 in omega (arith, low))
  go false e = refl

-- numbers with one space between them are cut into their texts
slice_split-decimals : (n : ℕ) (ns : List ℕ) → All (λ n. n < 2 ^ 64) (n ∷ ns)
    → slice_split (λ c. c == 32) (join_with_byte 32 (map decimal (n ∷ ns))) ≡ map decimal (n ∷ ns)
slice_split-decimals n [] h = slice_split_none (λ c. c == 32)
    (decimal n) (no_space (decimal n) (digits_decimal decimal_digits n (All-head (λ n. n < 2 ^ 64) n [] h)))
slice_split-decimals n (m ∷ ns) h = slice_split_at (λ c. c == 32) (decimal n) 32
    (join_with_byte 32 (map decimal (m ∷ ns)))
    (no_space (decimal n) (digits_decimal decimal_digits n (All-head (λ n. n < 2 ^ 64) n (m ∷ ns) h))) refl
    ∙ ap (λ r. decimal n ∷ r) (slice_split-decimals m ns (All-tail (λ n. n < 2 ^ 64) n (m ∷ ns) h))

-- the ids of a field that isn't empty
pub ids_of-split : (arg : List ℕ) → 0 < length arg → ids_of arg ≡ numbers_of (parts_of arg)
ids_of-split [] h = absurd (omega (arith, h))
ids_of-split (b ∷ bs) h = refl

joined_nonempty : (n : ℕ) (ns : List ℕ) → n < 2 ^ 64 → 0 < length (join_with_byte 32 (map decimal (n ∷ ns)))
joined_nonempty n [] h = decimal_nonempty n h
joined_nonempty n (m ∷ ns) h = let l = decimal_nonempty n h in grind (arith, common_steps)

pub ids_of-joined : (ns : List ℕ) → All (λ n. n < 2 ^ 64) ns → ids_of (join_with_byte 32 (map decimal ns)) ≡ Some ns
ids_of-joined [] h = refl
ids_of-joined (n ∷ ns) h =
    ids_of-split (join_with_byte 32 (map decimal (n ∷ ns))) (joined_nonempty n ns (All-head (λ n. n < 2 ^ 64) n ns h))
    ∙ ap numbers_of (slice_split-decimals n ns h) ∙ numbers_of-decimals (n ∷ ns) h

-- the field of a number alone
pub ids_of-one : (arg : List ℕ) (n : ℕ) → number_of arg ≡ Some n → ids_of arg ≡ Some (n ∷ [])
ids_of-one arg n h =
    let k = number_of-some arg n h in
    rw k.0 (ids_of-joined (n ∷ []) (All-cons (λ n. n < 2 ^ 64) n [] k.1 (All-nil (λ n. n < 2 ^ 64))))

pub ids_of-some : (arg ns : List ℕ) → ids_of arg ≡ Some ns → arg ≡ join_with_byte 32 (map decimal ns)
ids_of-some [] ns h = let e : [] ≡ ns = cc in rw (← e) refl
ids_of-some (b ∷ bs) ns h = sym (join_with_byte-slice_split 32 (b ∷ bs))
    ∙ ap (λ fs. join_with_byte 32 fs) (numbers_of-some (slice_split (λ c. c == 32) (b ∷ bs)) ns h).0

-- the same, of the fields after the first
field_of-after_first : (fs : List (List ℕ)) (i : ℕ) → 1 ≤ i → field_of fs i ≡ get_or (drop 1 fs) (i - 1) []
unfolding field_at
field_of-after_first [] i h = refl
field_of-after_first (f ∷ fs) zero h = absurd (omega (arith, h))
field_of-after_first (f ∷ fs) (suc k) h = let e : suc k - 1 ≡ k = omega arith in rw e (field_of-get_or fs k)

after_first-within : (fs : List (List ℕ)) (i : ℕ) → 1 ≤ i → i < length fs → i - 1 < length (drop 1 fs)
after_first-within [] i h l = absurd (omega (arith, l))
after_first-within (f ∷ fs) i h l = let m : i < suc (length fs) = l in omega (arith, h, m)

pub values-turn : (fs : List (List ℕ)) (i : ℕ) (ns items f : List ℕ) (n : ℕ) → 1 ≤ i → i < length fs → f ≡ field_of fs i
    → numbers_of (take (i - 1) (drop 1 fs)) ≡ Some ns → number_of f ≡ Some n → items ≡ ns ++ n ∷ []
    → numbers_of (take (i + 1 - 1) (drop 1 fs)) ≡ Some items
values-turn fs i ns items f n low high same before this e =
    let place : i + 1 - 1 ≡ suc (i - 1) = omega (arith, low) in
    rw (place, e) (numbers_of-turn (drop 1 fs) (i - 1) ns f n
    [] (after_first-within fs i low high) (same ∙ field_of-after_first fs i low) before this)

pub values-turn_none : (fs : List (List ℕ)) (i : ℕ) (f : List ℕ)
    → 1 ≤ i → i < length fs → f ≡ field_of fs i → number_of f ≡ None → numbers_of (drop 1 fs) ≡ None
values-turn_none fs i f low high same none = numbers_of-turn_none
    (drop 1 fs) (i - 1) f [] (after_first-within fs i low high) (same ∙ field_of-after_first fs i low) none

-- if a number was read, the first text is a number: it is this one, or it was read before
pub begins_with_number-turn : (fs : List (List ℕ)) (k : ℕ) (f : List ℕ) (n : ℕ) (d : List ℕ)
    → (0 < k → IsTrue (begins_with_number fs)) → k < length fs → f ≡ get_or fs k d → number_of f ≡ Some n → IsTrue (begins_with_number fs)
begins_with_number-turn [] k f n d before l e h = absurd (omega (arith, l))
begins_with_number-turn (g ∷ fs) zero f n d before l e h = let same : number_of g ≡ Some n = sym (ap number_of e) ∙ h in rw same refl
begins_with_number-turn (g ∷ fs) (suc k) f n d before l e h = before (omega arith)

-- the same, of the fields after the first
pub begins_after_first-turn : (fs : List (List ℕ)) (i : ℕ) (f : List ℕ) (n : ℕ) → (1 < i → IsTrue (begins_with_number (drop 1 fs)))
    → 1 ≤ i → i < length fs → f ≡ field_of fs i → number_of f ≡ Some n → IsTrue (begins_with_number (drop 1 fs))
begins_after_first-turn fs i f n before low high e h = begins_with_number-turn (drop 1 fs)
    (i - 1) f n [] (λ some. before (omega (arith, some))) (after_first-within fs i low high) (e ∙ field_of-after_first fs i low) h
