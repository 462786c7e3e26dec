-- What the parts of a text mean for the items that it lists.
use Rattle.std.proofs.Common.{◌≡◌, ◌≢◌, ◌∙◌, ◌<◌, ◌≤◌, ◌^◌, ℕ, false, List, [], ◌∷◌, ◌++◌, length, map, get_or, decimal, All, eqb, refl, sym, ap, arith}
use Rattle.std.specs.List.{join_with_byte, slice_split}
use Rattle.std.proofs.lemmas.Bool.{ne_eqb}
use Rattle.std.proofs.lemmas.Fmt.{decimal_by_steps}
use Rattle.std.proofs.lemmas.List.{get_or-map, map-append, length-map}
use Rattle.std.proofs.lemmas.List.Elements.{All-nil, All-cons, All-push, All-head, All-tail, All-get_or, All-weaker}
use Rattle.std.proofs.lemmas.List.Splits.{slice_split_none, slice_split_at, join_with_byte-slice_split, length-slice_split}
use Rattle.command_line.specs.CommaLists.{IsCommaList}

-- the parts round the commas
abbrev pub parts_of : List ℕ → List (List ℕ)
parts_of text = slice_split (λ b. eqb b 44) text

-- the byte is no comma
abbrev pub IsNoComma : ℕ → Type 0
IsNoComma b = eqb b 44 ≡ false

-- the byte is a digit
abbrev pub IsDigit : ℕ → Type 0
IsDigit b = (48 ≤ b) × (b ≤ 57)

pub decimal_digits : (n : ℕ) → n < 2 ^ 64 → All IsDigit (decimal n)
decimal_digits n h = decimal_by_steps (λ _ ds. All IsDigit ds)
    (λ d small. All-cons IsDigit _ [] (omega arith, omega (arith, small)) (All-nil IsDigit))
    (λ d ds _ all. All-push IsDigit ds _ all (omega arith, omega arith)) n h

pub decimal_no_comma : (n : ℕ) → n < 2 ^ 64 → All IsNoComma (decimal n)
decimal_no_comma n h = All-weaker IsDigit IsNoComma (λ b digit. ne_eqb b 44 (λ e. omega (arith, digit.0))) (decimal n) (decimal_digits n h)

-- the parts of a list's text are its items' texts, in which is no comma
parts_of_list : {A : Type 0} (IsItem : A → Type 0) (text_of : A → List ℕ) → ((item : A) → IsItem item → All IsNoComma (text_of item))
    → (item : A) (items : List A) → All IsItem (item ∷ items)
    → parts_of (join_with_byte 44 (map text_of (item ∷ items))) ≡ map text_of (item ∷ items)
parts_of_list IsItem text_of whole item [] all = slice_split_none _ (text_of item) (whole item (All-head IsItem item [] all))
parts_of_list IsItem text_of whole item (next ∷ items) all =
    slice_split_at _ (text_of item) 44 _ (whole item (All-head IsItem item (next ∷ items) all)) refl
    ∙ ap (λ parts. text_of item ∷ parts) (parts_of_list IsItem text_of whole next items (All-tail IsItem item (next ∷ items) all))

parts_are_items : {A : Type 0} (IsItem : A → Type 0) (text_of : A → List ℕ) → ((item : A) → IsItem item → All IsNoComma (text_of item))
    → (text : List ℕ) (items : List A) → IsCommaList IsItem text_of text items → parts_of text ≡ map text_of items
parts_are_items IsItem text_of whole text [] list = absurd (omega (arith, list.some))
parts_are_items IsItem text_of whole text (item ∷ items) list = rw (list.written) (parts_of_list IsItem text_of whole item items list.each)

-- bytes that write no item are no part of such a text
pub unread_is_no_item : {A : Type 0} (IsItem : A → Type 0) (text_of : A → List ℕ) → ((item : A) → IsItem item → All IsNoComma
    (text_of item)) → (text : List ℕ) (items : List A) (part : List ℕ) (k : ℕ) → ((item : A) → IsItem item → part ≢ text_of item)
    → (k < length (parts_of text)) × (part ≡ get_or (parts_of text) k part) → ¬ IsCommaList IsItem text_of text items
unread_is_no_item IsItem text_of whole text [] part k none at list = omega (arith, list.some)
unread_is_no_item IsItem text_of whole text (item ∷ items) part k none at list =
    let parts = parts_are_items IsItem text_of whole text (item ∷ items) list in
    let inside : k < length (item ∷ items) = rw (parts, length-map) at at.0 in
    none (get_or (item ∷ items) k item) (All-get_or IsItem (item ∷ items) k item inside list.each)
    (at.1 ∙ rw parts (get_or-map text_of (item ∷ items) k item part inside))

-- the parts that were read are the texts of these items
pub record AreRead {A : Type 0} (IsItem : A → Type 0) (text_of : A → List ℕ) (parts : List (List ℕ)) (items : List A) : Type 0 where
  pub each : All IsItem items
  pub written : parts ≡ map text_of items

pub none_read : {A : Type 0} (IsItem : A → Type 0) (text_of : A → List ℕ) → AreRead IsItem text_of [] []
none_read IsItem text_of = record { each = All-nil IsItem; written = refl }

pub one_more_read : {A : Type 0} (IsItem : A → Type 0)
    (text_of : A → List ℕ) (parts : List (List ℕ)) (items : List A) (part : List ℕ) (item : A) → AreRead IsItem text_of parts items
    → part ≡ text_of item → IsItem item → AreRead IsItem text_of (parts ++ part ∷ []) (items ++ item ∷ [])
one_more_read IsItem text_of parts items part item read e fits = record {
  each = All-push IsItem items item read.each fits;
  written = rw (map-append, ← e, ← read.written) refl;
}

-- once all parts are read, these are the items of the text
pub all_read : {A : Type 0} (IsItem : A → Type 0) (text_of : A → List ℕ) (text : List ℕ) (parts : List (List ℕ)) (items : List A)
    → AreRead IsItem text_of parts items → parts ≡ parts_of text → IsCommaList IsItem text_of text items
all_read IsItem text_of text parts items read e = record {
  some = omega (arith, ap length read.written, ap length e, length-slice_split (λ b. eqb b 44) text, length-map items text_of);
  each = read.each;
  written = sym (join_with_byte-slice_split 44 text) ∙ ap (join_with_byte 44) (sym e ∙ read.written);
}
