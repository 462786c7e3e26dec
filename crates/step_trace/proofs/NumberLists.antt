-- Numbers with commas between them, and the sets of what is read of them.
use Rattle.std.proofs.Common.{◌≡◌, ◌≢◌, ◌∙◌, ◌<◌, ◌≤◌, ◌^◌, ◌+◌, ◌⊎◌, ◌↔◌, ℕ, false, IsTrue, List, [], ◌∷◌, ◌++◌}
use Rattle.std.proofs.Common.{length, map, get_or, decimal, Contains, All, eqb, refl, sym, ap, subst, inl, inr, arith}
use Rattle.std.specs.List.{join_with_byte, slice_split}
use Rattle.std.proofs.lemmas.Bool.{ne_eqb, cases_eq, false≢true}
use Rattle.std.proofs.lemmas.Fmt.{decimal_by_steps, decimal_injective}
use Rattle.std.proofs.lemmas.List.{get_or-map, map-append, length-map}
use Rattle.std.proofs.lemmas.List.Elements.{All-nil, All-cons, All-push, Contains-get_or, Contains-append_left, Contains-append_right, Contains-push, Contains-push_cases}
use Rattle.std.proofs.lemmas.List.Splits.{slice_split_none, slice_split_at, join_with_byte-slice_split, length-slice_split}
use Rattle.step_trace.specs.declared.processors.TheConstants.{MAX_MEMBER}
use Rattle.step_trace.specs.Processors.{has_proc}
use Rattle.step_trace.specs.ProcessorLists.{IsListOf, HasMembers}

-- the parts round the commas
abbrev pub parts_of : List ℕ → List (List ℕ)
parts_of text = slice_split (λ b. eqb b 44) text

-- the byte is no comma
abbrev NoComma : ℕ → Type 0
NoComma b = eqb b 44 ≡ false

-- a digit is no comma
digit_no_comma : (d : ℕ) → NoComma (48 + d)
digit_no_comma d = ne_eqb (48 + d) 44 (λ e. omega arith)

-- there is none in the text of a number
decimal_no_comma : (n : ℕ) → n < 2 ^ 64 → All NoComma (decimal n)
decimal_no_comma n h = decimal_by_steps (λ _ ds. All NoComma ds)
    (λ d _. All-cons NoComma _ [] (digit_no_comma d) (All-nil NoComma))
    (λ d ds _ all. All-push NoComma ds _ all (digit_no_comma _)) n h

-- a member's number has 64 bits
small : (n : ℕ) → n ≤ MAX_MEMBER → n < 2 ^ 64
small n h = omega arith

-- the parts of a list's text are its numbers' texts
parts-of_list : (n : ℕ) (numbers : List ℕ) → ((p : ℕ) → Contains (n ∷ numbers) p → p ≤ MAX_MEMBER)
    → parts_of (join_with_byte 44 (map decimal (n ∷ numbers))) ≡ map decimal (n ∷ numbers)
parts-of_list n [] high = slice_split_none _ (decimal n) (decimal_no_comma n (small n (high n (0, omega arith, refl))))
parts-of_list n (m ∷ numbers) high = slice_split_at _ (decimal n) 44 _ (decimal_no_comma n (small n (high n (0, omega arith, refl)))) refl
    ∙ ap (λ parts. decimal n ∷ parts) (parts-of_list m numbers (λ p h. high p (Contains-append_right (n ∷ []) (m ∷ numbers) p h)))

-- so it is for each text that lists numbers
parts_are_numbers : (text numbers : List ℕ) → IsListOf text numbers → parts_of text ≡ map decimal numbers
parts_are_numbers text [] h = absurd (omega (arith, h.some))
parts_are_numbers text (n ∷ numbers) h = rw (h.written) (parts-of_list n numbers h.high)

-- a part of a list's text is the text of a number within the limits of a member
pub record IsMemberText (part : List ℕ) : Type 0 where
  pub number : ℕ
  pub low : 1 ≤ number
  pub high : number ≤ MAX_MEMBER
  pub written : part ≡ decimal number

-- each part of a list's text is the text of a member
pub part_is_member : (text numbers part : List ℕ) (k : ℕ)
    → IsListOf text numbers → (k < length (parts_of text)) × (part ≡ get_or (parts_of text) k part) → IsMemberText part
part_is_member text numbers part k list at =
    let parts = parts_are_numbers text numbers list in
    let inside : k < length numbers = rw (parts, length-map) at at.0 in
    let named : Contains numbers (get_or numbers k 0) = Contains-get_or numbers k 0 inside in
    record {
      number = get_or numbers k 0;
      low = list.low _ named;
      high = list.high _ named;
      written = at.1 ∙ rw parts (get_or-map decimal numbers k 0 part inside);
    }

-- bytes that write no number are no such part
pub unread_is_no_member : (part bytes : List ℕ) → bytes ≡ part → ((n : ℕ) → n < 2 ^ 64 → bytes ≢ decimal n) → IsMemberText part → ⊥
unread_is_no_member part bytes same none member = none member.number (small member.number member.high) (same ∙ member.written)

-- the text of a number outside these limits is no such part
pub outside_is_no_member : (part : List ℕ) (p : ℕ) → p < 2 ^ 64 → part ≡ decimal p → (p < 1) ⊎ ((1 ≤ p) × (64 < p)) → IsMemberText part → ⊥
outside_is_no_member part p fits e out member =
    let same : p ≡ member.number = decimal_injective p member.number fits (small member.number member.high) (sym e ∙ member.written) in
    elim out [ inl low ↦ omega arith | inr high ↦ omega arith ]

-- an empty list has no element
no_member : (p : ℕ) → Contains [] p → ⊥
no_member p h = absurd (omega (arith, h.1))

-- The parts that were read are the texts of the set's members.
pub record IsRead (parts : List (List ℕ)) (set : ℕ) : Type 0 where
  pub numbers : List ℕ
  pub low : (p : ℕ) → Contains numbers p → 1 ≤ p
  pub high : (p : ℕ) → Contains numbers p → p ≤ MAX_MEMBER
  pub written : parts ≡ map decimal numbers
  pub members : HasMembers set numbers

-- before the first part nothing was read
pub nothing_read : (set : ℕ) → ((p : ℕ) → has_proc set p ≡ false) → IsRead [] set
nothing_read set none = record {
  numbers = [];
  low = λ p h. absurd (no_member p h);
  high = λ p h. absurd (no_member p h);
  written = refl;
  members = λ p. (λ h. absurd (false≢true (sym (none p) ∙ h)), λ h. absurd (no_member p h));
}

-- with one member more the set has one number more
member_more : (numbers : List ℕ) (set more p q : ℕ) → IsTrue (has_proc set q) ↔ Contains numbers q
    → IsTrue (has_proc more p) → (q ≢ p → has_proc more q ≡ has_proc set q) → IsTrue (has_proc more q) ↔ Contains (numbers ++ p ∷ []) q
member_more numbers set more p q before added others = elim (cases_eq q p) [
  | inl same ↦ (
    λ _. subst (λ m. Contains (numbers ++ p ∷ []) m) (sym same) (Contains-push numbers p),
    λ _. subst (λ m. IsTrue (has_proc more m)) (sym same) added,
  )
  | inr other ↦ (
    λ h. Contains-append_left numbers (p ∷ []) q (before.0 (sym (others other) ∙ h)),
    λ h. elim (Contains-push_cases numbers p q h) [ inl old ↦ others other ∙ before.1 old | inr new ↦ absurd (other (sym new)) ],
  )
]

-- one more part is read, and its number put into the set
pub one_more_read : (parts : List (List ℕ)) (part : List ℕ) (set more p : ℕ) → IsRead parts set → part ≡ decimal p → 1 ≤ p → p ≤ MAX_MEMBER
    → IsTrue (has_proc more p) → ((q : ℕ) → q ≢ p → has_proc more q ≡ has_proc set q) → IsRead (parts ++ part ∷ []) more
one_more_read parts part set more p read e low high added others = record {
  numbers = read.numbers ++ p ∷ [];
  low = λ q h. elim (Contains-push_cases read.numbers p q h) [ inl old ↦ read.low q old | inr new ↦ subst (λ m. 1 ≤ m) new low ];
  high = λ q h. elim (Contains-push_cases read.numbers p q h)
      [ inl old ↦ read.high q old | inr new ↦ subst (λ m. m ≤ MAX_MEMBER) new high ];
  written = rw (map-append, ← e, ← read.written) refl;
  members = λ q. member_more read.numbers set more p q (read.members q) added (others q);
}

-- once all parts are read the set is what the text lists
pub all_read : (text : List ℕ) (parts : List (List ℕ)) (set : ℕ)
    → IsRead parts set → parts ≡ parts_of text → (numbers : List ℕ) × IsListOf text numbers × HasMembers set numbers
all_read text parts set read e = (
  read.numbers,
  record {
    some = omega (arith, ap length read.written, ap length e, length-slice_split (λ b. eqb b 44) text, length-map read.numbers decimal);
    low = read.low;
    high = read.high;
    written = sym (join_with_byte-slice_split 44 text) ∙ ap (join_with_byte 44) (sym e ∙ read.written);
  },
  read.members,
)
