-- A trace that takes the steps of a piece goes on where the piece ends.
use Rattle.std.proofs.Common.{◌≡◌, ◌==◌, ◌≤◌, ◌+◌, ◌-◌, ◌∙◌, ℕ, suc, List, [], ◌∷◌, ◌++◌, length, drop, Option, Some}
use Rattle.std.proofs.Common.{None, is_some, Result, Ok, Err, true, false, refl, sym, ap, subst, arith, nat_eq}
use Rattle.std.proofs.Common.{not, slice_index_or}
use Rattle.std.specs.Prelude.{MatchBool, ⊤}
use Rattle.std.proofs.lemmas.Bool.{eqb-true, not-true, false_from_ne_true}
use Rattle.std.proofs.lemmas.List.{drop-drop, take-append-drop}
use Rattle.csv.specs.Reading.{strip_bom}
use Rattle.memchr.specs.Find.{IsFirstByte, Nowhere, Passes, is_byte}
use Rattle.trace_text.specs.declared.versions.Version.{Version}
use Rattle.trace_text.specs.declared.reading.Stage.{Stage}
use Rattle.trace_text.specs.declared.refusals.TextError.{TextError}
use Rattle.trace_text.specs.Records.{◌>>=◌, after_records, records_of_text}
use Rattle.trace_text.specs.TextRefusals.{next_stage, is_memory}
use Rattle.trace_text.proofs.TakenRecords.{after_records-append, unless}
use Rattle.shared_reading.specs.Seams.{has_quote, ends_line, IsSeam}
use Rattle.shared_reading.proofs.QuoteFree.{seam}
use Rattle.shared_reading.specs.declared.pieces.Found.{Found}
use Rattle.shared_reading.specs.Pieces.{part, read_on, IsFound, IsUnmarked, LeadsAlone}

-- no byte is a quote
quoteless : (xs : List ℕ) → Nowhere (Passes (is_byte 34) xs) 0 (length xs) → has_quote xs ≡ false
quoteless [] h = refl
quoteless (x ∷ xs) h = rw (
  false_from_ne_true (x == 34) (λ e. h 0 (omega arith) (omega arith) e),
  quoteless xs (λ k low high e. h (suc k) (omega arith) (omega (arith, high)) e),
) refl

-- the search for one found none
pub quoteless-by : (xs : List ℕ) (place : Option ℕ) → IsFirstByte (is_byte 34) xs place → is_some place ≡ false → has_quote xs ≡ false
quoteless-by xs None h e = quoteless xs h
quoteless-by xs (Some k) h e = cc e

-- the last byte is a line feed
pub ends_line-last : (xs : List ℕ) → nat_eq (slice_index_or xs (length xs - 1) 0) 10 ≡ true → ends_line xs ≡ true
unfolding ends_line
ends_line-last [] h = cc h
ends_line-last (x ∷ []) h = h
ends_line-last (x ∷ y ∷ r) h =
    let e : suc (suc (length r)) - 1 ≡ suc (suc (length r) - 1) = omega arith in
    ends_line-last (y ∷ r) (subst (λ k. nat_eq (slice_index_or (x ∷ y ∷ r) k 0) 10 ≡ true) e h)

-- no byte order mark begins with another byte
pub unmarked : (xs : List ℕ) → nat_eq (slice_index_or xs 0 0) 239 ≡ false → strip_bom xs ≡ xs
unfolding strip_bom
unmarked [] h = refl
unmarked (x ∷ []) h = refl
unmarked (x ∷ y ∷ []) h = refl
unmarked (x ∷ y ∷ z ∷ r) h = rw h refl

pub unmarked-none : (xs : List ℕ) → length xs ≡ 0 → strip_bom xs ≡ xs
unfolding strip_bom
unmarked-none [] h = refl
unmarked-none (x ∷ xs) h = absurd (omega (arith, h))

-- the first byte is the first one of a byte order mark
pub marked : (xs : List ℕ) → (length xs ≡ 0 → ⊥) → nat_eq (slice_index_or xs 0 0) 239 ≡ true → (rest : List ℕ) × (xs ≡ 239 ∷ rest)
marked [] some h = absurd (some refl)
marked (x ∷ rest) some h = (rest, ap (λ y. y ∷ rest) (eqb-true x 239 h))

-- what comes behind bytes doesn't make a mark of their beginning
pub unmarked-before : (xs : List ℕ) → (length xs ≡ 0 → ⊥) → not (nat_eq (slice_index_or xs 0 0) 239) ≡ true → IsUnmarked xs
unmarked-before [] some h more = absurd (some refl)
unmarked-before (x ∷ xs) some h more = unmarked (x ∷ (xs ++ more)) (not-true _ h)

-- records after those of which one is refused make no difference
pub append-stops : {S E : Type 0} (next : S → List (List ℕ) → Result S E) (a : S) (e : E) (xs ys : List (List (List ℕ)))
    → after_records next a xs ≡ Err e → after_records next a (xs ++ ys) ≡ Err e
append-stops {S = S} next a e [] ys h = cc h
append-stops {S = S} {E = E} next a e (x ∷ xs) ys h = go (λ s k. append-stops next s e xs ys k) (next a x) h where
  go : ((s : S) → after_records next s xs ≡ Err e → after_records next s (xs ++ ys) ≡ Err e) → (r : Result S E)
      → r >>= (λ s. after_records next s xs) ≡ Err e → r >>= (λ s. after_records next s (xs ++ ys)) ≡ Err e
  go more (Ok s) k = more s k
  go more (Err f) k = k

-- a text that is cut at a seam is read on from the seam
pub read_on-ok : (s t : Stage) (a b : List ℕ) → IsSeam a b → read_on s a ≡ Ok t → read_on s (a ++ b) ≡ read_on t b
read_on-ok s t a b seam h = rw seam (after_records-append next_stage s t (records_of_text a) (records_of_text b) h)

pub read_on-err : (s : Stage) (e : TextError) (a b : List ℕ) → IsSeam a b → read_on s a ≡ Err e → read_on s (a ++ b) ≡ Err e
read_on-err s e a b seam h = rw seam (append-stops next_stage s e (records_of_text a) (records_of_text b) h)

-- a piece and the rest
pub part-rest : (text : List ℕ) (from end : ℕ) → from ≤ end → drop from text ≡ part text from end ++ drop end text
part-rest text from end order =
    let e : from + (end - from) ≡ end = omega (arith, order) in
    sym (take-append-drop (end - from) (drop from text))
    ∙ ap (λ (xs : List ℕ). part text from end ++ xs) (drop-drop (end - from) from text ∙ ap (λ k. drop k text) e)

-- a part of a text, which may be cut off behind it, was read
pub part-read : (s t : Stage) (text : List ℕ) (from end : ℕ) → from ≤ end
    → has_quote (part text from end) ≡ false → ends_line (part text from end) ≡ true → strip_bom (drop end text) ≡ drop end text
    → read_on s (part text from end) ≡ Ok t → read_on s (drop from text) ≡ read_on t (drop end text)
part-read s t text from end order quoteless line mark h =
    ap (λ (xs : List ℕ). read_on s xs) (part-rest text from end order)
    ∙ read_on-ok s t (part text from end) (drop end text) (seam (part text from end) (drop end text) quoteless line mark) h

-- such a part is refused
pub part-refused : (s : Stage) (e : TextError) (text : List ℕ) (from end : ℕ) → from ≤ end
    → has_quote (part text from end) ≡ false → ends_line (part text from end) ≡ true
    → strip_bom (drop end text) ≡ drop end text → MatchBool (is_memory e) ⊤ (read_on s (part text from end) ≡ Err e)
    → MatchBool (is_memory e) ⊤ (read_on s (drop from text) ≡ Err e)
part-refused s e text from end order quoteless line mark = unless (is_memory e) _ _ (λ h.
    ap (λ (xs : List ℕ). read_on s xs) (part-rest text from end order)
    ∙ read_on-err s e (part text from end) (drop end text) (seam (part text from end) (drop end text) quoteless line mark) h)

-- the steps that were found in a piece were taken
pub piece-taken : (v : Version) (found : Found) (s t : Stage) (text : List ℕ) (from end : ℕ)
    → from ≤ end → strip_bom (drop end text) ≡ drop end text → IsFound v (part text from end) found
    → ((bytes : List ℕ) → IsFound v bytes found → LeadsAlone s bytes (Ok t)) → read_on s (drop from text) ≡ read_on t (drop end text)
piece-taken v found s t text from end order mark is takes =
    let alone = takes (part text from end) is in
    part-read s t text from end order alone.quoteless alone.line mark alone.leads

-- or one of them is refused
pub piece-refused : (v : Version) (found : Found) (s : Stage) (e : TextError) (text : List ℕ) (from end : ℕ)
    → from ≤ end → strip_bom (drop end text) ≡ drop end text → IsFound v (part text from end) found
    → MatchBool (is_memory e) ⊤ ((bytes : List ℕ) → IsFound v bytes found → LeadsAlone s bytes (Err e))
    → MatchBool (is_memory e) ⊤ (read_on s (drop from text) ≡ Err e)
piece-refused v found s e text from end order mark is = unless (is_memory e) _ _ (λ takes.
    let alone = takes (part text from end) is in
    ap (λ (xs : List ℕ). read_on s xs) (part-rest text from end order)
    ∙ read_on-err s e (part text from end) (drop end text)
    (seam (part text from end) (drop end text) alone.quoteless alone.line mark) alone.leads)
