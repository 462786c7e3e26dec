-- Places of a text that lie between two records.
use Rattle.std.proofs.Common.{◌≡◌, ◌≤◌, ◌<◌, ◌+◌, ◌==◌, ◌∙◌, ℕ, zero, suc, List, [], ◌∷◌, ◌++◌, Bool, true, false, Option, Some, None, length, get_or, take, drop, refl, sym, ap, subst, arith}
use Rattle.std.specs.Prelude.{MatchOption, ⊤}
use Rattle.std.proofs.lemmas.Bool.{eqb-false, eqb-true, or_parts}
use Rattle.std.proofs.lemmas.List.{take_more, take-append-drop}
use Rattle.std.proofs.lemmas.List.Folds.{list_any-append}
use Rattle.csv.specs.Machine.{step}
use Rattle.csv.specs.Reading.{default_config}
use Rattle.csv.specs.declared.parser.State.{State}
use Rattle.csv.specs.declared.parser.State.TheVariants as st
use Rattle.memchr.specs.Find.{IsLastByte, is_byte}
use Rattle.shared_reading.specs.Seams.{state_after, IsClosed, ends_line, has_quote}
use Rattle.shared_reading.proofs.QuoteFree.{closed}
use Rattle.log_windows.specs.Places.{EndsNone, seam_by}

-- the reader is between two records after none of these bytes
abbrev pub NoneClosed : List ℕ → ℕ → ℕ → Type 0
NoneClosed text from until = (n : ℕ) → from ≤ n → n < until → IsClosed (take (n + 1) text) → ⊥

after-append : (s : State) (a : List ℕ) (c : ℕ) → state_after s (a ++ c ∷ []) ≡ (step default_config (state_after s a) c).0
unfolding state_after
after-append s [] c = refl
after-append s (x ∷ a) c = after-append (step default_config s x).0 a c

-- the state after one more byte
pub after-more : (s at r : State) (text : List ℕ) (i : ℕ) → i < length text
    → at ≡ state_after s (take i text) → r ≡ (step default_config at (get_or text i 0)).0 → r ≡ state_after s (take (i + 1) text)
after-more s at r text i less was is =
    is ∙ ap (λ x. (step default_config x (get_or text i 0)).0) was ∙ sym (after-append s (take i text) (get_or text i 0))
    ∙ ap (λ xs. state_after s xs) (sym (take_more text i 0 less))

-- the last place between two records
pub closed-by : (s : State) (text : List ℕ) (seam next : ℕ)
    → IsClosed (take seam text) → s ≡ state_after st.StartRecord (take next text) → IsClosed (take (seam_by s seam next) text)
closed-by st.StartRecord text seam next h e = sym e
closed-by s text seam next h e = h

pub within-by : (s : State) (seam next : ℕ) → seam ≤ next → seam_by s seam next ≤ next
within-by st.StartRecord seam next h = omega arith
within-by s seam next h = h

-- a text without quotes has none in its front
quoteless-front : (text : List ℕ) (n : ℕ) → has_quote text ≡ false → has_quote (take n text) ≡ false
quoteless-front text n q = (or_parts (has_quote (take n text)) (has_quote (drop n text))
    (sym (list_any-append (λ c. c == 34) (take n text) (drop n text)) ∙ ap has_quote (take-append-drop n text) ∙ q)).0

line-end : (a : List ℕ) → ends_line (a ++ 10 ∷ []) ≡ true
unfolding ends_line
line-end [] = refl
line-end (x ∷ []) = refl
line-end (x ∷ y ∷ r) = line-end (y ∷ r)

line-closed : (text : List ℕ) (k : ℕ) → k < length text
    → (get_or text k 0 == 10) ≡ true → has_quote text ≡ false → IsClosed (take (k + 1) text)
line-closed text k less is q =
    let line : take (k + 1) text ≡ take k text ++ 10 ∷ [] = take_more text k 0 less
    ∙ ap (λ c. take k text ++ c ∷ []) (eqb-true (get_or text k 0) 10 is) in
    closed (take (k + 1) text) (quoteless-front text (k + 1) q) (ap ends_line line ∙ line-end (take k text))

-- without quotes the bytes up to the last line feed are whole records
pub lines-closed : (text : List ℕ) (place : Option ℕ) (k : ℕ)
    → IsLastByte (is_byte 10) text place → place ≡ Some k → has_quote text ≡ false → IsClosed (take (k + 1) text)
lines-closed text None k h e q = cc e
lines-closed text (Some j) k h e q =
    subst (λ x. MatchOption x ⊤ (λ i. IsClosed (take (i + 1) text))) e (line-closed text j h.0.high h.1 q)

-- no line feed is behind the last one
pub lines-last : (text : List ℕ) (place : Option ℕ) (k : ℕ) → IsLastByte (is_byte 10) text place → place ≡ Some k → EndsNone text (k + 1)
lines-last text None k h e = cc e
lines-last text (Some j) k h e =
    subst (λ x. MatchOption x ⊤ (λ i. EndsNone text (i + 1))) e (λ n low high is ended. h.0.after n low high (ap (λ c. c == 10) is))

pub none-later : (text : List ℕ) (place : Option ℕ) → IsLastByte (is_byte 10) text place → place ≡ None → EndsNone text 0
none-later text None h e = λ n low high is ended. h n low high (ap (λ c. c == 10) is)
none-later text (Some j) h e = cc e

-- nor is a place between two records behind the last one
one-more : (text : List ℕ) (seam i n : ℕ) (t : Bool)
    → (n == i) ≡ t → NoneClosed text seam i → (IsClosed (take (i + 1) text) → ⊥) → seam ≤ n → n < i + 1 → IsClosed (take (n + 1) text) → ⊥
one-more text seam i n true e h k low high ended = k (subst (λ m. IsClosed (take (m + 1) text)) (eqb-true n i e) ended)
one-more text seam i n false e h k low high ended = h n low (omega (arith, high, eqb-false n i e)) ended

pub none-by : (s : State) (text : List ℕ) (seam i : ℕ)
    → NoneClosed text seam i → s ≡ state_after st.StartRecord (take (i + 1) text) → NoneClosed text (seam_by s seam (i + 1)) (i + 1)
none-by st.StartRecord text seam i h e = λ n low high ended. absurd (omega (arith, low, high))
none-by s text seam i h e = λ n low high ended. one-more text seam i n (n == i) refl h (λ k. absurd (cc (e ∙ k))) low high ended

-- behind a place between two records no line feed ends a record of what is there, if none does in the whole
pub none-behind : (s : State) (k : ℕ) (xs : List ℕ) → k ≤ length xs → state_after s (take k xs) ≡ st.StartRecord
    → ((n : ℕ) → k ≤ n → n < length xs → get_or xs n 0 ≡ 10 → state_after s (take (n + 1) xs) ≡ st.StartRecord → ⊥) → EndsNone (drop k xs) 0
unfolding state_after
none-behind s zero xs l c h = λ n low high is ended.
    h n low high is (subst (λ x. state_after x (take (n + 1) xs) ≡ st.StartRecord) (sym c) ended)
none-behind s (suc k) [] l c h = absurd (omega (arith, l))
none-behind s (suc k) (x ∷ xs) l c h =
    none-behind (step default_config s x).0 k xs (omega (arith, l)) c (λ n low high is ended.
    let next : suc (n + 1) ≡ suc n + 1 = omega arith in
    h (suc n) (omega (arith, low)) (omega (arith, high)) is (subst (λ m. state_after s (take m (x ∷ xs)) ≡ st.StartRecord) next ended))

-- a line feed that begins a text ends a record
pub some-end : (bytes rest : List ℕ) → rest ≡ 10 ∷ bytes → EndsNone rest 0 → ⊥
unfolding state_after
some-end bytes rest e h = subst (λ xs. EndsNone xs 0) e h 0 (omega arith) (omega arith) refl refl
