-- Texts of formulas, read lexeme by lexeme.
use Rattle.std.proofs.Common.{ℕ, ◌≡◌, ◌≢◌, ◌+◌, ◌<◌, ◌≤◌, List, [], ◌∷◌, ◌++◌, length, length-append, append_assoc, get_or, drop, take, true, Some, refl, sym, ap, ◌∙◌, arith}
use Rattle.std.specs.Prelude.{Result, Ok, Err, Bool, false, ◌==◌, if◌then◌else◌, option_to_list, slice_index}
use Rattle.std.specs.List.{slice_range}
use Rattle.std.proofs.lemmas.List.{append-nil}
use Rattle.decision_claims.specs.declared.formulas.Part.{Part}
use Rattle.decision_claims.specs.declared.lexemes.Lexeme.{Lexeme}
use Rattle.decision_claims.specs.declared.lexemes.Lexeme.TheVariants.{Plus, Times, Slash, Open, Comma, Close}
use Rattle.decision_claims.specs.declared.readings.BadFormula.{BadFormula}
use Rattle.decision_claims.specs.declared.readings.Move.{Move}
use Rattle.decision_claims.specs.declared.formula_texts.Reading.{Reading}
use Rattle.decision_claims.specs.FormulaTexts.{IsPieceEnd, IsSecond, NeedsMemory, begun, counted, end_by, ended}
use Rattle.decision_claims.specs.FormulaTexts.{finished, is_sign, lexemes, lexemes_of, moved, next_by, pieces}
use Rattle.decision_claims.specs.FormulaTexts.{read_formula, read_on, sign_lexeme, taken, word_between}
use Rattle.decision_claims.proofs.FormulaPieces.{end_here, first_here, piece_here, sign_here}

-- what was refused stays so
pub read_on-refused : (why : BadFormula) (ls : List Lexeme) → read_on (Err why) ls ≡ Err why
read_on-refused why [] = refl
read_on-refused why (l ∷ ls) = read_on-refused why ls

-- one list of lexemes after another
pub read_on-append : (r : Result Reading BadFormula) (xs ys : List Lexeme) → read_on r (xs ++ ys) ≡ read_on (read_on r xs) ys
read_on-append r [] ys = refl
read_on-append r (x ∷ xs) ys = read_on-append (taken r x) xs ys

-- a list with one more has two or more, if it wasn't empty
two_parts : (parts : List Part) (p : Part) → parts ≢ [] → 1 < length (parts ++ p ∷ [])
two_parts [] p some = absurd (some refl)
two_parts (q ∷ parts) p some = omega (arith, length-append (q ∷ parts) (p ∷ []))

pub second_part : (r : Reading) (l : Lexeme) (m : Move) (p : Part)
    → next_by r.state.need r.state l ≡ Ok m → m.part ≡ Some p → r.parts ≢ [] → IsSecond r (l ∷ [])
second_part r l m p e at some = record {
  reading = record { state = m.state; parts = r.parts ++ option_to_list m.part };
  read = ap (moved r.parts) e;
  two = rw at (two_parts r.parts p some);
}

-- the lexemes of a text: those of its first piece, and of the text from its end on
pub first_lexemes : (text : List ℕ) (end : ℕ) → IsPieceEnd text 0 end
    → lexemes text ≡ word_between (take end text) ++ lexemes_of (pieces (drop end text)).rest
first_lexemes text end e = let here = first_here text end e in rw (here.0, here.1) refl

-- and those from a sign on: the sign, the piece behind it, and those from its end on
pub next_lexemes : (text : List ℕ) (end next : ℕ) → end < length text
    → is_sign (slice_index text end) ≡ true → IsPieceEnd text (end + 1) next → lexemes_of (pieces (drop end text)).rest
    ≡ sign_lexeme (get_or text end 0) ∷ (word_between (slice_range text (end + 1) next) ++ lexemes_of (pieces (drop next text)).rest)
next_lexemes text end next l s e =
    let here = piece_here text (end + 1) next e in
    ap lexemes_of (sign_here text end l s) ∙ rw (here.0, here.1) refl

-- some lexemes more were read
pub read_past : (before ls : List Lexeme) (r q : Reading)
    → read_on (Ok begun) before ≡ Ok r → read_on (Ok r) ls ≡ Ok q → read_on (Ok begun) (before ++ ls) ≡ Ok q
read_past before ls r q read e = read_on-append (Ok begun) before ls ∙ ap (λ x. read_on x ls) read ∙ e

-- some lexemes are refused, and so the text
pub refused_at : (text : List ℕ) (before ls after : List Lexeme) (r : Reading) (why : BadFormula)
    → lexemes text ≡ before ++ (ls ++ after) → read_on (Ok begun) before ≡ Ok r → read_on (Ok r) ls ≡ Err why
    → read_formula text ≡ Err why
refused_at text before ls after r why whole read e =
    ap finished (ap (read_on (Ok begun)) whole ∙ read_on-append (Ok begun) before (ls ++ after)
    ∙ ap (λ x. read_on x (ls ++ after)) read ∙ read_on-append (Ok r) ls after ∙ ap (λ x. read_on x after) e ∙ read_on-refused why after)

-- some lexemes need memory, and so the text
pub memory_at : (text : List ℕ) (before ls after : List Lexeme) (r : Reading)
    → lexemes text ≡ before ++ (ls ++ after) → read_on (Ok begun) before ≡ Ok r → IsSecond r ls → NeedsMemory text
memory_at text before ls after r whole read second = record {
  before = before ++ ls;
  after = after;
  whole = whole ∙ sym (append_assoc before ls after);
  reading = second.reading;
  read = read_past before ls r second.reading read second.read;
  two = second.two;
}

-- the whole text was read
pub read_whole : (text : List ℕ) (before : List Lexeme) (end : ℕ) (r : Reading)
    → lexemes text ≡ before ++ lexemes_of (pieces (drop end text)).rest → length text ≤ end
    → read_on (Ok begun) before ≡ Ok r → read_formula text ≡ ended r.parts (end_by r.state.need r.state)
read_whole text before end r whole past read =
    let none : lexemes_of (pieces (drop end text)).rest ≡ [] = ap lexemes_of (end_here text end past) in
    ap finished (ap (read_on (Ok begun)) (whole ∙ ap (λ (ls : List Lexeme). before ++ ls) none ∙ append-nil before) ∙ read)

-- a sign is no operand
pub sign_counts : (x : ℕ) → counted (sign_lexeme x) ≡ 0
unfolding sign_lexeme
sign_counts x = go (x == 43) (x == 42) (x == 47) (x == 40) (x == 44) where
  go : (a b c d e : Bool)
      → counted (if a then Plus else (if b then Times else (if c then Slash else (if d then Open else (if e then Comma else Close))))) ≡ 0
  go true b c d e = refl
  go false true c d e = refl
  go false false true d e = refl
  go false false false true e = refl
  go false false false false true = refl
  go false false false false false = refl

-- an error is the same with another value
abbrev error_or : {A E : Type 0} → E → Result A E → E
error_or d (Ok a) = d
error_or d (Err e) = e

abbrev pub failed : (A : Type 0) {E : Type 0} → E → Result A E
failed A e = Err e

pub same_failure : (A B : Type 0) {E : Type 0} (x y : E) → failed A x ≡ failed A y → failed B x ≡ failed B y
same_failure A B x y e = ap (failed B) (ap (error_or x) e)
