-- Bytes without a quote that end in a line feed are closed.
use Rattle.std.proofs.Common.{◌≡◌, ◌∙◌, ℕ, List, [], ◌∷◌, ◌++◌, Bool, true, false, cond, refl, sym, subst, arith, ◌==◌, ◌||◌, ◌&&◌}
use Rattle.std.proofs.lemmas.Bool.{and_parts, eqb-true, or_parts}
use Rattle.csv.specs.Machine.{step, in_field, start_field, start_record, after_end}
use Rattle.csv.specs.Reading.{default_config, strip_bom, is_bom}
use Rattle.csv.specs.declared.parser.State.{State}
use Rattle.csv.specs.declared.parser.State.TheVariants as st
use Rattle.csv.specs.declared.parser.Action.{Action}
use Rattle.csv.specs.declared.parser.Action.TheVariants as act
use Rattle.csv.specs.declared.parser.Terminator.TheVariants as term
use Rattle.shared_reading.specs.Seams.{state_after, IsClosed, IsSeam, has_quote, ends_line}
use Rattle.shared_reading.proofs.Splits.{records-split}

-- the states that bytes without quotes reach
abbrev plain : State → Bool
plain st.StartRecord = true
plain st.AfterCr = true
plain st.StartField = true
plain st.InField = true
plain st.InComment = false
plain st.InQuoted = false
plain st.AfterQuote = false
plain st.InEscape = false

abbrev IsPlain : State × Action → Type 0
IsPlain p = plain p.0 ≡ true

plain-cond : (b : Bool) (x y : State × Action) → IsPlain x → IsPlain y → IsPlain (cond b x y)
plain-cond true x y h k = h
plain-cond false x y h k = k

plain-end : (c : ℕ) → plain (after_end term.CRLF c) ≡ true
plain-end c = elim (c == 13) as (λ b. plain (cond b st.AfterCr st.StartRecord) ≡ true) [ true ↦ refl | false ↦ refl ]

plain-in_field : (c : ℕ) → IsPlain (in_field default_config c)
plain-in_field c =
    plain-cond (c == 44) (st.StartField, act.EndField) _ refl
    (plain-cond ((c == 13) || (c == 10)) (after_end term.CRLF c, act.EndRecord) (st.InField, act.Copy) (plain-end c) refl)

plain-start_field : (c : ℕ) → (c == 34) ≡ false → IsPlain (start_field default_config c)
plain-start_field c q = rw q (plain-in_field c)

plain-start_record : (c : ℕ) → (c == 34) ≡ false → IsPlain (start_record default_config c)
plain-start_record c q = plain-cond ((c == 13) || (c == 10))
    (st.StartRecord, act.Skip) (start_field default_config c) refl (plain-start_field c q)

plain-step : (s : State) (c : ℕ) → plain s ≡ true → (c == 34) ≡ false → IsPlain (step default_config s c)
plain-step st.StartRecord c h q = plain-start_record c q
plain-step st.AfterCr c h q = plain-cond (c == 10) (st.StartRecord, act.Skip) (start_record default_config c) refl (plain-start_record c q)
plain-step st.StartField c h q = plain-start_field c q
plain-step st.InField c h q = plain-in_field c
plain-step st.InComment c h q = cc h
plain-step st.InQuoted c h q = cc h
plain-step st.AfterQuote c h q = cc h
plain-step st.InEscape c h q = cc h

-- a line feed leads each of them between two records
plain-line : (s : State) → plain s ≡ true → (step default_config s 10).0 ≡ st.StartRecord
plain-line st.StartRecord h = refl
plain-line st.AfterCr h = refl
plain-line st.StartField h = refl
plain-line st.InField h = refl
plain-line st.InComment h = cc h
plain-line st.InQuoted h = cc h
plain-line st.AfterQuote h = cc h
plain-line st.InEscape h = cc h

closed-from : (s : State) (a : List ℕ) → plain s ≡ true → has_quote a ≡ false → ends_line a ≡ true → state_after s a ≡ st.StartRecord
unfolding state_after ends_line
closed-from s [] h q e = cc e
closed-from s (c ∷ []) h q e = subst (λ d. (step default_config s d).0 ≡ st.StartRecord) (sym (eqb-true c 10 e)) (plain-line s h)
closed-from s (c ∷ d ∷ rest) h q e = let none = or_parts (c == 34) _ q in
    closed-from (step default_config s c).0 (d ∷ rest) (plain-step s c h none.0) none.1 e

-- Bytes without a quote that end in a line feed leave the reader between two records.
pub closed : (a : List ℕ) → has_quote a ≡ false → ends_line a ≡ true → IsClosed a
closed a q e = closed-from st.StartRecord a refl q e

-- a mark isn't cut by a line feed
bom-third : (x y z : ℕ) → (z == 10) ≡ true → is_bom x y z ≡ false
bom-third x y z e = go (is_bom x y z) refl where
  go : (t : Bool) → is_bom x y z ≡ t → t ≡ false
  go false h = refl
  go true h =
      let third : (z == 191) ≡ true = (and_parts ((x == 239) && (y == 187)) (z == 191) h).1 in
      let same : 191 ≡ 10 = sym (eqb-true z 191 third) ∙ eqb-true z 10 e in
      absurd (omega (arith, same))

bom-second : (x z : ℕ) → is_bom x 10 z ≡ false
bom-second x z = elim (x == 239) as (λ t. ((t && false) && (z == 191)) ≡ false) [ true ↦ refl | false ↦ refl ]

cond-append : (t : Bool) (xs ys b : List ℕ) → cond t (xs ++ b) (ys ++ b) ≡ cond t xs ys ++ b
cond-append true xs ys b = refl
cond-append false xs ys b = refl

pub strip-one : (b : List ℕ) → strip_bom (10 ∷ b) ≡ 10 ∷ b
unfolding strip_bom
strip-one [] = refl
strip-one (y ∷ []) = refl
strip-one (y ∷ z ∷ r) = refl

strip-two : (x : ℕ) (b : List ℕ) → strip_bom (x ∷ 10 ∷ b) ≡ x ∷ 10 ∷ b
unfolding strip_bom
strip-two x [] = refl
strip-two x (z ∷ r) = rw (bom-second x z) refl

-- a mark at the start of the first part is that of the whole
strip-append : (a b : List ℕ) → ends_line a ≡ true → strip_bom (a ++ b) ≡ strip_bom a ++ b
unfolding strip_bom ends_line
strip-append [] b e = cc e
strip-append (x ∷ []) b e = subst (λ d. strip_bom (d ∷ b) ≡ d ∷ b) (sym (eqb-true x 10 e)) (strip-one b)
strip-append (x ∷ y ∷ []) b e = subst (λ d. strip_bom (x ∷ d ∷ b) ≡ x ∷ d ∷ b) (sym (eqb-true y 10 e)) (strip-two x b)
strip-append (x ∷ y ∷ z ∷ r) b e = cond-append (is_bom x y z) r (x ∷ y ∷ z ∷ r) b

-- without its mark a part is closed too
strip-closed : (a : List ℕ) → has_quote a ≡ false → ends_line a ≡ true → IsClosed (strip_bom a)
unfolding strip_bom ends_line
strip-closed [] q e = closed [] q e
strip-closed (x ∷ []) q e = closed (x ∷ []) q e
strip-closed (x ∷ y ∷ []) q e = closed (x ∷ y ∷ []) q e
strip-closed (x ∷ y ∷ z ∷ []) q e = rw (bom-third x y z e) (closed (x ∷ y ∷ z ∷ []) q e)
strip-closed (x ∷ y ∷ z ∷ w ∷ r) q e = go (closed (w ∷ r) (or_parts (z == 34) _ (or_parts (y == 34) _ (or_parts (x == 34) _ q).1).1).1 e)
    (closed (x ∷ y ∷ z ∷ w ∷ r) q e) (is_bom x y z) where
      go : IsClosed (w ∷ r) → IsClosed (x ∷ y ∷ z ∷ w ∷ r) → (t : Bool) → IsClosed (cond t (w ∷ r) (x ∷ y ∷ z ∷ w ∷ r))
      go without all true = without
      go without all false = all

-- If a first part without a quote ends in a line feed, and a second part begins with no mark, the records of the whole
-- are those of the parts.
pub seam : (a b : List ℕ) → has_quote a ≡ false → ends_line a ≡ true → strip_bom b ≡ b → IsSeam a b
seam a b q e n = rw (strip-append a b e, n) (records-split (strip_bom a) b (strip-closed a q e))
