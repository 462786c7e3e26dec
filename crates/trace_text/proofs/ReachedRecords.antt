-- The records that csv reads one after the other are a prefix of all the records of the text. At the
-- end of the text they are all of them.
use Rattle.std.proofs.Common.{◌≡◌, ◌≤◌, ◌<◌, ◌+◌, ℕ, zero, suc, List, [], ◌∷◌, ◌++◌, length, Option, Some, None, Bool, true, false, cond, refl, subst, ◌==◌, ◌||◌, arith}
use Rattle.csv.specs.Machine.{Read, next_record, step, is_end, in_field, start_field, start_record, fields_after, field_after, ends_at_end, after_end}
use Rattle.csv.specs.Reading.{AreRecords, Reached, default_config, records, records_from, records_next}
use Rattle.csv.specs.declared.parser.State.{State}
use Rattle.csv.specs.declared.parser.State.TheVariants as st
use Rattle.csv.specs.declared.parser.Config.{Config}
use Rattle.csv.specs.declared.parser.Action.{Action}
use Rattle.csv.specs.declared.parser.Action.TheVariants as act
use Rattle.csv.specs.declared.parser.Terminator.TheVariants as term

-- where a record may begin
abbrev pub IsStart : State → Type 0
IsStart s = ends_at_end s ≡ false

-- the bytes after a record
abbrev pub left_of : Option Read → List ℕ
left_of None = []
left_of (Some p) = p.2

le-cond : (b : Bool) (x y : Option Read) (n : ℕ) → length (left_of x) ≤ n → length (left_of y) ≤ n → length (left_of (cond b x y)) ≤ n
le-cond true x y n h k = h
le-cond false x y n h k = k

-- a record leaves no more than there was
pub next-le : (cfg : Config) (s : State) (fields : List (List ℕ)) (field xs : List ℕ)
    → length (left_of (next_record cfg s fields field xs)) ≤ length xs
unfolding next_record
next-le cfg s fields field [] = le-cond (ends_at_end s) _ _ 0 (omega arith) (omega arith)
next-le cfg s fields field (c ∷ rest) =
    let h = next-le cfg (step cfg s c).0 (fields_after (step cfg s c).1 fields field) (field_after (step cfg s c).1 c field) rest in
    le-cond (is_end (step cfg s c).1) _ _ (suc (length rest)) (omega arith) (omega (arith, h))

some-left : (o : Option Read) (p : Read) (n : ℕ) → o ≡ Some p → length (left_of o) ≤ n → length p.2 ≤ n
some-left o p n e h = rw e at h

-- from where a record may begin, a record takes a byte
pub next-less : (cfg : Config) (s : State) (fields : List (List ℕ)) (field xs : List ℕ) (p : Read)
    → IsStart s → next_record cfg s fields field xs ≡ Some p → length p.2 < length xs
unfolding next_record
next-less cfg s fields field [] p start e = let bad : ◌≡◌ {A = Option Read} None (Some p) = rw start at e in cc bad
next-less cfg s fields field (c ∷ rest) p start e =
    let h = next-le cfg (step cfg s c).0 (fields_after (step cfg s c).1 fields field) (field_after (step cfg s c).1 c field) rest in
    let bound : length p.2 ≤ length rest = some-left _ p
    (length rest) e (le-cond (is_end (step cfg s c).1) _ _ (length rest) (omega arith) h) in
    omega (arith, bound)

-- a step that ends a record leads to where one may begin
abbrev pub Good : State × Action → Type 0
Good p = is_end p.1 ≡ true → IsStart p.0

good-cond : (b : Bool) (x y : State × Action) → Good x → Good y → Good (cond b x y)
good-cond true x y h k = h
good-cond false x y h k = k

after-start : (c : ℕ) → IsStart (after_end term.CRLF c)
after-start c = elim (c == 13) as (λ b. ends_at_end (cond b st.AfterCr st.StartRecord) ≡ false) [ true ↦ refl | false ↦ refl ]

not-end : (s : State) → Good (s, act.Skip)
not-end s = λ e. cc e

not-end-copy : (s : State) → Good (s, act.Copy)
not-end-copy s = λ e. cc e

not-end-field : (s : State) → Good (s, act.EndField)
not-end-field s = λ e. cc e

good-in_field : (c : ℕ) → Good (in_field default_config c)
good-in_field c = good-cond (c == 44) (st.StartField, act.EndField) _ (not-end-field st.StartField) (good-cond ((c == 13) || (c == 10))
    (after_end term.CRLF c, act.EndRecord) (st.InField, act.Copy) (λ _. after-start c) (not-end-copy st.InField))

good-start_field : (c : ℕ) → Good (start_field default_config c)
good-start_field c = good-cond (c == 34) (st.InQuoted, act.Skip) (in_field default_config c) (not-end st.InQuoted) (good-in_field c)

good-start_record : (c : ℕ) → Good (start_record default_config c)
good-start_record c = good-cond ((c == 13) || (c == 10))
    (st.StartRecord, act.Skip) (start_field default_config c) (not-end st.StartRecord) (good-start_field c)

good-step : (s : State) (c : ℕ) → Good (step default_config s c)
good-step st.StartRecord c = good-start_record c
good-step st.StartField c = good-start_field c
good-step st.InField c = good-in_field c
good-step st.InQuoted c = good-cond (c == 34) (st.AfterQuote, act.Skip)
    (st.InQuoted, act.Copy) (not-end st.AfterQuote) (not-end-copy st.InQuoted)
good-step st.InEscape c = not-end-copy st.InQuoted
good-step st.AfterQuote c = good-cond (c == 34) (st.InQuoted, act.Copy)
    (in_field default_config c) (not-end-copy st.InQuoted) (good-in_field c)
good-step st.InComment c = good-cond (c == 10) (st.StartRecord, act.Skip)
    (st.InComment, act.Skip) (not-end st.StartRecord) (not-end st.InComment)
good-step st.AfterCr c = good-cond (c == 10) (st.StartRecord, act.Skip)
    (start_record default_config c) (not-end st.StartRecord) (good-start_record c)

-- a record that was read leaves the reader where one may begin
abbrev pub Begins : Option Read → Type 0
Begins None = Unit {0}
Begins (Some p) = IsStart p.1

begins-cond : (b : Bool) (x y : Option Read) → (b ≡ true → Begins x) → Begins y → Begins (cond b x y)
begins-cond true x y h k = h refl
begins-cond false x y h k = k

pub next-begins : (s : State) (fields : List (List ℕ)) (field xs : List ℕ) → Begins (next_record default_config s fields field xs)
unfolding next_record
next-begins s fields field [] = begins-cond (ends_at_end s) _ _ (λ _. refl) tt
next-begins s fields field (c ∷ rest) = begins-cond (is_end (step default_config s c).1) _ _ (λ e. good-step s c e) (next-begins (step
    default_config s c).0 (fields_after (step default_config s c).1 fields field) (field_after (step default_config s c).1 c field) rest)

pub some-begins : (o : Option Read) (p : Read) → o ≡ Some p → Begins o → IsStart p.1
some-begins o p e h = rw e at h

-- the records that were reached, and no more, are those that so many reads give
pub reached-all : (n : ℕ) (s : State) (xs : List ℕ) (reached : List (List (List ℕ))) (s2 : State) (ys : List ℕ) → IsStart s → length xs < n
    → Reached default_config s xs reached s2 ys → next_record default_config s2 [] [] ys ≡ None
    → records_from default_config n s xs ≡ reached
unfolding Reached records_from
reached-all zero s xs reached s2 ys start less h e = absurd (omega (arith, less))
reached-all (suc n) s xs [] s2 ys start less h e = rw (h.0, h.1, e) refl
reached-all (suc n) s xs (r ∷ reached) s2 ys start less h e =
    let shorter = next-less default_config s [] [] xs h.0 start h.1 in
    let more = reached-all n h.0.1 h.0.2 reached s2 ys
    (some-begins _ h.0 h.1 (next-begins s [] [] xs)) (omega (arith, shorter, less)) h.3 e in
    rw (h.1, more, h.2) refl

-- The records that reading reaches one after the other are those that `records` gives.
pub are-records : (xs : List ℕ) (reached : List (List (List ℕ)))
    → AreRecords default_config st.StartRecord xs reached → records default_config xs ≡ reached
are-records xs reached h = reached-all (length xs + 1) st.StartRecord xs reached h.0 h.1 refl (omega arith) h.2 h.3

front-more : (o : Option Read) (p : Read) (more : State → List ℕ → List (List (List ℕ))) (r : List (List ℕ)) (reached rest : List
    (List (List ℕ))) → o ≡ Some p → r ≡ p.0 → more p.1 p.2 ≡ reached ++ rest → records_next more o ≡ (r ∷ reached) ++ rest
front-more o p more r reached rest e f g = rw (e, f, g) refl

-- what was reached is a front of all the records
pub reached-front : (n : ℕ) (s : State) (xs : List ℕ) (reached : List (List (List ℕ))) (s2 : State) (ys : List ℕ) → IsStart s → length xs
    < n → Reached default_config s xs reached s2 ys → (rest : List (List (List ℕ))) × (records_from default_config n s xs ≡ reached ++ rest)
unfolding Reached records_from
reached-front n s xs [] s2 ys start less h = (records_from default_config n s xs, refl)
reached-front zero s xs (r ∷ reached) s2 ys start less h = absurd (omega (arith, less))
reached-front (suc n) s xs (r ∷ reached) s2 ys start less h =
    let shorter = next-less default_config s [] [] xs h.0 start h.1 in
    let more = reached-front n h.0.1 h.0.2 reached s2 ys
    (some-begins _ h.0 h.1 (next-begins s [] [] xs)) (omega (arith, shorter, less)) h.3 in
    (more.0, front-more _ h.0 _ r reached more.0 h.1 h.2 more.1)

pub records-front : (xs : List ℕ) (reached : List (List (List ℕ))) (s2 : State) (ys : List ℕ)
    → Reached default_config st.StartRecord xs reached s2 ys → (rest : List (List (List ℕ))) × (records default_config xs ≡ reached ++ rest)
records-front xs reached s2 ys h = reached-front (length xs + 1) st.StartRecord xs reached s2 ys refl (omega arith) h

-- reading stops where a record may begin
pub reached-begins : (s : State) (xs : List ℕ) (reached : List (List (List ℕ))) (s2 : State) (ys : List ℕ)
    → IsStart s → Reached default_config s xs reached s2 ys → IsStart s2
unfolding Reached
reached-begins s xs [] s2 ys start h = subst IsStart h.0 start
reached-begins s xs (r ∷ reached) s2 ys start h = reached-begins h.0.1 h.0.2 reached s2 ys
    (some-begins _ h.0 h.1 (next-begins s [] [] xs)) h.3

-- to read a record takes a byte
pub reached-less : (s : State) (xs : List ℕ) (fields : List (List ℕ)) (s2 : State) (ys : List ℕ)
    → IsStart s → Reached default_config s xs (fields ∷ []) s2 ys → length ys < length xs
unfolding Reached
reached-less s xs fields s2 ys start h = subst (λ zs. length zs < length xs) h.3.1 (next-less default_config s [] [] xs h.0 start h.1)
