-- The records that csv reads from the front of a text up to a record of too many fields lead where those of the whole
-- text lead. This holds if such a record is refused for any text after it.
use Rattle.std.proofs.Common.{◌≡◌, ◌≤◌, ◌<◌, ◌+◌, ℕ, zero, suc, List, [], ◌∷◌, ◌++◌, length, Option, Some, None, Bool}
use Rattle.std.proofs.Common.{true, false, cond, Result, Ok, Err, refl, sym, ap, ◌∙◌, inl, inr, ◌⊎◌, ◌==◌, ◌||◌, arith}
use Rattle.std.proofs.Common.{append_assoc, length-append, take, take_all}
use Rattle.std.specs.Prelude.{⊤, nat_lt}
use native.Mathlib.Decide.{dec_lt}
use Rattle.csv.specs.Machine.{Read, next_record, step, is_end, in_field, start_field, start_record, fields_after, field_after, ends_at_end, after_end}
use Rattle.csv.specs.Reading.{default_config, records, records_from, records_next, strip_bom}
use Rattle.csv.specs.declared.parser.State.{State}
use Rattle.csv.specs.declared.parser.State.TheVariants as st
use Rattle.csv.specs.declared.parser.Action.{Action}
use Rattle.csv.specs.declared.parser.Action.TheVariants as act
use Rattle.csv.specs.declared.parser.Terminator.TheVariants as term
use Rattle.trace_text.specs.declared.record_limits.TheConstants.{MAX_FIELDS}
use Rattle.trace_text.specs.Records.{after_records, records_of_text, ◌>>=◌}
use Rattle.trace_text.specs.RecordLimits.{RefusesLong, count_after, front_from}
use Rattle.trace_text.proofs.ReachedRecords.{IsStart, next-begins, next-less, some-begins}

-- whether csv's machine is inside a record, with its default settings
abbrev in_record : State → Bool
in_record st.StartRecord = false
in_record st.StartField = true
in_record st.InField = true
in_record st.InQuoted = true
in_record st.AfterQuote = true
in_record st.InEscape = true
in_record st.InComment = false
in_record st.AfterCr = false

-- What one step implies for the machine's state after it.
record GoodStep (s : State) (p : State × Action) : Type 0 where
  field_ended : p.1 ≡ act.EndField → in_record p.0 ≡ true
  goes_on : in_record s ≡ true → is_end p.1 ≡ false → in_record p.0 ≡ true

good-cond : (s : State) (b : Bool) (x y : State × Action) → GoodStep s x → GoodStep s y → GoodStep s (cond b x y)
good-cond s true x y h k = h
good-cond s false x y h k = k

good-inside : (s r : State) (a : Action) → in_record r ≡ true → GoodStep s (r, a)
good-inside s r a h = record { field_ended = λ _. h; goes_on = λ _ _. h }

good-end : (s r : State) → GoodStep s (r, act.EndRecord)
good-end s r = record { field_ended = λ e. cc e; goes_on = λ _ e. cc e }

good-outside : (s : State) → in_record s ≡ false → GoodStep s (st.StartRecord, act.Skip)
good-outside s h = record { field_ended = λ e. cc e; goes_on = λ e _. cc (sym h ∙ e) }

good-in_field : (s : State) (c : ℕ) → GoodStep s (in_field default_config c)
good-in_field s c = good-cond s (c == 44) (st.StartField, act.EndField) _ (good-inside s st.StartField act.EndField refl)
    (good-cond s ((c == 13) || (c == 10)) (after_end term.CRLF c, act.EndRecord)
    (st.InField, act.Copy) (good-end s (after_end term.CRLF c)) (good-inside s st.InField act.Copy refl))

good-start_field : (s : State) (c : ℕ) → GoodStep s (start_field default_config c)
good-start_field s c = good-cond s (c == 34) (st.InQuoted, act.Skip)
    (in_field default_config c) (good-inside s st.InQuoted act.Skip refl) (good-in_field s c)

good-start_record : (s : State) (c : ℕ) → in_record s ≡ false → GoodStep s (start_record default_config c)
good-start_record s c h = good-cond s ((c == 13) || (c == 10))
    (st.StartRecord, act.Skip) (start_field default_config c) (good-outside s h) (good-start_field s c)

good-step : (s : State) (c : ℕ) → GoodStep s (step default_config s c)
good-step st.StartRecord c = good-start_record st.StartRecord c refl
good-step st.StartField c = good-start_field st.StartField c
good-step st.InField c = good-in_field st.InField c
good-step st.InQuoted c = good-cond st.InQuoted (c == 34) (st.AfterQuote, act.Skip)
    (st.InQuoted, act.Copy) (good-inside st.InQuoted st.AfterQuote act.Skip refl) (good-inside st.InQuoted st.InQuoted act.Copy refl)
good-step st.InEscape c = good-inside st.InEscape st.InQuoted act.Copy refl
good-step st.AfterQuote c = good-cond st.AfterQuote (c == 34) (st.InQuoted, act.Copy)
    (in_field default_config c) (good-inside st.AfterQuote st.InQuoted act.Copy refl) (good-in_field st.AfterQuote c)
good-step st.InComment c = good-cond st.InComment (c == 10) (st.StartRecord, act.Skip)
    (st.InComment, act.Skip) (good-outside st.InComment refl) (record { field_ended = λ e. cc e; goes_on = λ e _. cc e })
good-step st.AfterCr c = good-cond st.AfterCr (c == 10)
    (st.StartRecord, act.Skip) (start_record default_config c) (good-outside st.AfterCr refl) (good-start_record st.AfterCr c refl)

-- the read gives a record that begins with these fields
abbrev Extends : List (List ℕ) → Option Read → Type 0
Extends fields o = (p : Read) × (more : List (List ℕ)) × (o ≡ Some p) × (p.0 ≡ fields ++ more)

-- what a read makes of one more byte, by the step that the byte is
abbrev read_on : State × Action → List (List ℕ) → List ℕ → ℕ → List ℕ → Option Read
read_on p fields field c rest = cond (is_end p.1) (Some (fields_after p.1 fields field, p.0, rest))
    (next_record default_config p.0 (fields_after p.1 fields field) (field_after p.1 c field) rest)

extends-on : (s : State) (p : State × Action) (fields : List (List ℕ)) (field : List ℕ) (c : ℕ) (rest : List ℕ)
    → in_record s ≡ true → GoodStep s p → ((r : State) (fs : List (List ℕ)) (f : List ℕ)
    → in_record r ≡ true → Extends fs (next_record default_config r fs f rest)) → Extends fields (read_on p fields field c rest)
extends-on s (r, act.Skip) fields field c rest inside good ih = ih r fields field (good.goes_on inside refl)
extends-on s (r, act.Copy) fields field c rest inside good ih = ih r fields (field ++ (c ∷ [])) (good.goes_on inside refl)
extends-on s (r, act.EndField) fields field c rest inside good ih =
    let e = ih r (fields ++ (field ∷ [])) [] (good.goes_on inside refl) in
    (e.0, (field ∷ []) ++ e.1, e.2, e.3 ∙ append_assoc fields (field ∷ []) e.1)
extends-on s (r, act.EndRecord) fields field c rest inside good ih = ((fields ++ (field ∷ []), r, rest), field ∷ [], refl, refl)

ends-inside : (s : State) → in_record s ≡ true → ends_at_end s ≡ true
ends-inside st.StartRecord h = cc h
ends-inside st.StartField h = refl
ends-inside st.InField h = refl
ends-inside st.InQuoted h = refl
ends-inside st.AfterQuote h = refl
ends-inside st.InEscape h = refl
ends-inside st.InComment h = cc h
ends-inside st.AfterCr h = cc h

-- from inside a record the read gives it, with the fields that are whole
extends : (s : State) (fields : List (List ℕ)) (field xs : List ℕ)
    → in_record s ≡ true → Extends fields (next_record default_config s fields field xs)
unfolding next_record
extends s fields field [] inside = ((fields ++ (field ∷ []), st.StartRecord, []), field ∷ [], rw (ends-inside s inside) refl, refl)
extends s fields field (c ∷ rest) inside =
    extends-on s (step default_config s c) fields field c rest inside (good-step s c) (λ r fs f h. extends r fs f rest h)

-- both records are too long, and begin with the same fields up to the first that is one too many
abbrev AreLong : List (List ℕ) → List (List ℕ) → Type 0
AreLong r q = (front : List (List ℕ)) × (a : List (List ℕ))
    × (b : List (List ℕ)) × (MAX_FIELDS < length front) × (r ≡ front ++ a) × (q ≡ front ++ b)

-- the read of the front gives what the read of the whole gives, or both give too long a record
abbrev Alike : Option Read → Option Read → Type 0
Alike None None = ⊤
Alike None (Some q) = ⊥
Alike (Some p) None = ⊥
Alike (Some p) (Some q) = ((p.0 ≡ q.0) × (p.1 ≡ q.1) × (q.2 ≡ front_from 0 p.1 p.2)) ⊎ AreLong p.0 q.0

alike-long : (fields : List (List ℕ)) (o m : Option Read) → MAX_FIELDS < length fields → Extends fields o → Extends fields m → Alike o m
alike-long fields o m long e f = rw (e.2, f.2) (inr (fields, e.1, f.1, long, e.3, f.3))

-- the front after one more step
abbrev front_on : ℕ → State × Action → List ℕ → List ℕ
front_on n p rest = cond (nat_lt MAX_FIELDS (count_after p.1 n)) [] (front_from (count_after p.1 n) p.0 rest)

not-over : (n : ℕ) → n ≤ MAX_FIELDS → nat_lt MAX_FIELDS n ≡ false
not-over n h = grind arith

over : (n : ℕ) → MAX_FIELDS < n → nat_lt MAX_FIELDS n ≡ true
over n h = grind arith

split-over : (n : ℕ) → (n ≤ MAX_FIELDS) ⊎ (MAX_FIELDS < n)
split-over n = elim (dec_lt MAX_FIELDS n) [ yes h ↦ inr h | no h ↦ inl (omega (arith, h)) ]

-- one more byte that goes on within the record, if no field is one too many
alike-within : (n : ℕ) (r : State) (fields : List (List ℕ)) (field rest : List ℕ) → n ≤ MAX_FIELDS → Alike
    (next_record default_config r fields field rest) (next_record default_config r fields field (front_from n r rest)) → Alike (next_record
    default_config r fields field rest) (next_record default_config r fields field (cond (nat_lt MAX_FIELDS n) [] (front_from n r rest)))
alike-within n r fields field rest within h = rw (not-over n within) h

alike-field : (n : ℕ) (r : State) (fields : List (List ℕ)) (rest : List ℕ) → n ≡ length fields → in_record r ≡ true
    → (n ≤ MAX_FIELDS → Alike (next_record default_config r fields [] rest) (next_record default_config r fields [] (front_from n r rest)))
    → (n ≤ MAX_FIELDS) ⊎ (MAX_FIELDS < n) → Alike (next_record default_config r fields [] rest)
    (next_record default_config r fields [] (cond (nat_lt MAX_FIELDS n) [] (front_from n r rest)))
alike-field n r fields rest count inside ih (inl within) = alike-within n r fields [] rest within (ih within)
alike-field n r fields rest count inside ih (inr long) =
    rw (over n long) (alike-long fields _ _ (rw count at long) (extends r fields [] rest inside) (extends r fields [] [] inside))

alike-on : (n : ℕ) (s : State) (p : State × Action) (fields : List (List ℕ)) (field : List ℕ) (c : ℕ) (rest : List ℕ)
    → n ≡ length fields → n ≤ MAX_FIELDS → GoodStep s p
    → ((m : ℕ) (r : State) (fs : List (List ℕ)) (f : List ℕ) → m ≡ length fs → m ≤ MAX_FIELDS
    → Alike (next_record default_config r fs f rest) (next_record default_config r fs f (front_from m r rest)))
    → Alike (read_on p fields field c rest) (read_on p fields field c (front_on n p rest))
alike-on n s (r, act.Skip) fields field c rest count within good ih =
    alike-within n r fields field rest within (ih n r fields field count within)
alike-on n s (r, act.Copy) fields field c rest count within good ih =
    alike-within n r fields (field ++ (c ∷ [])) rest within (ih n r fields (field ++ (c ∷ [])) count within)
alike-on n s (r, act.EndField) fields field c rest count within good ih =
    let more : n + 1 ≡ length (fields ++ (field ∷ [])) = omega (arith, count, length-append fields (field ∷ [])) in
    alike-field (n + 1) r (fields ++ (field ∷ [])) rest more
    (good.field_ended refl) (λ h. ih (n + 1) r (fields ++ (field ∷ [])) [] more h) (split-over (n + 1))
alike-on n s (r, act.EndRecord) fields field c rest count within good ih = inl (refl, refl, refl)

alike-end : (b : Bool) (p : Read) → p.2 ≡ front_from 0 p.1 p.2 → Alike (cond b (Some p) None) (cond b (Some p) None)
alike-end true p h = inl (refl, refl, h)
alike-end false p h = tt

pub next-alike : (n : ℕ) (s : State) (fields : List (List ℕ)) (field xs : List ℕ) → n ≡ length fields → n ≤ MAX_FIELDS
    → Alike (next_record default_config s fields field xs) (next_record default_config s fields field (front_from n s xs))
unfolding next_record front_from
next-alike n s fields field [] count within = alike-end (ends_at_end s) (fields ++ (field ∷ []), st.StartRecord, []) refl
next-alike n s fields field (c ∷ rest) count within =
    alike-on n s (step default_config s c) fields field c rest count within (good-step s c) (λ m r fs f h k. next-alike m r fs f rest h k)

same-after : {S E : Type 0} (r : Result S E) (f g : S → Result S E) → ((x : S) → f x ≡ g x) → r >>= f ≡ r >>= g
same-after (Ok x) f g h = h x
same-after (Err e) f g h = refl

-- where two reads lead that are alike
leads-alike : {S E : Type 0} (next : S → List (List ℕ) → Result S E) (t : S)
    (more cut : State → List ℕ → List (List (List ℕ))) (o m : Option Read) → RefusesLong next → ((p q : Read) → o ≡ Some p → m ≡ Some q
    → p.1 ≡ q.1 → q.2 ≡ front_from 0 p.1 p.2 → (u : S) → after_records next u (more p.1 p.2) ≡ after_records next u (cut q.1 q.2))
    → Alike o m → after_records next t (records_next more o) ≡ after_records next t (records_next cut m)
leads-alike next t more cut None None law rest h = refl
leads-alike next t more cut None (Some q) law rest h = absurd h
leads-alike next t more cut (Some p) None law rest h = absurd h
leads-alike next t more cut (Some p) (Some q) law rest (inl h) =
    same-after (next t p.0) _ _ (λ u. rest p q refl refl h.1 h.2 u) ∙ ap (λ r. next t r >>= (λ u. after_records next u (cut q.1 q.2))) h.0
leads-alike next t more cut (Some p) (Some q) law rest (inr h) =
    let refused = law t h.0 h.3 in
    let whole : next t p.0 ≡ Err refused.0 = rw h.4 (refused.1 h.1) in
    let front : next t q.0 ≡ Err refused.0 = rw h.5 (refused.1 h.2) in
    rw (whole, front) refl

leads-front : {S E : Type 0} (next : S → List (List ℕ) → Result S E) (n m : ℕ) (s : State) (xs : List ℕ)
    → RefusesLong next → IsStart s → length xs < n → length (front_from 0 s xs) < m → (t : S)
    → after_records next t (records_from default_config n s xs) ≡ after_records next t (records_from default_config m s (front_from 0 s xs))
unfolding records_from
leads-front next zero m s xs law start less cut t = absurd (omega (arith, less))
leads-front next (suc n) zero s xs law start less cut t = absurd (omega (arith, cut))
leads-front next (suc n) (suc m) s xs law start less cut t = leads-alike next t (records_from default_config n) (records_from default_config
    m) (next_record default_config s [] [] xs) (next_record default_config s [] [] (front_from 0 s xs)) law (λ p q e f same rest u.
    let begins : IsStart p.1 = some-begins _ p e (next-begins s [] [] xs) in
    let shorter = next-less default_config s [] [] xs p start e in
    let shorter_cut = next-less default_config s [] [] (front_from 0 s xs) q start f in
    let whole : length p.2 < n = omega (arith, shorter, less) in
    let front : length q.2 < m = omega (arith, shorter_cut, cut) in
    let kept : length (front_from 0 p.1 p.2) < m = rw rest at front in
    rw (← same, rest) (leads-front next n m p.1 p.2 law begins whole kept u))
    (next-alike 0 s [] [] xs refl (omega arith))

-- The front of a text leads where the text leads.
front-leads : {S E : Type 0} (next : S → List (List ℕ) → Result S E) (t : S) (xs ys : List ℕ) → RefusesLong next → ys
    ≡ front_from 0 st.StartRecord xs → after_records next t (records default_config ys) ≡ after_records next t (records default_config xs)
front-leads next t xs ys law e = rw e (sym (leads-front next
    (length xs + 1) (length (front_from 0 st.StartRecord xs) + 1) st.StartRecord xs law refl (omega arith) (omega arith) t))

-- So does all of it that is read.
pub readable-leads : {S E : Type 0} (next : S → List (List ℕ) → Result S E) (t : S) (text : List ℕ) (n : ℕ) → RefusesLong next
    → (n ≡ length text) ⊎ (strip_bom (take n text) ≡ front_from 0 st.StartRecord (strip_bom text))
    → after_records next t (records_of_text (take n text)) ≡ after_records next t (records_of_text text)
readable-leads next t text n law (inl all) = ap (λ xs. after_records next t (records_of_text xs)) (take_all n text (omega (arith, all)))
readable-leads next t text n law (inr front) = front-leads next t (strip_bom text) _ law front
