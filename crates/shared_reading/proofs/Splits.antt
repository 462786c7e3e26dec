-- The records of a text that is cut where csv's reader is between two records.
use Rattle.std.proofs.Common.{◌≡◌, ◌<◌, ◌+◌, ℕ, zero, suc, List, [], ◌∷◌, ◌++◌, length, Option, Some, None, Bool, true, false, cond, refl, ap, subst, arith, length-append, ◌==◌, ◌||◌}
use Rattle.csv.specs.Machine.{Read, next_record, step, is_end, in_field, start_field, start_record, fields_after, field_after, after_end}
use Rattle.csv.specs.Reading.{default_config, records, records_from, records_next}
use Rattle.csv.specs.declared.parser.State.{State}
use Rattle.csv.specs.declared.parser.State.TheVariants as st
use Rattle.csv.specs.declared.parser.Action.{Action}
use Rattle.csv.specs.declared.parser.Action.TheVariants as act
use Rattle.csv.specs.declared.parser.Terminator.TheVariants as term
use Rattle.trace_text.proofs.ReachedRecords.{IsStart, Begins, next-less, next-begins}
use Rattle.shared_reading.specs.Seams.{state_after, IsClosed}

-- whether no byte of a record was read yet
abbrev idle : State → Bool
idle st.StartRecord = true
idle st.AfterCr = true
idle st.InComment = true
idle st.StartField = false
idle st.InField = false
idle st.InQuoted = false
idle st.AfterQuote = false
idle st.InEscape = false

idle-start : (s : State) → IsStart s → idle s ≡ true
idle-start st.StartRecord h = refl
idle-start st.AfterCr h = refl
idle-start st.InComment h = refl
idle-start st.StartField h = cc h
idle-start st.InField h = cc h
idle-start st.InQuoted h = cc h
idle-start st.AfterQuote h = cc h
idle-start st.InEscape h = cc h

-- inside a record, a step ends it or stays inside
abbrev Stays : State × Action → Type 0
Stays p = is_end p.1 ≡ false → idle p.0 ≡ false

stays-cond : (b : Bool) (x y : State × Action) → Stays x → Stays y → Stays (cond b x y)
stays-cond true x y h k = h
stays-cond false x y h k = k

stays-in_field : (c : ℕ) → Stays (in_field default_config c)
stays-in_field c =
    stays-cond (c == 44) (st.StartField, act.EndField) _ (λ _. refl)
    (stays-cond ((c == 13) || (c == 10)) (after_end term.CRLF c, act.EndRecord) (st.InField, act.Copy) (λ e. cc e) (λ _. refl))

stays-start_field : (c : ℕ) → Stays (start_field default_config c)
stays-start_field c = stays-cond (c == 34) (st.InQuoted, act.Skip) (in_field default_config c) (λ _. refl) (stays-in_field c)

stays-step : (s : State) (c : ℕ) → idle s ≡ false → Stays (step default_config s c)
stays-step st.StartRecord c h = cc h
stays-step st.AfterCr c h = cc h
stays-step st.InComment c h = cc h
stays-step st.StartField c h = stays-start_field c
stays-step st.InField c h = stays-in_field c
stays-step st.InQuoted c h = stays-cond (c == 34) (st.AfterQuote, act.Skip) (st.InQuoted, act.Copy) (λ _. refl) (λ _. refl)
stays-step st.InEscape c h = λ _. refl
stays-step st.AfterQuote c h = stays-cond (c == 34) (st.InQuoted, act.Copy) (in_field default_config c) (λ _. refl) (stays-in_field c)

-- between records, a step that begins none takes nothing
abbrev Waits : State × Action → Type 0
Waits p = is_end p.1 ≡ false → idle p.0 ≡ true → p.1 ≡ act.Skip

waits-cond : (b : Bool) (x y : State × Action) → Waits x → Waits y → Waits (cond b x y)
waits-cond true x y h k = h
waits-cond false x y h k = k

waits-in_field : (c : ℕ) → Waits (in_field default_config c)
waits-in_field c =
    waits-cond (c == 44) (st.StartField, act.EndField) _ (λ _ i. cc i)
    (waits-cond ((c == 13) || (c == 10)) (after_end term.CRLF c, act.EndRecord) (st.InField, act.Copy) (λ e i. cc e) (λ _ i. cc i))

waits-start_field : (c : ℕ) → Waits (start_field default_config c)
waits-start_field c = waits-cond (c == 34) (st.InQuoted, act.Skip) (in_field default_config c) (λ _ _. refl) (waits-in_field c)

waits-start_record : (c : ℕ) → Waits (start_record default_config c)
waits-start_record c = waits-cond ((c == 13) || (c == 10))
    (st.StartRecord, act.Skip) (start_field default_config c) (λ _ _. refl) (waits-start_field c)

waits-step : (s : State) (c : ℕ) → idle s ≡ true → Waits (step default_config s c)
waits-step st.StartRecord c h = waits-start_record c
waits-step st.AfterCr c h = waits-cond (c == 10) (st.StartRecord, act.Skip)
    (start_record default_config c) (λ _ _. refl) (waits-start_record c)
waits-step st.InComment c h = waits-cond (c == 10) (st.StartRecord, act.Skip) (st.InComment, act.Skip) (λ _ _. refl) (λ _ _. refl)
waits-step st.StartField c h = cc h
waits-step st.InField c h = cc h
waits-step st.InQuoted c h = cc h
waits-step st.AfterQuote c h = cc h
waits-step st.InEscape c h = cc h

-- a record that was begun is ended if the bytes are closed
busy-none : (s : State) (f : List (List ℕ)) (p a : List ℕ)
    → idle s ≡ false → state_after s a ≡ st.StartRecord → next_record default_config s f p a ≡ None → ⊥
unfolding state_after next_record
busy-none s f p [] i e n = let bad : true ≡ false = rw e at i in cc bad
busy-none s f p (c ∷ rest) i e n = go (λ t m. busy-none (step default_config s c).0 _ _ rest (stays-step s c i t) e m)
    (is_end (step default_config s c).1) refl n where
      go : (is_end (step default_config s c).1 ≡ false
          → next_record default_config (step default_config s c).0 (fields_after (step default_config s c).1 f p)
          (field_after (step default_config s c).1 c p) rest ≡ None → ⊥) → (b : Bool) → is_end (step default_config s c).1 ≡ b → cond b
          (Some (fields_after (step default_config s c).1 f p, (step default_config s c).0, rest)) (next_record default_config (step
          default_config s c).0 (fields_after (step default_config s c).1 f p) (field_after (step default_config s c).1 c p) rest) ≡ None
          → ⊥
      go more true t m = cc m
      go more false t m = more t m

-- a record of the first part is the same record of the whole
whole-some : (s : State) (f : List (List ℕ)) (p a b : List ℕ) (r : Read) → state_after s a ≡ st.StartRecord → next_record default_config
    s f p a ≡ Some r → (next_record default_config s f p (a ++ b) ≡ Some (r.0, r.1, r.2 ++ b)) × (state_after r.1 r.2 ≡ st.StartRecord)
unfolding state_after next_record
whole-some s f p [] b r e n = let bad : ◌≡◌ {A = Option Read} None (Some r) = rw e at n in cc bad
whole-some s f p (c ∷ rest) b r e n = go (λ m. whole-some (step default_config s c).0 _ _ rest b r e m)
    (is_end (step default_config s c).1) n where
      go : (next_record default_config (step default_config s c).0 (fields_after (step default_config s c).1 f p)
          (field_after (step default_config s c).1 c p) rest ≡ Some r
          → (next_record default_config (step default_config s c).0 (fields_after (step default_config s c).1 f p)
          (field_after (step default_config s c).1 c p) (rest ++ b) ≡ Some (r.0, r.1, r.2 ++ b)) × (state_after r.1 r.2 ≡ st.StartRecord))
          → (t : Bool) → cond t (Some (fields_after (step default_config s c).1 f p, (step default_config s c).0, rest))
          (next_record default_config (step default_config s c).0
          (fields_after (step default_config s c).1 f p) (field_after (step default_config s c).1 c p) rest) ≡ Some r
          → (cond t (Some (fields_after (step default_config s c).1 f p, (step default_config s c).0, rest ++ b))
          (next_record default_config (step default_config s c).0 (fields_after (step default_config s c).1 f p)
          (field_after (step default_config s c).1 c p) (rest ++ b)) ≡ Some (r.0, r.1, r.2 ++ b)) × (state_after r.1 r.2 ≡ st.StartRecord)
      go more true m =
          let same : (fields_after (step default_config s c).1 f p, (step default_config s c).0, rest) ≡ r = cc m in
          rw (← same) (refl, e)
      go more false m = more m

-- if the first part has no record left, the next record is that of the second part
whole-none : (s : State) (f : List (List ℕ)) (p a b : List ℕ) → idle s ≡ true → state_after s a ≡ st.StartRecord → next_record
    default_config s f p a ≡ None → next_record default_config s f p (a ++ b) ≡ next_record default_config st.StartRecord f p b
unfolding state_after next_record
whole-none s f p [] b i e n = rw e refl
whole-none s f p (c ∷ rest) b i e n = go (λ j m. whole-none (step default_config s c).0 f p rest b j e m)
    (is_end (step default_config s c).1) refl n where
      next : (idle (step default_config s c).0 ≡ true
          → next_record default_config (step default_config s c).0 f p rest ≡ None
          → next_record default_config (step default_config s c).0 f p (rest ++ b)
          ≡ next_record default_config st.StartRecord f p b) → (t : Bool) → idle (step default_config s c).0 ≡ t
          → is_end (step default_config s c).1 ≡ false
          → next_record default_config (step default_config s c).0 (fields_after (step default_config s c).1 f p)
          (field_after (step default_config s c).1 c p) rest ≡ None
          → next_record default_config (step default_config s c).0 (fields_after (step default_config s c).1 f p)
          (field_after (step default_config s c).1 c p) (rest ++ b) ≡ next_record default_config st.StartRecord f p b
      next more true j t m =
          let skips = waits-step s c i t j in
          let n2 : next_record default_config (step default_config s c).0 f p rest ≡ None = rw skips at m in
          rw skips (more j n2)
      next more false j t m = absurd (busy-none (step default_config s c).0 _ _ rest j e m)

      go : (idle (step default_config s c).0 ≡ true → next_record default_config (step default_config s c).0 f p rest ≡ None
          → next_record default_config (step default_config s c).0 f p (rest ++ b) ≡ next_record default_config st.StartRecord f p b)
          → (t : Bool) → is_end (step default_config s c).1 ≡ t
          → cond t (Some (fields_after (step default_config s c).1 f p, (step default_config s c).0, rest)) (next_record default_config
          (step default_config s c).0 (fields_after (step default_config s c).1 f p) (field_after (step default_config s c).1 c p) rest)
          ≡ None → cond t (Some (fields_after (step default_config s c).1 f p, (step default_config s c).0, rest ++ b))
          (next_record default_config (step default_config s c).0 (fields_after (step default_config s c).1 f p)
          (field_after (step default_config s c).1 c p) (rest ++ b)) ≡ next_record default_config st.StartRecord f p b
      go more true t m = cc m
      go more false t m = next more (idle (step default_config s c).0) refl t m

begins-some : (s : State) (xs : List ℕ) (p : Read) → next_record default_config s [] [] xs ≡ Some p → IsStart p.1
begins-some s xs p e = subst Begins e (next-begins s [] [] xs)

-- more reads than bytes make no difference
pub same-fuel : (n m : ℕ) (s : State) (xs : List ℕ)
    → IsStart s → length xs < n → length xs < m → records_from default_config n s xs ≡ records_from default_config m s xs
unfolding records_from
same-fuel zero m s xs start l k = absurd (omega (arith, l))
same-fuel (suc n) zero s xs start l k = absurd (omega (arith, k))
same-fuel (suc n) (suc m) s xs start l k = go (λ p b i j. same-fuel n m p.1 p.2 b i j) (next_record default_config s [] [] xs) refl where
  go : ((p : Read) → IsStart p.1 → length p.2 < n → length p.2 < m → records_from default_config n p.1 p.2
      ≡ records_from default_config m p.1 p.2) → (o : Option Read) → next_record default_config s [] [] xs ≡ o
      → records_next (records_from default_config n) o ≡ records_next (records_from default_config m) o
  go more None e = refl
  go more (Some p) e =
      let less = next-less default_config s [] [] xs p start e in
      ap (λ (rs : List (List (List ℕ))). p.0 ∷ rs) (more p (begins-some s xs p e) (omega (arith, less, l)) (omega (arith, less, k)))

-- the records of a first part that is closed, and then those of the second
split-from : (n k m : ℕ) (s : State) (a b : List ℕ)
    → IsStart s → state_after s a ≡ st.StartRecord → length (a ++ b) < n → length a < k → length b < m
    → records_from default_config n s (a ++ b) ≡ records_from default_config k s a ++ records_from default_config m st.StartRecord b
unfolding records_from
split-from zero k m s a b start e l h g = absurd (omega (arith, l))
split-from (suc n) zero m s a b start e l h g = absurd (omega (arith, h))
split-from (suc n) (suc k) zero s a b start e l h g = absurd (omega (arith, g))
split-from (suc n) (suc k) (suc m) s a b start e l h g =
    go (λ p i w j q. split-from n k (suc m) p.1 p.2 b i w j q g) (next_record default_config s [] [] a) refl where
      later : (o : Option Read) → next_record default_config st.StartRecord [] [] b ≡ o
          → records_next (records_from default_config n) o ≡ records_next (records_from default_config m) o
      later None q = refl
      later (Some p) q =
          let less = next-less default_config st.StartRecord [] [] b p refl q in
          let sum = length-append a b in
          ap (λ (rs : List (List (List ℕ))). p.0 ∷ rs)
          (same-fuel n m p.1 p.2 (begins-some st.StartRecord b p q) (omega (arith, less, l, sum)) (omega (arith, less, g)))

      go : ((p : Read) → IsStart p.1 → state_after p.1 p.2 ≡ st.StartRecord → length (p.2 ++ b) < n → length p.2 < k
          → records_from default_config n p.1 (p.2 ++ b) ≡ records_from default_config k p.1 p.2
          ++ records_from default_config (suc m) st.StartRecord b) → (o : Option Read)
          → next_record default_config s [] [] a ≡ o
          → records_next (records_from default_config n) (next_record default_config s [] [] (a ++ b)) ≡ records_next
          (records_from default_config k) o ++ records_from default_config (suc m) st.StartRecord b
      go more None q = rw (whole-none s [] [] a b (idle-start s start) e q) (later (next_record default_config st.StartRecord [] [] b) refl)
      go more (Some p) q =
          let less = next-less default_config s [] [] a p start q in
          let w = whole-some s [] [] a b p e q in
          let sum = length-append a b in
          let rest = length-append p.2 b in
          rw w.0 (ap (λ (rs : List (List (List ℕ))). p.0 ∷ rs)
          (more p (begins-some s a p q) w.1 (omega (arith, less, l, sum, rest)) (omega (arith, less, h))))

-- The records of a text that is cut after a closed part are those of the part and then those of the rest.
pub records-split : (a b : List ℕ) → IsClosed a → records default_config (a ++ b) ≡ records default_config a ++ records default_config b
records-split a b e = split-from (length (a ++ b) + 1)
    (length a + 1) (length b + 1) st.StartRecord a b refl e (omega arith) (omega arith) (omega arith)
