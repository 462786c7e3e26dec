-- What is read of a text stays within the limits.
use Rattle.std.proofs.Common.{ℕ, ◌≡◌, ◌≢◌, ◌+◌, ◌-◌, ◌*◌, ◌/◌, ◌%◌, ◌^◌, ◌<◌, ◌≤◌, inl, inr, List, [], ◌∷◌, ◌++◌, max}
use Rattle.std.proofs.Common.{Bool, true, false, ◌&&◌, ◌==◌, refl, sym, ap, subst, ◌∙◌, true≢false, suc, zero, arith}
use Rattle.std.specs.Prelude.{Result, Ok, Err, Option, Some, None, is_ok, nat_lt, option_to_list, if◌then◌else◌}
use Rattle.std.proofs.Math.Nat.{mul-one, one-mul, mul_assoc}
use Rattle.std.proofs.Math.Pow.{pow_mono}
use Rattle.std.proofs.lemmas.Bool.{cases_lt}
use Rattle.std.proofs.lemmas.Bool.Decides.{nat_tests}
use Rattle.std.proofs.lemmas.Grind.{pow_more}
use Rattle.std.proofs.lemmas.List.{append-nil}
use Rattle.std.proofs.lemmas.Nat.{div-add-mod', mod_below}
use Rattle.decision_claims.specs.declared.formulas.Operand.TheVariants.{Number, Delta, Phi, Processors, Faults}
use Rattle.decision_claims.specs.declared.formulas.Part.{Part}
use Rattle.decision_claims.specs.declared.formulas.Part.TheVariants.{Value, Plus, Times, Over, Open, Greatest, Comma, Close}
use Rattle.decision_claims.specs.declared.lexemes.Lexeme.{Lexeme}
use Rattle.decision_claims.specs.declared.lexemes.Lexeme.TheVariants as lexeme
use Rattle.decision_claims.specs.declared.readings.BadFormula.{BadFormula}
use Rattle.decision_claims.specs.declared.readings.BadFormula.TheVariants as bad
use Rattle.decision_claims.specs.declared.readings.Move.{Move}
use Rattle.decision_claims.specs.declared.readings.Need.{Need}
use Rattle.decision_claims.specs.declared.readings.Need.TheVariants as need
use Rattle.decision_claims.specs.declared.readings.State.{State}
use Rattle.decision_claims.specs.declared.formula_texts.Reading.{Reading}
use Rattle.decision_claims.specs.Formulas.{Fits, IsWithinLimits, divisors}
use Rattle.decision_claims.specs.FormulaTexts.{after_group, begun, divided, moved, next_by, next_of_max, opened, read_on, taken}
use Rattle.decision_claims.proofs.FormulaReadings.{read_on-refused}

-- a parenthesis opens if there is room
record HasOpened (s next : State) : Type 0 where
  pub room : s.groups < 2 ^ 32
  pub groups : 2 * s.groups ≤ next.groups
  pub divisors : next.divisors ≡ s.divisors

-- what a part makes of the state
abbrev Makes : State → Option Part → State → Type 0
Makes s None next = (next.groups ≡ s.groups) × (next.divisors ≡ s.divisors)
Makes s (Some Open) next = HasOpened s next
Makes s (Some Greatest) next = HasOpened s next
Makes s (Some Close) next = (next.divisors ≡ s.divisors) × (s.groups < next.groups * 2 + 2) × (1 < s.groups)
Makes s (Some (Over k)) next = (next.groups ≡ s.groups) × (next.divisors ≡ s.divisors * k) × (0 < next.divisors) × (next.divisors < 2 ^ 32)
Makes s (Some p) next = (next.groups ≡ s.groups) × (next.divisors ≡ s.divisors)

abbrev IsMade : State → Move → Type 0
IsMade s m = Makes s m.part m.state

-- a move that was made
abbrev okay : Move → Result Move BadFormula
okay m = Ok m

refused : {A : Type 0} (why : BadFormula) (m : Move) → Err why ≡ okay m → A
refused why m e = absurd (true≢false (sym (ap is_ok e)))

made : (s : State) (a m : Move) → okay a ≡ okay m → IsMade s a → IsMade s m
made s a m e h = let same : a ≡ m = cc in subst (IsMade s) same h

made-opened : (s : State) (kind : ℕ) (p : Part) (m : Move)
    → ((next : State) → HasOpened s next → Makes s (Some p) next) → opened s kind p ≡ okay m → IsMade s m
unfolding opened
made-opened s kind p m is = go (nat_lt s.groups (2 ^ 32)) refl where
  go : (b : Bool) → nat_lt s.groups (2 ^ 32) ≡ b
      → (if b then Ok
      (record {
        state =
            record {
              need = need.Operand;
              groups = s.groups * 2 + kind;
              divisors = s.divisors;
              operands = s.operands;
            };
        part = Some p;
      }) else Err (bad.Depth (s.operands + 1))) ≡ okay m → IsMade s m
  go true t e = made s _ m e (is _ (record { room = grind (arith, nat_tests); groups = omega arith; divisors = refl }))
  go false t e = refused _ m e

made-divided : (s : State) (k : ℕ) (m : Move) → divided s k ≡ okay m → IsMade s m
unfolding divided
made-divided s k m = go (nat_lt 0 (s.divisors * k)) (nat_lt (s.divisors * k) (2 ^ 32)) refl refl where
  go : (a b : Bool) → nat_lt 0 (s.divisors * k) ≡ a → nat_lt (s.divisors * k) (2 ^ 32) ≡ b
      → (if (a && b) then Ok
      (record {
        state =
            record { need = need.Sign; groups = s.groups; divisors = s.divisors * k; operands = s.operands + 1 };
        part = Some (Over k);
      }) else Err (bad.Divisor (s.operands + 1))) ≡ okay m → IsMade s m
  go true true t u e = made s _ m e (refl, refl, grind (arith, nat_tests), grind (arith, nat_tests))
  go true false t u e = refused _ m e
  go false b t u e = refused _ m e

made-comma : (s : State) (m : Move) → next_of_max s ≡ okay m → IsMade s m
unfolding next_of_max
made-comma s m = go (nat_lt 1 s.groups && (s.groups % 2) == 1) where
  go : (b : Bool)
      → (if b then Ok
      (record {
        state =
            record { need = need.Operand; groups = s.groups; divisors = s.divisors; operands = s.operands };
        part = Some Comma;
      }) else Err (bad.Sign s.operands)) ≡ okay m → IsMade s m
  go true e = made s _ m e (refl, refl)
  go false e = refused _ m e

made-closed : (s : State) (m : Move) → after_group s ≡ okay m → IsMade s m
unfolding after_group
made-closed s m = go (nat_lt 1 s.groups) refl where
  go : (b : Bool) → nat_lt 1 s.groups ≡ b
      → (if b then Ok
      (record {
        state =
            record { need = need.Sign; groups = s.groups / 2; divisors = s.divisors; operands = s.operands };
        part = Some Close;
      }) else Err (bad.Sign s.operands)) ≡ okay m → IsMade s m
  go true t e =
      let whole = div-add-mod' s.groups 2 in
      let below = mod_below s.groups 2 (omega arith) in
      made s _ m e (refl, omega (arith, whole, below), grind (arith, nat_tests))
  go false t e = refused _ m e

-- what a lexeme makes of the state
made-next : (what : Need) (s : State) (l : Lexeme) (m : Move) → next_by what s l ≡ okay m → IsMade s m
made-next need.Operand s (lexeme.Name o) m e = made s _ m e (refl, refl)
made-next need.Operand s lexeme.Max m e = made s _ m e (refl, refl)
made-next need.Operand s lexeme.Open m e = made-opened s 0 Open m (λ next h. h) e
made-next need.Operand s lexeme.Unknown m e = refused _ m e
made-next need.Operand s lexeme.Plus m e = refused _ m e
made-next need.Operand s lexeme.Times m e = refused _ m e
made-next need.Operand s lexeme.Slash m e = refused _ m e
made-next need.Operand s lexeme.Comma m e = refused _ m e
made-next need.Operand s lexeme.Close m e = refused _ m e
made-next need.Parenthesis s lexeme.Open m e = made-opened s 1 Greatest m (λ next h. h) e
made-next need.Parenthesis s (lexeme.Name o) m e = refused _ m e
made-next need.Parenthesis s lexeme.Max m e = refused _ m e
made-next need.Parenthesis s lexeme.Unknown m e = refused _ m e
made-next need.Parenthesis s lexeme.Plus m e = refused _ m e
made-next need.Parenthesis s lexeme.Times m e = refused _ m e
made-next need.Parenthesis s lexeme.Slash m e = refused _ m e
made-next need.Parenthesis s lexeme.Comma m e = refused _ m e
made-next need.Parenthesis s lexeme.Close m e = refused _ m e
made-next need.Divisor s (lexeme.Name (Number k)) m e = made-divided s k m e
made-next need.Divisor s (lexeme.Name Delta) m e = refused _ m e
made-next need.Divisor s (lexeme.Name Phi) m e = refused _ m e
made-next need.Divisor s (lexeme.Name Processors) m e = refused _ m e
made-next need.Divisor s (lexeme.Name Faults) m e = refused _ m e
made-next need.Divisor s lexeme.Max m e = refused _ m e
made-next need.Divisor s lexeme.Unknown m e = refused _ m e
made-next need.Divisor s lexeme.Plus m e = refused _ m e
made-next need.Divisor s lexeme.Times m e = refused _ m e
made-next need.Divisor s lexeme.Slash m e = refused _ m e
made-next need.Divisor s lexeme.Open m e = refused _ m e
made-next need.Divisor s lexeme.Comma m e = refused _ m e
made-next need.Divisor s lexeme.Close m e = refused _ m e
made-next need.Sign s lexeme.Plus m e = made s _ m e (refl, refl)
made-next need.Sign s lexeme.Times m e = made s _ m e (refl, refl)
made-next need.Sign s lexeme.Slash m e = made s _ m e (refl, refl)
made-next need.Sign s lexeme.Comma m e = made-comma s m e
made-next need.Sign s lexeme.Close m e = made-closed s m e
made-next need.Sign s (lexeme.Name o) m e = refused _ m e
made-next need.Sign s lexeme.Max m e = refused _ m e
made-next need.Sign s lexeme.Unknown m e = refused _ m e
made-next need.Sign s lexeme.Open m e = refused _ m e

-- how many parentheses are open after these parts
abbrev depth_after : ℕ → List Part → ℕ
depth_after d [] = d
depth_after d (Open ∷ parts) = depth_after (d + 1) parts
depth_after d (Greatest ∷ parts) = depth_after (d + 1) parts
depth_after d (Close ∷ parts) = depth_after (d - 1) parts
depth_after d (p ∷ parts) = depth_after d parts

depth_after-append : (d : ℕ) (xs ys : List Part) → depth_after d (xs ++ ys) ≡ depth_after (depth_after d xs) ys
depth_after-append d [] ys = refl
depth_after-append d (Open ∷ xs) ys = depth_after-append (d + 1) xs ys
depth_after-append d (Greatest ∷ xs) ys = depth_after-append (d + 1) xs ys
depth_after-append d (Close ∷ xs) ys = depth_after-append (d - 1) xs ys
depth_after-append d (Value o ∷ xs) ys = depth_after-append d xs ys
depth_after-append d (Plus ∷ xs) ys = depth_after-append d xs ys
depth_after-append d (Times ∷ xs) ys = depth_after-append d xs ys
depth_after-append d (Over k ∷ xs) ys = depth_after-append d xs ys
depth_after-append d (Comma ∷ xs) ys = depth_after-append d xs ys

Fits-append : (d : ℕ) (xs ys : List Part) → Fits d xs → Fits (depth_after d xs) ys → Fits d (xs ++ ys)
Fits-append d [] ys f g = g
Fits-append d (Open ∷ xs) ys f g = (f.0, Fits-append (d + 1) xs ys f.1 g)
Fits-append d (Greatest ∷ xs) ys f g = (f.0, Fits-append (d + 1) xs ys f.1 g)
Fits-append d (Close ∷ xs) ys f g = Fits-append (d - 1) xs ys f g
Fits-append d (Value o ∷ xs) ys f g = Fits-append d xs ys f g
Fits-append d (Plus ∷ xs) ys f g = Fits-append d xs ys f g
Fits-append d (Times ∷ xs) ys f g = Fits-append d xs ys f g
Fits-append d (Over k ∷ xs) ys f g = Fits-append d xs ys f g
Fits-append d (Comma ∷ xs) ys f g = Fits-append d xs ys f g

divisors-append : (xs ys : List Part) → divisors (xs ++ ys) ≡ divisors xs * divisors ys
divisors-append [] ys = sym (one-mul (divisors ys))
divisors-append (Over k ∷ xs) ys = ap (λ n. max k 1 * n) (divisors-append xs ys) ∙ sym (mul_assoc (max k 1) (divisors xs) (divisors ys))
divisors-append (Value o ∷ xs) ys = divisors-append xs ys
divisors-append (Plus ∷ xs) ys = divisors-append xs ys
divisors-append (Times ∷ xs) ys = divisors-append xs ys
divisors-append (Open ∷ xs) ys = divisors-append xs ys
divisors-append (Greatest ∷ xs) ys = divisors-append xs ys
divisors-append (Comma ∷ xs) ys = divisors-append xs ys
divisors-append (Close ∷ xs) ys = divisors-append xs ys

-- what was read is within the limits, as the state says
record IsSound (s : State) (parts : List Part) : Type 0 where
  pub fits : Fits 0 parts
  pub depth : 2 ^ depth_after 0 parts ≤ s.groups
  pub divisors : divisors parts ≡ s.divisors
  pub few : s.divisors < 2 ^ 32

-- a part that opens and closes nothing, and divides nothing
plain : (s next : State) (parts : List Part) (p : Part)
    → Fits (depth_after 0 parts) (p ∷ []) → depth_after (depth_after 0 parts) (p ∷ []) ≡ depth_after 0 parts → divisors (p ∷ []) ≡ 1
    → (next.groups ≡ s.groups) × (next.divisors ≡ s.divisors) → IsSound s parts → IsSound next (parts ++ p ∷ [])
plain s next parts p fits same one kept sound = record {
  fits = Fits-append 0 parts (p ∷ []) sound.fits fits;
  depth = rw (depth_after-append 0 parts (p ∷ []), same, kept.0) sound.depth;
  divisors = rw (divisors-append parts (p ∷ []), one, mul-one (divisors parts), kept.1) sound.divisors;
  few = rw kept.1 sound.few;
}

-- a parenthesis that opens
deeper : (s next : State) (parts : List Part) (p : Part) → ((d : ℕ) → d < 32 → Fits d (p ∷ [])) → ((d : ℕ) → depth_after d (p ∷ []) ≡ d + 1)
    → divisors (p ∷ []) ≡ 1 → HasOpened s next → IsSound s parts → IsSound next (parts ++ p ∷ [])
deeper s next parts p fits more one h sound =
    let d = depth_after 0 parts in
    let low = sound.depth in
    let room = h.room in
    let shallow : d < 32 =
    elim (cases_lt d 32) [ inl l ↦ l | inr l ↦ absurd (let wide : 2 ^ 32 ≤ 2 ^ d = pow_mono l in omega (arith, wide, low, room)) ] in
    let twice = pow_more 2 d in
    let groups = h.groups in
    record {
      fits = Fits-append 0 parts (p ∷ []) sound.fits (fits d shallow);
      depth = rw (depth_after-append 0 parts (p ∷ []), more d, twice) (omega (arith, low, groups));
      divisors = rw (divisors-append parts (p ∷ []), one, mul-one (divisors parts), h.divisors) sound.divisors;
      few = rw h.divisors sound.few;
    }

-- a parenthesis that closes
shallower : (s next : State) (parts : List Part) → (next.divisors ≡ s.divisors) × (s.groups < next.groups * 2 + 2) × (1 < s.groups)
    → IsSound s parts → IsSound next (parts ++ Close ∷ [])
shallower s next parts h sound = record {
  fits = Fits-append 0 parts (Close ∷ []) sound.fits tt;
  depth = rw (depth_after-append 0 parts (Close ∷ [])) (less (depth_after 0 parts) sound.depth);
  divisors = rw (divisors-append parts (Close ∷ []), mul-one (divisors parts), h.0) sound.divisors;
  few = rw h.0 sound.few;
} where
  less : (d : ℕ) → 2 ^ d ≤ s.groups → 2 ^ (d - 1) ≤ next.groups
  less zero l = let a = h.1 in let b = h.2 in omega (arith, a, b)
  less (suc d) l =
      let a = h.1 in
      let back : suc d - 1 ≡ d = omega arith in
      let more : suc d ≡ d + 1 = omega arith in
      let twice = pow_more 2 d in
      let up : 2 ^ d * 2 ≤ s.groups = subst (λ n. n ≤ s.groups) twice (rw more at l) in
      rw back (omega (arith, up, a))

-- a divisor
finer : (s next : State) (parts : List Part) (k : ℕ) → (next.groups ≡ s.groups) × (next.divisors ≡ s.divisors * k)
    × (0 < next.divisors) × (next.divisors < 2 ^ 32) → IsSound s parts → IsSound next (parts ++ Over k ∷ [])
finer s next parts k h sound = record {
  fits = Fits-append 0 parts (Over k ∷ []) sound.fits tt;
  depth = rw (depth_after-append 0 parts (Over k ∷ []), h.0) sound.depth;
  divisors = rw (divisors-append parts (Over k ∷ []), sound.divisors)
      (ap (λ n. s.divisors * n) (mul-one (max k 1) ∙ some k (rw h.1 at h.2)) ∙ sym h.1);
  few = h.3;
} where
  some : (k : ℕ) → 0 < s.divisors * k → max k 1 ≡ k
  some zero l = absurd (omega (arith, l))
  some (suc k) l = omega arith

sound-part : (s next : State) (parts : List Part) (p : Option Part)
    → Makes s p next → IsSound s parts → IsSound next (parts ++ option_to_list p)
sound-part s next parts None h sound = rw (append-nil parts)
    (record { fits = sound.fits; depth = rw h.0 sound.depth; divisors = rw h.1 sound.divisors; few = rw h.1 sound.few })
sound-part s next parts (Some (Value o)) h sound = plain s next parts (Value o) tt refl refl h sound
sound-part s next parts (Some Plus) h sound = plain s next parts Plus tt refl refl h sound
sound-part s next parts (Some Times) h sound = plain s next parts Times tt refl refl h sound
sound-part s next parts (Some Comma) h sound = plain s next parts Comma tt refl refl h sound
sound-part s next parts (Some (Over k)) h sound = finer s next parts k h sound
sound-part s next parts (Some Open) h sound = deeper s next parts Open (λ d l. (l, tt)) (λ d. refl) refl h sound
sound-part s next parts (Some Greatest) h sound = deeper s next parts Greatest (λ d l. (l, tt)) (λ d. refl) refl h sound
sound-part s next parts (Some Close) h sound = shallower s next parts h sound

sound-moved : (s : State) (parts : List Part) (r : Result Move BadFormula) (read : Reading)
    → ((m : Move) → r ≡ okay m → IsMade s m) → IsSound s parts → moved parts r ≡ Ok read → IsSound read.state read.parts
sound-moved s parts (Err why) read made sound e = absurd (true≢false (sym (ap is_ok e)))
sound-moved s parts (Ok m) read made sound e =
    let same : record { state = m.state; parts = parts ++ option_to_list m.part } ≡ read = cc in
    subst (λ (r : Reading). IsSound r.state r.parts) same (sound-part s m.state parts m.part (made m refl) sound)

sound-read : (ls : List Lexeme) (r : Result Reading BadFormula) (read : Reading)
    → ((start : Reading) → r ≡ Ok start → IsSound start.state start.parts) → read_on r ls ≡ Ok read
    → IsSound read.state read.parts
sound-read [] r read sound e = sound read e
sound-read (l ∷ ls) (Err why) read sound e = absurd (true≢false (sym (ap is_ok (sym (read_on-refused why ls) ∙ e))))
sound-read (l ∷ ls) (Ok start) read sound e = sound-read ls (taken (Ok start) l) read (λ next is. sound-moved start.state start.parts
    (next_by start.state.need start.state l) next (λ m h. made-next start.state.need start.state l m h) (sound start refl) is) e

-- so it makes a formula
pub read_limits : (ls : List Lexeme) (read : Reading) → read_on (Ok begun) ls ≡ Ok read → IsWithinLimits read.parts
read_limits ls read e =
    let sound = sound-read ls (Ok begun) read
    (λ start is. (let same : begun ≡ start = cc in
    subst (λ (r : Reading). IsSound r.state r.parts) same
    (record { fits = tt; depth = omega arith; divisors = refl; few = omega arith }))) e in
    record { groups = sound.fits; divisors = rw sound.divisors sound.few }
