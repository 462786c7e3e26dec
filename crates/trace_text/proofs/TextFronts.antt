-- The front of a text, byte by byte, and a byte order mark before it.
use Rattle.std.proofs.Common.{◌≡◌, ◌≤◌, ◌<◌, ◌+◌, ℕ, zero, suc, List, [], ◌∷◌, length, get_or, take, drop, true, false, Bool, cond, refl, sym, ap, ◌∙◌, arith, drop-cons, length-drop}
use Rattle.std.proofs.lemmas.Bool.{le-ltb, lt-ltb}
use Rattle.std.specs.Prelude.{nat_lt, nat_eq, ◌&&◌}
use Rattle.std.specs.List.{starts_with}
use Rattle.csv.specs.Machine.{step}
use Rattle.csv.specs.Reading.{default_config, strip_bom, is_bom}
use Rattle.csv.specs.declared.parser.State.{State}
use Rattle.trace_text.specs.declared.record_limits.TheConstants.{MAX_FIELDS}
use Rattle.trace_text.specs.RecordLimits.{count_after, front_from}

-- the front goes on to the byte at a place
pub front-byte : (n m : ℕ) (s r : State) (text : List ℕ) (i : ℕ)
    → i < length text → r ≡ (step default_config s (get_or text i 0)).0 → m ≡ count_after (step default_config s (get_or text i 0)).1 n
    → m ≤ MAX_FIELDS → front_from n s (drop i text) ≡ get_or text i 0 ∷ front_from m r (drop (i + 1) text)
unfolding front_from
front-byte n m s r text i at e f few =
    let within : nat_lt MAX_FIELDS m ≡ false = le-ltb MAX_FIELDS m few in
    let next : suc i ≡ i + 1 = omega arith in
    rw (drop-cons text i 0 at, ← e, ← f, within) (ap (λ k. get_or text i 0 ∷ front_from m r (drop k text)) next)

-- the front ends at the byte at a place
pub front-ends : (n m : ℕ) (s : State) (text : List ℕ) (i : ℕ) → i < length text
    → m ≡ count_after (step default_config s (get_or text i 0)).1 n → MAX_FIELDS < m → front_from n s (drop i text) ≡ get_or text i 0 ∷ []
unfolding front_from
front-ends n m s text i at f many =
    let over : nat_lt MAX_FIELDS m ≡ true = lt-ltb MAX_FIELDS m many in
    rw (drop-cons text i 0 at, ← f, over) refl

-- three tests, as a comparison of lists nests them and as a mark's test does
flip : (a b : ℕ) → nat_eq a b ≡ nat_eq b a
flip a b = grind arith

three : (p q r t : Bool) → (p && (q && (r && true))) ≡ t → (p && q && r) ≡ t
three true true true t e = e
three true true false t e = e
three true false r t e = e
three false q r t e = e

none-of-one : (p : Bool) → (p && false) ≡ true → ⊥
none-of-one true e = cc e
none-of-one false e = cc e

none-of-two : (p q : Bool) → (p && (q && false)) ≡ true → ⊥
none-of-two true q e = none-of-one q e
none-of-two false q e = cc e

-- a text with and without a byte order mark
pub marked : (text : List ℕ) → starts_with nat_eq text (239 ∷ 187 ∷ 191 ∷ []) ≡ true → strip_bom text ≡ drop 3 text
unfolding strip_bom
marked [] e = refl
marked (a ∷ []) e = absurd (none-of-one (nat_eq 239 a) e)
marked (a ∷ b ∷ []) e = absurd (none-of-two (nat_eq 239 a) (nat_eq 187 b) e)
marked (a ∷ b ∷ c ∷ rest) e = rw (flip a 239, flip b 187, flip c 191, three (nat_eq 239 a) (nat_eq 187 b) (nat_eq 191 c) true e) refl

pub unmarked : (text : List ℕ) → starts_with nat_eq text (239 ∷ 187 ∷ 191 ∷ []) ≡ false → strip_bom text ≡ text
unfolding strip_bom
unmarked [] e = refl
unmarked (a ∷ []) e = refl
unmarked (a ∷ b ∷ []) e = refl
unmarked (a ∷ b ∷ c ∷ rest) e = rw (flip a 239, flip b 187, flip c 191, three (nat_eq 239 a) (nat_eq 187 b) (nat_eq 191 c) false e) refl

kept-bom : (b : Bool) (x y z : ℕ) (rest cut : List ℕ)
    → cond b rest (x ∷ y ∷ z ∷ rest) ≡ x ∷ y ∷ z ∷ rest → cond b cut (x ∷ y ∷ z ∷ cut) ≡ x ∷ y ∷ z ∷ cut
kept-bom true x y z rest cut e = let size : length rest ≡ length (x ∷ y ∷ z ∷ rest) = ap length e in absurd (omega (arith, size))
kept-bom false x y z rest cut e = refl

-- the front of a text without a mark has none
kept : (k : ℕ) (text : List ℕ) → strip_bom text ≡ text → strip_bom (take k text) ≡ take k text
unfolding strip_bom
kept zero text e = refl
kept (suc k) [] e = refl
kept (suc zero) (a ∷ rest) e = refl
kept (suc (suc k)) (a ∷ []) e = refl
kept (suc (suc zero)) (a ∷ b ∷ rest) e = refl
kept (suc (suc (suc k))) (a ∷ b ∷ []) e = refl
kept (suc (suc (suc k))) (a ∷ b ∷ c ∷ rest) e = kept-bom (is_bom a b c) a b c rest (take k rest) e

kept-all : (m k : ℕ) (text : List ℕ) → m ≤ length text
    → strip_bom text ≡ text → strip_bom text ≡ drop m text → strip_bom (take (m + k) text) ≡ take k (drop m text)
kept-all m k text within plain e =
    let same : text ≡ drop m text = sym plain ∙ e in
    let size : length text ≡ length (drop m text) = ap length same in
    let start : m + k ≡ k = omega (arith, size, within, length-drop m text) in
    rw (start, ← same) (kept k text plain)

after-bom : (m k : ℕ) (b : Bool) (x y z : ℕ) (rest : List ℕ) → is_bom x y z ≡ b → m ≤ length (x ∷ y ∷ z ∷ rest) → strip_bom
    (x ∷ y ∷ z ∷ rest) ≡ drop m (x ∷ y ∷ z ∷ rest) → strip_bom (take (m + k) (x ∷ y ∷ z ∷ rest)) ≡ take k (drop m (x ∷ y ∷ z ∷ rest))
unfolding strip_bom
after-bom m k true x y z rest t within e =
    let same : rest ≡ drop m (x ∷ y ∷ z ∷ rest) = rw t at e in
    let size : length rest ≡ length (drop m (x ∷ y ∷ z ∷ rest)) = ap length same in
    let past : m + k ≡ suc (suc (suc k)) = omega (arith, size, within, length-drop m (x ∷ y ∷ z ∷ rest)) in
    rw (past, ← same, t) refl
after-bom m k false x y z rest t within e = kept-all m k (x ∷ y ∷ z ∷ rest) within (rw t refl) e

-- where a text goes on after its mark, if it has one, so does its front
pub front-marked : (text : List ℕ) (m k : ℕ) → m ≤ length text
    → strip_bom text ≡ drop m text → strip_bom (take (m + k) text) ≡ take k (drop m text)
unfolding strip_bom
front-marked [] m k within e = kept-all m k [] within refl e
front-marked (a ∷ []) m k within e = kept-all m k (a ∷ []) within refl e
front-marked (a ∷ b ∷ []) m k within e = kept-all m k (a ∷ b ∷ []) within refl e
front-marked (a ∷ b ∷ c ∷ rest) m k within e = after-bom m k (is_bom a b c) a b c rest refl within e
