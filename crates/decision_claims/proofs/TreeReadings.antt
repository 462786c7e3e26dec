-- Formulas as trees: how their words and signs are read.
use Rattle.std.proofs.Common.{ℕ, ◌≡◌, ◌+◌, ◌-◌, ◌*◌, ◌/◌, ◌%◌, ◌^◌, ◌<◌, ◌≤◌, ◌⊎◌, inl, inr, List, [], ◌∷◌, ◌++◌, max, true, ◌==◌, append_assoc, refl, sym, ap, subst, ◌∙◌, suc, zero, arith}
use Rattle.std.specs.Prelude.{Ok, nat_lt}
use Rattle.std.proofs.Math.Nat.{mul_assoc, mul-one, mul-le-mul_left}
use Rattle.std.proofs.Math.Pow.{pow_mono}
use Rattle.std.proofs.lemmas.Bool.Decides.{nat_tests}
use Rattle.std.proofs.lemmas.Grind.{pow_more}
use Rattle.std.proofs.lemmas.List.{append-nil}
use Rattle.std.proofs.lemmas.Nat.{div-add-mod', mod_below, mul-le}
use Rattle.decision_claims.specs.declared.formulas.Part.{Part}
use Rattle.decision_claims.specs.declared.formulas.Part.TheVariants.{Value, Plus, Times, Over, Open, Greatest, Comma, Close}
use Rattle.decision_claims.specs.declared.readings.Need.{Need}
use Rattle.decision_claims.specs.declared.readings.Need.TheVariants as need
use Rattle.decision_claims.specs.declared.readings.State.{State}
use Rattle.decision_claims.specs.declared.formula_texts.Reading.{Reading}
use Rattle.decision_claims.specs.Formulas.{Fits, Terms, divisors}
use Rattle.decision_claims.specs.FormulaTexts.{after_group, divided, finished, moved, next_of_max, opened, read_formula, read_on}
use Rattle.decision_claims.specs.FormulaTrees.{ArePositive, IsBound, IsFormulaText, Tree, Leaf, Group, Most, Product, Quotient, Sum, Row, binding, marks, parts_of}

abbrev state : Need → ℕ → ℕ → ℕ → State
state what g d k = record { need = what; groups = g; divisors = d; operands = k }

abbrev at : Need → ℕ → ℕ → ℕ → List Part → Reading
at what g d k acc = record { state = state what g d k; parts = acc }

-- there is room for these parts
record HasRoom (g d : ℕ) (parts : List Part) : Type 0 where
  pub depth : ℕ
  pub low : g < 2 ^ (depth + 1)
  pub positive : 1 ≤ g
  pub fits : Fits depth parts
  pub divisors : d * divisors parts < 2 ^ 32
  pub some : 1 ≤ d
  pub nonzero : ArePositive parts

-- these parts are read, and others are left
record IsRead (g d k : ℕ) (acc ps rest : List Part) : Type 0 where
  pub divisors : ℕ
  pub operands : ℕ
  pub read : read_on (Ok (at need.Operand g d k acc)) (marks (ps ++ rest))
      ≡ read_on (Ok (at need.Sign g divisors operands (acc ++ ps))) (marks rest)
  pub room : HasRoom g divisors rest

divisors-positive : (parts : List Part) → 1 ≤ divisors parts
divisors-positive [] = omega arith
divisors-positive (Over k ∷ parts) =
    let l : 1 * 1 ≤ max k 1 * divisors parts = mul-le 1 1 (max k 1) (divisors parts) (omega arith) (divisors-positive parts) in
    omega (arith, l)
divisors-positive (Value o ∷ parts) = divisors-positive parts
divisors-positive (Plus ∷ parts) = divisors-positive parts
divisors-positive (Times ∷ parts) = divisors-positive parts
divisors-positive (Open ∷ parts) = divisors-positive parts
divisors-positive (Greatest ∷ parts) = divisors-positive parts
divisors-positive (Comma ∷ parts) = divisors-positive parts
divisors-positive (Close ∷ parts) = divisors-positive parts

-- a parenthesis opens
opened-here : (g d k kind : ℕ) (p : Part) (acc : List Part) (what : Need)
    → g < 2 ^ 32 → moved acc (opened (state what g d k) kind p) ≡ Ok (at need.Operand (g * 2 + kind) d k (acc ++ p ∷ []))
unfolding opened
opened-here g d k kind p acc what l = let t : nat_lt g (2 ^ 32) ≡ true = grind (arith, nat_tests) in rw t refl

opened-room : (g d kind : ℕ) (rest : List Part) (depth : ℕ) → kind ≤ 1 → g < 2 ^ (depth + 1) → 1 ≤ g
    → Fits (depth + 1) rest → d * divisors rest < 2 ^ 32 → 1 ≤ d → ArePositive rest → HasRoom (g * 2 + kind) d rest
opened-room g d kind rest depth small low positive fits few some nonzero = record {
  depth = depth + 1;
  low = let twice = pow_more 2 (depth + 1) in omega (arith, low, twice, small);
  positive = omega (arith, positive);
  fits = fits;
  divisors = few;
  some = some;
  nonzero = nonzero;
}

room-below : (g depth : ℕ) → depth < 32 → g < 2 ^ (depth + 1) → g < 2 ^ 32
room-below g depth l low = let m : 2 ^ (depth + 1) ≤ 2 ^ 32 = pow_mono {i = depth + 1} {j = 32} (omega (arith, l)) in omega (arith, low, m)

-- and closes
half : (g kind : ℕ) → kind ≤ 1 → (g * 2 + kind) / 2 ≡ g
half g kind l = let whole = div-add-mod' (g * 2 + kind) 2 in
    let below = mod_below (g * 2 + kind) 2 (omega arith) in omega (arith, whole, below, l)

odd : (g : ℕ) → (g * 2 + 1) % 2 ≡ 1
odd g = let whole = div-add-mod' (g * 2 + 1) 2 in let below = mod_below (g * 2 + 1) 2 (omega arith) in
    let h = half g 1 (omega arith) in omega (arith, whole, below, h)

closed-here : (g d k kind : ℕ) (acc : List Part) → kind ≤ 1
    → 1 ≤ g → moved acc (after_group (state need.Sign (g * 2 + kind) d k)) ≡ Ok (at need.Sign g d k (acc ++ Close ∷ []))
unfolding after_group
closed-here g d k kind acc l some = let t : nat_lt 1 (g * 2 + kind) ≡ true = grind (arith, nat_tests) in rw (t, half g kind l) refl

closed-room : (g d kind : ℕ) (rest : List Part) → kind ≤ 1 → 1 ≤ g → HasRoom (g * 2 + kind) d (Close ∷ rest) → HasRoom g d rest
closed-room g d kind rest small some room = go room.depth room.low room.fits where
  go : (depth : ℕ) → g * 2 + kind < 2 ^ (depth + 1) → Fits (depth - 1) rest → HasRoom g d rest
  go zero low fits = absurd (omega (arith, low, some))
  go (suc depth) low fits =
      let back : suc depth - 1 ≡ depth = omega arith in
      let more : suc depth + 1 ≡ (depth + 1) + 1 = omega arith in
      let twice = pow_more 2 (depth + 1) in
      let up : g * 2 + kind < 2 ^ (depth + 1) * 2 = subst (λ n. g * 2 + kind < n) twice (rw more at low) in
      record {
        depth = depth;
        low = omega (arith, up);
        positive = some;
        fits = rw back at fits;
        divisors = room.divisors;
        some = room.some;
        nonzero = room.nonzero;
      }

-- a divisor
divided-here : (g d k n : ℕ) (acc : List Part) → 0 < d * k
    → d * k < 2 ^ 32 → moved acc (divided (state need.Divisor g d n) k) ≡ Ok (at need.Sign g (d * k) (n + 1) (acc ++ Over k ∷ []))
unfolding divided
divided-here g d k n acc some few =
    let t : nat_lt 0 (d * k) ≡ true = grind (arith, nat_tests) in
    let u : nat_lt (d * k) (2 ^ 32) ≡ true = grind (arith, nat_tests) in
    rw (t, u) refl

-- a comma
comma-here : (g d k : ℕ) (acc : List Part) → 1 < g
    → g % 2 ≡ 1 → moved acc (next_of_max (state need.Sign g d k)) ≡ Ok (at need.Operand g d k (acc ++ Comma ∷ []))
unfolding next_of_max
comma-here g d k acc l o =
    let t : nat_lt 1 g ≡ true = grind (arith, nat_tests) in
    let u : ((g % 2) == 1) ≡ true = grind (arith, nat_tests) in
    rw (t, u) refl

-- a row is in a max alone
abbrev MayStand : Tree → ℕ → Type 0
MayStand f g = (1 ≤ binding f) ⊎ ((1 < g) × (g % 2 ≡ 1))

-- two formulas with a sign between them
two-read : (g d k : ℕ) (acc ps qs rest : List Part) (p : Part) → (a : IsRead g d k acc ps (p ∷ (qs ++ rest)))
    → read_on (Ok (at need.Sign g a.divisors a.operands (acc ++ ps))) (marks (p ∷ (qs ++ rest)))
    ≡ read_on (Ok (at need.Operand g a.divisors a.operands ((acc ++ ps) ++ p ∷ []))) (marks (qs ++ rest))
    → (b : IsRead g a.divisors a.operands ((acc ++ ps) ++ p ∷ []) qs rest) → IsRead g d k acc (ps ++ p ∷ qs) rest
two-read g d k acc ps qs rest p a step b = record {
  divisors = b.divisors;
  operands = b.operands;
  read = ap (λ (l : List Part). read_on (Ok (at need.Operand g d k acc)) (marks l)) (append_assoc ps (p ∷ qs) rest) ∙ a.read ∙ step ∙ b.read
      ∙ ap (λ (l : List Part). read_on (Ok (at need.Sign g b.divisors b.operands l)) (marks rest))
      (append_assoc (acc ++ ps) (p ∷ []) qs ∙ append_assoc acc ps (p ∷ qs));
  room = b.room;
}

-- a formula in parentheses
group-read : (g d k kind : ℕ) (acc ps rest : List Part) (p : Part) → kind ≤ 1 → 1 ≤ g → read_on (Ok (at need.Operand g d k acc))
    (marks (p ∷ (ps ++ Close ∷ rest))) ≡ read_on (Ok (at need.Operand (g * 2 + kind) d k (acc ++ p ∷ []))) (marks (ps ++ Close ∷ rest))
    → IsRead (g * 2 + kind) d k (acc ++ p ∷ []) ps (Close ∷ rest) → IsRead g d k acc (p ∷ (ps ++ Close ∷ [])) rest
group-read g d k kind acc ps rest p small some step a = record {
  divisors = a.divisors;
  operands = a.operands;
  read = ap (λ (l : List Part). read_on (Ok (at need.Operand g d k acc)) (marks (p ∷ l))) (append_assoc ps (Close ∷ []) rest)
      ∙ step ∙ a.read ∙ ap (λ r. read_on r (marks rest)) (closed-here g a.divisors a.operands kind ((acc ++ p ∷ []) ++ ps) small some)
      ∙ ap (λ (l : List Part). read_on (Ok (at need.Sign g a.divisors a.operands l)) (marks rest))
      (append_assoc (acc ++ p ∷ []) ps (Close ∷ []) ∙ append_assoc acc (p ∷ []) (ps ++ Close ∷ []));
  room = closed-room g a.divisors kind rest small some a.room;
}

-- the room for what comes after a sign, which opens and divides nothing
sign-room : (g d : ℕ) (rest : List Part) (depth : ℕ)
    → g < 2 ^ (depth + 1) → 1 ≤ g → Fits depth rest → d * divisors rest < 2 ^ 32 → 1 ≤ d → ArePositive rest → HasRoom g d rest
sign-room g d rest depth low positive fits few some nonzero =
    record { depth = depth; low = low; positive = positive; fits = fits; divisors = few; some = some; nonzero = nonzero }

moved-room : (g d : ℕ) (ps qs rest : List Part) → HasRoom g d ((ps ++ qs) ++ rest) → HasRoom g d (ps ++ (qs ++ rest))
moved-room g d ps qs rest room = subst (HasRoom g d) (append_assoc ps qs rest) room

over-room : (g d k : ℕ) (rest : List Part) → HasRoom g d (Over k ∷ rest) → (0 < d * k) × (d * k < 2 ^ 32) × HasRoom g (d * k) rest
over-room g d k rest room =
    let one = room.nonzero.0 in
    let same : max k 1 ≡ k = omega (arith, one) in
    let few : d * (k * divisors rest) < 2 ^ 32 = rw same at room.divisors in
    let moved : d * (k * divisors rest) ≡ d * k * divisors rest = sym (mul_assoc d k (divisors rest)) in
    let least : 1 * 1 ≤ d * k = mul-le 1 1 d k room.some one in
    let more : d * k * 1 ≤ d * k * divisors rest = mul-le-mul_left (d * k) (divisors-positive rest) in
    let unit = mul-one (d * k) in (
      omega (arith, least),
      omega (arith, few, moved, more, unit),
      record {
        depth = room.depth;
        low = room.low;
        positive = room.positive;
        fits = room.fits;
        divisors = omega (arith, few, moved);
        some = omega (arith, least);
        nonzero = room.nonzero.1;
      },
    )

over-read : (g d k n : ℕ) (acc ps rest : List Part) → IsRead g d n acc ps (Over k ∷ rest) → IsRead g d n acc (ps ++ Over k ∷ []) rest
over-read g d k n acc ps rest a =
    let room = over-room g a.divisors k rest a.room in
    record {
      divisors = a.divisors * k;
      operands = a.operands + 1;
      read = ap (λ (l : List Part). read_on (Ok (at need.Operand g d n acc)) (marks l)) (append_assoc ps (Over k ∷ []) rest) ∙ a.read
          ∙ ap (λ r. read_on r (marks rest)) (divided-here g a.divisors k a.operands ((acc ++ ps) ++ []) room.0 room.1
          ∙ ap (λ (l : List Part). Ok (at need.Sign g (a.divisors * k) (a.operands + 1) l))
          (ap (λ (l : List Part). l ++ Over k ∷ []) (append-nil (acc ++ ps)) ∙ append_assoc acc ps (Over k ∷ [])));
      room = room.2;
    }

tree-read : (f : Tree) → IsBound f → (g d k : ℕ) → MayStand f g
    → (acc rest : List Part) → HasRoom g d (parts_of f ++ rest) → IsRead g d k acc (parts_of f) rest
tree-read (Leaf o) b g d k may acc rest room =
    record {
      divisors = d;
      operands = k + 1;
      read = refl;
      room =
          record {
            depth = room.depth;
            low = room.low;
            positive = room.positive;
            fits = room.fits;
            divisors = room.divisors;
            some = room.some;
            nonzero = room.nonzero;
          };
    }
tree-read (Group a) b g d k may acc rest room =
    let inner = opened-room g d 0 ((parts_of a ++ Close ∷ []) ++ rest) room.depth
    (omega arith) room.low room.positive room.fits.1 room.divisors room.some room.nonzero in
    group-read g d k 0 acc (parts_of a) rest Open (omega arith) room.positive
    (ap (λ r. read_on r (marks (parts_of a ++ Close ∷ rest)))
    (opened-here g d k 0 Open acc need.Operand (room-below g room.depth room.fits.0 room.low)))
    (tree-read a b.1 (g * 2 + 0) d k (inl b.0) (acc ++ Open ∷ [])
    (Close ∷ rest) (moved-room (g * 2 + 0) d (parts_of a) (Close ∷ []) rest inner))
tree-read (Most a) b g d k may acc rest room =
    let inner = opened-room g d 1 ((parts_of a ++ Close ∷ []) ++ rest) room.depth
    (omega arith) room.low room.positive room.fits.1 room.divisors room.some room.nonzero in
    let some = room.positive in
    group-read g d k 1 acc (parts_of a) rest Greatest (omega arith) room.positive
    (ap (λ r. read_on r (marks (parts_of a ++ Close ∷ rest)))
    (opened-here g d k 1 Greatest (acc ++ []) need.Parenthesis (room-below g room.depth room.fits.0 room.low)
    ∙ ap (λ (l : List Part). Ok (at need.Operand (g * 2 + 1) d k (l ++ Greatest ∷ []))) (append-nil acc)))
    (tree-read a b (g * 2 + 1) d k (inr (omega (arith, some), odd g))
    (acc ++ Greatest ∷ []) (Close ∷ rest) (moved-room (g * 2 + 1) d (parts_of a) (Close ∷ []) rest inner))
tree-read (Product a c) b g d k may acc rest room =
    let l = b.0 in
    let m = b.1 in
    let first = tree-read a b.2 g d k (inl (omega (arith, l))) acc
    (Times ∷ (parts_of c ++ rest)) (moved-room g d (parts_of a) (Times ∷ parts_of c) rest room) in
    let r = first.room in
    two-read g d k acc (parts_of a) (parts_of c) rest Times first refl
    (tree-read c b.3 g first.divisors first.operands (inl (omega (arith, m))) ((acc ++ parts_of a) ++ Times ∷ []) rest
    (sign-room g first.divisors (parts_of c ++ rest) r.depth r.low r.positive r.fits r.divisors r.some r.nonzero))
tree-read (Quotient a n) b g d k may acc rest room =
    let l = b.0 in
    over-read g d n k acc (parts_of a) rest
    (tree-read a b.1 g d k (inl (omega (arith, l))) acc (Over n ∷ rest) (moved-room g d (parts_of a) (Over n ∷ []) rest room))
tree-read (Sum a c) b g d k may acc rest room =
    let m = b.1 in
    let first = tree-read a b.2 g d k (inl b.0) acc
    (Plus ∷ (parts_of c ++ rest)) (moved-room g d (parts_of a) (Plus ∷ parts_of c) rest room) in
    let r = first.room in
    two-read g d k acc (parts_of a) (parts_of c) rest Plus first refl
    (tree-read c b.3 g first.divisors first.operands (inl (omega (arith, m))) ((acc ++ parts_of a) ++ Plus ∷ []) rest
    (sign-room g first.divisors (parts_of c ++ rest) r.depth r.low r.positive r.fits r.divisors r.some r.nonzero))
tree-read (Row a c) b g d k may acc rest room = elim may [
  | inl l ↦ absurd (omega (arith, l))
  | inr max ↦ (
      let first = tree-read a b.1 g d k (inr max) acc
      (Comma ∷ (parts_of c ++ rest)) (moved-room g d (parts_of a) (Comma ∷ parts_of c) rest room) in
      let r = first.room in
      two-read g d k acc (parts_of a) (parts_of c) rest Comma first
      (ap (λ r. read_on r (marks (parts_of c ++ rest))) (comma-here g first.divisors first.operands (acc ++ parts_of a) max.0 max.1))
      (tree-read c b.2 g first.divisors first.operands (inl b.0) ((acc ++ parts_of a) ++ Comma ∷ []) rest
      (sign-room g first.divisors (parts_of c ++ rest) r.depth r.low r.positive r.fits r.divisors r.some r.nonzero)))
]

-- so a text that writes a formula is read as it
pub read_formula-tree : (text : List ℕ) (terms : Terms) → IsFormulaText text terms → read_formula text ≡ Ok terms
read_formula-tree text terms w =
    let parts = parts_of w.tree in
    let all = append-nil parts in
    let limits = w.limits in
    let few = limits.divisors in
    let unit : 1 * divisors parts < 2 ^ 32 = omega (arith, few) in
    let room : HasRoom 1 1 (parts ++ []) = subst (HasRoom 1 1) (sym all)
    (record {
      depth = 0;
      low = omega arith;
      positive = omega arith;
      fits = limits.groups;
      divisors = unit;
      some = omega arith;
      nonzero = w.positive;
    }) in
    let r = tree-read w.tree w.bound 1 1 0 (inl w.whole) [] [] room in
    ap finished (ap (read_on (Ok (at need.Operand 1 1 0 []))) (w.written ∙ ap marks (sym all)) ∙ r.read) ∙ ap Ok (sym w.parts)
