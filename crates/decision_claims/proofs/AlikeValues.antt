-- Values of formulas over numbers that are alike: the same up to a cap, or at most one another.
use Rattle.std.proofs.Common.{ℕ, ◌≡◌, ◌+◌, ◌*◌, ◌-◌, ◌^◌, ◌<◌, ◌≤◌, inl, inr, List, [], ◌∷◌, length, get_or, ◌++◌, reverse, drop, drop-cons, max, min, refl, sym, ap, subst, ◌∙◌, suc, zero, arith}
use Rattle.std.proofs.lemmas.Bool.{cases_lt}
use Rattle.std.proofs.lemmas.Grind.{div_ceil_times}
use Rattle.std.proofs.lemmas.List.{reverse-append}
use Rattle.std.proofs.lemmas.Nat.{mul-le}
use Rattle.std.proofs.Math.Nat.{le-mul_of_pos_right, mul_comm, mul_assoc, mul-zero, mul-one, mul-le-mul_right, mul-le-mul_left, add-mul, one-mul}
use Rattle.decision_claims.specs.declared.formulas.Operand.{Operand}
use Rattle.decision_claims.specs.declared.formulas.Part.{Part}
use Rattle.decision_claims.specs.declared.formulas.Part.TheVariants.{Value, Plus, Times, Over, Open, Greatest, Comma, Close}
use Rattle.decision_claims.specs.declared.formulas.Words.{Words}
use Rattle.decision_claims.specs.declared.values.Frame.{Frame}
use Rattle.decision_claims.specs.Formulas.{Tally, divisors, operand_value, closed, quotient, times_value, value_from, whole, with_part}
use Rattle.decision_claims.specs.NearValues.{AreNearFrames, IsNear, IsNearFrame}

-- what is the same up to the cap stays so in a product
large_times : (x k cap : ℕ) → cap ≤ x → min (x * suc k) cap ≡ cap
large_times x k cap l = let m = le-mul_of_pos_right {m = suc k} x (omega arith) in omega (arith, l, m)

pub min_times : (x y k cap : ℕ) → min x cap ≡ min y cap → min (x * k) cap ≡ min (y * k) cap
min_times x y zero cap e = rw (mul-zero x, mul-zero y) refl
min_times x y (suc k) cap e = elim (cases_lt x cap) [
  | inl l ↦ (let same : x ≡ y = omega (arith, e, l) in ap (λ z. min (z * suc k) cap) same)
  | inr l ↦ large_times x k cap l ∙ sym (large_times y k cap (omega (arith, e, l)))
]

-- what reaches so many times a divisor has a quotient of at least so many
quotient_reaches : (cap k x : ℕ) → max k 1 * cap ≤ x → cap ≤ quotient x k
quotient_reaches cap k x l = elim (cases_lt (quotient x k) cap) [
  | inr m ↦ m
  | inl m ↦ absurd (
      let d = max k 1 in
      let bounds = div_ceil_times x d (omega arith) in
      let over = bounds.0 in
      let next : (quotient x k + 1) * d ≤ cap * d = mul-le-mul_right d (omega (arith, m)) in
      let parts : (quotient x k + 1) * d ≡ quotient x k * d + d = add-mul (quotient x k) 1 d ∙ ap (λ n. quotient x k * d + n) (one-mul d) in
      let turned = mul_comm cap d in
      omega (arith, over, next, parts, turned, l))
]

quotient_rises : (k x y : ℕ) → x ≤ y → quotient x k ≤ quotient y k
quotient_rises k x y l = elim (cases_lt (quotient y k) (quotient x k)) [
  | inr m ↦ m
  | inl m ↦ absurd (
      let d = max k 1 in
      let over = (div_ceil_times y d (omega arith)).0 in
      let under = (div_ceil_times x d (omega arith)).1 in
      let next : (quotient y k + 1) * d ≤ quotient x k * d = mul-le-mul_right d (omega (arith, m)) in
      let parts : (quotient y k + 1) * d ≡ quotient y k * d + d = add-mul (quotient y k) 1 d ∙ ap (λ n. quotient y k * d + n) (one-mul d) in
      omega (arith, over, under, next, parts, l))
]

-- so quotients are the same up to a cap if the numbers are so up to the divisor times the cap
min_quotient : (cap k x y : ℕ) → min x (max k 1 * cap) ≡ min y (max k 1 * cap) → min (quotient x k) cap ≡ min (quotient y k) cap
min_quotient cap k x y e = elim (cases_lt x (max k 1 * cap)) [
  | inl l ↦ (let same : x ≡ y = omega (arith, e, l) in ap (λ z. min (quotient z k) cap) same)
  | inr l ↦ (
      let a = quotient_reaches cap k x l in
      let b = quotient_reaches cap k y (omega (arith, e, l)) in
      omega (arith, a, b))
]

more_times : (cap k : ℕ) → cap ≤ max k 1 * cap
more_times cap k = let m : 1 * cap ≤ max k 1 * cap = mul-le-mul_right cap (omega arith) in let one = one-mul cap in omega (arith, m, one)

moved : (x y z : ℕ) → x * (y * z) ≡ y * (x * z)
moved x y z = sym (mul_assoc x y z) ∙ ap (λ n. n * z) (mul_comm x y) ∙ mul_assoc y x z

-- numbers that are alike up to a cap stay so in the values of formulas
pub record IsKeptByFormulas (R : ℕ → ℕ → ℕ → Type 0) : Type 0 where
  pub less : (cap more x y : ℕ) → cap ≤ more → R more x y → R cap x y
  pub same : (cap x : ℕ) → R cap x x
  pub sum : (cap x y u v : ℕ) → R cap x y → R cap u v → R cap (x + u) (y + v)
  pub product : (cap x y u v : ℕ) → R cap x y → R cap u v → R cap (x * u) (y * v)
  pub most : (cap x y u v : ℕ) → R cap x y → R cap u v → R cap (max x u) (max y v)
  pub over : (cap k x y : ℕ) → R (max k 1 * cap) x y → R cap (quotient x k) (quotient y k)

module _ (R : ℕ → ℕ → ℕ → Type 0) (kept : IsKeptByFormulas R)
    (a b : Words) (operands : (cap : ℕ) (o : Operand) → R cap (operand_value a o) (operand_value b o)) where
  pub record AreAlike (cap : ℕ) (f g : Frame) : Type 0 where
    pub most : R cap f.most g.most
    pub sum : R cap f.sum g.sum
    pub product : R cap f.product g.product

  abbrev pub AreAllAlike : ℕ → List Frame → List Frame → Type 0
  AreAllAlike cap [] [] = Unit {0}
  AreAllAlike cap [] (g ∷ gs) = ⊥
  AreAllAlike cap (f ∷ fs) [] = ⊥
  AreAllAlike cap (f ∷ fs) (g ∷ gs) = AreAlike cap f g × AreAllAlike cap fs gs

  pub whole_alike : (cap : ℕ) (f g : Frame) → AreAlike cap f g → R cap (whole f) (whole g)
  whole_alike cap f g l = kept.most cap f.most g.most
      (f.sum + f.product) (g.sum + g.product) l.most (kept.sum cap f.sum g.sum f.product g.product l.sum l.product)

  nothing_alike : (cap : ℕ) → AreAlike cap (record { most = 0; sum = 0; product = 1 }) (record { most = 0; sum = 0; product = 1 })
  nothing_alike cap = record { most = kept.same cap 0; sum = kept.same cap 0; product = kept.same cap 1 }

  less_alike : (cap more : ℕ) (f g : Frame) → cap ≤ more → AreAlike more f g → AreAlike cap f g
  less_alike cap more f g l h = record {
    most = kept.less cap more f.most g.most l h.most;
    sum = kept.less cap more f.sum g.sum l h.sum;
    product = kept.less cap more f.product g.product l h.product;
  }

  all_less_alike : (cap more : ℕ) (fs gs : List Frame) → cap ≤ more → AreAllAlike more fs gs → AreAllAlike cap fs gs
  all_less_alike cap more [] [] l h = tt
  all_less_alike cap more [] (g ∷ gs) l h = h
  all_less_alike cap more (f ∷ fs) [] l h = h
  all_less_alike cap more (f ∷ fs) (g ∷ gs) l h = (less_alike cap more f g l h.0, all_less_alike cap more fs gs l h.1)

  over_alike : (cap k : ℕ) (f g : Frame) → AreAlike (max k 1 * cap) f g
      → AreAlike cap (record { most = f.most; sum = f.sum; product = quotient f.product k })
      (record { most = g.most; sum = g.sum; product = quotient g.product k })
  over_alike cap k f g h =
      let l : cap ≤ max k 1 * cap = more_times cap k in
      record {
        most = kept.less cap (max k 1 * cap) f.most g.most l h.most;
        sum = kept.less cap (max k 1 * cap) f.sum g.sum l h.sum;
        product = kept.over cap k f.product g.product h.product;
      }

  -- the value between two parentheses, with what is around them
  closed_alike : (cap : ℕ) (f g : Frame) (fs gs : List Frame) → AreAlike cap f g → AreAllAlike cap fs gs
      → AreAlike cap (closed f fs).here (closed g gs).here × AreAllAlike cap (closed f fs).around (closed g gs).around
  closed_alike cap f g [] [] h l = (h, l)
  closed_alike cap f g [] (y ∷ ys) h l = absurd l
  closed_alike cap f g (x ∷ xs) [] h l = absurd l
  closed_alike cap f g (x ∷ xs) (y ∷ ys) h l = (
    record {
      most = l.0.most;
      sum = l.0.sum;
      product = kept.product cap x.product y.product (whole f) (whole g) l.0.product (whole_alike cap f g h);
    },
    l.1,
  )

  -- the values of the same parts after what is alike
  pub value_alike : (cap : ℕ) (parts : List Part) (s t : Tally) → AreAlike (cap * divisors parts) s.here t.here
      → AreAllAlike (cap * divisors parts) s.around t.around → R cap (value_from a s parts) (value_from b t parts)
  value_alike cap [] s t h l = whole_alike cap s.here t.here (subst (λ c. AreAlike c s.here t.here) (mul-one cap) h)
  value_alike cap (Value o ∷ parts) s t h l = value_alike cap parts (with_part a s (Value o)) (with_part b t (Value o))
      (record {
        most = h.most;
        sum = h.sum;
        product = kept.product (cap * divisors parts) s.here.product t.here.product
            (operand_value a o) (operand_value b o) h.product (operands (cap * divisors parts) o);
      }) l
  value_alike cap (Plus ∷ parts) s t h l = value_alike cap parts (with_part a s Plus) (with_part b t Plus)
      (record {
        most = h.most;
        sum = kept.sum (cap * divisors parts) s.here.sum t.here.sum s.here.product t.here.product h.sum h.product;
        product = kept.same (cap * divisors parts) 1;
      }) l
  value_alike cap (Times ∷ parts) s t h l = value_alike cap parts s t h l
  value_alike cap (Over k ∷ parts) s t h l =
      let c = cap * divisors parts in
      let e : cap * (max k 1 * divisors parts) ≡ max k 1 * c = moved cap (max k 1) (divisors parts) in
      value_alike cap parts (with_part a s (Over k)) (with_part b t (Over k))
      (over_alike c k s.here t.here (subst (λ c. AreAlike c s.here t.here) e h))
      (all_less_alike c (max k 1 * c) s.around t.around (more_times c k) (subst (λ c. AreAllAlike c s.around t.around) e l))
  value_alike cap (Open ∷ parts) s t h l = value_alike cap parts
      (with_part a s Open) (with_part b t Open) (nothing_alike (cap * divisors parts)) (h, l)
  value_alike cap (Greatest ∷ parts) s t h l = value_alike cap parts
      (with_part a s Greatest) (with_part b t Greatest) (nothing_alike (cap * divisors parts)) (h, l)
  value_alike cap (Comma ∷ parts) s t h l = value_alike cap parts (with_part a s Comma) (with_part b t Comma) (record {
    most = whole_alike
        (cap * divisors parts) s.here t.here h;
    sum = kept.same (cap * divisors parts) 0;
    product = kept.same (cap * divisors parts) 1;
  }) l
  value_alike cap (Close ∷ parts) s t h l =
      let c = closed_alike (cap * divisors parts) s.here t.here s.around t.around h l in
      value_alike cap parts (closed s.here s.around) (closed t.here t.around) c.0 c.1

-- At most one another
at_most : IsKeptByFormulas (λ cap x y. x ≤ y)
at_most = record {
  less = λ cap more x y l h. h;
  same = λ cap x. omega arith;
  sum = λ cap x y u v h l. omega (arith, h, l);
  product = λ cap x y u v h l. mul-le x u y v h l;
  most = λ cap x y u v h l. omega (arith, h, l);
  over = λ cap k x y h. quotient_rises k x y h;
}

pub value_rises : (a b : Words) → ((o : Operand) → operand_value a o ≤ operand_value b o)
    → (parts : List Part) (t : Tally) → value_from a t parts ≤ value_from b t parts
value_rises a b l parts t = value_alike (λ cap x y. x ≤ y) at_most a b (λ cap o. l o) 1 parts t t
    (record { most = omega arith; sum = omega arith; product = omega arith }) (all_same t.around)
  where
    all_same : (fs : List Frame) → AreAllAlike (λ cap x y. x ≤ y) at_most a b (λ cap o. l o) (1 * divisors parts) fs fs
    all_same [] = tt
    all_same (f ∷ fs) = (record { most = omega arith; sum = omega arith; product = omega arith }, all_same fs)

-- The same up to a cap
near : IsKeptByFormulas (λ cap x y. min x cap ≡ min y cap)
near = record {
  less = λ cap more x y l h. omega (arith, l, h);
  same = λ cap x. refl;
  sum = λ cap x y u v h l. omega (arith, h, l);
  product = λ cap x y u v h l. min_times x y u cap h
      ∙ ap (λ z. min z cap) (mul_comm y u) ∙ min_times u v y cap l ∙ ap (λ z. min z cap) (mul_comm v y);
  most = λ cap x y u v h l. omega (arith, h, l);
  over = λ cap k x y h. min_quotient cap k x y h;
}

near_frames : (words : Words) (cap : ℕ) (fs gs : List Frame)
    → AreNearFrames cap fs gs → AreAllAlike (λ cap x y. min x cap ≡ min y cap) near words words (λ cap o. refl) cap fs gs
near_frames words cap [] [] h = tt
near_frames words cap [] (g ∷ gs) h = h
near_frames words cap (f ∷ fs) [] h = h
near_frames words cap (f ∷ fs) (g ∷ gs) h =
    (record { most = h.0.most; sum = h.0.sum; product = h.0.product }, near_frames words cap fs gs h.1)

pub value_near : (words : Words) (cap : ℕ) (parts : List Part) (s t : Tally)
    → IsNear (cap * divisors parts) s t → min (value_from words s parts) cap ≡ min (value_from words t parts) cap
value_near words cap parts s t h = value_alike (λ cap x y. min x cap ≡ min y cap) near words words (λ cap o. refl) cap parts s t
    (record { most = h.here.most; sum = h.here.sum; product = h.here.product })
    (near_frames words (cap * divisors parts) s.around t.around h.around)

-- what is at a place, and what follows it
pub drop_part : (rest : List Part) (k : ℕ) (d part : Part)
    → k < length rest → get_or rest k d ≡ part → drop k rest ≡ part ∷ drop (k + 1) rest
drop_part rest k d part l e = drop-cons rest k d l
    ∙ ap (λ (p : Part). p ∷ drop (suc k) rest) e ∙ (let n : suc k ≡ k + 1 = omega arith in ap (λ i. part ∷ drop i rest) n)

-- fewer parts have no more divisors
divisors_less : (part : Part) (rest : List Part) → divisors rest ≤ divisors (part ∷ rest)
divisors_less (Over k) rest = more_times (divisors rest) k
divisors_less (Value o) rest = omega arith
divisors_less Plus rest = omega arith
divisors_less Times rest = omega arith
divisors_less Open rest = omega arith
divisors_less Greatest rest = omega arith
divisors_less Comma rest = omega arith
divisors_less Close rest = omega arith

-- one part more was read, up to each cap
pub near_next : (words : Words) (cap bound : ℕ) (part : Part) (rest : List Part) (old new : Tally)
    → cap * divisors (part ∷ rest) ≤ bound → ((c : ℕ) → c ≤ bound → IsNear c new (with_part words old part))
    → (cap * divisors rest ≤ bound)
    × (min (value_from words new rest) cap ≡ min (value_from words old (part ∷ rest)) cap)
near_next words cap bound part rest old new l near =
    let less : cap * divisors rest ≤ cap * divisors (part ∷ rest) = mul-le-mul_left cap (divisors_less part rest) in
    let room : cap * divisors rest ≤ bound = omega (arith, less, l) in
    (room, value_near words cap rest new (with_part words old part) (near (cap * divisors rest) room))

-- a value is at most the greatest number of its type: that of what was read at the end
pub near_end : (value most cap : ℕ) → cap ≤ most → min (min value most) cap ≡ min value cap
near_end value most cap l = omega (arith, l)

pub near_same : (cap : ℕ) (fs : List Frame) → AreNearFrames cap fs fs
near_same cap [] = tt
near_same cap (f ∷ fs) = (record { most = refl; sum = refl; product = refl }, near_same cap fs)

-- a value that is near may close its parentheses
pub near_closed : (cap most : ℕ) (f outer : Frame) (w : ℕ)
    → cap ≤ most → IsNearFrame cap f (times_value outer (min w most)) → IsNearFrame cap f (times_value outer w)
near_closed cap most f outer w l near = record {
  most = near.most;
  sum = near.sum;
  product = near.product ∙ ap (λ z. min z cap) (mul_comm outer.product (min w most))
      ∙ min_times (min w most) w outer.product cap (near_end w most cap l) ∙ ap (λ z. min z cap) (mul_comm w outer.product);
}

-- the innermost frame around comes first
pub reverse-last : (fs gs : List Frame) (g : Frame) → fs ≡ gs ++ g ∷ [] → reverse fs ≡ g ∷ reverse gs
reverse-last fs gs g e = ap reverse e ∙ reverse-append gs (g ∷ [])

-- a cap below 2 ^ 32 leaves room for divisors below it
pub caps_fit : (most d : ℕ) → most < 2 ^ 32 → d < 2 ^ 32 → most * d ≤ 2 ^ 64 - 1
caps_fit most d l m =
    let bound : most * d ≤ (2 ^ 32 - 1) * (2 ^ 32 - 1) = mul-le most d (2 ^ 32 - 1) (2 ^ 32 - 1) (omega (arith, l)) (omega (arith, m)) in
    omega (arith, bound)
