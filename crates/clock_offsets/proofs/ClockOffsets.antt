-- Needs that follow, and the least offsets.
use Rattle.std.proofs.Common.{ℕ, zero, suc, ◌≡◌, ◌<◌, ◌≤◌, ◌⊎◌, inl, inr, Bool, true, false, cond, Option, Some, None, refl, sym, ap, ◌∙◌, subst, arith, ℤ, pos, ◌+ℤ◌, ◌≤ℤ◌}
use Rattle.std.specs.Prelude.{int_lt}
use Rattle.std.specs.Int.{int_max}
use Rattle.std.proofs.lemmas.Bool.{cases_lt}
use Rattle.std.proofs.lemmas.Int.{ints, clamps}
use Rattle.clock_offsets.specs.ClockOffsets.{Needs, AreRight, AreForward, AreLeastOffsets, plus, greater, through, IsCycleAt, HaveNoCycle, best_with, best_of, offset_of}

-- it is some number, and no less than a
abbrev pub Reaches : Option ℤ → ℤ → Type 0
Reaches o a = (c : ℤ) × (o ≡ Some c) × (a ≤ℤ c)

max-either : (a b : ℤ) → (int_max a b ≡ a) ⊎ (int_max a b ≡ b)
max-either a b = go (int_lt b a) where
  go : (t : Bool) → (cond t a b ≡ a) ⊎ (cond t a b ≡ b)
  go true = inl refl
  go false = inr refl

max-left : (a b : ℤ) → a ≤ℤ int_max a b
max-left a b = omega (arith, ints, clamps)

max-right : (a b : ℤ) → b ≤ℤ int_max a b
max-right a b = omega (arith, ints, clamps)

pub below-itself : (a : ℤ) → a ≤ℤ a
below-itself a = omega (arith, ints)

pub greater-left : (o p : Option ℤ) (a : ℤ) → o ≡ Some a → Reaches (greater o p) a
greater-left None p a h = absurd (cc)
greater-left (Some b) None a h = (b, refl, (let e : b ≡ a = cc in subst (λ x. x ≤ℤ b) e (below-itself b)))
greater-left (Some b) (Some c) a h = (int_max b c, refl, (let e : b ≡ a = cc in subst (λ x. x ≤ℤ int_max b c) e (max-left b c)))

pub greater-right : (o p : Option ℤ) (a : ℤ) → p ≡ Some a → Reaches (greater o p) a
greater-right None p a h = (a, h, below-itself a)
greater-right (Some b) None a h = absurd (cc)
greater-right (Some b) (Some c) a h = (int_max b c, refl, (let e : c ≡ a = cc in subst (λ x. x ≤ℤ int_max b c) e (max-right b c)))

pub greater-either : (o p : Option ℤ) (a : ℤ) → greater o p ≡ Some a → (o ≡ Some a) ⊎ (p ≡ Some a)
greater-either None p a h = inr h
greater-either (Some b) None a h = inl h
greater-either (Some b) (Some c) a h = go (max-either b c) where
  go : (int_max b c ≡ b) ⊎ (int_max b c ≡ c) → (Some b ≡ Some a) ⊎ (Some c ≡ Some a)
  go (inl e) = inl (ap (λ x. Some x) (sym e) ∙ h)
  go (inr e) = inr (ap (λ x. Some x) (sym e) ∙ h)

plus-parts : (o p : Option ℤ) (c : ℤ) → plus o p ≡ Some c → (a : ℤ) × (b : ℤ) × (o ≡ Some a) × (p ≡ Some b) × (c ≡ a +ℤ b)
plus-parts None p c h = absurd (cc)
plus-parts (Some a) None c h = absurd (cc)
plus-parts (Some a) (Some b) c h = (a, b, refl, refl, (cc))

plus-some : (o p : Option ℤ) (a b : ℤ) → o ≡ Some a → p ≡ Some b → plus o p ≡ Some (a +ℤ b)
plus-some o p a b e f = ap (λ x. plus x p) e ∙ ap (λ x. plus (Some a) x) f

-- less is reached too
pub reaches-less : (o : Option ℤ) (a b : ℤ) → a ≤ℤ b → Reaches o b → Reaches o a
reaches-less o a b l r = (r.0, r.1, (let m = r.2 in omega (arith, ints)))

-- a need of two by way of a third is no greater than that of the two
abbrev IsTriangle : Needs → ℕ → Type 0
IsTriangle d m = (i j : ℕ) (a b : ℤ) → d i m ≡ Some a → d m j ≡ Some b → Reaches (d i j) (a +ℤ b)

module _ (needs : Needs) (k : ℕ) (diag : (a : ℤ) → through needs k k k ≡ Some a → a ≤ℤ pos 0) where
  abbrev old : Needs
  old = through needs k

  abbrev new : Needs
  new = through needs (suc k)

  stays : (i j : ℕ) (a : ℤ) → Reaches (old i j) a → Reaches (new i j) a
  stays i j a r = reaches-less (new i j) a r.0 r.2 (greater-left (old i j) (plus (old i k) (old k j)) r.0 r.1)

  by-way : (i j : ℕ) (a b : ℤ) → old i k ≡ Some a → old k j ≡ Some b → Reaches (new i j) (a +ℤ b)
  by-way i j a b e f = greater-right (old i j) (plus (old i k) (old k j)) (a +ℤ b) (plus-some (old i k) (old k j) a b e f)

  -- from the new clock, and to it, no need is new
  lower-from : (j : ℕ) (b : ℤ) → new k j ≡ Some b → (c : ℤ) × (old k j ≡ Some c) × (b ≤ℤ c)
  lower-from j b h = go (greater-either (old k j) (plus (old k k) (old k j)) b h) where
    go : (old k j ≡ Some b) ⊎ (plus (old k k) (old k j) ≡ Some b) → (c : ℤ) × (old k j ≡ Some c) × (b ≤ℤ c)
    go (inl e) = (b, e, below-itself b)
    go (inr e) = let p = plus-parts (old k k) (old k j) b e in (p.1, p.3, (let n = diag p.0 p.2 in let s = p.4 in omega (arith, ints)))

  lower-to : (i : ℕ) (a : ℤ) → new i k ≡ Some a → (c : ℤ) × (old i k ≡ Some c) × (a ≤ℤ c)
  lower-to i a h = go (greater-either (old i k) (plus (old i k) (old k k)) a h) where
    go : (old i k ≡ Some a) ⊎ (plus (old i k) (old k k) ≡ Some a) → (c : ℤ) × (old i k ≡ Some c) × (a ≤ℤ c)
    go (inl e) = (a, e, below-itself a)
    go (inr e) = let p = plus-parts (old i k) (old k k) a e in (p.0, p.2, (let n = diag p.1 p.3 in let s = p.4 in omega (arith, ints)))

  triangle-here : IsTriangle new k
  triangle-here i j a b e f =
      let p = lower-to i a e in
      let q = lower-from j b f in
      reaches-less (new i j) (a +ℤ b) (p.0 +ℤ q.0) (let u = p.2 in let v = q.2 in omega (arith, ints)) (by-way i j p.0 q.0 p.1 q.1)

  triangle-before : (m : ℕ) → IsTriangle old m → IsTriangle new m
  triangle-before m t i j a b e f = go (greater-either (old i m) (plus (old i k) (old k m)) a e)
      (greater-either (old m j) (plus (old m k) (old k j)) b f) where
        go : (old i m ≡ Some a) ⊎ (plus (old i k) (old k m) ≡ Some a)
            → (old m j ≡ Some b) ⊎ (plus (old m k) (old k j) ≡ Some b) → Reaches (new i j) (a +ℤ b)
        go (inl x) (inl y) = stays i j (a +ℤ b) (t i j a b x y)
        go (inl x) (inr y) =
            let q = plus-parts (old m k) (old k j) b y in
            let c = t i k a q.0 x q.2 in
            reaches-less (new i j) (a +ℤ b) (c.0 +ℤ q.1) (let u = c.2 in let s = q.4 in omega (arith, ints)) (by-way i j c.0 q.1 c.1 q.3)
        go (inr x) (inl y) =
            let p = plus-parts (old i k) (old k m) a x in
            let c = t k j p.1 b p.3 y in
            reaches-less (new i j) (a +ℤ b) (p.0 +ℤ c.0) (let u = c.2 in let s = p.4 in omega (arith, ints)) (by-way i j p.0 c.0 p.2 c.1)
        go (inr x) (inr y) =
            let p = plus-parts (old i k) (old k m) a x in
            let q = plus-parts (old m k) (old k j) b y in
            let c = t k k p.1 q.0 p.3 q.2 in
            let n = diag c.0 c.1 in
            reaches-less (new i j) (a +ℤ b) (p.0 +ℤ q.1)
            (let u = c.2 in let s = p.4 in let r = q.4 in omega (arith, ints)) (by-way i j p.0 q.1 p.2 q.3)

-- if no clock is to be ahead of itself, no need by way of a clock is greater
triangles : (n : ℕ) (needs : Needs) (k : ℕ) → HaveNoCycle n needs → k ≤ n → (m : ℕ) → m < k → IsTriangle (through needs k) m
triangles n needs zero h l m b = absurd (omega arith)
triangles n needs (suc k) h l m b = go (cases_lt m k) (triangles n needs k h (omega arith) m) where
  diag : (a : ℤ) → through needs k k k ≡ Some a → a ≤ℤ pos 0
  diag a e = h k a (omega arith) e

  go : (m < k) ⊎ (k ≤ m) → (m < k → IsTriangle (through needs k) m) → IsTriangle (through needs (suc k)) m
  go (inl below) rest = triangle-before needs k diag m (rest below)
  go (inr above) rest = let e : k ≡ m = omega arith in subst (λ x. IsTriangle (through needs (suc k)) x) e (triangle-here needs k diag)

-- a need is one by way of clocks
needs-through : (needs : Needs) (k i j : ℕ) (a : ℤ) → needs i j ≡ Some a → Reaches (through needs k i j) a
needs-through needs zero i j a h = (a, h, below-itself a)
needs-through needs (suc k) i j a h =
    let r = needs-through needs k i j a h in
    reaches-less (through needs (suc k) i j) a r.0 r.2
    (greater-left (through needs k i j) (plus (through needs k i k) (through needs k k j)) r.0 r.1)

-- right offsets meet the needs that follow
through-met : (n : ℕ) (needs : Needs) (y : ℕ → ℤ) (k i j : ℕ) (a : ℤ)
    → AreRight n needs y → k ≤ n → i < n → j < n → through needs k i j ≡ Some a → (y i +ℤ a) ≤ℤ y j
through-met n needs y zero i j a r l li lj h = r i j a li lj h
through-met n needs y (suc k) i j a r l li lj h =
    go (greater-either (through needs k i j) (plus (through needs k i k) (through needs k k j)) a h)
    (λ p q c lp lq e. through-met n needs y k p q c r (omega arith) lp lq e) where
      go : (through needs k i j ≡ Some a) ⊎ (plus (through needs k i k) (through needs k k j) ≡ Some a)
          → ((p q : ℕ) (c : ℤ) → p < n → q < n → through needs k p q ≡ Some c → (y p +ℤ c) ≤ℤ y q) → (y i +ℤ a) ≤ℤ y j
      go (inl e) rest = rest i j a li lj e
      go (inr e) rest =
          let p = plus-parts (through needs k i k) (through needs k k j) a e in
          let u = rest i k p.0 li (omega arith) p.2 in
          let v = rest k j p.1 (omega arith) lj p.3 in
          let s = p.4 in
          omega (arith, ints)

-- so if a clock is to be ahead of itself, none are right
pub cycle-none : (n k : ℕ) (needs : Needs) (x : ℕ → ℤ) → k < n → IsCycleAt needs k → ¬ AreRight n needs x
cycle-none n k needs x l c r = let u = through-met n needs x k k k c.0 r (omega arith) l l c.1 in let v = c.2 in omega (arith, ints)

best-forward : (f : ℕ → Option ℤ) (n : ℕ) → pos 0 ≤ℤ best_of f n
best-forward f zero = below-itself (pos 0)
best-forward f (suc n) = go (f n) (best-forward f n) where
  go : (o : Option ℤ) → pos 0 ≤ℤ best_of f n → pos 0 ≤ℤ best_with (best_of f n) o
  go None h = h
  go (Some a) h = let m = max-left (best_of f n) a in omega (arith, ints)

best-each : (f : ℕ → Option ℤ) (n i : ℕ) (a : ℤ) → i < n → f i ≡ Some a → a ≤ℤ best_of f n
best-each f zero i a l e = absurd (omega arith)
best-each f (suc n) i a l e = go (cases_lt i n) (f n) refl (λ b. best-each f n i a b e) where
  go : (i < n) ⊎ (n ≤ i) → (o : Option ℤ) → f n ≡ o → (i < n → a ≤ℤ best_of f n) → a ≤ℤ best_with (best_of f n) o
  go (inl below) None h rest = rest below
  go (inl below) (Some b) h rest = let r = rest below in let m = max-left (best_of f n) b in omega (arith, ints)
  go (inr above) o h rest =
      let s : n ≡ i = omega arith in
      let g : o ≡ Some a = sym h ∙ ap f s ∙ e in
      subst (λ p. a ≤ℤ best_with (best_of f n) p) (sym g) (max-right (best_of f n) a)

best-some : (f : ℕ → Option ℤ) (n : ℕ) → (best_of f n ≡ pos 0) ⊎ ((i : ℕ) × (i < n) × (f i ≡ Some (best_of f n)))
best-some f zero = inl refl
best-some f (suc n) = go (f n) refl (best-some f n) where
  more : (best_of f n ≡ pos 0) ⊎ ((i : ℕ) × (i < n) × (f i ≡ Some (best_of f n)))
      → (best_of f n ≡ pos 0) ⊎ ((i : ℕ) × (i < suc n) × (f i ≡ Some (best_of f n)))
  more (inl e) = inl e
  more (inr r) = inr (r.0, (let b = r.1 in omega arith), r.2)

  go : (o : Option ℤ) → f n ≡ o → (best_of f n ≡ pos 0) ⊎ ((i : ℕ) × (i < n) × (f i ≡ Some (best_of f n)))
      → (best_with (best_of f n) o ≡ pos 0) ⊎ ((i : ℕ) × (i < suc n) × (f i ≡ Some (best_with (best_of f n) o)))
  go None h rest = more rest
  go (Some a) h rest = which (max-either (best_of f n) a) where
    which : (int_max (best_of f n) a ≡ best_of f n) ⊎ (int_max (best_of f n) a ≡ a)
        → (int_max (best_of f n) a ≡ pos 0) ⊎ ((i : ℕ) × (i < suc n) × (f i ≡ Some (int_max (best_of f n) a)))
    which (inl e) = subst (λ x. (x ≡ pos 0) ⊎ ((i : ℕ) × (i < suc n) × (f i ≡ Some x))) (sym e) (more rest)
    which (inr e) = inr (n, omega arith, h ∙ ap (λ x. Some x) (sym e))

module _ (n : ℕ) (needs : Needs) (h : HaveNoCycle n needs) where
  right : AreRight n needs (offset_of n needs)
  right i j by li lj e = go (best-some (λ m. through needs n m i) n) where
    r : Reaches (through needs n i j) by
    r = needs-through needs n i j by e

    go : (offset_of n needs i ≡ pos 0) ⊎ ((m : ℕ) × (m < n) × (through needs n m i ≡ Some (offset_of n needs i)))
        → (offset_of n needs i +ℤ by) ≤ℤ offset_of n needs j
    go (inl z) = let b = best-each (λ m. through needs n m j) n i r.0 li r.1 in let u = r.2 in omega (arith, ints)
    go (inr s) =
        let c = triangles n needs n h (omega arith) i li s.0 j (offset_of n needs i) r.0 s.2 r.1 in
        let b = best-each (λ m. through needs n m j) n s.0 c.0 s.1 c.1 in
        let u = c.2 in
        let v = r.2 in
        omega (arith, ints)

  least : (y : ℕ → ℤ) → AreRight n needs y → AreForward n y → (i : ℕ) → i < n → offset_of n needs i ≤ℤ y i
  least y r f i l = go (best-some (λ m. through needs n m i) n) where
    go : (offset_of n needs i ≡ pos 0) ⊎ ((m : ℕ) × (m < n) × (through needs n m i ≡ Some (offset_of n needs i)))
        → offset_of n needs i ≤ℤ y i
    go (inl z) = let u = f i l in omega (arith, ints)
    go (inr s) = let u = through-met n needs y n s.0 i (offset_of n needs i) r (omega arith) s.1 l s.2 in
        let v = f s.0 s.1 in omega (arith, ints)

  pub least-offsets : AreLeastOffsets n needs (offset_of n needs)
  least-offsets = record { right = right; forward = λ i l. best-forward (λ m. through needs n m i) n; least = least }

pub same-both : (a b : ℤ) → a ≤ℤ b → b ≤ℤ a → a ≡ b
same-both a b u v = omega (arith, ints)

-- there is one list of them
pub offsets-once : (n i : ℕ) (needs : Needs) (x y : ℕ → ℤ) → AreLeastOffsets n needs x → AreLeastOffsets n needs y → i < n → x i ≡ y i
offsets-once n i needs x y a b l = same-both (x i) (y i) (a.least y b.right b.forward i l) (b.least x a.right a.forward i l)
