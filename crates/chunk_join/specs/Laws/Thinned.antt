-- What is kept of a list is enough for what is kept of a longer one.
use Rattle.std.proofs.Common.{ℕ, ◌≡◌, ◌≤◌, ◌⊎◌, List, [], ◌∷◌, ◌++◌, ◌||◌, Bool, true, false, cond, Contains, Option}
use Rattle.std.proofs.Common.{Some, map, filter, find, max, refl, sym, ap, ap₂, subst, ◌∙◌, inl, inr, arith}
use Rattle.std.proofs.Common.{append_assoc}
use Rattle.std.specs.List.{flat_map, list_any}
use Rattle.std.proofs.lemmas.List.Concat.{flat_map_single}
use Rattle.std.proofs.lemmas.Bool.{cases_lt}
use Rattle.step_trace.proofs.ListMembers.{Contains-head, Contains-rest, Contains-cons_cases}
use Rattle.chunk_join.specs.Summaries.{Rises}
use Rattle.chunk_join.specs.Thinning.{weight_of, heaviest, stays, thinned}

-- two lists of which as much is kept, with any elements behind them
pub record AreAlike {X : Type 0} (pending : X → Bool) (weight : X → ℕ) (xs ys : List X) : Type 0 where
  pub top : heaviest pending weight xs ≡ heaviest pending weight ys
  pub kept : thinned pending weight xs ≡ thinned pending weight ys

-- a settled element whose weight is the greatest
pub record IsHeaviest {X : Type 0} (pending : X → Bool) (weight : X → ℕ) (xs : List X) (y : X) : Type 0 where
  pub listed : Contains xs y
  pub settled : pending y ≡ false
  pub heavy : weight y ≡ heaviest pending weight xs

module _ {X : Type 0} (pending : X → Bool) (weight : X → ℕ) where
  abbrev Alike : List X → List X → Type 0
  Alike = AreAlike pending weight

  abbrev top_of : List X → ℕ
  top_of = heaviest pending weight

  abbrev thin : List X → List X
  thin = thinned pending weight

  abbrev stay : ℕ → X → Bool
  stay = stays pending weight

  pub AreAlike-refl : (xs : List X) → Alike xs xs
  AreAlike-refl xs = record { top = refl; kept = refl }

  pub AreAlike-trans : (xs ys zs : List X) → Alike xs ys → Alike ys zs → Alike xs zs
  AreAlike-trans xs ys zs a b = record { top = a.top ∙ b.top; kept = a.kept ∙ b.kept }

  pub AreAlike-cons : (x : X) (xs ys : List X) → Alike xs ys → Alike (x ∷ xs) (x ∷ ys)
  AreAlike-cons x xs ys a = record {
    top = ap (λ n. max (weight_of pending weight x) n) a.top;
    kept = ap₂ (λ (n : ℕ) (zs : List X). cond (stay n x) (x ∷ zs) zs) a.top a.kept;
  }

  pub AreAlike-prefix : (zs xs ys : List X) → Alike xs ys → Alike (zs ++ xs) (zs ++ ys)
  AreAlike-prefix [] xs ys a = a
  AreAlike-prefix (z ∷ zs) xs ys a = AreAlike-cons z (zs ++ xs) (zs ++ ys) (AreAlike-prefix zs xs ys a)

  -- a settled element no heavier than what comes later is not missed
  pub AreAlike-drop : (x : X) (xs : List X) → pending x ≡ false → weight x ≤ top_of xs → Alike (x ∷ xs) xs
  AreAlike-drop x xs settled light =
      record { top = grind (arith, settled, light); kept = grind (arith, settled, light) }

  -- what is dropped is settled, and no heavier than what comes later
  pub dropped : (top : ℕ) (x : X) → stay top x ≡ false → (pending x ≡ false) × (weight x ≤ top)
  dropped top x e = (grind (arith, e), grind (arith, e))

  pub heaviest-append : (xs ys : List X) → top_of xs ≤ top_of (xs ++ ys)
  heaviest-append [] ys = omega arith
  heaviest-append (x ∷ xs) ys = omega (arith, heaviest-append xs ys)

  pub heaviest-append_right : (xs ys : List X) → top_of ys ≤ top_of (xs ++ ys)
  heaviest-append_right [] ys = omega arith
  heaviest-append_right (x ∷ xs) ys = omega (arith, heaviest-append_right xs ys)

  -- what is kept is as good as the list
  pub thinned-same : (xs : List X) → Alike (thin xs) xs
  thinned-same [] = AreAlike-refl []
  thinned-same (x ∷ xs) = go (thinned-same xs) (stay (top_of xs) x) refl where
    go : Alike (thin xs) xs → (b : Bool) → stay (top_of xs) x ≡ b → Alike (cond b (x ∷ thin xs) (thin xs)) (x ∷ xs)
    go rest true e = AreAlike-cons x _ _ rest
    go rest false e =
        let d = dropped (top_of xs) x e in
        let step = AreAlike-drop x xs d.0 d.1 in
        AreAlike-trans _ xs _ rest (record { top = sym step.top; kept = sym step.kept })

  -- nothing that is found among the pending ones alone is lost to a search or a test
  pub find-thinned : (p : X → Bool) (xs : List X) → ((x : X) → pending x ≡ false → p x ≡ false)
      → find p (thin xs) ≡ find p xs
  find-thinned p [] h = refl
  find-thinned p (x ∷ xs) h = go (find-thinned p xs h) (stay (top_of xs) x) refl where
    go : find p (thin xs) ≡ find p xs → (b : Bool) → stay (top_of xs) x ≡ b
        → find p (cond b (x ∷ thin xs) (thin xs)) ≡ cond (p x) (Some x) (find p xs)
    go rest true e = ap (λ (o : Option X). cond (p x) (Some x) o) rest
    go rest false e = rest ∙ ap (λ (b : Bool). cond b (Some x) (find p xs)) (sym (h x (dropped (top_of xs) x e).0))

  pub list_any-thinned : (p : X → Bool) (xs : List X) → ((x : X) → pending x ≡ false → p x ≡ false)
      → list_any p (thin xs) ≡ list_any p xs
  list_any-thinned p [] h = refl
  list_any-thinned p (x ∷ xs) h = go (list_any-thinned p xs h) (stay (top_of xs) x) refl where
    go : list_any p (thin xs) ≡ list_any p xs → (b : Bool) → stay (top_of xs) x ≡ b
        → list_any p (cond b (x ∷ thin xs) (thin xs)) ≡ (p x || list_any p xs)
    go rest true e = ap (λ b. p x || b) rest
    go rest false e = rest ∙ ap (λ b. b || list_any p xs) (sym (h x (dropped (top_of xs) x e).0))

  -- what is kept was there, in the same order
  pub Contains-from_thinned : (xs : List X) (y : X) → Contains (thin xs) y → Contains xs y
  Contains-from_thinned [] y c = c
  Contains-from_thinned (x ∷ xs) y c = go (Contains-from_thinned xs y) (stay (top_of xs) x) c where
    go : (Contains (thin xs) y → Contains xs y) → (b : Bool) → Contains (cond b (x ∷ thin xs) (thin xs)) y
        → Contains (x ∷ xs) y
    go rest true k = elim (Contains-cons_cases x y (thin xs) k) [
      | inl e ↦ subst (λ z. Contains (x ∷ xs) z) e (Contains-head x xs)
      | inr later ↦ Contains-rest x y xs (rest later)
    ]
    go rest false k = Contains-rest x y xs (rest k)

  pub heaviest-reached : (xs : List X) → (top_of xs ≡ 0) ⊎ ((y : X) × IsHeaviest pending weight xs y)
  heaviest-reached [] = inl refl
  heaviest-reached (x ∷ xs) = go (pending x) refl (heaviest-reached xs) where
    one : ℕ → Bool → Type 0
    one n p = (max (cond p 0 (weight x)) n ≡ 0)
        ⊎ ((y : X) × Contains (x ∷ xs) y × (pending y ≡ false) × (weight y ≡ max (cond p 0 (weight x)) n))

    whole : (p : Bool) → pending x ≡ p → one (top_of xs) p
        → (top_of (x ∷ xs) ≡ 0) ⊎ ((y : X) × IsHeaviest pending weight (x ∷ xs) y)
    whole p e (inl z) = inl (rw e z)
    whole p e (inr (y, c, s, w)) = inr (y, record { listed = c; settled = s; heavy = rw e w })

    go : (p : Bool) → pending x ≡ p → (top_of xs ≡ 0) ⊎ ((y : X) × IsHeaviest pending weight xs y)
        → (top_of (x ∷ xs) ≡ 0) ⊎ ((y : X) × IsHeaviest pending weight (x ∷ xs) y)
    go true e (inl z) = whole true e (inl (omega (arith, z)))
    go true e (inr (y, h)) = whole true e (inr (y, Contains-rest x y xs h.listed, h.settled, omega (arith, h.heavy)))
    go false e (inl z) = whole false e (inr (x, Contains-head x xs, e, omega (arith, z)))
    go false e (inr (y, h)) = elim (cases_lt (weight x) (weight y)) [
      | inl l ↦ whole false e (inr (y, Contains-rest x y xs h.listed, h.settled, omega (arith, h.heavy, l)))
      | inr m ↦ whole false e (inr (x, Contains-head x xs, e, omega (arith, h.heavy, m)))
    ]

-- A settled element becomes one element, which is settled and as heavy; of a pending one anything may come.
pub record IsSettledSo {X Y : Type 0} (pending : X → Bool) (weight : X → ℕ) (waits : Y → Bool) (heavy : Y → ℕ)
    (becomes : X → List Y) (x : X) : Type 0 where
  pub is : Y
  pub one : becomes x ≡ is ∷ []
  pub still : waits is ≡ false
  pub as_heavy : heavy is ≡ weight x

abbrev pub KeepsSettled : {X Y : Type 0} → (X → Bool) → (X → ℕ) → (Y → Bool) → (Y → ℕ) → (X → List Y) → List X → Type 0
KeepsSettled {X} pending weight waits heavy becomes xs = (x : X) → Contains xs x → pending x ≡ false
    → IsSettledSo pending weight waits heavy becomes x

pub heaviest-becomes : {X Y : Type 0} (pending : X → Bool) (weight : X → ℕ) (waits : Y → Bool) (heavy : Y → ℕ)
    (becomes : X → List Y) (xs : List X) → KeepsSettled pending weight waits heavy becomes xs
    → heaviest pending weight xs ≤ heaviest waits heavy (flat_map becomes xs)
heaviest-becomes pending weight waits heavy becomes [] keeps = omega arith
heaviest-becomes {X} {Y} pending weight waits heavy becomes (x ∷ xs) keeps =
    let rest = heaviest-becomes pending weight waits heavy becomes xs (λ y k. keeps y (Contains-rest x y xs k)) in
    let more = heaviest-append_right waits heavy (becomes x) (flat_map becomes xs) in
    let front = heaviest-append waits heavy (becomes x) (flat_map becomes xs) in
    go rest more front (pending x) refl
  where
    go : heaviest pending weight xs ≤ heaviest waits heavy (flat_map becomes xs)
        → heaviest waits heavy (flat_map becomes xs) ≤ heaviest waits heavy (becomes x ++ flat_map becomes xs)
        → heaviest waits heavy (becomes x) ≤ heaviest waits heavy (becomes x ++ flat_map becomes xs) → (p : Bool)
        → pending x ≡ p → max (cond p 0 (weight x)) (heaviest pending weight xs) ≤ heaviest waits heavy
        (becomes x ++ flat_map becomes xs)
    go rest more front true e = omega (arith, rest, more)
    go rest more front false e =
        let s = keeps x (Contains-head x xs) e in
        let own : heaviest waits heavy (becomes x) ≡ weight x = ap (heaviest waits heavy) s.one
        ∙ ap (λ (b : Bool). max (cond b 0 (heavy s.is)) 0) s.still ∙ (omega (arith, s.as_heavy)) in
        omega (arith, rest, more, front, own)

-- THE LEMMA: what is kept of xs is as good as xs, for any fate of its elements and any list behind it.
pub thinned-alike : {X Y : Type 0} (pending : X → Bool) (weight : X → ℕ) (waits : Y → Bool) (heavy : Y → ℕ)
    (becomes : X → List Y) (xs : List X) (ys : List Y) → KeepsSettled pending weight waits heavy becomes xs
    → AreAlike waits heavy (flat_map becomes (thinned pending weight xs) ++ ys) (flat_map becomes xs ++ ys)
thinned-alike pending weight waits heavy becomes [] ys keeps = AreAlike-refl waits heavy ys
thinned-alike {X} {Y} pending weight waits heavy becomes (x ∷ xs) ys keeps =
    go (thinned-alike pending weight waits heavy becomes xs ys keeps_rest)
    (stays pending weight (heaviest pending weight xs) x) refl
  where
    keeps_rest : KeepsSettled pending weight waits heavy becomes xs
    keeps_rest y k = keeps y (Contains-rest x y xs k)

    go : AreAlike waits heavy (flat_map becomes (thinned pending weight xs) ++ ys) (flat_map becomes xs ++ ys)
        → (b : Bool) → stays pending weight (heaviest pending weight xs) x ≡ b
        → AreAlike waits heavy (flat_map becomes (cond b (x ∷ thinned pending weight xs) (thinned pending weight xs))
        ++ ys) ((becomes x ++ flat_map becomes xs) ++ ys)
    go rest true e = subst (λ (zs : List Y). AreAlike waits heavy zs ((becomes x ++ flat_map becomes xs) ++ ys))
        (sym (append_assoc (becomes x) (flat_map becomes (thinned pending weight xs)) ys))
        (subst (λ (zs : List Y). AreAlike waits heavy
        (becomes x ++ (flat_map becomes (thinned pending weight xs) ++ ys)) zs)
        (sym (append_assoc (becomes x) (flat_map becomes xs) ys))
        (AreAlike-prefix waits heavy (becomes x) _ _ rest))
    go rest false e =
        let d = dropped pending weight (heaviest pending weight xs) x e in
        let s = keeps x (Contains-head x xs) d.0 in
        let a = heaviest-becomes pending weight waits heavy becomes xs keeps_rest in
        let b = heaviest-append waits heavy (flat_map becomes xs) ys in
        let light : heavy s.is ≤ heaviest waits heavy (flat_map becomes xs ++ ys) =
        omega (arith, s.as_heavy, d.1, a, b) in
        let same : s.is ∷ (flat_map becomes xs ++ ys) ≡ (becomes x ++ flat_map becomes xs) ++ ys =
        ap (λ (zs : List Y). (zs ++ flat_map becomes xs) ++ ys) (sym s.one) in
        let step = AreAlike-drop waits heavy s.is (flat_map becomes xs ++ ys) s.still light in
        AreAlike-trans waits heavy _ (flat_map becomes xs ++ ys) _ rest
        (subst (λ (zs : List Y). AreAlike waits heavy (flat_map becomes xs ++ ys) zs) same
        (record { top = sym step.top; kept = sym step.kept }))

-- a filter and a map are lists of what becomes of each
pub flat_map-filter : {X : Type 0} (p : X → Bool) (xs : List X)
    → flat_map (λ x. cond (p x) (x ∷ []) []) xs ≡ filter p xs
flat_map-filter p [] = refl
flat_map-filter {X} p (x ∷ xs) = go (flat_map-filter p xs) (p x) where
  go : flat_map (λ y. cond (p y) (y ∷ []) []) xs ≡ filter p xs → (b : Bool)
      → cond b (x ∷ []) [] ++ flat_map (λ y. cond (p y) (y ∷ []) []) xs ≡ cond b (x ∷ filter p xs) (filter p xs)
  go rest true = ap (λ (ys : List X). x ∷ ys) rest
  go rest false = rest

pub map-alike : {X Y : Type 0} (f g : X → Y) (xs : List X) → ((x : X) → Contains xs x → f x ≡ g x) → map f xs ≡ map g xs
map-alike f g [] h = refl
map-alike f g (x ∷ xs) h = ap₂ (λ y ys. y ∷ ys) (h x (Contains-head x xs))
    (map-alike f g xs (λ y k. h y (Contains-rest x y xs k)))

-- THE LEMMA for a map and for a filter
pub thinned-map : {X Y : Type 0} (pending : X → Bool) (weight : X → ℕ) (waits : Y → Bool) (heavy : Y → ℕ) (f : X → Y)
    (xs : List X) (ys : List Y)
    → ((x : X) → Contains xs x → pending x ≡ false → (waits (f x) ≡ false) × (heavy (f x) ≡ weight x))
    → AreAlike waits heavy (map f (thinned pending weight xs) ++ ys) (map f xs ++ ys)
thinned-map {X} {Y} pending weight waits heavy f xs ys h =
    subst (λ (zs : List Y). AreAlike waits heavy (zs ++ ys) (map f xs ++ ys))
    (flat_map_single f (thinned pending weight xs))
    (subst (λ (zs : List Y). AreAlike waits heavy (flat_map (λ x. f x ∷ []) (thinned pending weight xs) ++ ys)
    (zs ++ ys)) (flat_map_single f xs)
    (thinned-alike pending weight waits heavy (λ x. f x ∷ []) xs ys
    (λ x k e. record { is = f x; one = refl; still = (h x k e).0; as_heavy = (h x k e).1 })))

pub thinned-filter : {X : Type 0} (pending : X → Bool) (weight : X → ℕ) (waits : X → Bool) (heavy : X → ℕ)
    (p : X → Bool) (xs ys : List X)
    → ((x : X) → Contains xs x → pending x ≡ false → (p x ≡ true) × (waits x ≡ false) × (heavy x ≡ weight x))
    → AreAlike waits heavy (filter p (thinned pending weight xs) ++ ys) (filter p xs ++ ys)
thinned-filter {X} pending weight waits heavy p xs ys h =
    subst (λ (zs : List X). AreAlike waits heavy (zs ++ ys) (filter p xs ++ ys))
    (flat_map-filter p (thinned pending weight xs))
    (subst (λ (zs : List X). AreAlike waits heavy (flat_map (λ x. cond (p x) (x ∷ []) []) (thinned pending weight xs)
    ++ ys) (zs ++ ys)) (flat_map-filter p xs)
    (thinned-alike pending weight waits heavy (λ x. cond (p x) (x ∷ []) []) xs ys
    (λ x k e. record {
      is = x;
      one = ap (λ (b : Bool). cond b (x ∷ []) []) (h x k e).0;
      still = (h x k e).1;
      as_heavy = (h x k e).2;
    })))

-- a later one that is kept, settled and no lighter
pub record IsCovered {X : Type 0} (Before : X → X → Type 0) (pending : X → Bool) (weight : X → ℕ) (kept : List X)
    (x : X) : Type 0 where
  pub by : X
  pub listed : Contains kept by
  pub later : Before x by
  pub settled : pending by ≡ false
  pub as_heavy : weight x ≤ weight by

-- what isn't kept is settled, and has no weight or is covered
pub record IsNeedless {X : Type 0} (Before : X → X → Type 0) (pending : X → Bool) (weight : X → ℕ) (kept : List X)
    (x : X) : Type 0 where
  pub settled : pending x ≡ false
  pub covered : (weight x ≡ 0) ⊎ IsCovered Before pending weight kept x

module _ {X : Type 0} (Before : X → X → Type 0) (pending : X → Bool) (weight : X → ℕ) where
  abbrev Needless : List X → X → Type 0
  Needless = IsNeedless Before pending weight

  abbrev kept_of : List X → List X
  kept_of = thinned pending weight

  pub Rises-thinned : (xs : List X) → Rises Before xs → Rises Before (kept_of xs)
  Rises-thinned [] r = tt
  Rises-thinned (x ∷ xs) r = go (Rises-thinned xs r.1) (stays pending weight (heaviest pending weight xs) x) where
    go : Rises Before (kept_of xs) → (b : Bool) → Rises Before (cond b (x ∷ kept_of xs) (kept_of xs))
    go rest true = (λ y k. r.0 y (Contains-from_thinned pending weight xs y k), rest)
    go rest false = rest

  -- NOTHING IS LOST: what is listed is kept or needless
  pub kept_or_needless : (xs : List X) → Rises Before xs → (x : X) → Contains xs x
      → Contains (kept_of xs) x ⊎ Needless (kept_of xs) x
  kept_or_needless [] r x c = inl c
  kept_or_needless (z ∷ zs) r x c = go (λ k. kept_or_needless zs r.1 x k)
      (stays pending weight (heaviest pending weight zs) z) refl (Contains-cons_cases z x zs c) where
        kept : List X
        kept = kept_of zs

        more : Bool → List X
        more b = cond b (z ∷ kept) kept

        into : (b : Bool) (y : X) → Contains kept y → Contains (more b) y
        into true y k = Contains-rest z y kept k
        into false y k = k

        lift : (b : Bool) (y : X) → Needless kept y → Needless (more b) y
        lift b y n = record {
          settled = n.settled;
          covered = elim n.covered [
            | inl e ↦ inl e
            | inr k ↦ inr
                (record {
                  by = k.by;
                  listed = into b k.by k.listed;
                  later = k.later;
                  settled = k.settled;
                  as_heavy = k.as_heavy;
                })
          ];
        }

        first : stays pending weight (heaviest pending weight zs) z ≡ false → Needless kept z
        first e =
            let d = dropped pending weight (heaviest pending weight zs) z e in
            let same = (thinned-same pending weight zs).top in
            record {
              settled = d.0;
              covered = elim (heaviest-reached pending weight kept) [
                | inl n ↦ inl (omega (arith, n, same, d.1))
                | inr h ↦ (let l = h.1.listed in
                    inr
                    (record {
                      by = h.0;
                      listed = l;
                      later = r.0 h.0 (Contains-from_thinned pending weight zs h.0 l);
                      settled = h.1.settled;
                      as_heavy = omega (arith, h.1.heavy, same, d.1);
                    }))
              ];
            }

        go : (Contains zs x → Contains kept x ⊎ Needless kept x) → (b : Bool)
            → stays pending weight (heaviest pending weight zs) z ≡ b → (z ≡ x) ⊎ Contains zs x
            → Contains (more b) x ⊎ Needless (more b) x
        go again true e (inl same) = inl (subst (λ v. Contains (z ∷ kept) v) same (Contains-head z kept))
        go again false e (inl same) = inr (subst (Needless kept) same (first e))
        go again b e (inr later) = elim (again later) [
          | inl k ↦ inl (into b x k)
          | inr n ↦ inr (lift b x n)
        ]
