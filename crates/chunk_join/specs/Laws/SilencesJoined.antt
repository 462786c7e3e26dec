-- The longest silences of two parts that follow one another, joined, are those of both together. Part one goes from
-- cut i to cut m, part two from m to k.
use Rattle.std.proofs.Common.{ℕ, ◌≡◌, ◌+◌, ◌-◌, ◌<◌, ◌≤◌, ◌⊎◌, inl, inr, Bool, true, false, List, ◌++◌, filter, map}
use Rattle.std.proofs.Common.{Contains, Option, Some, None, refl, sym, ap, subst, ◌∙◌, eq-eqb, zero, suc, arith}
use Rattle.std.specs.Prelude.{find, not}
use Rattle.std.specs.List.{list_any}
use Rattle.std.proofs.lemmas.Bool.{cases_lt, cases_eq}
use Rattle.std.proofs.lemmas.List.Elements.{Contains-append_left, Contains-append_right, Contains-append_cases}
use Rattle.step_trace.specs.declared.rows.Gap.{Gap}
use Rattle.step_trace.specs.Traces.{Recorded}
use Rattle.step_trace.specs.Ticks.{StepsIn}
use Rattle.step_trace.proofs.BoundDecisions.{steps_in_or_not}
use Rattle.step_trace.proofs.ListMembers.{Contains-map, Contains-from_map, Contains-filter}
use Rattle.step_trace.proofs.ListMembers.{Contains-from_filter, list_any-found}
use Rattle.chunk_join.specs.Summaries.{IsLongest, IsListing, EndsBefore}
use Rattle.chunk_join.specs.Parts.{meets, stops, reach_back, from_seam}
use Rattle.chunk_join.specs.Laws.Listings.{Contains-found, none_found, none_passes}
use Rattle.chunk_join.specs.Laws.Listings.{Rises-append, Rises-filter, Rises-map}

-- Silences

-- p takes no step from tick x to tick y
abbrev pub Silent : Recorded → ℕ → ℕ → ℕ → Type 0
Silent trace p x y = (z : ℕ) → x ≤ z → z ≤ y → ¬ StepsIn trace z p

-- if p takes no step at x, there is a last tick up to k to which it takes none
pub last_silent : (trace : Recorded) (p x n : ℕ) → ¬ StepsIn trace x p
    → (y : ℕ) × (x ≤ y) × (y ≤ x + n) × Silent trace p x y × ((y ≡ x + n) ⊎ StepsIn trace (y + 1) p)
last_silent trace p x zero q = (
  x,
  omega arith,
  omega arith,
  (λ z a b s. q (subst (λ t. StepsIn trace t p) (omega (arith, a, b)) s)),
  inl
      (omega arith),
)
last_silent trace p x (suc n) q = go (last_silent trace p x n q)
  where
    go : (y : ℕ) × (x ≤ y) × (y ≤ x + n) × Silent trace p x y × ((y ≡ x + n) ⊎ StepsIn trace (y + 1) p)
        → (y : ℕ) × (x ≤ y) × (y ≤ x + suc n) × Silent trace p x y × ((y ≡ x + suc n) ⊎ StepsIn trace (y + 1) p)
    go (y, a, b, silent, inr s) = (y, a, omega arith, silent, inr s)
    go (y, a, b, silent, inl e) = elim (steps_in_or_not trace (y + 1) p) [
      | inl s ↦ (y, a, omega arith, silent, inr s)
      | inr n ↦ (
        y + 1,
        omega arith,
        omega arith,
        (λ z c d s. elim (cases_lt y z) [
          | inl l ↦ n (subst (λ t. StepsIn trace t p) (omega (arith, l, d)) s)
          | inr m ↦ silent z c m s
        ]),
        inl (omega arith),
      )
    ]

-- and a first tick after i from which it takes none
pub first_silent : (trace : Recorded) (p i n : ℕ) → ¬ StepsIn trace (i + 1 + n) p
    → (y : ℕ) × (i < y) × (y ≤ i + 1 + n) × Silent trace p y (i + 1 + n) × ((y ≡ i + 1) ⊎ StepsIn trace (y - 1) p)
first_silent trace p i zero q =
    (i + 1, omega arith, omega arith, (λ z a b s. q (subst (λ t. StepsIn trace t p) (omega (arith, a, b)) s)), inl refl)
first_silent trace p i (suc n) q = elim (steps_in_or_not trace (i + 1 + n) p) [
  | inl s ↦ (let e : i + 1 + n ≡ i + 1 + suc n - 1 = omega arith in (
    i + 1 + suc n,
    omega arith,
    omega arith,
    (λ z a b t. q (subst (λ u. StepsIn trace u p) (omega (arith, a, b)) t)),
    inr (subst (λ u. StepsIn trace u p) e s),
  ))
  | inr r ↦ (let b = first_silent trace p i n r in let below = b.2 in (
    b.0,
    b.1,
    omega arith,
    (λ z c d s. elim (cases_lt z (i + 1 + suc n)) [
      | inl l ↦ b.3 z c (omega (arith, l)) s
      | inr m ↦ q (subst (λ u. StepsIn trace u p) (omega (arith, m, d)) s)
    ]),
    b.4,
  ))
]

-- What the tests say

-- what a search finds, or that nothing passes
found_or_none : {X : Type 0} (p : X → Bool) (xs : List X)
    → ((x : X) × Contains xs x × (p x ≡ true) × (find p xs ≡ Some x))
    ⊎ ((find p xs ≡ None) × ((x : X) → Contains xs x → p x ≡ false))
found_or_none {X} p xs = go (find p xs) refl
  where
    go : (o : Option X) → find p xs ≡ o → ((x : X) × Contains xs x × (p x ≡ true) × (o ≡ Some x))
        ⊎ ((o ≡ None) × ((x : X) → Contains xs x → p x ≡ false))
    go None e = inr (refl, λ x c. none_found p xs x e c)
    go (Some x) e = let f = Contains-found p xs x e in inl (x, f.0, f.1, refl)

passes_or_none : {X : Type 0} (p : X → Bool) (xs : List X)
    → ((x : X) × Contains xs x × (p x ≡ true) × (list_any p xs ≡ true))
    ⊎ ((list_any p xs ≡ false) × ((x : X) → Contains xs x → p x ≡ false))
passes_or_none {X} p xs = go (list_any p xs) refl
  where
    go : (b : Bool) → list_any p xs ≡ b → ((x : X) × Contains xs x × (p x ≡ true) × (b ≡ true))
        ⊎ ((b ≡ false) × ((x : X) → Contains xs x → p x ≡ false))
    go true e = let f = list_any-found p xs e in inl (f.0, f.1, f.2, refl)
    go false e = inr (refl, λ x c. none_passes p xs x e c)

pub meets-facts : (m : ℕ) (w v : Gap) → meets m w v ≡ true → (w.proc ≡ v.proc) × (w.to ≡ m) × (v.from ≡ m + 1)
meets-facts m w v h = (grind (arith, h), grind (arith, h), grind (arith, h))

meets-from_facts : (m : ℕ) (w v : Gap) → w.proc ≡ v.proc → w.to ≡ m → v.from ≡ m + 1 → meets m w v ≡ true
meets-from_facts m w v e f g = rw (eq-eqb _ _ e, eq-eqb _ _ f, eq-eqb _ _ g) refl

-- nothing meets if the first ends before the seam, or the second begins after it
pub meets-early : (seam : ℕ) (w v : Gap) → w.to < seam → meets seam w v ≡ false
meets-early seam w v h = grind (arith, h)

pub meets-late : (seam : ℕ) (w v : Gap) → seam + 1 < v.from → meets seam w v ≡ false
meets-late seam w v h = grind (arith, h)

from_seam-proc : (v : Gap) (o : Option Gap) → (from_seam v o).proc ≡ v.proc
from_seam-proc v None = refl
from_seam-proc v (Some w) = refl

pub from_seam-to : (v : Gap) (o : Option Gap) → (from_seam v o).to ≡ v.to
from_seam-to v None = refl
from_seam-to v (Some w) = refl

-- reaching back moves no end
pub reach_back-order : (seam : ℕ) (left : List Gap) (x y : Gap) → EndsBefore x y
    → EndsBefore (reach_back seam left x) (reach_back seam left y)
reach_back-order seam left x y b =
    let ex = from_seam-to x (find (λ w. meets seam w x) left) in
    let ey = from_seam-to y (find (λ w. meets seam w y) left) in
    let px = from_seam-proc x (find (λ w. meets seam w x) left) in
    let py = from_seam-proc y (find (λ w. meets seam w y) left) in
    elim b [
      | inl l ↦ inl (omega (arith, l, ex, ey))
      | inr e ↦ inr (ex ∙ e.0 ∙ sym ey, omega (arith, e.1, px, py))
    ]

-- of one member the longest silence that ends at a tick is one
longest-begins : (set : ℕ) (trace : Recorded) (i j : ℕ) (u w : Gap) → IsLongest set trace i j u
    → IsLongest set trace i j w → u.proc ≡ w.proc → u.to ≡ w.to → u.from ≡ w.from
longest-begins set trace i j u w a b same ends = elim (cases_lt u.from w.from) [
  | inl l ↦ absurd (earlier u w a b same ends l)
  | inr n ↦ elim (cases_lt w.from u.from) [
    | inl l ↦ absurd (earlier w u b a (sym same) (sym ends) l)
    | inr o ↦ omega (arith, n, o)
  ]
] where
  earlier : (u w : Gap) → IsLongest set trace i j u → IsLongest set trace i j w → u.proc ≡ w.proc → u.to ≡ w.to
      → u.from < w.from → ⊥
  earlier u w a b same ends l = elim b.left [
    | inl e ↦ omega (arith, e, a.after, l)
    | inr s ↦ (a.gap.silent (w.from - 1) (omega (arith, l)) (omega (arith, l, b.gap.order, ends))
        (subst (λ p. StepsIn trace (w.from - 1) p) (sym same) s))
  ]

module _ (set : ℕ) (trace : Recorded) (i m k : ℕ) (before : i < m) (after : m < k) (inside : k ≤ trace.last)
    (left right : List Gap) (first : IsListing EndsBefore (IsLongest set trace i m) left)
    (second : IsListing EndsBefore (IsLongest set trace m k) right) where
  abbrev Joined : List Gap
  Joined = filter (stops m right) left ++ map (reach_back m left) right

  -- Each silence of the joined list is a longest one.

  -- one of the left part that doesn't go on
  stopped : (w : Gap) → Contains left w → stops m right w ≡ true → IsLongest set trace i k w
  stopped w c s = let l = first.sound w c in record {
    gap = l.gap;
    after = l.after;
    until = omega (arith, l.until, after);
    left = l.left;
    right = elim l.right [
      | inl e ↦ elim (steps_in_or_not trace (m + 1) w.proc) [
        | inl t ↦ inr (subst (λ z. StepsIn trace z w.proc) (omega (arith, e)) t)
        | inr n ↦ absurd (goes_on w l e s (last_silent trace w.proc (m + 1) (k - (m + 1)) n))
      ]
      | inr t ↦ inr t
    ];
  }
    where
      goes_on : (w : Gap) → IsLongest set trace i m w → w.to ≡ m → stops m right w ≡ true
          → (y : ℕ) × (m + 1 ≤ y) × (y ≤ m + 1 + (k - (m + 1))) × Silent trace w.proc (m + 1) y
          × ((y ≡ m + 1 + (k - (m + 1))) ⊎ StepsIn trace (y + 1) w.proc) → ⊥
      goes_on w l e s (y, a, b, silent, ends) =
          let v : Gap = record { proc = w.proc; from = m + 1; to = y } in
          let long : IsLongest set trace m k v = record {
            gap = record {
              member = l.gap.member;
              start = omega arith;
              order = a;
              inside = omega (arith, b, after, inside);
              silent = silent;
            };
            after = omega arith;
            until = omega (arith, b, after);
            left = inl refl;
            right = elim ends [ inl f ↦ inl (omega (arith, f, after)) | inr t ↦ inr t ];
          } in
          elim (passes_or_none (λ v. meets m w v) right) [
            | inl found ↦ (let clash = sym s ∙ ap not found.3 in cc)
            | inr none ↦ (let clash = sym (none.1 v (second.complete v long))
                ∙ meets-from_facts m w v refl e refl in cc)
          ]

  -- one of the right part, from where it began in the left part
  reached : (v : Gap) → Contains right v → IsLongest set trace i k (reach_back m left v)
  reached v c = let l = second.sound v c in elim (found_or_none (λ w. meets m w v) left) [
    | inl found ↦ (
        let w = found.0 in
        let a = first.sound w found.1 in
        let f = meets-facts m w v found.2 in
        let whole : IsLongest set trace i k (record { proc = v.proc; from = w.from; to = v.to }) = record {
          gap = record {
            member = l.gap.member;
            start = a.gap.start;
            order = omega (arith, a.gap.order, l.gap.order, f.1, f.2);
            inside = l.gap.inside;
            silent = λ z from until s. elim (cases_lt m z) [
              | inl late ↦ l.gap.silent z (omega (arith, late, f.2)) until s
              | inr early ↦ a.gap.silent z from (omega (arith, early, f.1)) (subst (λ p. StepsIn trace z p) (sym f.0) s)
            ];
          };
          after = a.after;
          until = l.until;
          left = elim a.left [ inl e ↦ inl e | inr s ↦ inr (subst (λ p. StepsIn trace (w.from - 1) p) f.0 s) ];
          right = l.right;
        } in
        subst (λ o. IsLongest set trace i k (from_seam v o)) (sym found.3) whole)
    | inr none ↦ (
        let whole : IsLongest set trace i k v = record {
          gap = l.gap;
          after = omega (arith, l.after, before);
          until = l.until;
          left = elim l.left [
            | inl e ↦ elim (steps_in_or_not trace (v.from - 1) v.proc) [
              | inl s ↦ inr s
              | inr n ↦ absurd (began v l e none.1 n)
            ]
            | inr s ↦ inr s
          ];
          right = l.right;
        } in
        subst (λ o. IsLongest set trace i k (from_seam v o)) (sym none.0) whole)
  ]
    where
      began : (v : Gap) → IsLongest set trace m k v → v.from ≡ m + 1
          → ((w : Gap) → Contains left w → meets m w v ≡ false) → (StepsIn trace (v.from - 1) v.proc → ⊥) → ⊥
      began v l e none n =
          let last : v.from - 1 ≡ i + 1 + (m - (i + 1)) = omega (arith, e, before) in
          let b = first_silent trace v.proc i (m - (i + 1))
          (λ s. n (subst (λ t. StepsIn trace t v.proc) (sym last) s)) in
          let until = b.2 in
          let w : Gap = record { proc = v.proc; from = b.0; to = m } in
          let long : IsLongest set trace i m w = record {
            gap = record {
              member = l.gap.member;
              start = omega (arith, b.1);
              order = omega (arith, until, before);
              inside = omega (arith, after, inside);
              silent = λ z c d s. b.3 z c (omega (arith, d, before)) s;
            };
            after = b.1;
            until = omega arith;
            left = b.4;
            right = inl refl;
          } in
          let clash = sym (none w (first.complete w long)) ∙ meets-from_facts m w v refl refl e in cc

  -- Each longest silence is in the joined list.

  -- one that ends in the left part
  kept : (w : Gap) → IsLongest set trace i k w → w.to ≤ m → Contains Joined w
  kept w l ends = Contains-append_left (filter (stops m right) left) (map (reach_back m left) right) w
      (Contains-filter (stops m right) left w (first.complete w part) stopping)
    where
      part : IsLongest set trace i m w
      part = record {
        gap = l.gap;
        after = l.after;
        until = ends;
        left = l.left;
        right = elim (cases_eq w.to m) [
          | inl e ↦ inl e
          | inr n ↦ elim l.right [ inl e ↦ absurd (omega (arith, e, ends, after)) | inr s ↦ inr s ]
        ];
      }

      stopping : stops m right w ≡ true
      stopping = elim (passes_or_none (λ v. meets m w v) right) [
        | inl found ↦ (
            let v = found.0 in
            let b = second.sound v found.1 in
            let f = meets-facts m w v found.2 in
            elim l.right [
              | inl e ↦ absurd (omega (arith, e, ends, after))
              | inr s ↦ absurd (b.gap.silent (w.to + 1) (omega (arith, f.1, f.2)) (omega (arith, b.gap.order, f.1, f.2))
                  (subst (λ p. StepsIn trace (w.to + 1) p) f.0 s))
            ])
        | inr none ↦ ap not none.0
      ]

  -- what the right part has, reached back
  moved : (v w : Gap) → Contains right v → reach_back m left v ≡ w → Contains Joined w
  moved v w c e = Contains-append_right (filter (stops m right) left) (map (reach_back m left) right) w
      (subst (Contains (map (reach_back m left) right)) e (Contains-map (reach_back m left) right v c))

  -- one that begins in the right part
  begun : (w : Gap) → IsLongest set trace i k w → m < w.from → Contains Joined w
  begun w l begins = moved w w (second.complete w part) alone
    where
      stepped : (w.from ≡ m + 1 → ⊥) ⊎ StepsIn trace m w.proc
      stepped = elim (cases_eq w.from (m + 1)) [
        | inl e ↦ elim l.left [
          | inl f ↦ absurd (omega (arith, f, begins, before))
          | inr s ↦ inr (subst (λ t. StepsIn trace t w.proc) (omega (arith, e)) s)
        ]
        | inr n ↦ inl n
      ]

      part : IsLongest set trace m k w
      part = record {
        gap = l.gap;
        after = begins;
        until = l.until;
        left = elim l.left [ inl f ↦ absurd (omega (arith, f, begins, before)) | inr s ↦ inr s ];
        right = l.right;
      }

      alone : reach_back m left w ≡ w
      alone = elim (found_or_none (λ u. meets m u w) left) [
        | inl found ↦ (
            let u = found.0 in
            let a = first.sound u found.1 in
            let f = meets-facts m u w found.2 in
            elim stepped [
              | inl n ↦ absurd (n f.2)
              | inr s ↦ absurd (a.gap.silent m (omega (arith, a.gap.order, f.1)) (omega (arith, f.1))
                  (subst (λ p. StepsIn trace m p) (sym f.0) s))
            ])
        | inr none ↦ ap (from_seam w) none.0
      ]

  -- one that begins in the left part and ends in the right one
  passed : (w : Gap) → IsLongest set trace i k w → w.from ≤ m → m < w.to → Contains Joined w
  passed w l begins ends =
      elim (found_or_none (λ u. meets m u v) left) [
        | inl found ↦ (
            let f = meets-facts m found.0 v found.2 in
            let e : found.0.from ≡ w.from = longest-begins set trace i m found.0 u
            (first.sound found.0 found.1) early f.0 f.1 in
            moved v w (second.complete v late) (ap (from_seam v) found.3
            ∙ ap (λ x. let g : Gap = record { proc = w.proc; from = x; to = w.to } in g) e))
        | inr none ↦ (let clash = sym (none.1 u (first.complete u early)) ∙ meets-from_facts m u v refl refl refl in cc)
      ]
    where
      u : Gap
      u = record { proc = w.proc; from = w.from; to = m }

      v : Gap
      v = record { proc = w.proc; from = m + 1; to = w.to }

      early : IsLongest set trace i m u
      early = record {
        gap = record {
          member = l.gap.member;
          start = l.gap.start;
          order = begins;
          inside = omega (arith, after, inside);
          silent = λ z a b s. l.gap.silent z a (omega (arith, b, ends)) s;
        };
        after = l.after;
        until = omega arith;
        left = l.left;
        right = inl refl;
      }

      late : IsLongest set trace m k v
      late = record {
        gap = record {
          member = l.gap.member;
          start = omega arith;
          order = omega (arith, ends);
          inside = l.gap.inside;
          silent = λ z a b s. l.gap.silent z (omega (arith, a, begins)) b s;
        };
        after = omega arith;
        until = l.until;
        left = inl refl;
        right = l.right;
      }

  -- The joined list is in order.

  parts-order : (x y : Gap) → Contains (filter (stops m right) left) x → Contains (map (reach_back m left) right) y
      → EndsBefore x y
  parts-order x y a b =
      let early = (first.sound x (Contains-from_filter (stops m right) left x a).0).until in
      let u = Contains-from_map (reach_back m left) right y b in
      let late = second.sound u.0 u.1 in
      let to : y.to ≡ u.0.to = ap (λ (g : Gap). g.to) (sym u.2) ∙ from_seam-to u.0 (find (λ w. meets m w u.0) left) in
      inl (omega (arith, early, late.after, late.gap.order, to))

  pub silences_joined : IsListing EndsBefore (IsLongest set trace i k) Joined
  silences_joined = record {
    rising = Rises-append EndsBefore (filter (stops m right) left) (map (reach_back m left) right)
        (Rises-filter EndsBefore (stops m right) left first.rising)
        (Rises-map EndsBefore (reach_back m left) right (λ x y _ _. reach_back-order m left x y) second.rising)
        parts-order;
    sound = λ x c. elim (Contains-append_cases (filter (stops m right) left) (map (reach_back m left) right) x c) [
      | inl a ↦ (let f = Contains-from_filter (stops m right) left x a in stopped x f.0 f.1)
      | inr b ↦ (let u = Contains-from_map (reach_back m left) right x b in
          subst (IsLongest set trace i k) u.2 (reached u.0 u.1))
    ];
    complete = λ w l. elim (cases_lt m w.to) [
      | inr early ↦ kept w l (omega (arith, early))
      | inl late ↦ elim (cases_lt m w.from) [
        | inl begins ↦ begun w l begins
        | inr n ↦ passed w l (omega (arith, n)) late
      ]
    ];
  }
