-- A list of the longest gaps that grows by the interval between the ticks of two steps of a processor.
use Rattle.std.proofs.Common.{ℕ, ◌≡◌, ◌+◌, ◌<◌, ◌≤◌, ◌↔◌, inl, inr, List, [], ◌∷◌, ◌++◌, length, get_or, Bool, true, false, IsTrue, refl, ap, sym, arith, subst}
use Rattle.std.specs.Prelude.{Contains, nat_lt, if◌then◌else◌}
use Rattle.std.proofs.lemmas.Bool.{cases_lt, cases_eq}
use Rattle.std.proofs.lemmas.Bool.Decides.{nat_tests}
use Rattle.std.proofs.lemmas.List.{append-nil}
use Rattle.std.proofs.lemmas.List.Elements.{Contains-push, Contains-push_cases, Contains-append_left, Contains-get_or}
use Rattle.std.proofs.lemmas.List.Quantifiers.{all_pairs_push}
use Rattle.bound_witness.proofs.Common.{Gap, has_proc, IsWithin, Recorded, IsStepOf, tick_of, IsTimed, IsGap}
use Rattle.bound_witness.proofs.Common.{step_at_within, own_ticks_rise, IsLongestGap, Precedes, BeginsBy, ListsGapsBy}
use Rattle.bound_witness.proofs.Common.{gap_between}
use Rattle.bound_witness.proofs.GapsBetween.{IsEdge, IsEdge-end, IsEdge-step, SilentBetween, between, between-IsLongestGap, same_between}

-- what begins by step k begins by each later step
later : (w : Gap) (p k j : ℕ) → k ≤ j → BeginsBy w p k → BeginsBy w p j
later w p k j l b = elim b [ inl a ↦ inl a | inr a ↦ inr (a.0, let q : w.from ≤ k = a.1 in omega arith) ]

-- a gap that begins by `last` precedes the interval after it
precedes_between : (w : Gap) (p last next : ℕ) → BeginsBy w p last → Precedes w (between p last next)
precedes_between w p last next b = elim b [ inl a ↦ inl a | inr a ↦ inr (a.0, let q : w.from ≤ last = a.1 in omega arith) ]

-- the list up to an edge, and the interval from there to the next edge
pub ListsGapsBy-between : (set : ℕ) (trace : Recorded) (p last next : ℕ) (ws : List Gap) → last < next
    → SilentBetween set trace p last next → ListsGapsBy set trace p last ws
    → ListsGapsBy set trace p next (ws ++ gap_between p last next)
ListsGapsBy-between set trace p last next ws k s l = go (nat_lt (last + 1) next) refl where
  go : (b : Bool) → nat_lt (last + 1) next ≡ b → ListsGapsBy set trace p next (ws ++ (if b then between p last next ∷ [] else []))
  go true e =
      let wide : last + 1 < next = grind (arith, nat_tests) in record {
        listed = λ w. (
          λ h. elim (Contains-push_cases ws (between p last next) w h) [
            | inl a ↦ (let x = (l.listed w).0 a in (x.0, later w p last next (omega arith) x.1))
            | inr a ↦ (
              subst (λ v. IsLongestGap set trace v) a (between-IsLongestGap set trace p last next wide s),
              subst (λ v. BeginsBy v p next) a (inr (refl, omega arith)),
            )
          ],
          λ h. elim h.1 [
            | inl a ↦ Contains-append_left ws _ w ((l.listed w).1 (h.0, inl a))
            | inr a ↦ elim (cases_lt last w.from) [
              | inl b ↦ subst (λ v. Contains (ws ++ between p last next ∷ []) v)
                  (same_between set trace p last next w s h.0 a.0 b a.1).1 (Contains-push ws (between p last next))
              | inr b ↦ Contains-append_left ws _ w ((l.listed w).1 (h.0, inr (a.0, b)))
            ]
          ],
        );
        ordered = all_pairs_push Precedes ws (between p last next) l.ordered
            (λ i d u. precedes_between (get_or ws i d) p last next ((l.listed (get_or ws i d)).0 (Contains-get_or ws i d u)).1);
      }
  go false e = subst (λ vs. ListsGapsBy set trace p next vs) (sym (append-nil ws)) (record {
    listed = λ w. (
      λ h. let x = (l.listed w).0 h in (x.0, later w p last next (omega arith) x.1),
      λ h. elim h.1 [
        | inl a ↦ (l.listed w).1 (h.0, inl a)
        | inr a ↦ elim (cases_lt last w.from) [
          | inl b ↦ absurd (let wide : last + 1 < next = (same_between set trace p last next w s h.0 a.0 b a.1).0 in
              let none : nat_lt (last + 1) next ≡ true = grind (arith, nat_tests) in cc)
          | inr b ↦ (l.listed w).1 (h.0, inr (a.0, b))
        ]
      ],
    );
    ordered = l.ordered;
  })

-- if each gap of p begins by tick k, the list up to tick k of p is the one of all processors up to p
pub ListsGapsBy-next : (set : ℕ) (trace : Recorded) (p k : ℕ) (ws : List Gap)
    → ((w : Gap) → IsGap set trace w → w.proc ≡ p → w.from ≤ k) → ListsGapsBy set trace p k ws
    → ListsGapsBy set trace (p + 1) 0 ws
ListsGapsBy-next set trace p k ws all l = record {
  listed = λ w. (
    λ h. let x = (l.listed w).0 h in
        (x.0, elim x.1 [ inl a ↦ inl (let q : w.proc < p = a in omega arith) | inr a ↦ inl (let q : w.proc ≡ p = a.0 in omega arith) ]),
    λ h. elim h.1 [
      | inl a ↦ elim (cases_lt w.proc p) [
        | inl b ↦ (l.listed w).1 (h.0, inl b)
        | inr b ↦ (let q : w.proc ≡ p = omega arith in (l.listed w).1 (h.0, inr (q, all w h.0.gap q)))
      ]
      | inr a ↦ absurd (let s = h.0.gap.start in let z : w.from ≤ 0 = a.1 in omega arith)
    ],
  );
  ordered = l.ordered;
}

-- a processor that is no member has no gap
pub ListsGapsBy-pass : (set : ℕ) (trace : Recorded) (p : ℕ) (ws : List Gap)
    → has_proc set p ≡ false → ListsGapsBy set trace p 0 ws → ListsGapsBy set trace (p + 1) 0 ws
ListsGapsBy-pass set trace p ws n = ListsGapsBy-next set trace p 0 ws
    (λ w i q. absurd (let m = subst (λ k. has_proc set k ≡ true) q i.member in cc))

-- after the last tick the list has all gaps of p
pub ListsGapsBy-end : (set : ℕ) (trace : Recorded) (p k : ℕ) (ws : List Gap)
    → trace.last < k → ListsGapsBy set trace p k ws → ListsGapsBy set trace (p + 1) 0 ws
ListsGapsBy-end set trace p k ws l = ListsGapsBy-next set trace p k ws (λ w i q. let a = i.order in let b = i.inside in omega arith)

-- the list of all members has each longest gap
pub ListsGapsBy-all : (set : ℕ) (trace : Recorded) (n : ℕ) (ws : List Gap)
    → IsWithin set n → ListsGapsBy set trace (n + 1) 0 ws → (w : Gap) → Contains ws w ↔ IsLongestGap set trace w
ListsGapsBy-all set trace n ws within l w =
    (λ h. ((l.listed w).0 h).0, λ g. (l.listed w).1 (g, inl (let p = within w.proc g.gap.member in omega arith)))

-- The steps before number `k` were read: `last` is the tick of the last one of p, and the list goes up to it.
pub record IsScanned (set : ℕ) (trace : Recorded) (p last k : ℕ) (ws : List Gap) : Type 0 where
  pub inside : last ≤ trace.last
  pub edge : IsEdge set trace p last
  pub behind : (j : ℕ) → j < k → IsStepOf trace.steps j p → tick_of trace j ≤ last
  pub ahead : (j : ℕ) → k ≤ j → IsStepOf trace.steps j p → last < tick_of trace j
  pub listed : ListsGapsBy set trace p last ws

-- between the last step of p that was read and the next one, p is silent
silent_before : (set : ℕ) (trace : Recorded) (p last k : ℕ) (ws : List Gap) → IsTimed trace → IsTrue (has_proc set p)
    → IsStepOf trace.steps k p → IsScanned set trace p last k ws → SilentBetween set trace p last (tick_of trace k)
silent_before set trace p last k ws time m s i = let t = (time.inside k _ s.1).1 in record {
  member = m;
  begin = i.edge;
  finish = IsEdge-step set trace p k s;
  inside = omega arith;
  silent = λ z a b e. let q = e.tick in elim (cases_lt e.place k) [
    | inl l ↦ absurd (let h = i.behind e.place l e.step in omega (arith, q, h, a))
    | inr l ↦ elim (cases_eq e.place k) [
      | inl same ↦ absurd (let h = ap (tick_of trace) same in omega (arith, q, h, b))
      | inr other ↦ absurd (let h = own_ticks_rise trace time k e.place _ _ s.1 e.step.1 refl (omega (arith, l, other)) in
          omega (arith, q, h, b))
    ]
  ];
}

-- and after the last step of all it is silent up to the end
silent_at_end : (set : ℕ) (trace : Recorded) (p last k : ℕ) (ws : List Gap) → length trace.steps < k
    → IsTrue (has_proc set p) → IsScanned set trace p last k ws → SilentBetween set trace p last (trace.last + 1)
silent_at_end set trace p last k ws n m i = record {
  member = m;
  begin = i.edge;
  finish = IsEdge-end set trace p (trace.last + 1) (omega arith);
  inside = omega arith;
  silent = λ z a b e. absurd (let q = e.tick in let w = (step_at_within trace.steps e.place _ e.step.1).1 in
      let h = i.behind e.place (omega arith) e.step in omega (arith, q, h, a));
}

-- if the tick of the next step isn't right after the last one, the interval between them is a longest gap
pub IsScanned-gap : (set : ℕ) (trace : Recorded) (p last k t : ℕ) (ws : List Gap) → IsTimed trace
    → IsTrue (has_proc set p) → IsStepOf trace.steps k p → t ≡ tick_of trace k → last + 1 < t
    → IsScanned set trace p last k ws → (w : Gap) × IsLongestGap set trace w
IsScanned-gap set trace p last k t ws time m s h n i = let l : last + 1 < tick_of trace k = omega (arith, h, n) in (
  between p last (tick_of trace k),
  between-IsLongestGap set trace p last (tick_of trace k) l
      (silent_before set trace p last k ws time m s i),
)

-- and likewise the interval up to the end
pub IsScanned-last_gap : (set : ℕ) (trace : Recorded) (p last k e : ℕ) (ws : List Gap) → length trace.steps < k
    → IsTrue (has_proc set p) → e ≡ trace.last → last + 1 < e + 1 → IsScanned set trace p last k ws
    → (w : Gap) × IsLongestGap set trace w
IsScanned-last_gap set trace p last k e ws n m h j i = let l : last + 1 < trace.last + 1 = omega (arith, h, j) in (
  between p last (trace.last + 1),
  between-IsLongestGap set trace p last (trace.last + 1) l
      (silent_at_end set trace p last k ws n m i),
)

scanned_step : (set : ℕ) (trace : Recorded) (p last k : ℕ) (ws : List Gap) → IsTimed trace → IsTrue (has_proc set p)
    → IsStepOf trace.steps k p → IsScanned set trace p last k ws
    → IsScanned set trace p (tick_of trace k) (k + 1) (ws ++ gap_between p last (tick_of trace k))
scanned_step set trace p last k ws time m s i = record {
  inside = (time.inside k _ s.1).1;
  edge = IsEdge-step set trace p k s;
  behind = λ j b e. elim (cases_eq j k) [
    | inl same ↦ (let h = ap (tick_of trace) same in omega (arith, h))
    | inr other ↦ (let h = i.behind j (omega (arith, b, other)) e in let f = i.ahead k (omega arith) s in omega (arith, h, f))
  ];
  ahead = λ j b e. own_ticks_rise trace time k j _ _ s.1 e.1 refl (omega arith);
  listed = ListsGapsBy-between set trace p last (tick_of trace k) ws
      (i.ahead k (omega arith) s) (silent_before set trace p last k ws time m s i) i.listed;
}

-- at a step of p, which is in tick t, the list gets the gap before it
pub IsScanned-step : (set : ℕ) (trace : Recorded) (p last k t : ℕ) (ws : List Gap) → IsTimed trace
    → IsTrue (has_proc set p) → IsStepOf trace.steps k p → t ≡ tick_of trace k → IsScanned set trace p last k ws
    → IsScanned set trace p t (k + 1) (ws ++ gap_between p last t)
IsScanned-step set trace p last k t ws time m s h i =
    subst (λ x. IsScanned set trace p x (k + 1) (ws ++ gap_between p last x)) (sym h) (scanned_step set trace p last k ws time m s i)

-- at a step of another processor the list stays
pub IsScanned-pass : (set : ℕ) (trace : Recorded) (p last k : ℕ) (ws : List Gap)
    → (¬ IsStepOf trace.steps k p) → IsScanned set trace p last k ws → IsScanned set trace p last (k + 1) ws
IsScanned-pass set trace p last k ws n i = record {
  inside = i.inside;
  edge = i.edge;
  behind =
      λ j b s. elim (cases_eq j k) [ inl q ↦ absurd (n (subst (λ h. IsStepOf trace.steps h p) q s)) | inr q ↦ i.behind j (omega arith) s ];
  ahead = λ j b. i.ahead j (omega arith);
  listed = i.listed;
}

scanned_end : (set : ℕ) (trace : Recorded) (p last k : ℕ) (ws : List Gap) → length trace.steps < k
    → IsTrue (has_proc set p) → IsScanned set trace p last k ws
    → ListsGapsBy set trace (p + 1) 0 (ws ++ gap_between p last (trace.last + 1))
scanned_end set trace p last k ws n m i =
    let l = i.inside in
    ListsGapsBy-end set trace p (trace.last + 1) (ws ++ gap_between p last (trace.last + 1)) (omega arith)
    (ListsGapsBy-between set trace p last (trace.last + 1) ws (omega arith) (silent_at_end set trace p last k ws n m i) i.listed)

-- at the end, which is after tick e, the list gets the gap after the last step of p
pub IsScanned-end : (set : ℕ) (trace : Recorded) (p last k e : ℕ) (ws : List Gap) → length trace.steps < k
    → IsTrue (has_proc set p) → e ≡ trace.last → IsScanned set trace p last k ws
    → ListsGapsBy set trace (p + 1) 0 (ws ++ gap_between p last (e + 1))
IsScanned-end set trace p last k e ws n m h i = subst
    (λ x. ListsGapsBy set trace (p + 1) 0 (ws ++ gap_between p last (x + 1))) (sym h) (scanned_end set trace p last k ws n m i)
