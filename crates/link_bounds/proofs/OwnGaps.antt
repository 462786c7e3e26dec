-- The gaps of one processor, going back over its steps.
use Rattle.std.proofs.Common.{ℕ, ◌≡◌, ◌+◌, ◌-◌, ◌<◌, ◌≤◌, inl, inr, List, length, get_or, set, get_or-set_same, get_or-set_other, ◌≢◌, Some, IsTrue, true, refl, sym, subst, arith}
use Rattle.std.specs.Prelude.{nat_lt, nat_le}
use Rattle.std.proofs.lemmas.Bool.{cases_eq, cases_lt}
use Rattle.std.proofs.lemmas.Bool.Decides.{nat_tests}
use Rattle.std.proofs.lemmas.Nat.Bits.{bit_at-pow_same, bit_at-pow_other}
use Rattle.std.specs.Int.{bit_at}
use Rattle.step_trace.specs.declared.rows.Gap.{Gap}
use Rattle.step_trace.specs.declared.steps.Step.{Step}
use Rattle.step_trace.specs.declared.processors.TheConstants.{MAX_MEMBER}
use Rattle.step_trace.specs.Processors.{has_proc}
use Rattle.step_trace.specs.Traces.{Recorded, step_at, IsStepOf}
use Rattle.step_trace.specs.Ticks.{tick_of, IsTimed, StepsIn}
use Rattle.step_trace.specs.Witnesses.{IsGap}
use Rattle.step_trace.proofs.StepPositions.{step_at_within}
use Rattle.step_trace.proofs.TickOrder.{ticks_rise, own_ticks_rise}
use Rattle.suffix_staircase.specs.NextSteps.{IsNextTick}
use Rattle.link_bounds.specs.declared.bounds.LeastBound.{LeastBound}
use Rattle.link_bounds.specs.Evidence.{noted, without_evidence}
use Rattle.link_bounds.specs.Links.{only}
use Rattle.link_bounds.specs.KnownGaps.{IsOwnGap, KnowsGapsOf, KnowsPaces, bound_from}
use Rattle.link_bounds.specs.declared.paces.Paces.{Paces}
use Rattle.link_bounds.proofs.NotedEvidence.{GrowsBy, AllowsAll-noted, AllowsAll-nothing, AllowsAll-same}

-- the set of p has p
pub only_has : (p : ℕ) → 1 ≤ p → p ≤ MAX_MEMBER → IsTrue (has_proc (only p) p)
only_has p low high =
    let a : nat_lt 0 p ≡ true = grind (arith, nat_tests) in
    let b : nat_le p MAX_MEMBER ≡ true = grind (arith, nat_tests) in
    rw (a, b, bit_at-pow_same (p - 1)) refl

-- and no other
pub only_member : (p q : ℕ) → 1 ≤ p → IsTrue (has_proc (only p) q) → q ≡ p
only_member p q low h = elim (cases_eq q p) [
  | inl e ↦ e
  | inr ne ↦ absurd (
      let bit : (1 ≤ q) × (bit_at (only p) (q - 1) ≡ 1) = grind (arith, nat_tests) in
      let start = bit.0 in
      let none = bit_at-pow_other (p - 1) (q - 1) (λ e. ne (omega arith)) in
      let one = bit.1 in
      omega arith)
]

-- before tick g, p steps up to number done alone, and has its next step at tick `next`
pub record IsNextFrom (trace : Recorded) (p g done next : ℕ) : Type 0 where
  pub start : 1 ≤ g
  pub passed : (k : ℕ) → k ≤ done → IsStepOf trace.steps k p → tick_of trace k < g
  pub tick : IsNextTick trace p done next
  pub above : g ≤ next

-- between them it is silent
silent_until : (t : Recorded) (p g done next x : ℕ) → IsNextFrom t p g done next → g ≤ x → x < next → ¬ StepsIn t x p
silent_until t p g done next x n low high s = elim (cases_lt done s.place) [
  | inl later ↦ (let first = n.tick.first s.place later s.step in let at = s.tick in absurd (omega arith))
  | inr earlier ↦ (let passed = n.passed s.place earlier s.step in let at = s.tick in absurd (omega arith))
]

-- a gap of p that begins before its next step ends before it
ends_before : (t : Recorded) (p g done next : ℕ) (w : Gap)
    → 1 ≤ p → IsNextFrom t p g done next → IsGap (only p) t w → w.from < next → w.to < next
ends_before t p g done next w low n gap begins = elim (cases_lt w.to next) [
  | inl l ↦ l
  | inr high ↦ (let inside = gap.inside in
      let s = n.tick.step (omega arith) in
      let own = only_member p w.proc low gap.member in
      absurd (gap.silent next
      (omega arith) high (subst (λ (q : ℕ). StepsIn t next q) (sym own) (record { place = s.0; step = s.2; tick = s.3 }))))
]

-- the gaps from tick g on are those from the next step on, and those that begin in the silence before it
OwnGaps-grow : (t : Recorded) (p g done next : ℕ) → 1 ≤ p → p ≤ MAX_MEMBER → IsNextFrom t p g done next → GrowsBy Gap (λ w. w.from)
    (λ w. w.from) (λ w. w.to + 1) (IsOwnGap t p next) (IsOwnGap t p g) (record { proc = p; from = g; to = next - 1 }) (next - g)
OwnGaps-grow t p g done next low high n =
    let start = n.start in
    let above = n.above in
    let until = n.tick.until in
    record {
      still = λ w o. record { gap = o.gap; from = let from = o.from in omega arith };
      before = λ w o some. (let from = o.from in omega arith);
      found = λ some. (
        record {
          gap = record {
            member = only_has p low high;
            start = start;
            order = omega arith;
            inside = omega arith;
            silent = λ x a b. silent_until t p g done next x n a (omega arith);
          };
          from = omega arith;
        },
        omega arith,
      );
      rest = λ w o. elim (cases_lt w.from next) [
        | inl begins ↦ inr (let ends = ends_before t p g done next w low n o.gap begins in
            let from = o.from in (omega arith, λ long. (omega arith)))
        | inr later ↦ inl (record { gap = o.gap; from = later })
      ];
    }

-- so the bound takes the longest of these
pub KnowsGapsOf-from : (t : Recorded) (p g done next : ℕ) (bound : LeastBound Gap) → 1 ≤ p → p ≤ MAX_MEMBER → IsNextFrom t p g done next
    → KnowsGapsOf t p next bound → KnowsGapsOf t p g (noted bound (record { proc = p; from = g; to = next - 1 }) (next - g))
KnowsGapsOf-from t p g done next bound low high n k = AllowsAll-noted Gap (λ w. w.from)
    (λ w. w.from) (λ w. w.to + 1) (IsOwnGap t p next) (IsOwnGap t p g) _ (next - g) bound (OwnGaps-grow t p g done next low high n) k

-- no gap begins where p steps
KnowsGapsOf-step : (t : Recorded) (p g : ℕ) (bound : LeastBound Gap)
    → 1 ≤ p → StepsIn t g p → KnowsGapsOf t p (g + 1) bound → KnowsGapsOf t p g bound
KnowsGapsOf-step t p g bound low steps k = AllowsAll-same Gap
    (λ w. w.from) (λ w. w.from) (λ w. w.to + 1) (IsOwnGap t p (g + 1)) (IsOwnGap t p g) bound
    (λ w o. record { gap = o.gap; from = let from = o.from in omega arith }) (λ w o. record { gap = o.gap; from = later w o }) k where
      later : (w : Gap) → IsOwnGap t p g w → g + 1 ≤ w.from
      later w o = elim (cases_eq w.from g) [
        | inl e ↦ absurd (let gap = o.gap in let order = gap.order in
            let own = only_member p w.proc low gap.member in
            gap.silent g (omega arith) (omega arith) (subst (λ (q : ℕ). StepsIn t g q) (sym own) steps))
        | inr ne ↦ (let from = o.from in omega (arith, ne))
      ]

-- after a step of p, its next step is in a later tick
IsNextFrom-step : (t : Recorded) → IsTimed t → (x next : ℕ) (s : Step)
    → step_at t.steps x ≡ Some s → IsNextTick t s.proc x next → IsNextFrom t s.proc (tick_of t x + 1) x next
IsNextFrom-step t time x next s at n = record {
  start = omega arith;
  passed = λ k low own. (let rise = ticks_rise t time k x _ s own.1 at low in omega arith);
  tick = n;
  above = elim (cases_lt t.last next) [
    | inl past ↦ (let inside = (time.inside x s at).1 in omega arith)
    | inr some ↦ (let i = n.step some in let rise = own_ticks_rise t time x i.0 s _ at i.2.1 refl i.1 in let same = i.3 in omega arith)
  ];
}

-- going back over a step
module _ (t : Recorded) (time : IsTimed t) (x : ℕ) (s : Step)
    (at : step_at t.steps x ≡ Some s) (low : 1 ≤ s.proc) (high : s.proc ≤ t.config.n) (old : Paces) (k : KnowsPaces t x old) where
  abbrev next : List ℕ
  next = old.next_steps.items

  -- the bound of its processor
  own_bound : KnowsGapsOf t s.proc (tick_of t x) (bound_from old s.proc (tick_of t x + 1))
  own_bound =
      let few = k.few in
      KnowsGapsOf-step t s.proc (tick_of t x) (bound_from old s.proc (tick_of t x + 1)) low
      (record { place = x; step = (s.act, at); tick = refl })
      (KnowsGapsOf-from t s.proc (tick_of t x + 1) x
      (get_or next s.proc 0) (get_or old.bounds.items s.proc without_evidence) low (omega arith)
      (IsNextFrom-step t time x (get_or next s.proc 0) s at (k.next.each s.proc low high low)) (k.each s.proc low high))

  -- the bounds of all
  pub bounds_back : (p : ℕ) → 1 ≤ p → p ≤ t.config.n → KnowsGapsOf t p (get_or (set next s.proc (tick_of t x)) p 0)
      (get_or (set old.bounds.items s.proc (bound_from old s.proc (tick_of t x + 1))) p without_evidence)
  bounds_back p a b = elim (cases_eq p s.proc) [
    | inl e ↦ (let place : s.proc < length old.bounds.items = omega (arith, k.long) in
        let place' : s.proc < length next = omega (arith, k.next.long) in
        subst (λ (q : ℕ). KnowsGapsOf t q (get_or (set next s.proc (tick_of t x)) q 0)
        (get_or (set old.bounds.items s.proc (bound_from old s.proc (tick_of t x + 1))) q without_evidence)) (sym e)
        (rw (
          get_or-set_same next s.proc (tick_of t x) 0 place',
          get_or-set_same old.bounds.items s.proc (bound_from old s.proc (tick_of t x + 1)) without_evidence place,
        ) own_bound))
    | inr ne ↦ (let other : p ≢ s.proc = ne in
        rw (
          get_or-set_other next s.proc p (tick_of t x) 0 other,
          get_or-set_other old.bounds.items s.proc p (bound_from old s.proc (tick_of t x + 1)) without_evidence other,
        ) (k.each p a b))
  ]

-- after the last step there is no gap
pub bounds_after_all : (t : Recorded) (p : ℕ) (next : ℕ) → IsNextTick t p (length t.steps) next → KnowsGapsOf t p next without_evidence
bounds_after_all t p next n = AllowsAll-nothing Gap (λ w. w.from) (λ w. w.from) (λ w. w.to + 1) (IsOwnGap t p next) (λ w o.
    let gap = o.gap in let order = gap.order in let inside = gap.inside in let from = o.from in
    elim (cases_lt t.last next) [
      | inl past ↦ omega arith
      | inr some ↦ (let i = n.step some in let place = (step_at_within t.steps i.0 _ i.2.1).1 in let above = i.1 in omega arith)
    ])
