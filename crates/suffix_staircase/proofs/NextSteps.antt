-- The tick of the next step of each processor, one step back, and the processor whose next step comes last.
use Rattle.std.proofs.Common.{ℕ, ◌≡◌, ◌+◌, ◌-◌, ◌<◌, ◌≤◌, ◌≢◌, inl, inr, List, length, get_or, set, Some, IsTrue, refl}
use Rattle.std.proofs.Common.{sym, ap, subst, ◌∙◌, suc, zero, arith, replicate, get_or-set_same, get_or-set_other}
use Rattle.std.proofs.lemmas.List.{length-set, length-replicate}
use Rattle.std.proofs.lemmas.Option.{same_Some}
use Rattle.std.proofs.lemmas.Bool.{cases_eq, cases_lt}
use Rattle.suffix_staircase.proofs.Common.{Step, has_proc, tick_of, IsTimed, Recorded, step_at, step_at_within, ticks_rise, IsNextTick, AreNextTicks, IsLatest}

-- going back over a step, its processor gets it as its next step
IsNextTick-own : (t : Recorded) → IsTimed t → (x : ℕ) (s : Step) → step_at t.steps x ≡ Some s → IsNextTick t s.proc (x - 1) (tick_of t x)
IsNextTick-own t time x s h = record {
  until = let i = (time.inside x s h).1 in omega arith;
  first = λ k l i. ticks_rise t time x k s _ h i.1 (omega (arith, l));
  step = λ l. (x, omega (arith, step_at_within t.steps x s h), (s.act, h), refl);
}

-- and every other keeps its own
IsNextTick-other : (t : Recorded) (p x next : ℕ) (s : Step)
    → step_at t.steps x ≡ Some s → (s.proc ≡ p → ⊥) → IsNextTick t p x next → IsNextTick t p (x - 1) next
IsNextTick-other t p x next s h other n = record {
  until = n.until;
  first = λ k l i. elim (cases_eq k x) [
    | inl e ↦ absurd (other (ap (λ (y : Step). y.proc) (same_Some _ _ (sym h ∙ ap (step_at t.steps) (sym e) ∙ i.1))))
    | inr d ↦ n.first k (omega (arith, d, l)) i
  ];
  step = λ l. (let i = n.step l in (i.0, omega (arith, i.1), i.2, i.3));
}

-- a step isn't in a later tick than the next one of any processor
pub next_tick_above : (t : Recorded) → IsTimed t → (p x next : ℕ) (s : Step)
    → step_at t.steps x ≡ Some s → IsNextTick t p x next → tick_of t x ≤ next
next_tick_above t time p x next s h n = elim (cases_lt t.last next) [
  | inl l ↦ omega (arith, (time.inside x s h).1, l)
  | inr l ↦ (let i = n.step l in let r = ticks_rise t time x i.0 s _ h i.2.1 (omega (arith, i.1)) in omega (arith, r, i.3))
]

-- going back over a step of none of these processors, the notes stay right
pub AreNextTicks-other : (Of : ℕ → Type 0) (t : Recorded) (x : ℕ) (s : Step) (next : List ℕ)
    → step_at t.steps x ≡ Some s → ¬ Of s.proc → AreNextTicks Of t x next → AreNextTicks Of t (x - 1) next
AreNextTicks-other Of t x s next h other k = record {
  long = k.long;
  zero = k.zero;
  each = λ p a b of. IsNextTick-other t p x _ s h (λ e. other (subst Of (sym e) of)) (k.each p a b of);
}

-- going back over a step, the notes are right again
pub AreNextTicks-back : (Of : ℕ → Type 0) (t : Recorded) → IsTimed t → (x : ℕ) (s : Step) (next : List ℕ) → 1 ≤ s.proc → s.proc ≤ t.config.n
    → step_at t.steps x ≡ Some s → AreNextTicks Of t x next → AreNextTicks Of t (x - 1) (set next s.proc (tick_of t x))
AreNextTicks-back Of t time x s next low high h k =
    let place : s.proc < length next = omega (arith, k.long, high) in
    record {
      long = length-set next s.proc (tick_of t x) ∙ k.long;
      zero = (let other : 0 ≢ s.proc = omega arith in rw get_or-set_other k.zero);
      each = λ p a b of. elim (cases_eq p s.proc) [
        | inl e ↦ subst (λ (m : ℕ). IsNextTick t m (x - 1) (get_or (set next s.proc (tick_of t x)) m 0))
            (sym e) (rw get_or-set_same (IsNextTick-own t time x s h))
        | inr ne ↦ (let other : p ≢ s.proc = ne in rw get_or-set_other (IsNextTick-other t p x _ s h (λ e. ne (sym e)) (k.each p a b of)))
      ];
    }

-- each place of a list of one value holds it
get_or-replicate_all : (m v k : ℕ) → k < m → get_or (replicate m v) k 0 ≡ v
get_or-replicate_all zero v k h = absurd (omega arith)
get_or-replicate_all (suc m) v zero h = refl
get_or-replicate_all (suc m) v (suc k) h = get_or-replicate_all m v k (omega arith)

-- after the last step no processor has a next step
pub AreNextTicks-after_all : (Of : ℕ → Type 0) (t : Recorded) (next : List ℕ)
    → next ≡ set (replicate (t.config.n + 1) (t.last + 1)) 0 0 → AreNextTicks Of t (length t.steps) next
AreNextTicks-after_all Of t next e = subst (λ (xs : List ℕ). AreNextTicks Of t (length t.steps) xs) (sym e) (record {
  long = length-set (replicate (t.config.n + 1) (t.last + 1)) 0 0 ∙ length-replicate (t.config.n + 1) (t.last + 1);
  zero = get_or-set_same (replicate (t.config.n + 1) (t.last + 1)) 0 0 0 (omega (arith, length-replicate (t.config.n + 1) (t.last + 1)));
  each = λ p a b of.
      let other : p ≢ 0 = omega arith in
      let value = get_or-replicate_all (t.config.n + 1) (t.last + 1) p (omega arith) in
      rw (get_or-set_other, value) (record {
        until = omega arith;
        first = λ k l i. absurd (let inside = step_at_within t.steps k _ i.1 in omega (arith, l, inside));
        step = λ l. absurd (omega arith);
      });
})

-- no entry grows if one is lowered
entry-lowered : (next : List ℕ) (p x r : ℕ) → p < length next → x ≤ get_or next p 0 → get_or (set next p x) r 0 ≤ get_or next r 0
entry-lowered next p x r inside low = elim (cases_eq r p) [
  | inl e ↦ subst (λ (m : ℕ). get_or (set next p x) m 0 ≤ get_or next m 0) (sym e) (rw (get_or-set_same next p x 0 inside) low)
  | inr other ↦ rw (get_or-set_other next p r x 0 other) (omega arith)
]

-- the latest stays the latest if the next step of another processor comes earlier
pub IsLatest-kept : (members q p x : ℕ) (next : List ℕ) → q ≢ p → p < length next
    → x ≤ get_or next p 0 → IsLatest members next (length next) q → IsLatest members (set next p x) (length (set next p x)) q
IsLatest-kept members q p x next other inside low latest = rw (length-set next p x) (record {
  within = rw (length-set next p x) latest.within;
  member = latest.member;
  greatest = λ r below start member.
      let lowered = entry-lowered next p x r inside low in
      rw (get_or-set_other next p q x 0 other) (omega (arith, latest.greatest r below start member, lowered));
  least = λ r below start member.
      let lowered = entry-lowered next p x r inside low in
      rw (get_or-set_other next p q x 0 other) (omega (arith, latest.least r below start member, lowered));
})

-- the latest of the members so far stays it if the next one isn't later
pub IsLatest-passed : (members p q : ℕ) (next : List ℕ)
    → IsLatest members next p q → (IsTrue (has_proc members p) → get_or next p 0 ≤ get_or next q 0) → IsLatest members next (p + 1) q
IsLatest-passed members p q next latest here = record {
  within = latest.within;
  member = latest.member;
  greatest = λ r below start member. elim (cases_eq r p) [
    | inl e ↦ subst (λ (m : ℕ). get_or next m 0 ≤ get_or next q 0) (sym e) (here (subst (λ (m : ℕ). IsTrue (has_proc members m)) e member))
    | inr other ↦ latest.greatest r (omega (arith, other, below)) start member
  ];
  least = latest.least;
}

-- a member whose next step comes later than that of all before it is the latest
pub IsLatest-taken : (members p q : ℕ) (next : List ℕ) → IsLatest members next p q
    → p < length next → IsTrue (has_proc members p) → get_or next q 0 < get_or next p 0 → IsLatest members next (p + 1) p
IsLatest-taken members p q next latest inside here later = record {
  within = inside;
  member = λ _. here;
  greatest = λ r below start member. elim (cases_eq r p) [
    | inl e ↦ rw e (omega arith)
    | inr other ↦ (let most = latest.greatest r (omega (arith, other, below)) start member in omega (arith, most, later))
  ];
  least = λ r below start member. (omega (arith, latest.greatest r below start member, later));
}
