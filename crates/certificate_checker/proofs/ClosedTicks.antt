-- Which ticks are closed by the ends of silences that are noted and carried on.
use Rattle.std.proofs.Common.{ℕ, ◌≡◌, ◌+◌, ◌<◌, ◌≤◌, inl, inr, List, IsTrue, length, get_or, sym, subst, ◌∙◌, arith}
use Rattle.std.proofs.lemmas.Bool.{cases_eq, cases_lt, lt-ltb, le-ltb}
use Rattle.std.proofs.lemmas.List.{get_or_default}
use Rattle.certificate_checker.proofs.Common.{has_proc, IsWithin, Recorded, IsTimed, StepsIn, Silence, IsNextStep}
use Rattle.certificate_checker.proofs.Common.{IsSilence, HasSilent, AreClosings, IsReached, PutsEnds, KnowsEnds}
use Rattle.certificate_checker.proofs.Common.{IsRaised, IsCarried}
use Rattle.certificate_checker.proofs.NextSteps.{ArePassed, IsNextStep-at, IsNextStep-none}

-- what is reached is reached if no end is taken away
IsReached-kept : (t : Recorded) (p x : ℕ) (old new : List ℕ)
    → ((y : ℕ) → get_or old y 0 ≤ get_or new y 0) → IsReached t p old x → IsReached t p new x
IsReached-kept t p x old new kept r = record {
  next = r.next;
  is = r.is;
  start = r.start;
  low = r.low;
  far = λ some. (let far = r.far some in let more = kept r.start in omega (arith, far, more));
}

-- one end more, of the silence that begins in tick `from`
PutsEnds-raise : (t : Recorded) (p from end until : ℕ) (old mid new : List ℕ) → length old ≡ t.last + 1
    → PutsEnds t p from old mid → IsRaised from end mid new → end ≤ t.last + 1 → ((z : ℕ) → from ≤ z → z < end → ¬ StepsIn t z p)
    → ((x : ℕ) → from ≤ x → x < until → x ≤ t.last → IsNextStep t p x end) → PutsEnds t p until old new
PutsEnds-raise t p from end until old mid new size k raised high silent next = record {
  long = raised.long ∙ k.long;
  kept = λ x. (let a = k.kept x in let b = raised.kept x in omega (arith, a, b));
  own = λ x. elim (raised.own x) [
    | inl same ↦ elim (k.own x) [
      | inl before ↦ inl (same ∙ before)
      | inr own ↦ inr ((λ z a b. own.0 z a (omega (arith, b, same))), (let limit = own.1 in omega (arith, limit, same)))
    ]
    | inr here ↦ (let at = here.0 in let e = here.1 in
        inr ((λ z a b. silent z (omega (arith, a, at)) (omega (arith, b, e))), omega (arith, e, high)))
  ];
  reach = λ x below inside. elim (cases_lt x from) [
    | inl early ↦ IsReached-kept t p x mid new raised.kept (k.reach x early inside)
    | inr late ↦ record {
      next = end;
      is = next x late below inside;
      start = from;
      low = late;
      far = λ _. raised.here (let long = k.long in omega (arith, late, inside, long, size));
    }
  ];
}

-- the first i ticks are below `from`
abbrev pub AreBefore : Silence → ℕ → ℕ → Type 0
AreBefore s i from = (k : ℕ) → k < i → get_or s.ticks.items k 0 < from

-- from there on the place of the next step is known
passed_from : (t : Recorded) (p i from x : ℕ) (s : Silence) → IsSilence t p s → AreBefore s i from
    → i ≤ length s.ticks.items → from ≤ x → (i < length s.ticks.items → x ≤ get_or s.ticks.items i 0) → ArePassed x i s
passed_from t p i from x s known before size late upto = (
  (λ k d low below.
      let e = get_or_default s.ticks.items k 0 d (omega (arith, below, size)) in
      lt-ltb _ _ (omega (arith, before k below, e, late))),
  (λ k d low inside.
      let e = get_or_default s.ticks.items i 0 d (omega (arith, low, inside)) in
      let high = upto (omega (arith, low, inside)) in
      le-ltb _ _ (omega (arith, known.rising i k d low inside, e, high))),
)

-- with the end of the silence before the next tick
pub PutsEnds-tick : (t : Recorded) (p i from tick : ℕ) (s : Silence) (old mid new : List ℕ)
    → IsTimed t → IsSilence t p s → length old ≡ t.last + 1 → AreBefore s i from → i < length s.ticks.items
    → tick ≡ get_or s.ticks.items i 0 → PutsEnds t p from old mid → IsRaised from tick mid new → PutsEnds t p (tick + 1) old new
PutsEnds-tick t p i from tick s old mid new time known size before inside at k raised =
    let own = known.own i 0 inside in
    let limit = (time.inside own.place _ own.step.1).1 in
    let next = λ (x : ℕ) (late : from ≤ x) (below : x < tick + 1).
    subst (λ (y : ℕ). IsNextStep t p x y) (sym at) (IsNextStep-at t p x i s time known
    (passed_from t p i from x s known before (omega (arith, inside)) late (λ _. omega (arith, below, at))) inside) in
    PutsEnds-raise t p from tick (tick + 1) old mid new size k raised (omega (arith, limit, own.tick, at))
    (λ z a b. elim (cases_lt from tick) [
      | inl some ↦ (next from (omega (arith, own.tick)) (omega (arith, some))).silent z a b
      | inr none ↦ absurd (omega (arith, none, a, b))
    ])
    (λ x late below _. next x late below)

-- and of the silence after the last
pub PutsEnds-last : (t : Recorded) (p from : ℕ) (s : Silence) (old mid new : List ℕ) → IsSilence t p s → length old ≡ t.last + 1 → AreBefore
    s (length s.ticks.items) from → PutsEnds t p from old mid → IsRaised from (t.last + 1) mid new → PutsEnds t p (t.last + 1) old new
PutsEnds-last t p from s old mid new known size before k raised =
    let count = length s.ticks.items in
    let next = λ (x : ℕ) (late : from ≤ x) (inside : x ≤ t.last).
    IsNextStep-none t p x count s known
    (passed_from t p count from x s known before (omega arith) late (λ l. absurd (omega (arith, l))))
    (omega arith) inside in
    PutsEnds-raise t p from (t.last + 1) (t.last + 1) old mid new size k raised (omega arith)
    (λ z a b. (next z a (omega (arith, b))).silent z (omega arith) (let n = (next z a (omega (arith, b))).until in omega (arith, b)))
    (λ x late _ inside. next x late inside)

-- the ends of one member more
pub KnowsEnds-member : (set : ℕ) (t : Recorded) (p : ℕ) (old new : List ℕ)
    → IsTrue (has_proc set p) → PutsEnds t p (t.last + 1) old new → KnowsEnds set t p old → KnowsEnds set t (p + 1) new
KnowsEnds-member set t p old new member puts k = record {
  long = puts.long ∙ k.long;
  silent = λ x some. elim (puts.own x) [
    | inl same ↦ (let before = k.silent x (omega (arith, some, same)) in
        subst (λ (y : ℕ). HasSilent set t x y × (y ≤ t.last + 1)) (sym same) before)
    | inr own ↦ (record { proc = p; member = member; silent = own.0 }, own.1)
  ];
  reach = λ q m below x inside. elim (cases_eq q p) [
    | inl same ↦ subst (λ (r : ℕ). IsReached t r new x) (sym same) (puts.reach x (omega (arith, inside)) inside)
    | inr other ↦ IsReached-kept t q x old new puts.kept (k.reach q m (omega (arith, below, other)) x inside)
  ];
}

-- of no member there are none
pub KnowsEnds-other : (set : ℕ) (t : Recorded) (p : ℕ) (ends : List ℕ)
    → (¬ IsTrue (has_proc set p)) → KnowsEnds set t p ends → KnowsEnds set t (p + 1) ends
KnowsEnds-other set t p ends outside k = record {
  long = k.long;
  silent = k.silent;
  reach = λ q m below x inside. elim (cases_eq q p) [
    | inl same ↦ absurd (outside (subst (λ (r : ℕ). IsTrue (has_proc set r)) same m))
    | inr other ↦ k.reach q m (omega (arith, below, other)) x inside
  ];
}

-- if the ends of all members are carried on, they close the ticks
pub AreClosings-carried : (set : ℕ) (t : Recorded) (number : ℕ) (ends new : List ℕ) → IsWithin set t.config.n
    → t.config.n < number → KnowsEnds set t number ends → IsCarried ends new → AreClosings set t new
AreClosings-carried set t number ends new within all k carried = record {
  long = carried.long ∙ k.long;
  each = λ x inside.
      let latest = carried.each x (let long = k.long in omega (arith, long, inside)) in
      record {
        from = latest.from;
        until = elim (cases_lt x (get_or new x 0)) [
          | inl some ↦ (let o = latest.own some in
              let limit = (k.silent o.0 (omega (arith, o.1, o.2, some))).1 in
              omega (arith, limit, o.2))
          | inr none ↦ omega (arith, none, inside)
        ];
        full = λ high p member. (let r = k.reach p member (let range = within p member in omega (arith, range, all)) x inside in
            let upto : r.next ≤ get_or new x 0 = elim (cases_lt x r.next) [
              | inl some ↦ (let far = r.far some in let most = latest.all r.start r.low in omega (arith, far, most))
              | inr none ↦ (let from = latest.from in omega (arith, none, from))
            ] in
            record { tick = r.next; from = r.is.from; until = upto; step = r.is.step (omega (arith, upto, high)) });
        unmet = λ some. (let o = latest.own some in
            let low = o.1 in
            let e = o.2 in
            let h = (k.silent o.0 (omega (arith, low, e, some))).0 in
            record { proc = h.proc; member = h.member; silent = λ z a b. h.silent z (omega (arith, low, a)) (omega (arith, e, b)) });
      };
}
