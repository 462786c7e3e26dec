-- The ticks of the steps of a processor, as the steps are scanned.
use Rattle.std.proofs.Common.{ℕ, ◌≡◌, ◌≢◌, ◌+◌, ◌-◌, ◌<◌, ◌≤◌, inl, inr, List, [], ◌∷◌, ◌++◌, IsTrue, length, get_or, set, refl, ap, sym, subst, ◌∙◌, arith, get_or-set_same, get_or-set_other}
use Rattle.std.specs.Prelude.{All, Contains}
use Rattle.std.specs.List.Sorted.{IsNonDecreasing}
use Rattle.std.proofs.lemmas.Bool.{cases_eq}
use Rattle.std.proofs.lemmas.List.{length-set}
use Rattle.std.proofs.lemmas.List.Elements.{All-nil, All-push, Contains-push, Contains-append_left}
use Rattle.std.proofs.lemmas.List.Sorted.{IsNonDecreasingBy-short, IsNonDecreasingBy-push}
use Rattle.std.proofs.lemmas.Option.{slice_get_within, slice_get_read, get_or_from_slice_get}
use Rattle.step_trace.proofs.StepPositions.{same_step}
use Rattle.certificate_checker.proofs.Common.{Step, has_proc, Recorded, IsStepOf, tick_of, IsTimed, StepsIn, step_at_within, ticks_rise, Silence, IsSilence, AreSilences, KnowsSilence, KnowsSilences}

-- before the first step
pub KnowsSilence-before_all : (t : Recorded) (p : ℕ) (s : Silence) → s.ticks.items ≡ [] → KnowsSilence t p 1 s
KnowsSilence-before_all t p s none = record {
  rising = IsNonDecreasingBy-short (λ x. x) s.ticks.items (let l = ap length none in omega (arith, l));
  own = subst (λ (xs : List ℕ). All (λ x. StepsIn t x p) xs) (sym none) (All-nil (λ x. StepsIn t x p));
  each = λ k l i. absurd (let inside = step_at_within t.steps k _ i.1 in omega (arith, l, inside));
  rest = λ k l i. subst (λ (xs : List ℕ). All (λ x. x ≤ tick_of t k) xs) (sym none) (All-nil (λ x. x ≤ tick_of t k));
}

-- over a step of another processor nothing changes
KnowsSilence-other : (t : Recorded) (p number : ℕ) (s : Silence)
    → (¬ IsStepOf t.steps number p) → KnowsSilence t p number s → KnowsSilence t p (number + 1) s
KnowsSilence-other t p number s other k = record {
  rising = k.rising;
  own = k.own;
  each = λ j l i. elim (cases_eq j number) [
    | inl e ↦ absurd (other (subst (λ (m : ℕ). IsStepOf t.steps m p) e i))
    | inr e ↦ k.each j (omega (arith, e, l)) i
  ];
  rest = λ j l i. k.rest j (omega (arith, l)) i;
}

-- over a step of the processor its tick comes last
pub KnowsSilence-own : (t : Recorded) (p number tick : ℕ) (old new : Silence) → IsTimed t → IsStepOf t.steps number p → tick
    ≡ tick_of t number → new.ticks.items ≡ old.ticks.items ++ tick ∷ [] → KnowsSilence t p number old → KnowsSilence t p (number + 1) new
KnowsSilence-own t p number tick old new time own at more k = record {
  rising = subst IsNonDecreasing (sym more) (IsNonDecreasingBy-push (λ x. x) old.ticks.items tick k.rising (λ d some.
      let high = k.rest number (omega arith) own (length old.ticks.items - 1) d (omega (arith, some)) in omega (arith, high, at)));
  own = subst (λ (xs : List ℕ). All (λ x. StepsIn t x p) xs)
      (sym more) (All-push (λ x. StepsIn t x p) old.ticks.items tick k.own (record { place = number; step = own; tick = sym at }));
  each = λ j l i. subst (λ (xs : List ℕ). Contains xs (tick_of t j)) (sym more) (elim (cases_eq j number) [
    | inl same ↦ subst (λ (x : ℕ). Contains (old.ticks.items ++ tick ∷ []) x)
        (at ∙ ap (tick_of t) (sym same)) (Contains-push old.ticks.items tick)
    | inr other ↦ Contains-append_left old.ticks.items (tick ∷ []) (tick_of t j) (k.each j (omega (arith, other, l)) i)
  ]);
  rest = λ j l i. subst (λ (xs : List ℕ). All (λ x. x ≤ tick_of t j) xs) (sym more) (All-push (λ x. x ≤ tick_of t j) old.ticks.items tick
      (k.rest j (omega (arith, l)) i) (let q = ticks_rise t time number j _ _ own.1 i.1 (omega (arith, l)) in omega (arith, q, at)));
}

-- a step is of one processor
step_unique : (steps : List Step) (x p q : ℕ) → IsStepOf steps x p → IsStepOf steps x q → p ≡ q
step_unique steps x p q g h = ap (λ (z : Step). z.proc) (same_step steps x _ _ g.1 h.1)

-- over a step of q another silence takes its place, and the others are unchanged
pub KnowsSilences-note : (members : ℕ) (t : Recorded) (number q : ℕ) (old : List Silence) (now : Silence)
    → IsStepOf t.steps number q → KnowsSilence t q (number + 1) now → KnowsSilences members t number old
    → KnowsSilences members t (number + 1) (set old q now)
KnowsSilences-note members t number q old now own known k = record {
  long = length-set old q now ∙ k.long;
  each = λ p s member h. (let inside = slice_get_within (set old q now) p s h in
      let e = get_or_from_slice_get (set old q now) p s s h in
      let long = length-set old q now in
      elim (cases_eq p q) [
        | inl same ↦ (let here = get_or-set_same old q now s (omega (arith, inside, long, same)) in
            let is : now ≡ s = sym here ∙ ap (λ (m : ℕ). get_or (set old q now) m s) (sym same) ∙ e in
            subst (λ (m : ℕ). KnowsSilence t m (number + 1) s)
            (sym same) (subst (λ (y : Silence). KnowsSilence t q (number + 1) y) is known))
        | inr apart ↦ (let a : p ≢ q = apart in
            let stays = get_or-set_other old q p now s a in
            KnowsSilence-other t p number s (λ i. a (step_unique t.steps number p q i own))
            (k.each p s member (slice_get_read old (length old) p s refl (omega (arith, inside, long)) (sym e ∙ stays))))
      ]);
}

-- over a step of a processor outside the set nothing changes
pub KnowsSilences-other : (members : ℕ) (t : Recorded) (number q : ℕ) (silences : List Silence) → IsStepOf t.steps number q
    → (¬ IsTrue (has_proc members q)) → KnowsSilences members t number silences → KnowsSilences members t (number + 1) silences
KnowsSilences-other members t number q silences own outside k = record {
  long = k.long;
  each = λ p s member h. KnowsSilence-other t p number s
      (λ i. outside (subst (λ (m : ℕ). IsTrue (has_proc members m)) (step_unique t.steps number p q i own) member)) (k.each p s member h);
}

-- after the last step each tick of a step is known
IsSilence-after_all : (t : Recorded) (p number : ℕ) (s : Silence) → length t.steps < number → KnowsSilence t p number s → IsSilence t p s
IsSilence-after_all t p number s all k = record {
  rising = k.rising;
  own = k.own;
  each = λ x w. subst (λ (y : ℕ). Contains s.ticks.items y) w.tick
      (let inside = step_at_within t.steps w.place _ w.step.1 in k.each w.place (omega (arith, inside, all)) w.step);
}

pub AreSilences-after_all : (members : ℕ) (t : Recorded) (number : ℕ) (silences : List Silence)
    → length t.steps < number → KnowsSilences members t number silences → AreSilences members t silences
AreSilences-after_all members t number silences all k = record {
  long = k.long;
  each = λ p s member h. IsSilence-after_all t p number s all (k.each p s member h);
}
