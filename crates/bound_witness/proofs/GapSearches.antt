-- The gap of one length that a search has found so far, and the named gap at its end.
use Rattle.std.proofs.Common.{ℕ, ◌≡◌, ◌≢◌, ◌+◌, ◌-◌, ◌≤◌, inl, inr, Option, Some, None, false, arith, subst, sym}
use Rattle.std.proofs.lemmas.Bool.{cases_lt}
use Rattle.std.specs.Prelude.{MatchOption, is_some}
use Rattle.bound_witness.proofs.Common.{Gap, Recorded, PhiHolds, StepsWithin, IsPhi, IsGap, IsNamedGap, NamesGap, AllStepWithin, IsFirstSilent}

-- all members take a step in each window of this length within the trace that begins in tick x or later
pub record AllStepFrom (set : ℕ) (trace : Recorded) (span x : ℕ) : Type 0 where
  pub each : (y : ℕ) → x ≤ y → y + span ≤ trace.last + 1 → AllStepWithin set trace y span

-- if these are all windows the bound holds
pub PhiHolds-from_all : (set : ℕ) (trace : Recorded) (g span x : ℕ) → x ≤ g → AllStepFrom set trace span x
    → PhiHolds set trace g span
PhiHolds-from_all set trace g span x first b = record { each = λ y l k. (b.each y (omega arith) (omega arith)).each }

-- a member of a gap doesn't step in its window
gap_silent : (set : ℕ) (trace : Recorded) (span : ℕ) (o : Gap) → IsGap set trace o → o.from + span ≡ o.to + 1
    → ¬ StepsWithin trace o.proc o.from span
gap_silent set trace span o i e s = let u = s.until in i.silent s.tick s.from (omega arith) s.step

-- before these windows, that of a silent member is the named gap
pub IsNamedGap-found : (set : ℕ) (trace : Recorded) (g span p k x : ℕ) → 1 ≤ g → 1 ≤ span → g ≤ k
    → k + span ≤ trace.last + 1 → x ≤ k + 1 → IsFirstSilent set trace k span p → AllStepFrom set trace span x
    → IsNamedGap set trace g (span + 1) (record { proc = p; from = k; to = k + span - 1 })
IsNamedGap-found set trace g span p k x start positive from inside next first b = record {
  gap = record {
    member = first.member;
    start = omega arith;
    order = omega arith;
    inside = omega arith;
    silent = λ z m n s. first.silent (record { tick = z; from = m; until = omega arith; step = s });
  };
  from = from;
  long = omega arith;
  greatest = λ v i l e. elim (cases_lt k v.from) [
    | inl a ↦ (let j = i.inside in
        absurd (gap_silent set trace span v i (omega arith) ((b.each v.from (omega arith) (omega arith)).each v.proc i.member)))
    | inr a ↦ a
  ];
  least = λ v i q e. elim (cases_lt v.proc p) [
    | inl a ↦ absurd (gap_silent set trace span v i (omega arith)
        (subst (λ n. StepsWithin trace v.proc n span) (sym q) (first.least v.proc i.member a)))
    | inr a ↦ a
  ];
}

-- for a least bound above 1 there is a gap one step shorter
pub NamesGap-found : (set : ℕ) (trace : Recorded) (g f : ℕ) (found : Option Gap) → IsPhi set trace g f → f ≢ 1
    → MatchOption found (PhiHolds set trace g (f - 1)) (IsNamedGap set trace g (f - 1 + 1))
    → NamesGap set trace g f found
NamesGap-found set trace g f None h k n =
    let e : f ≤ f - 1 = h.least (f - 1) (omega (arith, h.positive)) n in
    absurd (omega (arith, h.positive))
NamesGap-found set trace g f (Some w) h k n =
    (omega (arith, h.positive), subst (λ e. IsNamedGap set trace g e w) (omega (arith, h.positive)) n)

-- what the first silent member says if there is one, and if there is none
pub all_step : (set : ℕ) (trace : Recorded) (x f : ℕ) (o : Option ℕ) → is_some o ≡ false
    → MatchOption o (AllStepWithin set trace x f) (IsFirstSilent set trace x f) → AllStepWithin set trace x f
all_step set trace x f None e h = h
all_step set trace x f (Some p) e h = cc
