-- How soon a member passes its rounds, whatever it hears.
use Rattle.std.proofs.Common.{ℕ, zero, suc, ◌≡◌, ◌+◌, ◌-◌, ◌*◌, ◌<◌, ◌≤◌, List, take, length, Some, Bool, true, false, cond, refl, sym, ap, subst, ◌∙◌, arith, inl, inr}
use Rattle.std.proofs.lemmas.Bool.{cases_lt, true≢false}
use Rattle.std.proofs.lemmas.Option.{none-some, same_Some}
use Rattle.patience_laws.proofs.Common.{Receive, Step, Setup, has_proc, Recorded, step_at, IsStepOf, tick_of, IsTimed}
use Rattle.patience_laws.proofs.Common.{PhiHolds, round_at, act_ends, receiving, IsRun, sent_before, Paced, heard_ids}
use Rattle.patience_laws.proofs.Common.{after_receive, IsInRoundFrom, EachEnds, sends_to}
use Rattle.patience_laws.specs.PacedRuns.{pace_after, StepsByPace}
use Rattle.patience_laws.proofs.PacedSteps.{rounds_after, round-here, step-cases}
use Rattle.patience_laws.proofs.KnownRounds.{rounds-step, rounds-up}
use Rattle.patience_laws.proofs.RoundSends.{times-more, one-before, same-round, sends-in, receives, round-ends}
use Rattle.patience_laws.proofs.EndedReceives.{ends-out}
use Rattle.patience_laws.proofs.PatienceTicks.{pace-patience}
use Rattle.patience_laws.proofs.RoundMessages.{few-all}

module _ (c : Setup) (patience : ℕ) (steps : List Step) (p : ℕ) where
  abbrev left : ℕ → ℕ
  left n = (pace_after c patience steps p n).left

  -- what a Receive leaves of the patience, by whether it ended the round
  abbrev IsLeft : ℕ → Bool → Type 0
  IsLeft n true = (left (suc n) ≡ patience) × (rounds_after steps p (suc n) ≡ rounds_after steps p n + 1)
  IsLeft n false = (left (suc n) ≡ left n - 1) × (rounds_after steps p (suc n) ≡ rounds_after steps p n)

  pub left-received : (n : ℕ) (ids : List ℕ) (ends : Bool)
      → step_at steps (suc n) ≡ Some (record { proc = p; act = Receive ends ids }) → IsLeft n ends
  left-received n ids ends at = elim (step-cases c patience steps p n) [
    | inl still ↦ absurd (still.none ends ids at)
    | inr r ↦ (
        let same = same_Some (receiving p r.ends r.ids) (receiving p ends ids) (sym r.step ∙ at) in
        let is : r.ends ≡ ends = ap (λ (x : Step). act_ends x.act) same in
        let x = heard_ids (take n steps) p r.ids (pace_after c patience steps p n) in
        of ends x (pace-patience c patience steps p n)
        (ap (λ (y : Paced). y.left) r.pace ∙ ap (λ b. (after_receive b (rounds_after steps p n + 1) x).left) is)
        (r.round ∙ ap (λ b. rounds_after steps p n + cond b 1 0) is) refl)
  ]
    where
      of : (b : Bool) (x : Paced) → x.patience ≡ patience → left (suc n) ≡ (after_receive b (rounds_after steps p n + 1) x).left
          → rounds_after steps p (suc n) ≡ rounds_after steps p n + cond b 1 0 → x.left ≡ left n → IsLeft n b
      of true x e new round same = (new ∙ e, round)
      of false x e new round same = (new ∙ ap (λ m. m - 1) same, round ∙ omega arith)

  -- never more than the patience
  pub left-most : (n : ℕ) → left n ≤ patience
  unfolding pace_after
  left-most zero = omega arith
  left-most (suc n) = elim (step-cases c patience steps p n) [
    | inl still ↦ (let e = ap (λ (y : Paced). y.left) still.pace in let before = left-most n in omega arith)
    | inr r ↦ of r.ends (left-received n r.ids r.ends r.step) (left-most n)
  ]
    where
      of : (b : Bool) → IsLeft n b → left n ≤ patience → left (suc n) ≤ patience
      of true is before = let e = is.0 in omega arith
      of false is before = let e = is.0 in omega arith

  -- and in a round it only falls
  left-falls : (n more : ℕ) → rounds_after steps p (n + more) ≡ rounds_after steps p n → left (n + more) ≤ left n
  left-falls n zero same = let e : n + 0 ≡ n = omega arith in let f = ap left e in omega arith
  left-falls n (suc more) same =
      let e : n + suc more ≡ suc (n + more) = omega arith in
      let same_end = ap (rounds_after steps p) e in
      let same_left = ap left e in
      let low = rounds-up c patience steps p n (n + more) (omega arith) in
      let step = rounds-step c patience steps p (n + more) in
      let before = left-falls n more (omega arith) in
      elim (step-cases c patience steps p (n + more)) [
        | inl still ↦ (let f = ap (λ (y : Paced). y.left) still.pace in omega arith)
        | inr r ↦ (let g : left (suc (n + more)) ≤ left (n + more) =
            of r.ends (left-received (n + more) r.ids r.ends r.step) (omega arith) in omega arith)
      ]
    where
      of : (b : Bool) → IsLeft (n + more) b → rounds_after steps p (suc (n + more)) ≤ rounds_after steps p (n + more)
          → left (suc (n + more)) ≤ left (n + more)
      of true is low = absurd (let e = is.1 in omega arith)
      of false is low = let e = is.0 in omega arith

module _ (trace : Recorded) (patience set g f p : ℕ) (run : IsRun trace.config trace.steps) (time : IsTimed trace)
    (paced : StepsByPace trace.config patience trace.steps p) (member : has_proc set p ≡ true) (phi : PhiHolds set trace g f) where
  abbrev remains : ℕ → ℕ
  remains n = left trace.config patience trace.steps p n

  module _ (round x : ℕ) (since : g ≤ x) (there : IsInRoundFrom trace p round x)
      (most : ℕ) (few : length (sends_to trace.config trace.steps p round) ≤ most) where
    -- a Receive that ends no round uses the patience up
    uses : (j k : ℕ) (ids : List ℕ) (ends : Bool)
        → step_at trace.steps j ≡ Some (record { proc = p; act = Receive ends ids }) → round_at trace.steps p j ≡ round
        → j < k → round_at trace.steps p k ≡ round → remains (k - 1) + 1 ≤ remains (j - 1)
    uses zero k ids ends at here l there_too = absurd (none-some _ at)
    uses (suc j) k ids ends at here l there_too = of ends refl
      where
        within : rounds_after trace.steps p (suc j) ≤ rounds_after trace.steps p (k - 1)
        within = rounds-up trace.config patience trace.steps p (suc j) (k - 1) (omega arith)

        of : (b : Bool) → ends ≡ b → remains (k - 1) + 1 ≤ remains (suc j - 1)
        of true e =
            let is = left-received trace.config patience trace.steps p j ids true
            (at ∙ ap (λ b. Some (record { proc = p; act = Receive b ids })) e) in
            let up = within in
            absurd (omega (arith, round-here trace.steps p j, is.1))
        of false e =
            let is = left-received trace.config patience trace.steps p j ids false
            (at ∙ ap (λ b. Some (record { proc = p; act = Receive b ids })) e) in
            let next = is.0 in
            let still = is.1 in
            let a = round-here trace.steps p j in
            let up = within in
            let f1 : suc j + (k - 1 - suc j) ≡ k - 1 = omega arith in
            let f2 = ap remains f1 in
            let f3 = ap (rounds_after trace.steps p) f1 in
            let falls = left-falls trace.config patience trace.steps p (suc j) (k - 1 - suc j) (omega arith) in
            let f4 : suc j - 1 ≡ j = omega arith in
            let f5 = ap remains f4 in
            elim (cases_lt 1 (remains j)) [
              | inl many ↦ omega arith
              | inr out ↦ absurd
                  (true≢false (sym (ends-out trace.config patience trace.steps p run.well_formed j ids ends at paced out) ∙ e))
            ]

    -- in i times f ticks after all is sent, i Receives are used up
    uses-in : (i k : ℕ) → IsStepOf trace.steps k p
        → x + most * f + i * f ≤ tick_of trace k → round_at trace.steps p k ≡ round → remains (k - 1) + i ≤ patience
    uses-in zero k is late here = let l = left-most trace.config patience trace.steps p (k - 1) in omega arith
    uses-in (suc i) k is late here =
        let e = times-more i f in
        let one = one-before trace patience set g f p run time paced member phi (x + most * f + i * f) k (omega arith) is (omega arith) in
        let from = one.from in
        let l = one.earlier in
        let same = same-round trace patience set g f p run time paced member phi round x since there one.place k one.act one.at
        (omega arith) (omega arith) here in
        let sent : length (sends_to trace.config trace.steps p round) ≤ sent_before trace.steps p round one.place =
        elim (sends-in trace patience set g f p run time paced member phi round x since there most one.place
        (one.act, one.at) (omega arith) same) [
          | inl enough ↦ omega arith
          | inr all ↦ all
        ] in
        let r = receives trace patience set g f p run time paced member phi round x since there one.place one.act one.at same sent in
        let at : step_at trace.steps one.place ≡ Some (record { proc = p; act = Receive r.1 r.0 }) =
        subst (λ a. step_at trace.steps one.place ≡ Some (record { proc = p; act = a })) r.2 one.at in
        omega (arith, uses-in i one.place (one.act, one.at) from same, uses one.place k r.0 r.1 at same l here)

    -- So its patience ends the round, if nothing else does.
    pub patience-ends : IsInRoundFrom trace p (round + 1) (x + most * f + patience * f + f)
    patience-ends = round-ends trace patience set g f p run time paced member phi round x since there most
        (x + most * f + patience * f) few (omega arith) each where
          each : EachEnds trace p round (x + most * f + patience * f)
          each zero ids ends at here late = absurd (none-some _ at)
          each (suc k) ids ends at here late =
              let used = uses-in patience (suc k) (Receive ends ids, at) late here in
              let e : suc k - 1 ≡ k = omega arith in
              let f1 = ap remains e in
              ends-out trace.config patience trace.steps p run.well_formed k ids ends at paced (omega arith)

  -- No member is stuck: it passes so many rounds in so many times (N + P + 1) f ticks.
  pub passes-rounds : (count round x : ℕ) → g ≤ x → IsInRoundFrom trace p round x
      → IsInRoundFrom trace p (round + count) (x + count * ((trace.config.n + patience + 1) * f))
  passes-rounds zero round x since there =
      let e : round + 0 ≡ round = omega arith in
      let z : x + 0 * ((trace.config.n + patience + 1) * f) ≡ x = grind arith in
      subst (λ r. IsInRoundFrom trace p r (x + 0 * ((trace.config.n + patience + 1) * f)))
      (sym e) (subst (IsInRoundFrom trace p round) (sym z) there)
  passes-rounds (suc count) round x since there =
      let e : round + count + 1 ≡ round + suc count = omega arith in
      let z : x + count * ((trace.config.n + patience + 1) * f) + trace.config.n * f + patience * f + f
      ≡ x + suc count * ((trace.config.n + patience + 1) * f) = grind arith in
      subst (λ r. IsInRoundFrom trace p r (x + suc count * ((trace.config.n + patience + 1) * f))) e
      (subst (IsInRoundFrom trace p (round + count + 1)) z
      (patience-ends (round + count) (x + count * ((trace.config.n + patience + 1) * f))
      (omega arith) (passes-rounds count round x since there) trace.config.n (few-all trace.config trace.steps p (round + count))))
