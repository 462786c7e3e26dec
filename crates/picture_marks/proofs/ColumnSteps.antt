-- What it means that some of the first steps are in a column.
use Rattle.std.proofs.Common.{ℕ, ◌≡◌, ◌∙◌, ◌<◌, ◌≤◌, ◌==◌, Bool, true, false, inl, inr, ◌↔◌, List, [], ◌∷◌, length, Some, if◌then◌else◌, refl, zero, suc, arith, ap}
use Rattle.std.proofs.lemmas.Bool.{cases_lt, eqb-true, le-leb, lt-ltb, and_parts, and_from}
use Rattle.step_trace.specs.declared.processors.TheConstants.{MAX_MEMBER}
use Rattle.step_trace.specs.declared.steps.Step.{Step}
use Rattle.step_trace.specs.Ticks.{tick_of}
use Rattle.step_trace.specs.Traces.{Recorded, IsStepOf}
use Rattle.step_trace.proofs.StepPositions.{step_at_within}
use Rattle.picture_marks.specs.declared.report_rows.TheConstants.{COLUMNS}
use Rattle.picture_marks.specs.declared.strokes.Strokes.{Strokes}
use Rattle.picture_marks.specs.Messages.{proc_of}
use Rattle.picture_marks.specs.Rows.{column_in}
use Rattle.picture_marks.specs.Strokes.{StepsInColumn, ShowsSteps, busy_at, has_stroke, is_in_column, steps_to}

-- a step whose processor is this one
step_of : (steps : List Step) (k p : ℕ) → k < length steps → proc_of steps (suc k) ≡ p → IsStepOf steps (suc k) p
step_of [] k p inside e = absurd (omega (arith, inside))
step_of (x ∷ steps) zero p inside e = (x.act, ap (λ (q : ℕ). Some (record { proc = q; act = x.act })) e)
step_of (x ∷ steps) (suc k) p inside e = step_of steps k p (omega (arith, inside)) e

steps_so : (trace : Recorded) (columns p c n : ℕ)
    → n ≤ length trace.steps → steps_to trace columns p c n ≡ true → StepsInColumn trace columns p c
steps_so trace columns p c zero high h = cc
steps_so trace columns p c (suc n) high h =
    go (is_in_column trace columns p c (suc n)) refl h (λ e. steps_so trace columns p c n (omega (arith, high)) e)
  where
    go : (t : Bool) → is_in_column trace columns p c (suc n) ≡ t → (if t then true else steps_to trace columns p c n) ≡ true
        → (steps_to trace columns p c n ≡ true → StepsInColumn trace columns p c) → StepsInColumn trace columns p c
    go true e h before =
        let t = and_parts (proc_of trace.steps (suc n) == p) (column_in columns trace.last (tick_of trace (suc n)) == c) e in
        let step = step_of trace.steps n p (omega (arith, high)) (eqb-true _ _ t.0) in
        record { tick = tick_of trace (suc n); steps = record { place = suc n; step = step; tick = refl }; column = eqb-true _ _ t.1 }
    go false e h before = before h

steps_test : (trace : Recorded) (columns p c n k : ℕ)
    → 1 ≤ k → k ≤ n → is_in_column trace columns p c k ≡ true → steps_to trace columns p c n ≡ true
steps_test trace columns p c zero k low high e = absurd (omega arith)
steps_test trace columns p c (suc n) k low high e =
    go (is_in_column trace columns p c (suc n)) refl (λ l. steps_test trace columns p c n k low l e) where
      go : (t : Bool) → is_in_column trace columns p c (suc n) ≡ t
          → (k ≤ n → steps_to trace columns p c n ≡ true) → (if t then true else steps_to trace columns p c n) ≡ true
      go true f before = refl
      go false f before =
          elim (cases_lt n k) [
            | inl l ↦ let same : k ≡ suc n = omega arith in let yes = rw same at e in cc
            | inr l ↦ before l
          ]

-- the test of a step of p in a column
in_column : (trace : Recorded) (columns p c : ℕ) (g : StepsInColumn trace columns p c) → is_in_column trace columns p c g.steps.place ≡ true
in_column trace columns p c g =
    let own : proc_of trace.steps g.steps.place ≡ p = rw g.steps.step.1 refl in
    let tick : tick_of trace g.steps.place ≡ g.tick = g.steps.tick in
    let column : column_in columns trace.last g.tick ≡ c = g.column in
    grind (arith, own, tick, column)

pub steps_exact : (trace : Recorded) (columns p c : ℕ)
    → steps_to trace columns p c (length trace.steps) ≡ true ↔ StepsInColumn trace columns p c
steps_exact trace columns p c = (
  (λ h. steps_so trace columns p c (length trace.steps) (omega arith) h),
  (λ (g : StepsInColumn trace columns p c).
      let within = step_at_within trace.steps g.steps.place _ g.steps.step.1 in
      steps_test trace columns p c (length trace.steps) g.steps.place within.0 within.1 (in_column trace columns p c g)),
)

has_marked : (s : Strokes) (p c : ℕ) → p ≤ MAX_MEMBER → c < COLUMNS → has_stroke s p c ≡ busy_at s.busy.items p c
has_marked s p c high inside = let test = and_from _ _ (le-leb p MAX_MEMBER high) (lt-ltb c COLUMNS inside) in rw test refl

pub strokes_exact : (trace : Recorded) (s : Strokes) → ((p c : ℕ)
    → p ≤ MAX_MEMBER → c < COLUMNS → busy_at s.busy.items p c ≡ steps_to trace s.columns p c (length trace.steps)) → ShowsSteps trace s
strokes_exact trace s marked = record {
  each = λ p c high inside.
      let same = has_marked s p c high inside ∙ marked p c high inside in
      rw same (steps_exact trace s.columns p c);
}
