-- Steps in pages, of which a trace takes one after the other.
use Rattle.std.proofs.Common.{◌≡◌, ◌+◌, ◌∙◌, ℕ, List, [], ◌∷◌, ◌++◌, length, Option, Some, None, Result, Ok, refl, ap, arith, length-append}
use Rattle.std.specs.Prelude.{All}
use Rattle.std.proofs.lemmas.List.Elements.{All-head, All-tail}
use Rattle.step_trace.specs.declared.steps.Step.{Step}
use Rattle.step_trace.specs.declared.traces.PushError.{PushError}
use Rattle.step_trace.specs.declared.loose_steps.StepRefused.{StepRefused}
use Rattle.step_trace.specs.Traces.{Recorded}
use Rattle.step_trace.specs.Ticks.{with_step}
use Rattle.step_trace.specs.TickRefusals.{refusal_in}
use Rattle.step_trace.specs.PlacedSteps.{Ticked}
use Rattle.step_trace.specs.AppendedSteps.{appended, unless_refused, IsStepRefusal}
use Rattle.trace_text.specs.Records.{◌>>=◌}
use Rattle.shared_reading.specs.PagedSteps.{IsPaired, steps_of, ticks_of}

-- one list of steps behind another
appended-append : (t : Recorded) (xs ys : List Step) (ts us : List ℕ)
    → length ts ≡ length xs → appended t (xs ++ ys) (ts ++ us) ≡ (appended t xs ts >>= λ u. appended u ys us)
unfolding appended
appended-append t [] ys [] us h = refl
appended-append t [] ys (tick ∷ ts) us h = absurd (omega (arith, h))
appended-append t (x ∷ xs) ys [] us h = absurd (omega (arith, h))
appended-append t (x ∷ xs) ys (tick ∷ ts) us h = go
    (refusal_in t tick x) _ _ (appended-append (with_step t tick x) xs ys ts us (omega (arith, h))) where
      go : (o : Option PushError) (a b : Result Recorded StepRefused) → a ≡ (b >>= λ u. appended u ys us)
          → unless_refused o (length t.steps + 1) a ≡ (unless_refused o (length t.steps + 1) b >>= λ u. appended u ys us)
      go None a b k = k
      go (Some why) a b k = refl

-- if the trace takes the first of them, the others are appended to what it is then
pub appended-ok : (t u : Recorded) (xs ys : List Step) (ts us : List ℕ)
    → length ts ≡ length xs → appended t xs ts ≡ Ok u → appended t (xs ++ ys) (ts ++ us) ≡ appended u ys us
appended-ok t u xs ys ts us h taken = appended-append t xs ys ts us h
    ∙ ap (λ (r : Result Recorded StepRefused). r >>= λ w. appended w ys us) taken

-- if it refuses one of the first, the others make no difference
pub appended-err : (t : Recorded) (xs ys : List Step) (ts us : List ℕ) (e : StepRefused) → length ts ≡ length xs
    → IsStepRefusal (appended t xs ts) e → IsStepRefusal (appended t (xs ++ ys) (ts ++ us)) e
appended-err t xs ys ts us e h refused other = appended-append t xs ys ts us h
    ∙ ap (λ (r : Result Recorded StepRefused). r >>= λ w. appended w ys us) (refused other)

-- each step of the pages has a tick
pub paired-all : (pages : List Ticked) → All IsPaired pages → length (ticks_of pages) ≡ length (steps_of pages)
paired-all [] h = refl
paired-all (page ∷ pages) h =
    let first : length page.ticks ≡ length page.steps = All-head IsPaired page pages h in
    let rest = paired-all pages (All-tail IsPaired page pages h) in
    omega (arith, first, rest, length-append page.ticks (ticks_of pages), length-append page.steps (steps_of pages))

-- no page is left
pub none-left : (t : Recorded) (pages : List Ticked) → length pages ≡ 0 → appended t (steps_of pages) (ticks_of pages) ≡ Ok t
unfolding appended
none-left t [] h = refl
none-left t (page ∷ pages) h = absurd (omega (arith, h))
