-- Steps as lines that are numbered one after the other.
use Rattle.std.proofs.Common.{◌≡◌, ◌≢◌, ◌≤◌, ◌<◌, ◌+◌, ◌-◌, ◌∙◌, ◌==◌, ℕ, suc, List, [], ◌∷◌, ◌++◌, length, Option, Some, None, Result, Ok, Err, true, refl, sym, ap, arith, length-append}
use Rattle.std.specs.Prelude.{MatchBool, ⊤}
use Rattle.std.proofs.lemmas.Bool.{eqb-true, ne_eqb}
use Rattle.std.proofs.lemmas.Bool.Decides.{nat_tests}
use Rattle.step_trace.specs.declared.steps.Step.{Step}
use Rattle.step_trace.specs.declared.traces.PushError.{PushError}
use Rattle.step_trace.specs.declared.traces.PushError.TheVariants.{Memory}
use Rattle.step_trace.specs.declared.loose_steps.StepRefused.{StepRefused}
use Rattle.step_trace.specs.Traces.{Recorded}
use Rattle.step_trace.specs.Ticks.{with_step}
use Rattle.step_trace.specs.TickRefusals.{refusal_in}
use Rattle.step_trace.specs.PlacedSteps.{Ticked}
use Rattle.step_trace.specs.AppendedSteps.{appended, unless_refused, IsStepRefusal}
use Rattle.trace_text.specs.declared.versions.Version.{Version}
use Rattle.trace_text.specs.declared.reading.Stage.{Stage}
use Rattle.trace_text.specs.declared.reading.Stage.TheVariants.{Recording}
use Rattle.trace_text.specs.declared.refusals.TextError.{TextError}
use Rattle.trace_text.specs.declared.refusals.TextError.TheVariants.{BadStep, WrongNumber}
use Rattle.trace_text.specs.TextRefusals.{is_memory}
use Rattle.shared_reading.specs.declared.lines.Line.{Line}
use Rattle.shared_reading.specs.PagedSteps.{IsPaired}
use Rattle.shared_reading.specs.Lines.{numbered, is_next, with_next, accepted, after_lines, refused_for}

-- one list of steps behind another
numbered-append : (n : ℕ) (xs ys : List Step) (ts us : List ℕ)
    → length ts ≡ length xs → numbered n (xs ++ ys) (ts ++ us) ≡ numbered n xs ts ++ numbered (n + length xs) ys us
numbered-append n [] ys [] us h = let e : n + 0 ≡ n = omega arith in rw e refl
numbered-append n [] ys (t ∷ ts) us h = absurd (omega (arith, h))
numbered-append n (x ∷ xs) ys [] us h = absurd (omega (arith, h))
numbered-append n (x ∷ xs) ys (t ∷ ts) us h =
    let e : n + suc (length xs) ≡ (n + 1) + length xs = omega arith in
    rw (numbered-append (n + 1) xs ys ts us (omega (arith, h)), e) refl

-- as many lines as steps
numbered-length : (n : ℕ) (xs : List Step) (ts : List ℕ) → length ts ≡ length xs → length (numbered n xs ts) ≡ length xs
numbered-length n [] ts h = refl
numbered-length n (x ∷ xs) [] h = absurd (omega (arith, h))
numbered-length n (x ∷ xs) (t ∷ ts) h = ap suc (numbered-length (n + 1) xs ts (omega (arith, h)))

-- the first step may have any number
pub next-first : (first n : ℕ) (xs : List Step) (ts : List ℕ) → length xs ≡ 0 → is_next (numbered first xs ts) n ≡ true
unfolding is_next
next-first first n [] ts h = refl
next-first first n (x ∷ xs) ts h = absurd (omega (arith, h))

-- the number of a later one is known
pub next-later : (first n : ℕ) (xs : List Step) (ts : List ℕ)
    → length ts ≡ length xs → 0 < length xs → is_next (numbered first xs ts) n ≡ (n == first + length xs)
unfolding is_next
next-later first n [] ts h some = absurd (omega (arith, some))
next-later first n (x ∷ xs) [] h some = absurd (omega (arith, h))
next-later first n (x ∷ xs) (t ∷ ts) h some = rw (numbered-length (first + 1) xs ts (omega (arith, h))) refl

-- a number that may come next is that of the first step and as many more
pub next-above : (first n : ℕ) (xs : List Step) (ts : List ℕ)
    → length ts ≡ length xs → is_next (numbered first xs ts) n ≡ true → length xs ≤ n
next-above first n [] ts h next = omega arith
next-above first n (x ∷ xs) ts h next =
    let e : (n == first + suc (length xs)) ≡ true = sym (next-later first n (x ∷ xs) ts h (omega arith)) ∙ next in
    let at = eqb-true n (first + suc (length xs)) e in
    omega (arith, at)

-- one step more
pub numbered-push : (first n : ℕ) (xs : List Step) (ts : List ℕ) (x : Step) (t : ℕ) → length ts ≡ length xs → is_next (numbered first xs ts)
    n ≡ true → numbered (n - length xs) (xs ++ x ∷ []) (ts ++ t ∷ []) ≡ numbered first xs ts ++ record { no = n; tick = t; step = x } ∷ []
numbered-push first n [] [] x t h next = let e : n - 0 ≡ n = omega arith in rw e refl
numbered-push first n [] (u ∷ ts) x t h next = absurd (omega (arith, h))
numbered-push first n (y ∷ xs) ts x t h next =
    let e : (n == first + suc (length xs)) ≡ true = sym (next-later first n (y ∷ xs) ts h (omega arith)) ∙ next in
    let at : n ≡ first + suc (length xs) = eqb-true n (first + suc (length xs)) e in
    let begin : n - suc (length xs) ≡ first = omega (arith, at) in
    rw begin (numbered-append first (y ∷ xs) (x ∷ []) ts (t ∷ []) h
    ∙ ap (λ k. numbered first (y ∷ xs) ts ++ record { no = k; tick = t; step = x } ∷ []) (sym at))

-- one step more of those that were read
pub line-pushed : (v : Version) (first count : ℕ) (old new : Ticked) (l : Line) → IsPaired old → count ≡ length old.steps → is_next
    (numbered first old.steps old.ticks) l.no ≡ true → new ≡ record { steps = old.steps ++ l.step ∷ []; ticks = old.ticks ++ l.tick ∷ [] }
    → with_next (record { version = v; lines = numbered first old.steps old.ticks }) l
    ≡ Ok (record { version = v; lines = numbered (l.no - count) new.steps new.ticks })
line-pushed v first count old new l paired sum next pushed = rw (next, pushed, sum) (ap (λ (ls : List Line).
    Ok (record { version = v; lines = ls })) (sym (numbered-push first l.no old.steps old.ticks l.step l.tick paired next)))

-- where steps lead that are appended together
abbrev led : Version → Result Recorded StepRefused → Result Stage TextError
led v (Ok u) = Ok (Recording v u)
led v (Err e) = Err (BadStep e.no e.why)

same-test : (n m : ℕ) → n ≡ m → (n == m) ≡ true
same-test n m h = grind (arith, nat_tests)

-- steps that are appended together lead the trace where their lines lead it
numbered-led : (v : Version) (t : Recorded) (n : ℕ) (xs : List Step) (ts : List ℕ)
    → n ≡ length t.steps + 1 → length ts ≡ length xs → after_lines v t (numbered n xs ts) ≡ led v (appended t xs ts)
unfolding after_lines appended
numbered-led v t n [] ts at h = refl
numbered-led v t n (x ∷ xs) [] at h = absurd (omega (arith, h))
numbered-led v t n (x ∷ xs) (tick ∷ ts) at h = rw (same-test n (length t.steps + 1) at) (go (refusal_in t tick x) _ _
    (numbered-led v (with_step t tick x) (n + 1) xs ts (omega (arith, at, length-append t.steps (x ∷ []))) (omega (arith, h))))
  where
    go : (o : Option PushError) (a : Result Stage TextError) (b : Result Recorded StepRefused)
        → a ≡ led v b → accepted o (length t.steps + 1) a ≡ led v (unless_refused o (length t.steps + 1) b)
    go None a b k = k
    go (Some why) a b k = refl

-- the trace takes these steps
pub numbered-taken : (v : Version) (t u : Recorded) (n : ℕ) (xs : List Step) (ts : List ℕ)
    → n ≡ length t.steps + 1 → length ts ≡ length xs → appended t xs ts ≡ Ok u → after_lines v t (numbered n xs ts) ≡ Ok (Recording v u)
numbered-taken v t u n xs ts at h taken = numbered-led v t n xs ts at h ∙ ap (led v) taken

-- the trace refuses one of them
pub numbered-refused : (v : Version) (t : Recorded) (n : ℕ) (xs : List Step) (ts : List ℕ) (e : StepRefused)
    → n ≡ length t.steps + 1 → length ts ≡ length xs → IsStepRefusal (appended t xs ts) e
    → MatchBool (is_memory (refused_for e.why e.no)) ⊤ (after_lines v t (numbered n xs ts) ≡ Err (refused_for e.why e.no))
numbered-refused v t n xs ts e at h refused = go e.why (λ other. numbered-led v t n xs ts at h ∙ ap (led v) (refused other)) where
  go : (why : PushError) → ((why ≡ Memory → ⊥) → after_lines v t (numbered n xs ts) ≡ Err (BadStep e.no why))
      → MatchBool (is_memory (refused_for why e.no)) ⊤ (after_lines v t (numbered n xs ts) ≡ Err (refused_for why e.no))
  go Memory k = tt
  go why k = k (λ same. cc same)

-- if there is no step, the trace is unchanged
pub numbered-none : (v : Version) (t : Recorded) (n : ℕ) (xs : List Step) (ts : List ℕ)
    → length xs ≡ 0 → after_lines v t (numbered n xs ts) ≡ Ok (Recording v t)
unfolding after_lines
numbered-none v t n [] ts h = refl
numbered-none v t n (x ∷ xs) ts h = absurd (omega (arith, h))

-- another number is due than that of the first of these steps
pub numbered-apart : (v : Version) (t : Recorded) (n : ℕ) (xs : List Step) (ts : List ℕ) → n ≢ length t.steps + 1
    → length ts ≡ length xs → 0 < length xs → after_lines v t (numbered n xs ts) ≡ Err (WrongNumber (length t.steps + 1))
unfolding after_lines
numbered-apart v t n [] ts other h some = absurd (omega (arith, some))
numbered-apart v t n (x ∷ xs) [] other h some = absurd (omega (arith, h))
numbered-apart v t n (x ∷ xs) (tick ∷ ts) other h some = rw (ne_eqb n (length t.steps + 1) other) refl
