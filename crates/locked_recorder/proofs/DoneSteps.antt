-- What is done in the first steps of a trace, and in one more.
use Rattle.std.proofs.Common.{ℕ, zero, suc, Some, None, ◌≡◌, ◌+◌, ◌-◌, ◌<◌, ◌≤◌, List, ◌∷◌, [], ◌++◌, length, take}
use Rattle.std.proofs.Common.{drop, get_or, Option, cond, Bool, true, false, ◌==◌, refl, sym, ap, subst, ◌∙◌, arith}
use Rattle.std.proofs.Common.{eq-eqb}
use Rattle.std.specs.List.{enumerate_from}
use Rattle.std.proofs.lemmas.List.{take_more, take-append-drop, length-take, length-map, get_or-map}
use Rattle.std.proofs.lemmas.List.FromFn.{length-enumerate_from, get_or-enumerate_from}
use Rattle.std.proofs.lemmas.Option.{slice_get_within, get_or_from_slice_get}
use Rattle.step_trace.specs.declared.steps.Step.{Step}
use Rattle.step_trace.specs.Configurations.{Setup}
use Rattle.step_trace.specs.Traces.{step_at, IsWellFormed}
use Rattle.step_trace.proofs.StepPrefixes.{IsWellFormed-prefix}
use Rattle.round_model.specs.RoundStates.{state_after}
use Rattle.step_buffers.specs.declared.moves.Done.{Done}
use Rattle.step_buffers.specs.HeardTables.{act_ends, passed, heard_table}
use Rattle.step_buffers.specs.Runs.{node_at}
use Rattle.step_buffers.proofs.StepPrefixes.{passed-append}
use Rattle.step_buffers.proofs.DecidedRounds.{decision-prefix}
use Rattle.step_buffers.proofs.GrownNodes.{passed-ends, passed-stays}
use Rattle.locked_recorder.specs.Audits.{done_last, done_at, all_done}

-- the first n + 1 steps end with the step of that number
pub take_next : (steps : List Step) (n : ℕ) (x : Step) → step_at steps (suc n) ≡ Some x → take (n + 1) steps ≡ take n steps ++ x ∷ []
take_next steps n x at = take_more steps n x (slice_get_within steps n x at)
    ∙ ap (λ y. take n steps ++ y ∷ []) (get_or_from_slice_get steps n x x at)

-- there is a step of each number up to the length
pub step_at-there : (steps : List Step) (k : ℕ) → 1 ≤ k → k ≤ length steps → step_at steps k ≡ None → ⊥
step_at-there steps zero low high e = absurd (omega arith)
step_at-there [] (suc k) low high e = absurd (omega arith)
step_at-there (x ∷ steps) (suc zero) low high e = cc
step_at-there (x ∷ steps) (suc (suc k)) low high e = step_at-there steps (suc k) (omega arith) (omega arith) e

-- as many things are done as there are steps
pub length-all_done : (c : Setup) (steps : List Step) → length (all_done c steps) ≡ length steps
length-all_done c steps = length-map (enumerate_from 1 steps) (λ x. done_at c steps x) ∙ length-enumerate_from 1 steps

-- what was done last in the first n + 1 steps is at n of all that is done
pub done_last-at : (c : Setup) (steps : List Step) (n : ℕ) (x : Step) (d : Done)
    → step_at steps (suc n) ≡ Some x → get_or (all_done c steps) n d ≡ done_last c (take (n + 1) steps) x
done_last-at c steps n x d at =
    let within : n < length steps = slice_get_within steps n x at in
    let inside : n < length (enumerate_from 1 steps) = omega (arith, length-enumerate_from 1 steps) in
    let count : length (take (n + 1) steps) ≡ n + 1 = omega (arith, length-take (n + 1) steps) in
    let f : ℕ × Step → Done = λ y. done_at c steps y in
    get_or-map f (enumerate_from 1 steps) n (0, x) d inside ∙ ap f (get_or-enumerate_from 1 steps n (0, x) within)
    ∙ ap (λ y. f (1 + n, y)) (get_or_from_slice_get steps n x x at) ∙ ap (λ k. f (k, x)) (omega arith)
    ∙ sym (ap (λ k. record (done_last c (take (n + 1) steps) x) { no = k }) count)

-- the rounds that a processor passed in the first steps are no more than those that it passed in all
pub passed-take : (steps : List Step) (n p : ℕ) → passed (take n steps) p ≤ passed steps p
passed-take steps n p =
    let all : passed (take n steps ++ drop n steps) p
    ≡ passed (take n steps) p + passed (drop n steps) p = passed-append (take n steps) (drop n steps) p in
    let same : passed (take n steps ++ drop n steps) p ≡ passed steps p = ap (λ (xs : List Step). passed xs p) (take-append-drop n steps) in
    omega arith

-- one step more: the rounds that its processor passed, and those of another one
pub passed-own : (steps : List Step) (n : ℕ) (x : Step) → step_at steps (suc n) ≡ Some x
    → passed (take (n + 1) steps) x.proc ≡ passed (take n steps) x.proc + cond (act_ends x.act) 1 0
passed-own steps n x at = ap (λ (xs : List Step). passed xs x.proc) (take_next steps n x at) ∙ go (act_ends x.act) refl
  where
    go : (b : Bool) → act_ends x.act ≡ b → passed (take n steps ++ x ∷ []) x.proc ≡ passed (take n steps) x.proc + cond b 1 0
    go true e = passed-ends (take n steps) x e
        ∙ (let f : suc (passed (take n steps) x.proc) ≡ passed (take n steps) x.proc + 1 = omega arith in f)
    go false e = passed-stays (take n steps) x x.proc (rw (e, eq-eqb x.proc x.proc refl) refl)
        ∙ (let f : passed (take n steps) x.proc ≡ passed (take n steps) x.proc + 0 = omega arith in f)

pub passed-other : (steps : List Step) (n p : ℕ) (x : Step)
    → step_at steps (suc n) ≡ Some x → (x.proc == p) ≡ false → passed (take (n + 1) steps) p ≡ passed (take n steps) p
passed-other steps n p x at off = ap (λ (xs : List Step). passed xs p) (take_next steps n x at)
    ∙ passed-stays (take n steps) x p (rw off refl)

-- What was done last in the first steps: by the round of its processor then, and by its decision in that round in
-- the whole trace.
pub done_last-by_round : (c : Setup) (steps : List Step) (n : ℕ) (x : Step) (round : ℕ) (decision : Option ℕ) → IsWellFormed c steps → n
    ≤ length steps → round ≡ passed (take n steps) x.proc + 1 → decision ≡ (state_after c (heard_table steps) (round - 1) x.proc).decision
    → record { no = n; step = x; round = round; decision = decision } ≡ done_last c (take n steps) x
done_last-by_round c steps n x round decision w within is decided =
    let front = take n steps in
    let rest = drop n steps in
    let count : length front ≡ n = omega (arith, length-take n steps) in
    let r : round - 1 ≡ passed front x.proc = omega arith in
    let well : IsWellFormed c front = IsWellFormed-prefix c front rest
    (subst (λ (xs : List Step). IsWellFormed c xs) (sym (take-append-drop n steps)) w) in
    let same : (state_after c (heard_table steps) (passed front x.proc) x.proc).decision ≡ (node_at c front x.proc).decision =
    ap (λ (xs : List Step). (state_after c (heard_table xs) (passed front x.proc) x.proc).decision) (sym (take-append-drop n steps))
    ∙ decision-prefix c front rest (passed front x.proc) x.proc well (omega arith) in
    let here : decision ≡ (node_at c front x.proc).decision = decided
    ∙ ap (λ k. (state_after c (heard_table steps) k x.proc).decision) r ∙ same in
    rw (here, is) (ap (λ k. record (done_last c front x) { no = k }) (sym count))
