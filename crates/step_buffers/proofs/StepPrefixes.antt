-- Rounds at the steps of a prefix of a list of steps.
use Rattle.std.proofs.Common.{ℕ, suc, ◌≡◌, ◌+◌, ◌-◌, ◌<◌, ◌≤◌, List, [], ◌∷◌, ◌++◌, length, take, Some, ap, ◌∙◌, arith}
use Rattle.std.specs.Prelude.{cond, ◌==◌, ◌&&◌}
use Rattle.std.proofs.lemmas.List.{take-append-le, length_push}
use Rattle.std.proofs.lemmas.List.Sums.{sum_by-append, sum_by-take-le}
use Rattle.std.proofs.Math.Seq.{take-append-add}
use Rattle.step_buffers.proofs.Common.{Step, step_at, step_at_last, act_ends, passed, before, round_at}

-- what comes before it
pub before-prefix : (steps more : List Step) (k : ℕ) → k ≤ length steps + 1 → before (steps ++ more) k ≡ before steps k
before-prefix steps more k h = take-append-le (k - 1) steps more (omega arith)

-- the rounds that are passed only grow
pub passed-append : (steps more : List Step) (p : ℕ) → passed (steps ++ more) p ≡ passed steps p + passed more p
passed-append steps more p = sum_by-append (λ (x : Step). cond (x.proc == p && act_ends x.act) 1 0) steps more

pub passed-before : (steps : List Step) (p k : ℕ) → passed (before steps k) p ≤ passed steps p
passed-before steps p k = sum_by-take-le (λ (x : Step). cond (x.proc == p && act_ends x.act) 1 0) steps (k - 1)

-- the round at a step of a prefix, and after it
pub round_at-prefix : (steps more : List Step) (p k : ℕ) → k ≤ length steps + 1 → round_at (steps ++ more) p k ≡ round_at steps p k
round_at-prefix steps more p k h = ap (λ xs. passed xs p + 1) (before-prefix steps more k h)

pub round_at-past : (steps more : List Step) (p k : ℕ) → length steps < k → passed steps p < round_at (steps ++ more) p k
round_at-past steps more p k h =
    let split : before (steps ++ more) k ≡ steps ++ take (k - 1 - length steps) more =
    ap (λ n. take n (steps ++ more)) (let e : k - 1 ≡ length steps + (k - 1 - length steps) = omega arith in e)
    ∙ take-append-add steps more (k - 1 - length steps) in
    let grown = ap (λ xs. passed xs p) split ∙ passed-append steps (take (k - 1 - length steps) more) p in
    let e : passed (before (steps ++ more) k) p ≡ passed steps p + passed (take (k - 1 - length steps) more) p = grown in
    omega arith

-- the step of the last number
pub step_at-end : (all steps : List Step) (x : Step) → all ≡ steps ++ x ∷ [] → step_at all (length all) ≡ Some x
step_at-end all steps x e =
    let long : length all ≡ suc (length steps) = ap length e
    ∙ length_push steps x ∙ (let f : length steps + 1 ≡ suc (length steps) = omega arith in f) in
    rw (long, e) (step_at_last steps x)
