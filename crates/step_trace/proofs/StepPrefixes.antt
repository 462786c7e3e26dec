-- A prefix of a list of steps: what is known of a step of the prefix is known of the same step of the longer list.
use Rattle.std.proofs.Common.{ℕ, zero, suc, ◌≡◌, ◌+◌, ◌≤◌, List, ◌++◌, length, Some, refl, sym, ap, ◌∙◌, arith}
use Rattle.std.specs.Prelude.{slice_get}
use Rattle.std.proofs.lemmas.List.{get_or_append_left, length-append}
use Rattle.step_trace.specs.declared.steps.Step.{Step}
use Rattle.step_trace.specs.Configurations.{Setup}
use Rattle.step_trace.specs.Traces.{step_at, IsSentTo, TakesAt, IsWellFormed}
use Rattle.step_trace.specs.Ticks.{tick_at}
use Rattle.step_trace.specs.Extensions.{BeginsWith}
use Rattle.step_trace.proofs.PagePlaces.{slice_get-left}
use Rattle.step_trace.proofs.StepPositions.{step_at_within}

-- a step of a prefix
pub step_at-prefix : (steps more : List Step) (k : ℕ) → k ≤ length steps → step_at (steps ++ more) k ≡ step_at steps k
step_at-prefix steps more zero h = refl
step_at-prefix steps more (suc k) h = slice_get-left steps more k (omega arith)

pub step_at-prefix_old : (steps more : List Step) (k : ℕ) (x : Step) → step_at steps k ≡ Some x → step_at (steps ++ more) k ≡ Some x
step_at-prefix_old steps more k x h = let b = step_at_within steps k x h in step_at-prefix steps more k b.1 ∙ h

-- the same of a list that begins with another one
pub step_kept : (list first : List Step) → BeginsWith list first → (s : ℕ) → s ≤ length first → step_at list s ≡ step_at first s
step_kept list first b zero l = refl
step_kept list first b (suc s) l = ap (λ xs. slice_get xs s) b.whole ∙ slice_get-left first b.more s (omega (arith, l))

pub tick_kept : (list first : List ℕ) → BeginsWith list first → (s : ℕ) → s ≤ length first → tick_at list s ≡ tick_at first s
tick_kept list first b zero l = refl
tick_kept list first b (suc s) l = ap (λ xs. tick_at xs (suc s)) b.whole ∙ get_or_append_left first b.more 0 s (omega (arith, l))

-- a prefix of a well-formed list is well formed
IsSentTo-prefix : (steps more : List Step) (s p : ℕ) → s ≤ length steps → IsSentTo (steps ++ more) s p → IsSentTo steps s p
IsSentTo-prefix steps more s p l h = (h.0, sym (step_at-prefix steps more s l) ∙ h.1)

pub TakesAt-prefix : (steps more : List Step) (k s : ℕ) → TakesAt steps k s → TakesAt (steps ++ more) k s
TakesAt-prefix steps more k s h = (h.0, step_at-prefix_old steps more k h.0 h.1, h.2)

pub IsWellFormed-prefix : (c : Setup) (steps more : List Step) → IsWellFormed c (steps ++ more) → IsWellFormed c steps
IsWellFormed-prefix c steps more w = record {
  short = (let s = w.short in let l : length (steps ++ more) ≡ length steps + length more = length-append steps more in omega arith);
  procs = λ k x h. w.procs k x (step_at-prefix_old steps more k x h);
  dests = λ k x h. w.dests k x (step_at-prefix_old steps more k x h);
  rising = λ k x h. w.rising k x (step_at-prefix_old steps more k x h);
  earlier = λ k s x h t.
      let e = w.earlier k s x (step_at-prefix_old steps more k x h) t in
      (e.0, IsSentTo-prefix steps more s x.proc (omega (arith, e.0, step_at_within steps k x h)) e.1);
  once = λ m n s a b. w.once m n s (TakesAt-prefix steps more m s a) (TakesAt-prefix steps more n s b);
}
