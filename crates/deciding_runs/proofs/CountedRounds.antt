-- The rounds of all processors, as they are counted while the steps of a run are scanned.
use Rattle.std.proofs.Common.{ℕ, zero, suc, ◌≡◌, ◌+◌, ◌-◌, ◌≤◌, List, take, Some, Bool, true, false, ◌==◌, ◌&&◌, refl, ap, subst, sym, ◌∙◌, arith}
use Rattle.std.specs.Prelude.{slice_index_or, slice_set}
use Rattle.std.proofs.lemmas.Bool.{and_right, eqb-true, eqb-false}
use Rattle.std.proofs.lemmas.Option.{none-some}
use Rattle.std.proofs.lemmas.List.{length-set, get_or-set_same, get_or-set_other}
use Rattle.deciding_runs.proofs.Common.{Step, Setup, IsProc, step_at, act_ends, passed, before, round_at, passed-before, passed-stays, AreRounds}
use Rattle.deciding_runs.proofs.EndedRounds.{take-one_more, passed-one_more}

-- the round after a step is one more than the processor passed with it
round-after : (steps : List Step) (p i : ℕ) → round_at steps p (suc i + 1) ≡ passed (take (suc i) steps) p + 1
round-after steps p i = let e : suc i + 1 - 1 ≡ suc i = omega arith in ap (λ n. passed (take n steps) p + 1) e

round-here : (steps : List Step) (p i : ℕ) → round_at steps p (suc i) ≡ passed (take i steps) p + 1
round-here steps p i = let e : suc i - 1 ≡ i = omega arith in ap (λ n. passed (take n steps) p + 1) e

-- a step that ends a round begins the next one
pub round_at-ended : (steps : List Step) (k : ℕ) (x : Step)
    → step_at steps k ≡ Some x → act_ends x.act ≡ true → round_at steps x.proc (k + 1) ≡ round_at steps x.proc k + 1
round_at-ended steps zero x h ends = absurd (none-some _ h)
round_at-ended steps (suc i) x h ends =
    omega (arith, round-here steps x.proc i, round-after steps x.proc i, passed-one_more steps x.proc i x h refl ends)

-- any other step leaves the round unchanged
pub round_at-stays : (steps : List Step) (k : ℕ) (x : Step) (p : ℕ)
    → step_at steps k ≡ Some x → (x.proc == p && act_ends x.act) ≡ false → round_at steps p (k + 1) ≡ round_at steps p k
round_at-stays steps zero x p h other = absurd (none-some _ h)
round_at-stays steps (suc i) x p h other =
    let same : passed (take (suc i) steps) p ≡ passed (take i steps) p = ap (λ xs. passed xs p) (take-one_more steps i x h)
    ∙ passed-stays (take i steps) x p other in
    omega (arith, round-here steps p i, round-after steps p i)

-- a round that a step ends has been passed
pub round_at-passed : (steps : List Step) (k : ℕ) (x : Step)
    → step_at steps k ≡ Some x → act_ends x.act ≡ true → round_at steps x.proc k ≤ passed steps x.proc
round_at-passed steps k x h ends =
    let within : passed (before steps (k + 1)) x.proc ≤ passed steps x.proc = passed-before steps x.proc (k + 1) in
    omega (arith, round_at-ended steps k x h ends)

-- a step that ends no round
pub AreRounds-stays : (c : Setup) (steps : List Step) (k : ℕ) (x : Step) (rounds : List ℕ) → step_at steps k ≡ Some x
    → act_ends x.act ≡ false → AreRounds c steps k rounds → AreRounds c steps (k + 1) rounds
AreRounds-stays c steps k x rounds h none are = record {
  count = are.count;
  each = λ p is. are.each p is ∙ sym (round_at-stays steps k x p h (ap (λ b. x.proc == p && b) none ∙ and_right (x.proc == p) false refl));
}

-- a step that ends one
pub AreRounds-ended : (c : Setup) (steps : List Step) (k : ℕ) (x : Step) (rounds : List ℕ)
    → IsProc c x.proc → step_at steps k ≡ Some x → act_ends x.act ≡ true → AreRounds c steps k rounds
    → AreRounds c steps (k + 1) (slice_set rounds (x.proc - 1) (slice_index_or rounds (x.proc - 1) 0 + 1))
AreRounds-ended c steps k x rounds proc h ends are = record {
  count = length-set rounds (x.proc - 1) (slice_index_or rounds (x.proc - 1) 0 + 1) ∙ are.count;
  each = λ p is. of p is (x.proc == p) refl;
}
  where
    next : ℕ
    next = slice_index_or rounds (x.proc - 1) 0 + 1

    here : slice_index_or (slice_set rounds (x.proc - 1) next) (x.proc - 1) 0 ≡ round_at steps x.proc (k + 1)
    here =
        let low = proc.0 in
        let high = proc.1 in
        let count = are.count in
        get_or-set_same rounds (x.proc - 1) next 0 (omega arith)
        ∙ ap (λ r. r + 1) (are.each x.proc proc) ∙ sym (round_at-ended steps k x h ends)

    of : (p : ℕ) → IsProc c p → (t : Bool) → (x.proc == p) ≡ t
        → slice_index_or (slice_set rounds (x.proc - 1) next) (p - 1) 0 ≡ round_at steps p (k + 1)
    of p is true t = subst (λ q. slice_index_or (slice_set rounds (x.proc - 1) next) (q - 1) 0 ≡ round_at steps q (k + 1))
        (eqb-true x.proc p t) here
    of p is false t =
        let differ = eqb-false x.proc p t in
        get_or-set_other rounds (x.proc - 1) (p - 1) next 0 (λ e. differ (omega (arith, proc.0, is.0)))
        ∙ are.each p is ∙ sym (round_at-stays steps k x p h (ap (λ b. b && act_ends x.act) t))
