-- The rounds of the processors of seats, as a trace is scanned step by step.
use Rattle.std.proofs.Common.{ℕ, suc, Some, ◌≡◌, ◌≢◌, ◌==◌, ◌+◌, ◌-◌, ◌<◌, ◌≤◌, List, length, take, get_or, set, cond, Bool, true, false, refl, sym, ap, ◌∙◌, arith}
use Rattle.std.proofs.lemmas.Bool.{ne_eqb}
use Rattle.std.proofs.lemmas.Bool.Decides.{nat_tests}
use Rattle.std.proofs.lemmas.List.{length-set, get_or-set_same, get_or-set_other}
use Rattle.step_trace.specs.declared.steps.Step.{Step}
use Rattle.step_trace.specs.Configurations.{Setup}
use Rattle.step_trace.specs.Traces.{Recorded, step_at, IsWellFormed}
use Rattle.step_buffers.specs.HeardTables.{act_ends, passed}
use Rattle.locked_recorder.specs.Seats.{Turns}
use Rattle.locked_recorder.specs.Audits.{AreInOrder}
use Rattle.locked_recorder.proofs.SeatOrder.{length-in_order}
use Rattle.locked_recorder.proofs.DoneSteps.{passed-own, passed-other}

-- each processor has its round after n steps
pub record AreRounds (steps : List Step) (n : ℕ) (rounds : List ℕ) : Type 0 where
  pub each : (i d : ℕ) → i < length rounds → get_or rounds i d ≡ passed (take n steps) (i + 1) + 1

-- before the first step all are in the first round
pub AreRounds-none : (steps : List Step) (rounds : List ℕ)
    → ((i d : ℕ) → i < length rounds → get_or rounds i d ≡ 1) → AreRounds steps 0 rounds
AreRounds-none steps rounds ones = record { each = λ i d l. ones i d l }

-- a step may end the round of its processor
pub AreRounds-more : (steps : List Step) (n : ℕ) (x : Step) (rounds : List ℕ) (i round next : ℕ)
    → step_at steps (suc n) ≡ Some x → x.proc ≡ i + 1 → i < length rounds → round ≡ get_or rounds i round
    → next ≡ round + cond (act_ends x.act) 1 0 → AreRounds steps n rounds → AreRounds steps (n + 1) (set rounds i next)
AreRounds-more steps n x rounds i round next at own inside is after are = record { each = λ j d l. go j d l (j == i) refl }
  where
    go : (j d : ℕ) → j < length (set rounds i next)
        → (b : Bool) → (j == i) ≡ b → get_or (set rounds i next) j d ≡ passed (take (n + 1) steps) (j + 1) + 1
    go j d l true e =
        let same : j ≡ i = grind (arith, nat_tests) in
        let before = are.each i round inside in
        let more : passed (take (n + 1) steps) (i + 1) ≡ passed (take n steps) (i + 1) + cond (act_ends x.act) 1 0 =
        ap (λ p. passed (take (n + 1) steps) p) (sym own)
        ∙ passed-own steps n x at ∙ ap (λ p. passed (take n steps) p + cond (act_ends x.act) 1 0) own in
        let now : next ≡ passed (take (n + 1) steps) (i + 1) + 1 = omega arith in
        rw same (get_or-set_same rounds i next d inside ∙ now)
    go j d l false e =
        let other : j ≢ i = grind (arith, nat_tests) in
        let long = length-set rounds i next in
        let off : (x.proc == j + 1) ≡ false = ne_eqb x.proc (j + 1) (λ f. other (omega arith)) in
        get_or-set_other rounds i j next d other ∙ are.each j d (omega arith)
        ∙ ap (λ r. r + 1) (sym (passed-other steps n (j + 1) x at off))

-- A numbered step of a trace, with the place of its seat, and the round of its processor before it.
pub record IsAt (steps : List Step) (seats : List Turns) (rounds : List ℕ) (k : ℕ) (x : Step) : Type 0 where
  pub at : step_at steps (suc (k - 1)) ≡ Some x
  pub own : x.proc ≡ x.proc - 1 + 1
  pub seat : x.proc - 1 < length seats
  pub place : x.proc - 1 < length rounds
  pub round : (d : ℕ) → get_or rounds (x.proc - 1) d ≡ passed (take (k - 1) steps) x.proc + 1

pub IsAt-from : (c : Setup) (shown world : Recorded) (seats : List Turns) (rounds : List ℕ) (k : ℕ) (x : Step)
    → shown ≡ world → IsWellFormed c world.steps → AreInOrder c seats → AreRounds world.steps (k - 1) rounds
    → length rounds ≡ length seats → 1 ≤ k → Some x ≡ step_at shown.steps k → IsAt world.steps seats rounds k x
IsAt-from c shown world seats rounds k x same w order are count low found =
    let there : step_at world.steps k ≡ Some x = ap (λ (t : Recorded). step_at t.steps k) (sym same) ∙ sym found in
    let proc = w.procs k x there in
    let first = proc.0 in
    let last = proc.1 in
    let all = length-in_order c seats order in
    let own : x.proc ≡ x.proc - 1 + 1 = omega arith in
    let place : x.proc - 1 < length rounds = omega arith in
    record {
      at = (let same_place : suc (k - 1) ≡ k = omega arith in ap (step_at world.steps) same_place ∙ there);
      own = own;
      seat = omega arith;
      place = place;
      round = λ d. are.each (x.proc - 1) d place ∙ ap (λ p. passed (take (k - 1) world.steps) p + 1) (sym own);
    }
