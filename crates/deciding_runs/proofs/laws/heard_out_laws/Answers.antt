use Rattle.std.proofs.Common.{suc, ◌≡◌, ◌+◌, Some, true, arith, subst, sym}
use Rattle.lock_phases.specs.NodeFunctions.{out}
use Rattle.round_model.specs.RoundStates.{state_after}
use Rattle.deciding_runs.specs.Audible.{may_hear}
use Rattle.deciding_runs.proofs.RoundTellers.{tells-may_hear}
use Rattle.deciding_runs.proofs.HeardOutRounds.{hearing-decides}
use Rattle.deciding_runs.proofs.OrderedTakes.{TakesInOrder-all}
use Rattle.deciding_runs.proofs.laws.heard_out_laws.Goals as goal

pub returns-clause-tellers : goal.returns-clause-tellers
returns-clause-tellers c config table rounds p q body said =
    let e : rounds + 1 ≡ suc rounds = omega arith in
    subst (λ n. may_hear config (state_after config table rounds p) n p q ≡ true) (sym e)
    (tells-may_hear config table rounds p q body (subst (λ n. out config (state_after config table rounds q) q n p ≡ Some body) e said))

pub returns-clause-decided : goal.returns-clause-decided
returns-clause-decided c = hearing-decides

pub returns-clause-order : goal.returns-clause-order
returns-clause-order c = TakesInOrder-all
