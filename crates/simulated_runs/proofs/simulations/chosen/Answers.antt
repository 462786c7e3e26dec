use Rattle.std.proofs.Common.{ℕ, subst}
use Rattle.simulated_runs.specs.Crashes.{IsUpIn}
use Rattle.simulated_runs.proofs.simulations.chosen.Goals as goal

pub returns-in-Some-clause-up : goal.returns-in-Some-clause-up
returns-in-Some-clause-up c =
    let own = c.in-Some.ensures.turn in
    subst (λ (q : ℕ). IsUpIn c.args.lasts.now q c.args.tick) own.2 (c.requires.turns own.0 own.1)

pub returns-in-Some-clause-may : goal.returns-in-Some-clause-may
returns-in-Some-clause-may c = c.in-Some.ensures.may c.args.tick
