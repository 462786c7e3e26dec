use Rattle.std.proofs.Common.{sym, arith}
use Rattle.deciding_runs.proofs.CountedRounds.{round_at-passed, AreRounds-stays, AreRounds-ended}
use Rattle.deciding_runs.proofs.decisions.decided_with.Goals as goal

pub returns-then-not-ends_round-clause-rounds : goal.returns-then-not-ends_round-clause-rounds
returns-then-not-ends_round-clause-rounds c = AreRounds-stays c.args.world.now.trace.config c.args.world.now.trace.steps
    c.args.no c.args.step.now c.args.rounds.now c.requires.step (sym c.if-not-ends_round.ensures) c.requires.rounds

pub decision_in-requires-2-clause-reached : goal.decision_in-requires-2-clause-reached
decision_in-requires-2-clause-reached c =
    let passed = round_at-passed c.args.world.now.trace.steps c.args.no c.args.step.now c.requires.step (sym c.if-not-ends_round.ensures) in
    omega (arith, c.requires.rounds.each c.args.step.now.proc c.requires.processor)

pub returns-clause-rounds : goal.returns-clause-rounds
returns-clause-rounds c = AreRounds-ended c.args.world.now.trace.config c.args.world.now.trace.steps
    c.args.no c.args.step.now c.args.rounds.now c.requires.processor c.requires.step (sym c.if-not-ends_round.ensures) c.requires.rounds
