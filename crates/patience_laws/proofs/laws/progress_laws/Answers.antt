use Rattle.std.proofs.Common.{true, arith}
use Rattle.step_trace.specs.declared.steps.Act.TheVariants.{Receive}
use Rattle.patience_laws.proofs.PassedRounds.{passes-rounds}
use Rattle.patience_laws.proofs.SettledMembers.{in-touch, comes-late}
use Rattle.patience_laws.proofs.laws.progress_laws.Goals as goal

pub returns-clause-passes : goal.returns-clause-passes
returns-clause-passes c trace patience set g f p round x count run time paced member phi since there =
    passes-rounds trace patience set g f p run time paced member phi count round x since there

pub returns-clause-in_touch : goal.returns-clause-in_touch
returns-clause-in_touch c patience set trace g d f least most round x keeps alone since late part there =
    in-touch patience set trace g d f keeps least most alone round x since late part there

pub returns-clause-comes : goal.returns-clause-comes
returns-clause-comes c patience set trace g d f least most p round k x keeps alone come since late =
    let e = come.round_is in
    comes-late patience set trace g d f keeps least most alone p k x (Receive true come.ids) come.step since (omega arith)
