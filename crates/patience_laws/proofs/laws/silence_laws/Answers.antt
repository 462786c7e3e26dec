use Rattle.patience_laws.proofs.SilentPhases.{suspected-silent, silent-suspected, suspected-stays}
use Rattle.patience_laws.proofs.laws.silence_laws.Goals as goal

pub returns-clause-silent : goal.returns-clause-silent
returns-clause-silent c setup patience steps p q k w is s = suspected-silent setup patience steps p q w is k s

pub returns-clause-suspects : goal.returns-clause-suspects
returns-clause-suspects c setup patience steps p q k w is s = silent-suspected setup patience steps p q w is k s

pub returns-clause-stays : goal.returns-clause-stays
returns-clause-stays c setup patience steps p q j k w is l s none = suspected-stays setup patience steps p q w is j k l none s
