use Rattle.patience_laws.proofs.GrownPaces.{pace_after-push, StepsByPace-none, StepsByPace-push}
use Rattle.patience_laws.proofs.laws.paced_laws.Goals as goal

pub returns-clause-begins : goal.returns-clause-begins
returns-clause-begins c = StepsByPace-none

pub returns-clause-moved : goal.returns-clause-moved
returns-clause-moved c = StepsByPace-push

pub returns-clause-pace : goal.returns-clause-pace
returns-clause-pace c = pace_after-push
