use Rattle.std.proofs.Common.{[], refl}
use Rattle.timed_events.specs.declared.events.EventAct.TheVariants.{Receive}
use Rattle.idle_laws.proofs.FullTraces.{full}
use Rattle.idle_laws.proofs.laws.filling_laws.Goals as goal

pub returns : goal.returns
returns c = record { exists = full (Receive []) refl }
