use Rattle.std.proofs.Common.{rules}
use Rattle.event_log.proofs.TakenEvents.{all-placed}
use Rattle.event_log.proofs.log_places.LogPlaces.of_parts.Goals as goal

pub returns-in-None : goal.returns-in-None
returns-in-None c = all-placed c.args.self.now c.args.parts (search rules)
