use Rattle.std.proofs.Common.{string_bytes}
use Rattle.std.proofs.lemmas.List.{map-set}
use Rattle.step_tables.proofs.records.put_name.Goals as goal

pub returns-then-place-len : goal.returns-then-place-len
returns-then-place-len c = map-set string_bytes c.args.nodes.now.items c.args.place c.args.name
