use Rattle.event_log.proofs.LogRefusals.{read-small}
use Rattle.event_log.proofs.StepPlaces.{table-made}
use Rattle.event_log.proofs.step_tables.read_table.Goals as goal

pub returns-in-Ok-clause-table : goal.returns-in-Ok-clause-table
returns-in-Ok-clause-table c =
    let p = c.in_ok-placed.placed in
    table-made c.args.options.now c.args.text.now p.import p.events.items
    p.logged p.left_at p.parts p.first p.clock p.places.items c.in-Ok.table.items c.in_ok-placed.ensures.import c.in-Ok.ensures

pub returns-in-Err-clause-more : goal.returns-in-Err-clause-more
returns-in-Err-clause-more c =
    let p = c.in_ok-placed.ensures.import in
    λ _. read-small c.args.options.now c.args.text.now p.is.log p.is.told.read
