use Rattle.node_runs.proofs.standings.bounds_from.Goals as goal

pub returns-clause-least : goal.returns-clause-least
returns-clause-least c = λ set trace levels.
    let level = levels.each c.args.from c.at-level.result c.requires.low c.at-level.ensures in
    record { low = c.requires.low; high = rw levels.count at c.requires.high; delta = level.delta; phi = level.phi }
