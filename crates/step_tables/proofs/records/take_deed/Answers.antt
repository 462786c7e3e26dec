use Rattle.std.proofs.Common.{[], ◌∷◌, ◌++◌, List, Ok, ℕ, map, string_bytes}
use Rattle.csv.specs.Records.{fields_of}
use Rattle.step_tables.specs.Records.{said_of, with_act}
use Rattle.step_tables.specs.Told.{Told}
use Rattle.step_tables.proofs.RefusalsGoOn.{refusal-goes_on}
use Rattle.step_tables.proofs.records.take_deed.Goals as goal

pub returns-in-Err : goal.returns-in-Err
returns-in-Err c =
    let fields = fields_of c.args.fields.now in
    refusal-goes_on {B = Told} (with_act c.args.at c.args.rows.now.items (map string_bytes c.args.nodes.now.items) c.args.act.now fields)
    (λ (nodes : List (List ℕ)). Ok (record { nodes = nodes; rows = c.args.rows.now.items ++ said_of c.args.act.now fields ∷ [] }))
    c.in-Err.why (rw c.deref.ensures.value at c.in-Err.ensures)
