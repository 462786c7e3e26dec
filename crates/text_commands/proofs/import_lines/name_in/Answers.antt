use Rattle.std.proofs.Common.{ℕ, List, [], Option, Bor, ◌∙◌, ap, sym}
use Rattle.std.specs.Prelude.{option_map, unwrap_or}
use Rattle.std.proofs.lemmas.Option.{unwrap_or-slice_get}
use Rattle.text_commands.proofs.import_lines.name_in.Goals as goal

pub returns-in-None : goal.returns-in-None
returns-in-None c =
    ap (λ (o : Option (Bor (List ℕ))). unwrap_or (option_map (λ name. name.now) o) []) (sym c.in-None.is)
    ∙ ap (λ (o : Option (List ℕ)). unwrap_or o []) c.name_at.ensures ∙ unwrap_or-slice_get c.args.nodes.now c.args.place []
