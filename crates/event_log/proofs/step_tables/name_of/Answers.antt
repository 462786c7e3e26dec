use Rattle.std.proofs.Common.{ℕ, List, [], Option, Bor, ◌∙◌, ap, sym}
use Rattle.std.specs.Prelude.{option_map, slice_index_or, unwrap_or}
use Rattle.std.proofs.lemmas.Option.{unwrap_or-slice_get}
use Rattle.event_log.proofs.step_tables.name_of.Goals as goal

pub returns-in-None : goal.returns-in-None
returns-in-None c =
    ap (λ (o : Option (Bor (List ℕ))). unwrap_or (option_map (λ name. name.now) o) []) (sym c.in-None.is)
    ∙ ap (λ (o : Option (List ℕ)). unwrap_or o []) c.name_at.ensures ∙ unwrap_or-slice_get c.args.nodes.now c.saturating_sub.result []
    ∙ ap (λ i. slice_index_or c.args.nodes.now i []) c.saturating_sub.ensures
