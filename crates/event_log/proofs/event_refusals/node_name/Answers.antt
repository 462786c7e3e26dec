use Rattle.std.proofs.Common.{◌≡◌, ◌∙◌, ◌-◌, [], sym, ap, subst, IfOk, None}
use Rattle.std.specs.Prelude.{option_map, slice_get, slice_index_or, unwrap_or}
use Rattle.std.proofs.lemmas.Option.{unwrap_or-slice_get}
use Rattle.event_log.proofs.event_refusals.node_name.Goals as goal

pub returns-in-None : goal.returns-in-None
returns-in-None c =
    let nodes = c.args.nodes.now in
    let at = c.saturating_sub.result in
    let none : None ≡ slice_get nodes at = ap (λ r. option_map (λ x. x.now) r) (sym c.in-None.is) ∙ c.name_at.ensures in
    let name : [] ≡ slice_index_or nodes (c.args.number - 1) [] =
    ap (λ r. unwrap_or r []) none ∙ unwrap_or-slice_get nodes at [] ∙ ap (λ i. slice_index_or nodes i []) c.saturating_sub.ensures in
    subst (λ x. IfOk c.new-in-None.result (λ name. name ≡ x)) name c.new-in-None.ensures
