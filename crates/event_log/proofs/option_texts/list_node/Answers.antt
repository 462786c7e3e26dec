use Rattle.std.proofs.Common.{◌∙◌, sym}
use Rattle.std.proofs.lemmas.Bool.{not-true}
use Rattle.trace_text.specs.Names.{has_name}
use Rattle.event_log.proofs.ListedNodes.{with_name-new}
use Rattle.event_log.proofs.option_texts.list_node.Goals as goal

pub returns-clause-nodes : goal.returns-clause-nodes
returns-clause-nodes c = c.in-Ok.ensures.names ∙ with_name-new c.args.nodes.now c.args.name.now
    (not-true (has_name c.args.nodes.now c.args.name.now) (sym c.in-Ok.ensures.added ∙ c.if-not-is_new.false))
