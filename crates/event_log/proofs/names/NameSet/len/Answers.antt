use Rattle.std.proofs.Common.{◌∙◌, sym, ap, length}
use Rattle.std.proofs.lemmas.List.{length-map}
use Rattle.event_log.specs.NameKeys.{name_of}
use Rattle.event_log.specs.Names.{names_in}
use Rattle.event_log.proofs.names.NameSet.len.Goals as goal

pub returns : goal.returns
unfolding names_in
returns c = c.len.ensures.len ∙ sym (length-map c.self.inside.names.keys name_of) ∙ ap length c.self.view_is
