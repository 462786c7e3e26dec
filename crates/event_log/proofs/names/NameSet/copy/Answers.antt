use Rattle.std.proofs.Common.{◌∙◌}
use Rattle.event_log.specs.NameKeys.{name_of}
use Rattle.event_log.specs.Names.{names_in}
use Rattle.event_log.proofs.Views.{map-same}
use Rattle.event_log.proofs.names.NameSet.copy.Goals as goal

pub returns : goal.returns
unfolding names_in
returns c =
    map-same name_of _ (λ v w h. h) c.self.inside.names.keys c.in_ok-names.names.keys c.in_ok-names.ensures.cases
    ∙ c.self.view_is
