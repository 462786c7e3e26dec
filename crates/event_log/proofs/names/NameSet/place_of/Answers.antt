use Rattle.std.proofs.Common.{◌∙◌, sym, ap, subst}
use Rattle.std.specs.List.{list_any, position}
use Rattle.std.proofs.lemmas.List.{length-map}
use Rattle.std.proofs.Common.{length, ◌<◌}
use Rattle.std.specs.Prelude.{IfSome}
use Rattle.std.specs.Str.{bytes_eq}
use Rattle.event_log.specs.NameKeys.{name_of}
use Rattle.event_log.specs.Names.{names_in}
use Rattle.event_log.proofs.Views.{position-map, list_any-map}
use Rattle.event_log.proofs.names.NameSet.place_of.Goals as goal

pub returns-clause-place : goal.returns-clause-place
unfolding names_in
returns-clause-place c = c.get_index_of.ensures.index ∙ sym (position-map name_of (bytes_eq c.args.name.now) c.self.inside.names.keys)
    ∙ ap (λ names. position (bytes_eq c.args.name.now) names) c.self.view_is

pub returns-clause-found : goal.returns-clause-found
unfolding names_in
returns-clause-found c = c.get_index_of.ensures.found ∙ sym (list_any-map name_of (bytes_eq c.args.name.now) c.self.inside.names.keys)
    ∙ ap (λ names. list_any (bytes_eq c.args.name.now) names) c.self.view_is

pub returns-clause-within : goal.returns-clause-within
unfolding names_in
returns-clause-within c =
    let len = sym (length-map c.self.inside.names.keys name_of) ∙ ap length c.self.view_is in
    subst (λ n. IfSome c.get_index_of.result (λ i. i < n)) len c.get_index_of.ensures.within
