use Rattle.std.proofs.Common.{◌∙◌, sym, ap, Some}
use Rattle.std.specs.Prelude.{option_map, slice_get}
use Rattle.std.specs.Option.{option_copied}
use Rattle.event_log.specs.NameKeys.{name_of}
use Rattle.event_log.specs.Names.{names_in}
use Rattle.std.proofs.lemmas.Option.{slice_get-map}
use Rattle.event_log.proofs.names.NameSet.name_at.Goals as goal

pub returns-in-Some : goal.returns-in-Some
unfolding names_in
returns-in-Some c =
    ap (λ name. Some name) c.as_slice.ensures
    ∙ ap (λ found. option_map name_of found) (ap (λ r. option_copied r) (sym c.in-Some.is) ∙ c.get_index.ensures.key)
    ∙ sym (slice_get-map name_of c.self.inside.names.keys c.args.place)
    ∙ ap (λ names. slice_get names c.args.place) c.self.view_is

pub returns-in-None : goal.returns-in-None
unfolding names_in
returns-in-None c =
    ap (λ found. option_map name_of found) (ap (λ r. option_copied r) (sym c.in-None.is) ∙ c.get_index.ensures.key)
    ∙ sym (slice_get-map name_of c.self.inside.names.keys c.args.place)
    ∙ ap (λ names. slice_get names c.args.place) c.self.view_is
