use Rattle.std.proofs.Common.{ℕ, ◌<◌, ◌∙◌, List, length, sym, ap, subst}
use Rattle.std.specs.Prelude.{slice_index}
use Rattle.event_log.specs.LogPlaces.{source_of}
use Rattle.event_log.proofs.PlacedErrors.{part-inside}
use Rattle.event_log.proofs.log_places.source_at.Goals as goal

pub source_of-requires : goal.source_of-requires
source_of-requires c =
    let events = c.args.events.now in
    let parts = c.args.parts.now in
    subst (λ (part : List ℕ). (k : ℕ) → k < length part → slice_index part k < length events) (sym c.part.ensures)
    (part-inside (length events) parts c.requires c.args.event)

pub returns : goal.returns
returns c = c.source_of.ensures ∙ ap (λ (part : List ℕ). source_of c.args.events.now part c.args.message) c.part.ensures
