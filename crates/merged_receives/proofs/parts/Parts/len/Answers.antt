use Rattle.std.proofs.Common.{◌∙◌, List, ℕ, length, sym, ap}
use Rattle.merged_receives.proofs.Pieces.{pieces-long}
use Rattle.merged_receives.proofs.parts.Parts.len.Goals as goal

pub returns : goal.returns
returns c =
    let ends = c.self.inside.ends in
    c.len.ensures
    ∙ ends.ok.0
    ∙ sym (pieces-long 0 ends.items c.self.inside.places.items)
    ∙ ap (λ (parts : List (List ℕ)). length parts) c.self.view_is
