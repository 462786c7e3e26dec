use Rattle.std.proofs.Common.{◌≡◌, ◌∙◌, List, ℕ, ap, length, map, sym}
use Rattle.std.specs.Prelude.{slice_index_or}
use Rattle.std.proofs.lemmas.List.{length-map, with_items_is}
use Rattle.merged_receives.specs.Pieces.{pieces}
use Rattle.merged_receives.proofs.Pieces.{map-pieces}
use Rattle.merged_receives.proofs.parts.Parts.renumber.Goals as goal

pub returns : goal.returns
returns c =
    let f : ℕ → ℕ = λ p. slice_index_or c.args.places.now p 0 in
    let ends = c.self.inside.ends.items in
    let places = c.self.inside.places in
    let others = c.put_others.new.numbers in
    let are : others ≡ map f places.items = c.put_others.ensures ∙ ap (λ (xs : List ℕ). map f xs) c.deref_mut.ensures.value in
    let long : length others ≡ places.len = ap (λ (xs : List ℕ). length xs) are ∙ length-map places.items f ∙ sym places.ok.0 in
    ap (λ (xs : List ℕ). pieces 0 ends xs) (with_items_is places others long ∙ are)
    ∙ map-pieces f 0 ends places.items
    ∙ ap (λ (xss : List (List ℕ)). map (map f) xss) c.self.view_is
