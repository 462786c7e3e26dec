use Rattle.std.proofs.Common.{ℕ, ◌≡◌, ◌+◌, ◌-◌, ◌∙◌, List, [], ◌++◌, Option, Some, None, Bor, ap, arith, string_bytes, refl}
use Rattle.std.specs.Prelude.{option_map, slice_get, slice_index_or, unwrap_or}
use Rattle.std.specs.List.{flat_map, range_with_len}
use Rattle.std.proofs.lemmas.List.{flat_map_more}
use Rattle.std.proofs.lemmas.Option.{unwrap_or-slice_get}
use Rattle.round_model.proofs.ProcessorRanges.{range_with_len-more}
use Rattle.event_log.specs.ToldNames.{node_name}
use Rattle.text_commands.specs.ImportLines.{node_line}
use Rattle.text_commands.proofs.import_lines.node_lines.Goals as goal

-- the lines of one processor more
one_more : (f : ℕ → List ℕ) (n : ℕ) → flat_map f (range_with_len 1 n) ++ f (n + 1) ≡ flat_map f (range_with_len 1 (n + 1))
one_more f n = rw (range_with_len-more 1 n (n + 1) (omega arith)) (flat_map_more f [] (range_with_len 1 n) (n + 1))

-- the name at a place, or an empty one
now_of : (o : Option (Bor (List ℕ))) (d : Bor (List ℕ)) → (unwrap_or o d).now ≡ unwrap_or (option_map (λ name. name.now) o) d.now
now_of None d = refl
now_of (Some name) d = refl

named : (o : Option (Bor (List ℕ))) (d : Bor (List ℕ)) (nodes : List (List ℕ)) (i : ℕ) → option_map (λ name. name.now) o ≡ slice_get nodes i
    → (unwrap_or o d).now ≡ slice_index_or nodes i d.now
named o d nodes i at = now_of o d ∙ ap (λ x. unwrap_or x d.now) at ∙ unwrap_or-slice_get nodes i d.now

pub loop-place-preserved : goal.loop-place-preserved
loop-place-preserved c =
    let p = c.loop-place.place in
    let nodes = c.args.nodes.now in
    let line = λ (p : ℕ). node_line p (node_name nodes p) in
    let e : p + 1 - 1 ≡ p = omega arith in
    let name : c.unwrap_or-name.result.now ≡ node_name nodes (p + 1) =
    rw (e, c.unwrap_or-name.ensures) (named c.name_at.result _ nodes p c.name_at.ensures) in
    c.in_ok-push_str.ensures.bytes ∙ ap (λ (text : List ℕ). string_bytes c.loop-place.lines ++ text)
    (c.as_str.ensures.value ∙ c.in_ok-line.ensures.ok ∙ ap (node_line (p + 1)) name)
    ∙ ap (λ (text : List ℕ). text ++ line (p + 1)) c.loop-place.invariant ∙ one_more line p
