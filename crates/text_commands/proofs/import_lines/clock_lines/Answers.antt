use Rattle.std.proofs.Common.{ℕ, ◌≡◌, ◌+◌, ◌∙◌, List, [], ◌++◌, ap, arith, string_bytes}
use Rattle.std.specs.List.{flat_map, range_with_len}
use Rattle.std.proofs.lemmas.List.{flat_map_more}
use Rattle.round_model.proofs.ProcessorRanges.{range_with_len-more}
use Rattle.text_commands.specs.ImportLines.{clock_line_at}
use Rattle.text_commands.proofs.import_lines.clock_lines.Goals as goal

-- the line of one clock more
one_more : (f : ℕ → List ℕ) (n : ℕ) → flat_map f (range_with_len 0 n) ++ f n ≡ flat_map f (range_with_len 0 (n + 1))
one_more f n = rw (range_with_len-more 0 n n (omega arith)) (flat_map_more f [] (range_with_len 0 n) n)

pub loop-place-preserved : goal.loop-place-preserved
loop-place-preserved c =
    let line = clock_line_at c.args.is_nanoseconds c.args.nodes.now c.args.offsets.now in
    c.in_ok-push_str.ensures.bytes
    ∙ ap (λ (text : List ℕ). string_bytes c.loop-place.lines ++ text) (c.as_str.ensures.value ∙ c.in_ok-line.ensures)
    ∙ ap (λ (text : List ℕ). text ++ line c.loop-place.place) c.loop-place.invariant ∙ one_more line c.loop-place.place
