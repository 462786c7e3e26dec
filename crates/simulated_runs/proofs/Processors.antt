-- Processors, one after the other: who is live, and until when each may step.
use Rattle.std.proofs.Common.{ℕ, ◌≡◌, ◌+◌, List, [], ◌∷◌, ◌++◌, cond, map, filter, ap, ◌∙◌, arith}
use Rattle.std.specs.List.{range_with_len}
use Rattle.std.proofs.lemmas.List.FromFn.{map-range_with_len_more}
use Rattle.std.proofs.lemmas.List.Elements.{filter-append}
use Rattle.round_model.proofs.ProcessorRanges.{range_with_len-more}
use Rattle.simulated_runs.proofs.Common.{Crash, is_live, last_tick}

pub live-more : (crashes : List Crash) (i : ℕ) → filter (is_live crashes) (range_with_len 1 (i + 1))
    ≡ filter (is_live crashes) (range_with_len 1 i) ++ cond (is_live crashes (i + 1)) ((i + 1) ∷ []) []
live-more crashes i = ap (filter (is_live crashes)) (range_with_len-more 1 i (i + 1) (omega arith))
    ∙ filter-append (is_live crashes) (range_with_len 1 i) ((i + 1) ∷ [])

pub lasts-more : (crashes : List Crash) (i : ℕ) → map (last_tick crashes) (range_with_len 1 (i + 1))
    ≡ map (last_tick crashes) (range_with_len 1 i) ++ last_tick crashes (i + 1) ∷ []
lasts-more crashes i = map-range_with_len_more (last_tick crashes) 1 i (i + 1) (omega arith)
