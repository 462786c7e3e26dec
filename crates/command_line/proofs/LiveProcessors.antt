-- Live processors, counted one after the other.
use Rattle.std.proofs.Common.{ℕ, ◌≡◌, ◌+◌, List, [], ◌∷◌, ◌++◌, Bool, true, false, cond, length, filter, refl, sym, ap, ◌∙◌, arith, length-append}
use Rattle.std.specs.List.{range_with_len}
use Rattle.std.proofs.lemmas.List.{map-id}
use Rattle.std.proofs.lemmas.List.Elements.{filter-append}
use Rattle.std.proofs.lemmas.List.FromFn.{map-range_with_len_more}
use Rattle.command_options.specs.declared.simulations.Crash.{Crash}
use Rattle.command_options.specs.Simulations.{is_live, live}

-- a range with one more number
range-more : (a n j : ℕ) → a + n ≡ j → range_with_len a (n + 1) ≡ range_with_len a n ++ j ∷ []
range-more a n j is = sym (map-id (range_with_len a (n + 1)))
    ∙ map-range_with_len_more (λ x. x) a n j is ∙ ap (λ xs. xs ++ j ∷ []) (map-id (range_with_len a n))

one : (b : Bool) (p : ℕ) → length (cond b (p ∷ []) []) ≡ cond b 1 0
one true p = refl
one false p = refl

-- how many are live of one more
pub live_count-more : (crashes : List Crash) (i : ℕ)
    → length (live (i + 1) crashes) ≡ length (live i crashes) + cond (is_live crashes (i + 1)) 1 0
live_count-more crashes i = ap length (ap (filter (is_live crashes)) (range-more 1 i (i + 1) (omega arith))
    ∙ filter-append (is_live crashes) (range_with_len 1 i) ((i + 1) ∷ [])) ∙ length-append (live i crashes)
    (cond (is_live crashes (i + 1)) ((i + 1) ∷ []) []) ∙ ap (λ k. length (live i crashes) + k) (one (is_live crashes (i + 1)) (i + 1))
