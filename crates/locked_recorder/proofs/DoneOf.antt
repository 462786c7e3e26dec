-- What of all that is done is of one processor.
use Rattle.std.proofs.Common.{ℕ, Some, ◌≡◌, ◌==◌, ◌+◌, ◌<◌, ◌≤◌, drop, List, [], ◌∷◌, ◌++◌, length, take, get_or, map, filter, Bool, true, false, refl, sym, ap, ◌∙◌, arith}
use Rattle.std.proofs.lemmas.Bool.Decides.{nat_tests}
use Rattle.std.specs.Prelude.{slice_get}
use Rattle.std.proofs.Math.Seq.{get_or-append_seam}
use Rattle.std.proofs.lemmas.Option.{slice_get-get_or, slice_get_within, get_or_from_slice_get}
use Rattle.std.proofs.lemmas.List.{take_more, append-nil, append_assoc, take-append-drop, length-take, length-append}
use Rattle.std.proofs.lemmas.List.Elements.{filter-append}
use Rattle.step_buffers.specs.declared.moves.Done.{Done}
use Rattle.std.specs.List.{enumerate_from}
use Rattle.step_trace.specs.declared.steps.Step.{Step}
use Rattle.step_trace.specs.Configurations.{Setup}
use Rattle.locked_recorder.specs.Audits.{done_at, all_done, done_by, done_of}

filter-map : {X Y : Type 0} (f : X → Y) (q : Y → Bool) (xs : List X) → filter q (map f xs) ≡ map f (filter (λ x. q (f x)) xs)
filter-map f q [] = refl
filter-map f q (x ∷ xs) = go (q (f x)) refl (filter-map f q xs)
  where
    go : (t : Bool) → q (f x) ≡ t → filter q (map f xs) ≡ map f (filter (λ x. q (f x)) xs)
        → filter q (map f (x ∷ xs)) ≡ map f (filter (λ x. q (f x)) (x ∷ xs))
    go true e rest = rw e (ap (λ ys. f x ∷ ys) rest)
    go false e rest = rw e rest

-- of all that is done in a trace, what is of p is what p does
pub done_of-all_done : (c : Setup) (steps : List Step) (p : ℕ) → done_of (all_done c steps) p ≡ done_by c steps p
done_of-all_done c steps p = filter-map (λ x. done_at c steps x) (λ d. d.step.proc == p) (enumerate_from 1 steps)

one_more : (all : List Done) (p i : ℕ) (x : Done) → i < length all
    → x ≡ get_or all i x → done_of (take (i + 1) all) p ≡ done_of (take i all) p ++ done_of (x ∷ []) p
one_more all p i x inside is = ap (λ xs. done_of xs p) (take_more all i x inside ∙ ap (λ y. take i all ++ y ∷ []) (sym is))
    ∙ filter-append (λ d. d.step.proc == p) (take i all) (x ∷ [])

-- one more that is of p
pub done_of-more : (all : List Done) (p i : ℕ) (x : Done) → i < length all → x ≡ get_or all i x → x.step.proc ≡ p
    → done_of (take (i + 1) all) p ≡ done_of (take i all) p ++ x ∷ []
done_of-more all p i x inside is own =
    let test : (x.step.proc == p) ≡ true = grind (arith, nat_tests) in
    rw test at (one_more all p i x inside is)

-- one more that is none of p
pub done_of-other : (all : List Done) (p i : ℕ) (x : Done) → i < length all → x ≡ get_or all i x → (x.step.proc ≡ p → ⊥)
    → done_of (take (i + 1) all) p ≡ done_of (take i all) p
done_of-other all p i x inside is other =
    let test : (x.step.proc == p) ≡ false = grind (arith, nat_tests) in
    rw test at (one_more all p i x inside is) ∙ append-nil (done_of (take i all) p)

-- what comes next in a list that has been the same so far
pub done_of-next : (all own : List Done) (p i next : ℕ) (x : Done) → i < length all → x ≡ get_or all i x → x.step.proc ≡ p
    → done_of (take i all) p ≡ take next own → slice_get own next ≡ Some x → done_of (take (i + 1) all) p ≡ take (next + 1) own
done_of-next all own p i next x inside is mine same at = done_of-more all p i x inside is mine ∙ ap (λ ds. ds ++ x ∷ []) same ∙ sym
    (take_more own next x (slice_get_within own next x at) ∙ ap (λ y. take next own ++ y ∷ []) (get_or_from_slice_get own next x x at))

-- must be there, if the list is all that p does
pub next-of_done_of : (all own : List Done) (p i next : ℕ) (x : Done) → i < length all → x ≡ get_or all i x → x.step.proc ≡ p
    → done_of (take i all) p ≡ take next own → next ≤ length own → own ≡ done_of all p → slice_get own next ≡ Some x
next-of_done_of all own p i next x inside is mine same short whole =
    let rest = done_of (drop (i + 1) all) p in
    let cut : own ≡ take next own ++ x ∷ rest =
    whole ∙ ap (λ xs. done_of xs p) (sym (take-append-drop (i + 1) all))
    ∙ filter-append (λ d. d.step.proc == p) (take (i + 1) all) (drop (i + 1) all)
    ∙ ap (λ ds. ds ++ rest) (done_of-more all p i x inside is mine ∙ ap (λ ds. ds ++ x ∷ []) same)
    ∙ append_assoc (take next own) (x ∷ []) rest in
    let count : length (take next own) ≡ next = omega (arith, length-take next own) in
    let long : length own ≡ next + 1 + length rest = omega (arith, ap length cut, length-append (take next own) (x ∷ rest)) in
    let there : get_or own next x ≡ x =
    ap (λ ds. get_or ds next x) cut ∙ ap (λ k. get_or (take next own ++ x ∷ rest) k x) (sym count)
    ∙ get_or-append_seam (take next own) x rest x in
    slice_get-get_or own next x (omega arith) ∙ ap Some there
