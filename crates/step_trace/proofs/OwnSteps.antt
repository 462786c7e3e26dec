-- The steps of one processor, one step after another.
use Rattle.std.proofs.Common.{ℕ, ◌≡◌, ◌+◌, ◌<◌, ◌==◌, List, [], ◌∷◌, ◌++◌, length, filter, get_or, take, drop, sym, ap, ◌∙◌, true, false, arith}
use Rattle.std.specs.List.{enumerate_from}
use Rattle.std.proofs.lemmas.List.{take_more, take-append-drop, length-append, length-take, length_push, append-nil}
use Rattle.std.proofs.lemmas.Bool.Decides.{nat_tests}
use Rattle.std.proofs.lemmas.List.Elements.{filter-append}
use Rattle.step_trace.specs.declared.steps.Step.{Step}
use Rattle.step_trace.specs.OwnSteps.{own_steps}

enumerate_from-append : {X : Type 0} (n : ℕ) (xs ys : List X)
    → enumerate_from n (xs ++ ys) ≡ enumerate_from n xs ++ enumerate_from (n + length xs) ys
enumerate_from-append n [] ys = ap (λ k. enumerate_from k ys) (omega arith)
enumerate_from-append n (x ∷ xs) ys = ap (λ rest. (n, x) ∷ rest)
    (enumerate_from-append (n + 1) xs ys ∙ ap (λ k. enumerate_from (n + 1) xs ++ enumerate_from k ys) (omega arith))

own_steps-append : (xs ys : List Step) (p : ℕ) → own_steps (xs ++ ys) p
    ≡ own_steps xs p ++ filter (λ x. x.1.proc == p) (enumerate_from (1 + length xs) ys)
own_steps-append xs ys p = ap (filter (λ x. x.1.proc == p)) (enumerate_from-append 1 xs ys)
    ∙ filter-append (λ x. x.1.proc == p) (enumerate_from 1 xs) (enumerate_from (1 + length xs) ys)

-- the steps up to number i + 1, of which the last is this one
one_more : (steps : List Step) (i p : ℕ) (x : Step) → i < length steps → x ≡ get_or steps i x
    → own_steps (take (i + 1) steps) p ≡ own_steps (take i steps) p ++ filter (λ y. y.1.proc == p) ((i + 1, x) ∷ [])
one_more steps i p x inside is =
    ap (λ xs. own_steps xs p) (take_more steps i x inside ∙ ap (λ y. take i steps ++ y ∷ []) (sym is))
    ∙ own_steps-append (take i steps) (x ∷ []) p
    ∙ ap (λ k. own_steps (take i steps) p ++ filter (λ y. y.1.proc == p) ((k, x) ∷ [])) (omega (arith, length-take i steps))

-- it is one of p
own_steps-more : (steps : List Step) (i p : ℕ) (x : Step) → i < length steps → x ≡ get_or steps i x → x.proc ≡ p
    → own_steps (take (i + 1) steps) p ≡ own_steps (take i steps) p ++ (i + 1, x) ∷ []
own_steps-more steps i p x inside is own =
    let test : (x.proc == p) ≡ true = grind (arith, nat_tests) in
    rw test at (one_more steps i p x inside is)

-- it is one of p, and was appended with its number
pub own_steps-pushed : (steps : List Step) (i p : ℕ) (x : Step) (before after : List (ℕ × Step)) (pair : ℕ × Step)
    → i < length steps → x ≡ get_or steps i x → x.proc ≡ p
    → before ≡ own_steps (take i steps) p → pair ≡ (i + 1, x) → after ≡ before ++ pair ∷ [] → after ≡ own_steps (take (i + 1) steps) p
own_steps-pushed steps i p x before after pair inside is own so_far numbered pushed =
    pushed
    ∙ ap (λ y. before ++ y ∷ []) numbered
    ∙ ap (λ xs. xs ++ (i + 1, x) ∷ []) so_far
    ∙ sym (own_steps-more steps i p x inside is own)

-- it is none of p
pub own_steps-other : (steps : List Step) (i p : ℕ) (x : Step) → i < length steps → x ≡ get_or steps i x → (x.proc ≡ p → ⊥)
    → own_steps (take (i + 1) steps) p ≡ own_steps (take i steps) p
own_steps-other steps i p x inside is other =
    let test : (x.proc == p) ≡ false = grind (arith, nat_tests) in
    rw test at (one_more steps i p x inside is) ∙ append-nil (own_steps (take i steps) p)

-- if one step is of p, there are own steps
pub own_steps-some : (steps : List Step) (i p : ℕ) (x : Step)
    → i < length steps → x ≡ get_or steps i x → x.proc ≡ p → 0 < length (own_steps steps p)
own_steps-some steps i p x inside is own =
    let front = own_steps-append (take (i + 1) steps) (drop (i + 1) steps) p in
    let whole : own_steps steps p ≡ own_steps (take (i + 1) steps) p ++ filter
    (λ x. x.1.proc == p) (enumerate_from (1 + length (take (i + 1) steps)) (drop (i + 1) steps)) =
    ap (λ xs. own_steps xs p) (sym (take-append-drop (i + 1) steps)) ∙ front in
    omega (
      arith,
      ap length whole,
      length-append (own_steps (take (i + 1) steps) p)
          (filter (λ x. x.1.proc == p) (enumerate_from (1 + length (take (i + 1) steps)) (drop (i + 1) steps))),
      ap length (own_steps-more steps i p x inside is own),
      length_push (own_steps (take i steps) p) (i + 1, x),
    )
