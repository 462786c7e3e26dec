use Rattle.std.proofs.Common.{◌≡◌, ◌∙◌, List, ℕ, ◌∷◌, ◌++◌, [], drop, take, true, false, eqb, ap, subst, sym}
use Rattle.std.specs.List.{starts_with}
use Rattle.trace_text.proofs.TextFronts.{marked, unmarked}
use Rattle.log_windows.proofs.devices.remove_mark.Goals as goal

pub returns-then-starts_with : goal.returns-then-starts_with
returns-then-starts_with c = λ bytes e long.
    let behind = c.behind_line.ensures ∙ ap (λ (xs : List ℕ). drop 1 xs) (c.deref.ensures.value ∙ e) in
    let starts : starts_with eqb bytes (239 ∷ 187 ∷ 191 ∷ []) ≡ true =
    subst (λ (xs : List ℕ). starts_with eqb xs (239 ∷ 187 ∷ 191 ∷ []) ≡ true) behind
    (sym c.starts_with.ensures.value ∙ c.if-starts_with.true) in
    c.remove_after_first.ensures ∙ ap (λ (xs : List ℕ). take 1 xs ++ drop 4 xs) e
    ∙ ap (λ (xs : List ℕ). 10 ∷ xs) (sym (marked bytes starts))

pub returns-else-starts_with : goal.returns-else-starts_with
returns-else-starts_with c = λ bytes e long.
    let behind = c.behind_line.ensures ∙ ap (λ (xs : List ℕ). drop 1 xs) (c.deref.ensures.value ∙ e) in
    let starts : starts_with eqb bytes (239 ∷ 187 ∷ 191 ∷ []) ≡ false =
    subst (λ (xs : List ℕ). starts_with eqb xs (239 ∷ 187 ∷ 191 ∷ []) ≡ false) behind
    (sym c.starts_with.ensures.value ∙ c.if-starts_with.false) in
    e ∙ ap (λ (xs : List ℕ). 10 ∷ xs) (sym (unmarked bytes starts))
