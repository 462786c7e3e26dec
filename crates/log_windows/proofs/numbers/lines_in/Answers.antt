use Rattle.std.proofs.Common.{ℕ, zero, suc, ◌≡◌, ◌<◌, ◌∙◌, List, [], ◌∷◌, length, ap, refl, get_or, set, subst}
use Rattle.std.proofs.lemmas.List.Edits.{map_over_more}
use Rattle.event_log.specs.declared.cycle_lines.CycleLine.{CycleLine}
use Rattle.log_windows.specs.Numbers.{line_in}
use Rattle.log_windows.proofs.numbers.lines_in.Goals as goal

within : (k : ℕ) (xs ys : List CycleLine) → xs ≡ ys → k < length xs → k < length ys
within k xs ys e l = subst (λ zs. k < length zs) e l

-- what is read at a place is read there whatever the default is
read-again : (xs : List CycleLine) (k : ℕ) (d : CycleLine) → get_or xs k d ≡ get_or xs k (get_or xs k d)
read-again [] k d = refl
read-again (x ∷ xs) zero d = refl
read-again (x ∷ xs) (suc k) d = read-again xs k d

pub loop-line-preserved : goal.loop-line-preserved
loop-line-preserved c =
    let k = c.loop-line.line-index in
    let lines = c.loop-line.line-items in
    let line = c.line-item.result in
    ap (λ (new : CycleLine). set lines k new) c.number_line.ensures
    ∙ map_over_more (line_in c.args.places.now) c.args.lines lines k (get_or lines k line)
    (within k _ c.args.lines (c.deref_mut-line-items.ensures.value ∙ c.into_lines-numbered.ensures) c.loop-line-test.true)
    c.loop-line.invariant (read-again lines k line)
