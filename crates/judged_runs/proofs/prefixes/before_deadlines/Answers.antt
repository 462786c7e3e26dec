use Rattle.std.proofs.Common.{◌≡◌, ◌-◌, ◌<◌, ◌≤◌, inl, inr, Some, get_or, length, subst, arith}
use Rattle.std.specs.Prelude.{slice_get}
use Rattle.std.proofs.lemmas.Bool.{cases_eq}
use Rattle.std.proofs.lemmas.Option.{slice_get-get_or, get_or_from_slice_get}
use Rattle.step_trace.specs.declared.rows.Row.{Row}
use Rattle.step_trace.specs.Fronts.{triple_of}
use Rattle.decision_claims.specs.Formulas.{deadline}
use Rattle.decision_claims.proofs.LateRows.{no_row}
use Rattle.judged_runs.proofs.FallingRows.{time_kept}
use Rattle.judged_runs.proofs.prefixes.before_deadlines.Goals as goal

pub loop-k-preserved : goal.loop-k-preserved
loop-k-preserved c =
    let rows = c.args.rows.now in
    let due = deadline c.args.trace.now.config c.args.start c.args.formula.now in
    let here = c.loop-k.k - 1 in
    let inside : here < length rows = (let some = c.loop-k-test.true in let all = c.loop-k.auto.k in omega (arith, some, all)) in
    let new = c.nearer-nearest.ensures in
    record {
      end = (let old = c.loop-k.invariant.end in let less = new.least in omega (arith, old, less));
      later = λ i r l at begun. elim (cases_eq i here) [
        | inl e ↦ subst (λ (x : Row). x.gst ≤ c.args.until → c.nearer-nearest.result.least ≤ due (triple_of x))
            (get_or_from_slice_get rows here r no_row (subst (λ j. slice_get rows j ≡ Some r) e at)) new.row begun
        | inr e ↦ (let old = c.loop-k.invariant.later i r (omega (arith, l, e)) at begun in
            let less = new.least in omega (arith, old, less))
      ];
      time = λ i r l at. (let there = slice_get-get_or rows here no_row inside in
          time_kept c.args.trace.now.config c.args.start c.args.formula.now r (get_or rows here no_row) c.nearer-nearest.result.time
          (c.requires.delta i here r (get_or rows here no_row) l at there)
          (c.requires.phi i here r (get_or rows here no_row) l at there) new.time);
    }
