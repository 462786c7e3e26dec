use Rattle.std.proofs.Common.{ℕ, ◌≡◌, ◌+◌, ◌∙◌, List, get_or, sym, ap, subst}
use Rattle.certificate_checker.proofs.Common.{Row, Recorded, after_stretch, ShowsPhi}
use Rattle.certificate_checker.proofs.RowSearches.{no_row, row_found, row_passed, row_none, row_first}
use Rattle.certificate_checker.proofs.witnesses.first_bad_gap.Goals as goal
use Rattle.certificate_checker.proofs.witnesses.first_bad_gap.Goals.{After-after_stretch-after}

-- the row doesn't show its bound
abbrev Lacks : ℕ → Recorded → List Row → ℕ → Row → Type 0
Lacks set t rows j r = ¬ ShowsPhi set t (after_stretch rows t.last j) r.phi r.gap

pub loop-k-init : goal.loop-k-init
loop-k-init c = row_first (Lacks c.args.set c.args.trace.now c.args.rows.now) c.args.rows.now

-- the tick after the stretch
after_is : (c : After-after_stretch-after) → c.after_stretch-after.result
    ≡ after_stretch c.args.rows.now c.args.trace.now.last (c.loop-k.k + 1)
after_is c = c.after_stretch-after.ensures
    ∙ ap (λ (last : ℕ). after_stretch c.args.rows.now last (c.loop-k.k + 1)) c.last_tick.ensures.value

pub returns-then-not-shows_phi : goal.returns-then-not-shows_phi
returns-then-not-shows_phi c = row_found (Lacks c.args.set c.args.trace.now c.args.rows.now)
    c.args.rows.now c.loop-k.k no_row c.loop-k-test.true (λ s. let e = c.shows_phi.ensures.1
    (subst (λ (after : ℕ). ShowsPhi c.args.set c.args.trace.now after (get_or c.args.rows.now c.loop-k.k no_row).phi
    (get_or c.args.rows.now c.loop-k.k no_row).gap) (sym (after_is (goal.at.returns-then-not-shows_phi c).After-after_stretch-after)) s) in
    let f = c.if-not-shows_phi.true in cc) c.loop-k.invariant

pub loop-k-preserved : goal.loop-k-preserved
loop-k-preserved c = row_passed (Lacks c.args.set c.args.trace.now c.args.rows.now) c.args.rows.now c.loop-k.k no_row
    (λ lacks.
    lacks
    (subst (λ (after : ℕ). ShowsPhi c.args.set c.args.trace.now after (get_or c.args.rows.now c.loop-k.k no_row).phi
    (get_or c.args.rows.now c.loop-k.k no_row).gap)
    (after_is (goal.at.loop-k-preserved c).After-after_stretch-after)
    (c.shows_phi.ensures.0 c.if-not-shows_phi.false)))
    c.loop-k.invariant

pub returns : goal.returns
returns c = row_none (Lacks c.args.set c.args.trace.now c.args.rows.now) c.args.rows.now c.loop-k.k c.loop-k-test.false c.loop-k.invariant
