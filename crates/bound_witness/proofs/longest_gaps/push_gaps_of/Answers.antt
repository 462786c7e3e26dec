use Rattle.std.proofs.Common.{arith, refl, sym}
use Rattle.std.proofs.lemmas.Result.{on_ok_weaker, on_err_weaker, err_from_is_err_and}
use Rattle.bound_witness.proofs.GapLists.{IsScanned-gap, IsScanned-last_gap, IsScanned-step, IsScanned-pass, IsScanned-end, ListsGapsBy-pass}
use Rattle.bound_witness.proofs.longest_gaps.push_gaps_of.Goals as goal
use Rattle.bound_witness.proofs.longest_gaps.push_gaps_of.Goals.{then-is_step_of+in_ok-push_gap_between, else-is_step_of}

pub returns-then-not-contains-clause-listed : goal.returns-then-not-contains-clause-listed
returns-then-not-contains-clause-listed c = ListsGapsBy-pass c.args.set c.args.trace.now c.args.p c.args.found.now.items
    (sym c.if-not-contains.ensures) c.requires

pub loop-no-preserved : goal.loop-no-preserved
loop-no-preserved c = elim c.if-is_step_of.branch [
  | then-is_step_of+in_ok-push_gap_between w ↦ rw (w.last-is, w.found-is, w.in_ok-push_gap_between.ensures.appended)
      (IsScanned-step c.args.set c.args.trace.now c.args.p c.loop-no.last c.loop-no.no w.tick-tick.result
      c.loop-no.found.items c.last_tick-end.ensures.timed (sym c.if-not-contains.ensures)
      (w.if-is_step_of.ensures.0 refl) w.tick-tick.ensures.value c.loop-no.invariant)
  | else-is_step_of w ↦ rw (w.last-is, w.found-is) (IsScanned-pass c.args.set c.args.trace.now
      c.args.p c.loop-no.last c.loop-no.no c.loop-no.found.items (λ s. let e = w.if-is_step_of.ensures.1 s in cc) c.loop-no.invariant)
]

pub returns-in_err-push_gap_between-clause-more : goal.returns-in_err-push_gap_between-clause-more
returns-in_err-push_gap_between-clause-more c =
    let refused = err_from_is_err_and c.from_residual.result c.from_residual.ensures.1 in
    rw refused.1 (IsScanned-gap c.args.set c.args.trace.now c.args.p c.loop-no.last c.loop-no.no c.tick-tick.result
    c.loop-no.found.items c.last_tick-end.ensures.timed (sym c.if-not-contains.ensures)
    (c.if-is_step_of.ensures.0 refl) c.tick-tick.ensures.value c.in_err-push_gap_between.ensures.more
    c.loop-no.invariant)

pub returns-clause-more : goal.returns-clause-more
returns-clause-more c = on_err_weaker c.push_gap_between-2.result
    (λ l. IsScanned-last_gap c.args.set c.args.trace.now c.args.p c.loop-no.last c.loop-no.no c.last_tick-end.result
    c.loop-no.found.items (omega arith) (sym c.if-not-contains.ensures) c.last_tick-end.ensures.value l
    c.loop-no.invariant)
    c.push_gap_between-2.ensures.more

pub returns-clause-listed : goal.returns-clause-listed
returns-clause-listed c = on_ok_weaker c.push_gap_between-2.result
    (λ q. rw q (IsScanned-end c.args.set c.args.trace.now c.args.p c.loop-no.last c.loop-no.no c.last_tick-end.result
    c.loop-no.found.items (omega arith) (sym c.if-not-contains.ensures) c.last_tick-end.ensures.value
    c.loop-no.invariant))
    c.push_gap_between-2.ensures.appended
