use Rattle.std.proofs.Common.{ℕ, ◌<◌, ◌≤◌, ◌≡◌, length, List, subst}
use Rattle.std.proofs.lemmas.Result.{err_from_is_err_and}
use Rattle.std.proofs.lemmas.Int.{to_z-of_z}
use mir.Val.{SFits}
use mir.Syntax.{w128}
use Rattle.timed_events.specs.declared.events.Event.{Event}
use Rattle.clock_offsets.specs.MovedClocks.{moved_event}
use Rattle.clock_offsets.proofs.MovedClocks.{in_time-next, late-next, moved-next, not_late}
use Rattle.clock_offsets.proofs.alignments.moved_events.Goals as goal

within : (k : ℕ) (xs ys : List Event) → xs ≡ ys → k < length xs → k < length ys
within k xs ys e l = subst (λ zs. k < length zs) e l

pub returns-in_err-move_event-clause-refused : goal.returns-in_err-move_event-clause-refused
returns-in_err-move_event-clause-refused c =
    let p = err_from_is_err_and c.from_residual.result c.from_residual.ensures.1 in
    let fits : SFits w128 c.args.latest = c.ranges.latest in
    let late = simp to_z-of_z at c.in_err-move_event.ensures.refused in
    rw (p.1) (
    late-next c.args.offsets.now c.args.latest c.args.events.items
    c.loop-event.event-items c.loop-event.event-index c.event-item.result c.loop-event.invariant.moved
    (within c.loop-event.event-index c.deref_mut-event-items.result.now
    c.args.events.items c.deref_mut-event-items.ensures.value c.loop-event-test.true) late)

pub loop-event-preserved : goal.loop-event-preserved
loop-event-preserved c =
    let here = within c.loop-event.event-index c.deref_mut-event-items.result.now c.args.events.items
    c.deref_mut-event-items.ensures.value c.loop-event-test.true in
    record {
      moved = moved-next (moved_event c.args.offsets.now) c.args.events.items c.loop-event.event-items c.loop-event.event-index
          c.event-item.result c.move_event.new.event c.loop-event.invariant.moved here c.in_ok-move_event.ensures.moved;
      in_time = in_time-next c.args.offsets.now _ c.args.events.items c.loop-event.event-items c.loop-event.event-index
          c.event-item.result c.loop-event.invariant.moved here c.in_ok-move_event.ensures.within c.loop-event.invariant.in_time;
    }

pub returns-clause-within : goal.returns-clause-within
returns-clause-within c =
    let fits : SFits w128 c.args.latest = c.ranges.latest in
    not_late c.args.events.items c.args.offsets.now c.args.latest c.loop-event.event-index
    (simp to_z-of_z at c.loop-event.invariant.in_time)
    (subst (λ xs. length xs ≤ c.loop-event.event-index) c.deref_mut-event-items.ensures.value c.loop-event-test.false)
