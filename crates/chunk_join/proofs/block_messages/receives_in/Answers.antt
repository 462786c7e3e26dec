use Rattle.std.proofs.Common.{◌≤◌, ◌<◌, ◌⊎◌, inl, inr, ◌+◌, ◌-◌, ◌≡◌, ◌++◌, [], length, map, replicate, Option, Some, None, refl, sym, subst, arith, rules}
use Rattle.step_trace.specs.declared.processors.TheConstants.{MAX_MEMBER}
use Rattle.step_trace.specs.Traces.{ids_at}
use Rattle.step_trace.specs.Ticks.{tick_of}
use Rattle.chunk_join.specs.declared.summaries.Place.{Place}
use Rattle.chunk_join.specs.TickSteps.{IsReceiverAt}
use Rattle.chunk_join.specs.BlockSteps.{take_of, AreTakesBy}
use Rattle.chunk_join.proofs.BlockMessages.{step_after, last_none, last_same}
use Rattle.chunk_join.proofs.BlockTakes.{any_takes_none, any_takes_same, receives_more}
use Rattle.chunk_join.proofs.block_messages.receives_in.Goals as goal
use Rattle.chunk_join.proofs.block_messages.receives_in.Goals.{in-Some+in_ok-append_takes, in_default}

none_or_some : (o : Option Place) → (o ≡ None) ⊎ ((v : Place) × (o ≡ Some v))
none_or_some None = inl refl
none_or_some (Some v) = inr (v, refl)

pub loop-no-init : goal.loop-no-init
loop-no-init c =
    let none : c.in_ok-last.last.items ≡ replicate (MAX_MEMBER + 1) None =
    c.in_ok-last.ensures.items_if_clones_equal (λ y k. elim (none_or_some y) [ inl e ↦ e | inr v ↦ absurd (rw v.1 at k) ]) in (
      let same : c.args.before ≤ c.args.before = omega arith in same,
      rw c.new-taken.ensures.items (any_takes_none c.args.set c.args.trace.now c.args.from c.args.before c.requires.low c.requires.first),
      last_none c.args.set c.args.trace.now c.args.from c.args.before c.in_ok-last.last.items c.requires.low c.requires.first none,
    )

pub loop-no-preserved : goal.loop-no-preserved
loop-no-preserved c =
    let t = c.args.trace.now in
    let no = c.loop-no.no in
    let i = c.args.from - 1 in
    let order = c.loop-no.invariant.0 in
    let more : c.args.before ≤ no + 1 = omega (arith, order) in
    let inside : no < length t.steps = omega (arith, c.loop-no-test.true, c.requires.within) in
    let low = step_after t c.args.from c.args.before no c.requires.low c.requires.first order inside in
    elim c.match-receiving_member.branch [
      | in-Some+in_ok-append_takes w ↦ (
          let r = subst (IsReceiverAt c.args.set t.steps (no + 1)) w.in-Some.is c.receiving_member.ensures in
          let both = receives_more c.args.set t c.requires.sound i no w.in-Some.by
          (tick_of t (no + 1)) w.last_of-missed.result low refl r.1 r.0 c.loop-no.taken.items c.loop-no.last.items
          (search rules) c.loop-no.invariant.1 c.loop-no.invariant.2 in
          let items : w.append_takes.new.taken.items ≡ c.loop-no.taken.items
          ++ map (take_of t (record { no = no + 1; tick = tick_of t (no + 1) }) w.in-Some.by
          w.last_of-missed.result) (ids_at t.steps (no + 1)) = search rules in
          rw (w.taken-is, w.last-is, w.of-at.ensures) (more, subst (AreTakesBy c.args.set t i (no + 1) []) (sym items) both.0, both.1))
      | in_default w ↦ (
          let none = subst (IsReceiverAt c.args.set t.steps (no + 1)) w.in_default.is c.receiving_member.ensures in
          rw (w.taken-is, w.last-is) (
            more,
            any_takes_same c.args.set t i no c.loop-no.taken.items none c.loop-no.invariant.1,
            last_same c.args.set t i no c.loop-no.last.items none c.loop-no.invariant.2,
          ))
    ]

pub returns-clause-taken : goal.returns-clause-taken
returns-clause-taken c =
    let at : c.loop-no.no ≡ c.args.end = omega (arith, c.loop-no-test.false, c.loop-no.auto.no-end c.requires.order) in
    subst (λ k. AreTakesBy c.args.set c.args.trace.now (c.args.from - 1) k [] c.loop-no.taken.items) at c.loop-no.invariant.1
