use Rattle.std.proofs.Common.{◌≡◌, ◌≤◌, ◌+◌, ◌-◌, length, sym, subst, ◌∙◌, get_or, arith}
use Rattle.std.specs.Prelude.{slice_set}
use Rattle.std.proofs.lemmas.List.{length-set, get_or_default}
use Rattle.step_trace.specs.declared.processors.TheConstants.{MAX_MEMBER}
use Rattle.chunk_join.specs.BlockSteps.{AreEnded}
use Rattle.chunk_join.proofs.BlockSilences.{ended_push_at, ended_step, ended_same}
use Rattle.chunk_join.proofs.TickSearches.{steps_inside, steps_order}
use Rattle.suffix_staircase.proofs.LongestGaps.{member_range}
use Rattle.chunk_join.proofs.block_silences.end_silences.Goals as goal
use Rattle.chunk_join.proofs.block_silences.end_silences.Goals.{then-from-span+in_ok-push, else-from-span}

pub loop-no-init : goal.loop-no-init
loop-no-init c =
    (c.requires.long, steps_order c.args.trace.now c.args.span.tick c.args.span.before c.args.span.end c.requires.steps, λ i low k. k)

pub loop-no-preserved-in-Some : goal.loop-no-preserved-in-Some
loop-no-preserved-in-Some c =
    let t = c.args.trace.now in
    let x = c.args.span.tick in
    let n = c.loop-no.no - 1 in
    let p = c.in-Some.proc in
    let test = c.loop-no-test.true in
    let known = c.loop-no.invariant in
    let next : c.loop-no.no ≡ n + 1 = omega (arith, test) in
    let tick = steps_inside t x c.args.span.before c.args.span.end n c.requires.steps
    (omega (arith, test)) (omega (arith, test, c.loop-no.auto.no)) in
    let long : length (slice_set c.loop-no.begun.items p (x + 1)) ≡ MAX_MEMBER + 1 = length-set c.loop-no.begun.items p (x + 1) ∙ known.0 in
    let high = (member_range c.args.set p c.in-Some.ensures.0).1 in
    let value : c.index-from.result.now ≡ get_or c.loop-no.begun.items p 0 = c.index-from.ensures
    ∙ get_or_default c.loop-no.begun.items p c.index-from.result.now 0 (omega (arith, high, known.0)) in
    elim c.if-from-span.branch [
      | then-from-span+in_ok-push w ↦ rw w.silent-is (
        long,
        omega (arith, test),
        λ i low k.
            subst (λ xs. AreEnded c.args.set t i x n xs (slice_set c.loop-no.begun.items p (x + 1))) (sym w.in_ok-push.ensures.items)
            (ended_push_at c.args.set t c.requires.sound.time i x n p low c.requires.high c.in-Some.ensures.0
            c.in-Some.ensures.1 tick c.loop-no.silent.items c.loop-no.begun.items c.index-from.result.now value
            known.0 w.if-from-span.true
            (subst (λ m. AreEnded c.args.set t i x m c.loop-no.silent.items c.loop-no.begun.items) next (known.2 i low k))),
      )
      | else-from-span w ↦ rw w.silent-is (
        long,
        omega (arith, test),
        λ i low k.
            ended_step c.args.set t c.requires.sound.time i x n p low c.requires.high c.in-Some.ensures.0
            c.in-Some.ensures.1 tick c.loop-no.silent.items c.loop-no.begun.items known.0
            (subst (λ v. x ≤ v) value w.if-from-span.false)
            (subst (λ m. AreEnded c.args.set t i x m c.loop-no.silent.items c.loop-no.begun.items) next (known.2 i low k)),
      )
    ]

pub loop-no-preserved : goal.loop-no-preserved
loop-no-preserved c =
    let t = c.args.trace.now in
    let x = c.args.span.tick in
    let n = c.loop-no.no - 1 in
    let known = c.loop-no.invariant in
    let next : c.loop-no.no ≡ n + 1 = omega (arith, c.loop-no-test.true) in (
      known.0,
      omega (arith, c.loop-no-test.true),
      λ i low k. ended_same c.args.set t i x n c.loop-no.silent.items c.loop-no.begun.items c.in_default.ensures
          (subst (λ m. AreEnded c.args.set t i x m c.loop-no.silent.items c.loop-no.begun.items) next (known.2 i low k)),
    )

pub returns-clause-ended : goal.returns-clause-ended
returns-clause-ended c =
    let t = c.args.trace.now in
    let at : c.loop-no.no ≡ c.args.span.before = omega (arith, c.loop-no-test.false, c.loop-no.invariant.1) in
    λ i l k. subst (λ m. AreEnded c.args.set t i c.args.span.tick m c.loop-no.silent.items c.loop-no.begun.items) at
    (c.loop-no.invariant.2 i l k)
