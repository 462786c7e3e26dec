use Rattle.std.proofs.Common.{ℕ, ◌≡◌, ◌+◌, List, ◌∷◌, ◌++◌, [], None, subst, arith}
use Rattle.std.specs.Prelude.{IsSome}
use Rattle.step_trace.specs.declared.rows.Miss.{Miss}
use Rattle.step_trace.specs.declared.rows.Row.{Row}
use Rattle.step_trace.specs.Traces.{Recorded}
use Rattle.run_story.specs.declared.delays.Delay.{Delay}
use Rattle.run_story.specs.Delays.{AreDelaysTo, IsDelay, miss_at}
use Rattle.run_story.proofs.Stretches.{stretches-push, stretches-skip}
use Rattle.run_story.proofs.delays.delays_of.Goals as goal

-- one delay more
delays-push : (trace : Recorded) (rows : List Row) (n : ℕ) (delays : List Delay) (d : Delay)
    → IsDelay trace rows d → d.first ≡ n → AreDelaysTo trace rows n delays → AreDelaysTo trace rows (d.last + 1) (delays ++ d ∷ [])
delays-push trace rows n delays d delay begins are = stretches-push Delay
    (λ d. d.first) (λ d. d.last) (IsDelay trace rows) (λ k. IsSome (miss_at rows k)) n delays d delay begins delay.run.order are

-- a row with no miss
delays-skip : (trace : Recorded) (rows : List Row) (n : ℕ) (delays : List Delay)
    → miss_at rows n ≡ None → AreDelaysTo trace rows n delays → AreDelaysTo trace rows (n + 1) delays
delays-skip trace rows n delays none are =
    stretches-skip Delay (λ d. d.first) (λ d. d.last) (IsDelay trace rows) (λ k. IsSome (miss_at rows k)) n delays
    (λ some. let found : IsSome {T = Miss} None = subst IsSome none some in cc) are

pub loop-next-preserved-in-Some : goal.loop-next-preserved-in-Some
loop-next-preserved-in-Some c = record {
  within = (let inside = c.in-Some.ensures.delay.run.inside in omega (arith, inside));
  listed = rw c.in_ok-push-in-Some.ensures.items (delays-push c.args.trace.now c.args.rows.now c.loop-next.next
      c.loop-next.delays.items c.in-Some.delay c.in-Some.ensures.delay c.in-Some.ensures.first c.loop-next.invariant.listed);
}

pub loop-next-preserved : goal.loop-next-preserved
loop-next-preserved c = record {
  within = omega (arith, c.loop-next-test.true);
  listed = delays-skip c.args.trace.now c.args.rows.now
      c.loop-next.next c.loop-next.delays.items c.in-None.ensures.delay c.loop-next.invariant.listed;
}

pub returns : goal.returns
returns c =
    subst (λ (n : ℕ). AreDelaysTo c.args.trace.now c.args.rows.now n c.loop-next.delays.items)
    (let within = c.loop-next.invariant.within in omega (arith, within, c.loop-next-test.false)) c.loop-next.invariant.listed
