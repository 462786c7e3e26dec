use Rattle.std.proofs.Common.{ℕ, ◌∙◌, ap, arith}
use Rattle.certificate_checker.proofs.Common.{Setup, Silence, KnowsSilence}
use Rattle.certificate_checker.proofs.SilentGaps.{pushed_long, pushed_each}
use Rattle.certificate_checker.proofs.SilenceSteps.{KnowsSilence-before_all}
use Rattle.certificate_checker.proofs.silences.before_all.Goals as goal

pub loop-preserved : goal.loop-preserved
loop-preserved c =
    let n = c.n-end.ensures.value ∙ ap (λ (s : Setup). s.n) c.config.ensures in
    let known = c.loop.invariant in
    let pushed = c.in_ok-push.ensures.items in
    record {
      end = omega (arith, c.loop-test.true, n);
      long = pushed_long c.loop.found.items c.push.new.self.items _ c.loop.counter pushed known.long;
      each = pushed_each (λ (q : ℕ) (x : Silence). KnowsSilence c.args.trace.now q 1 x) c.loop.found.items c.push.new.self.items
          _ c.loop.counter pushed known.long known.each (KnowsSilence-before_all c.args.trace.now c.loop.counter _ c.new.ensures.items);
    }

pub returns : goal.returns
returns c =
    let n = c.n-end.ensures.value ∙ ap (λ (s : Setup). s.n) c.config.ensures in
    let last = c.loop-test.false in
    λ set. record {
      long = (let long = c.loop.invariant.long in let end = c.loop.invariant.end in omega (arith, n, last, long, end));
      each = λ p s member h. c.loop.invariant.each p s h;
    }
