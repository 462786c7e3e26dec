use Rattle.std.proofs.Common.{◌≤◌, IsTrue, ◌∙◌, sym, ap, arith}
use Rattle.certificate_checker.proofs.Common.{Setup, has_proc}
use Rattle.certificate_checker.proofs.SilentGaps.{silence_of}
use Rattle.certificate_checker.proofs.ClosedTicks.{KnowsEnds-member, KnowsEnds-other, AreClosings-carried}
use Rattle.certificate_checker.proofs.closings.closings.Goals as goal
use Rattle.certificate_checker.proofs.closings.closings.Goals.{then-contains, else-contains}

pub loop-p-preserved : goal.loop-p-preserved
loop-p-preserved c =
    let t = c.args.trace.now in
    let p = c.loop-p.p in
    let n = c.n-p-end.ensures.value ∙ ap (λ (s : Setup). s.n) c.config.ensures in
    let within : p ≤ t.config.n = omega (arith, c.loop-p-test.true, n) in
    record {
      end = omega (arith, within);
      known = elim c.if-contains.branch [
        | then-contains w ↦ (let member : IsTrue (has_proc c.args.set p) = sym c.contains.ensures ∙ w.if-contains.true in
            let silence = silence_of c.args.set t c.args.silences.now
            p w.index-silences-p.result c.requires.silences member within w.index-silences-p.is in
            rw w.ends-is (KnowsEnds-member c.args.set t p c.loop-p.ends.items w.put_ends.new.ends.items member
            (w.put_ends.ensures p silence) c.loop-p.invariant.known))
        | else-contains w ↦ rw w.ends-is (KnowsEnds-other c.args.set t p c.loop-p.ends.items
            (λ member. cc (member, c.contains.ensures, w.if-contains.false)) c.loop-p.invariant.known)
      ];
    }

pub returns : goal.returns
returns c =
    let n = c.n-p-end.ensures.value ∙ ap (λ (s : Setup). s.n) c.config.ensures in
    let all = c.loop-p-test.false in
    AreClosings-carried c.args.set c.args.trace.now c.loop-p.p c.loop-p.ends.items c.carry.new.ends.items c.requires.set
    (omega (arith, n, all)) c.loop-p.invariant.known c.carry.ensures
