use Rattle.std.proofs.Common.{◌≤◌, IsTrue, ◌∙◌, sym, ap, arith}
use Rattle.certificate_checker.proofs.Common.{Setup, has_proc}
use Rattle.certificate_checker.proofs.SilentGaps.{silence_of, KnowsLongest-other, KnowsLongest-passed, KnowsLongest-taken}
use Rattle.certificate_checker.proofs.gaps.longest_gap_at.Goals as goal
use Rattle.certificate_checker.proofs.gaps.longest_gap_at.Goals.{then-contains+then-end-next, then-contains+else-end-next, else-contains}

pub loop-p-preserved : goal.loop-p-preserved
loop-p-preserved c =
    let t = c.args.trace.now in
    let n = c.n-p-end.ensures.value ∙ ap (λ (s : Setup). s.n) c.config.ensures in
    let within : c.loop-p.p ≤ t.config.n = omega (arith, c.loop-p-test.true, n) in
    elim c.if-contains.branch [
      | then-contains+then-end-next w ↦ (let member : IsTrue (has_proc c.args.set c.loop-p.p) = sym c.contains.ensures
          ∙ w.if-contains.true in
          let silence = silence_of c.args.set t c.args.silences.now
          c.loop-p.p w.index-silences-p.result c.requires.known member within w.index-silences-p.is in
          let next = w.end-next.ensures c.loop-p.p silence c.requires.high in
          rw (w.proc-is, w.end-is) (KnowsLongest-taken c.args.set t c.args.from
          c.loop-p.p c.loop-p.proc c.loop-p.end w.end-next.result next member c.requires.low w.if-end-next.true c.loop-p.invariant))
      | then-contains+else-end-next w ↦ (let member : IsTrue (has_proc c.args.set c.loop-p.p) = sym c.contains.ensures
          ∙ w.if-contains.true in
          let silence = silence_of c.args.set t c.args.silences.now
          c.loop-p.p w.index-silences-p.result c.requires.known member within w.index-silences-p.is in
          let next = w.end-next.ensures c.loop-p.p silence c.requires.high in
          rw (w.proc-is, w.end-is) (KnowsLongest-passed c.args.set
          t c.args.from c.loop-p.p c.loop-p.proc c.loop-p.end w.end-next.result next w.if-end-next.false c.loop-p.invariant))
      | else-contains w ↦ rw (w.proc-is, w.end-is) (KnowsLongest-other c.args.set t c.args.from c.loop-p.p c.loop-p.proc c.loop-p.end
          (λ member. cc (member, c.contains.ensures, w.if-contains.false)) c.loop-p.invariant)
    ]
