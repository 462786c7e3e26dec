use Rattle.std.proofs.Common.{rules, ◌≡◌, ℕ, Option, Some, ◌+◌, ◌-◌, ◌≤◌, ◌<◌, subst, arith}
use Rattle.chunk_join.specs.Summaries.{Whole, Summary, IsSummary}
use Rattle.chunk_join.specs.Digests.{IsDigestOf}
use Rattle.chunk_join.proofs.Undominated.{IsDigestOf-keeps}
use Rattle.chunk_join.proofs.digests.Digest.of.Goals as goal

pub loop-next-preserved : goal.loop-next-preserved
loop-next-preserved c =
    let low = c.block_end-end.ensures.low in
    let high = c.block_end-end.ensures.high in
    record {
      low = omega (arith, low, c.loop-next.invariant.low);
      none = λ h. absurd (omega (arith, h, c.loop-next.invariant.low, c.loop-next-test.true));
      high = omega (arith, high);
      whole = λ sound. (
          let w : Whole = record { set = c.args.set; trace = c.args.trace.now; sound = sound } in
          let is : IsSummary c.args.set c.args.trace.now (c.loop-next.next - 1) c.block_end-end.result c.in_ok-part.part = search rules in
          let block : IsDigestOf w (c.loop-next.next - 1) c.block_end-end.result (Some c.thin.result) = (
            omega (arith, low, c.loop-next.invariant.low, c.requires.low),
            omega
                (arith, high, c.requires.high),
            (c.in_ok-part.part, is, c.thin.ensures),
          ) in
          let both = c.in_ok-whole.ensures w (c.args.from - 1)
          (c.loop-next.next - 1) c.block_end-end.result (c.loop-next.invariant.whole sound) block in
          let e : c.block_end-end.result ≡ c.block_end-end.result + 1 - 1 = omega arith in
          subst (λ k. IsDigestOf w (c.args.from - 1) k c.in_ok-whole.whole) e both);
    }

-- past the last block the digest is that of all ticks
ended : (w : Whole) (from to next : ℕ) (d : Option Summary)
    → next ≤ to + 1 → to < next → IsDigestOf w (from - 1) (next - 1) d → IsDigestOf w (from - 1) to d
ended w from to next d high past h = let e : next - 1 ≡ to = omega (arith, high, past) in subst (λ k. IsDigestOf w (from - 1) k d) e h

pub returns-clause-digest : goal.returns-clause-digest
returns-clause-digest c = λ sound.
    ended (let w : Whole = record { set = c.args.set; trace = c.args.trace.now; sound = sound } in w) c.args.from
    c.args.to c.loop-next.next c.loop-next.whole c.loop-next.invariant.high c.loop-next-test.false
    (c.loop-next.invariant.whole sound)

pub returns-clause-keeps : goal.returns-clause-keeps
returns-clause-keeps c = λ sound. (let w : Whole = record { set = c.args.set; trace = c.args.trace.now; sound = sound } in
    IsDigestOf-keeps w (c.args.from - 1) c.args.to c.loop-next.whole (returns-clause-digest c sound))
