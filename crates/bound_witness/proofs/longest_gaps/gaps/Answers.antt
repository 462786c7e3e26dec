use Rattle.std.proofs.Common.{◌≡◌, ◌+◌, ap, arith, subst}
use Rattle.step_trace.specs.Configurations.{Setup}
use Rattle.bound_witness.specs.LongestGaps.{ListsGapsBy}
use Rattle.bound_witness.proofs.GapLists.{ListsGapsBy-all}
use Rattle.bound_witness.proofs.longest_gaps.gaps.Goals as goal

pub returns-clause-listed : goal.returns-clause-listed
returns-clause-listed c =
    let h : c.config.result.now.n ≡ c.args.trace.now.config.n = ap (λ (s : Setup). s.n) c.config.ensures in
    let e : c.loop-p.p ≡ c.args.trace.now.config.n + 1 = omega arith in
    ListsGapsBy-all c.args.set c.args.trace.now c.args.trace.now.config.n c.loop-p.found.items c.requires
    (subst (λ k. ListsGapsBy c.args.set c.args.trace.now k 0 c.loop-p.found.items) e c.loop-p.invariant)
