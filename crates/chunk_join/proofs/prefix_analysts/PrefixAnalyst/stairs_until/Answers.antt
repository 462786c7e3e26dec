use Rattle.std.proofs.Common.{◌≡◌, ◌-◌, ◌+◌, sym, subst, arith}
use Rattle.std.proofs.lemmas.Result.{IfOk-weaker}
use Rattle.step_trace.specs.Cuts.{IsCutAt}
use Rattle.suffix_staircase.specs.Analysis.{AreLevelsFrom}
use Rattle.chunk_join.specs.Analysts.{Followed}
use Rattle.chunk_join.specs.Summaries.{Whole}
use Rattle.chunk_join.proofs.SharedTicks.{IsDigestUpTo-cut}
use Rattle.chunk_join.proofs.prefix_analysts.PrefixAnalyst.stairs_until.Goals as goal

pub take_in-requires-clause-before : goal.take_in-requires-clause-before
take_in-requires-clause-before c =
    let at : c.begun-self-inside.result + 1 - 1 ≡ c.begun-self-inside.result = omega arith in
    rw at (c.begun-self-inside.ensures.before c.self.inside.set c.self.inside.trace.now c.self.invariant.1)

pub invariant_of-self : goal.invariant_of-self
invariant_of-self c =
    let low = c.begun-self-inside.ensures.inside in
    let inside = c.self.invariant.0 in (
      omega (arith, low, inside),
      rw c.in_err-take_in.ensures.err
          (c.begun-self-inside.ensures.before c.self.inside.set c.self.inside.trace.now c.self.invariant.1),
    )

pub returns-clause-stairs : goal.returns-clause-stairs
returns-clause-stairs c = IfOk-weaker c.last_stairs.result _ _
    (λ stairs levels cut sound at.
    (let whole : Whole = record { set = c.self.inside.set; trace = cut; sound = sound } in
    let here : IsCutAt c.self.inside.trace.now c.args.to cut =
    subst (λ (f : Followed). IsCutAt f.seen c.args.to cut) (sym c.self.view_is) at in
    let order = c.requires.order in
    let end = here.last in
    subst (λ (f : Followed). AreLevelsFrom f.set cut c.args.from stairs) c.self.view_is
    (levels whole (IsDigestUpTo-cut c.self.inside.set c.self.inside.trace.now
    cut c.args.to c.take_in.new.digest c.last_tick-last.ensures.well_formed sound here c.in_ok-take_in.ensures.ok sound)
    (omega (arith, order, end)))))
    c.last_stairs.ensures
