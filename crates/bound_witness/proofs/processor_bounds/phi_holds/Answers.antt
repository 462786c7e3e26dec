use Rattle.std.proofs.Common.{◌≤◌, below_more, arith, refl, sym}
use Rattle.bound_witness.specs.WitnessSearches.{AllStepWithin}
use Rattle.bound_witness.proofs.GapSearches.{all_step}
use Rattle.bound_witness.proofs.processor_bounds.phi_holds.Goals as goal

pub loop-x-preserved : goal.loop-x-preserved
loop-x-preserved c = below_more (λ x. c.args.g ≤ x → AllStepWithin c.args.set c.args.trace.now x c.args.f) _ c.loop-x.invariant
    (λ _. all_step c.args.set c.args.trace.now c.loop-x.x c.args.f c.first_silent.result (sym c.if-is_some.ensures) c.first_silent.ensures)

pub returns : goal.returns
returns c = (λ _. record { each = λ x l k. (c.loop-x.invariant x (omega arith) l).each }, λ _. refl)
