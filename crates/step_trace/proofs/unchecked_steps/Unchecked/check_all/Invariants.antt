use Rattle.std.proofs.Common.{◌≡◌, ◌-◌, ℕ, length}
use Rattle.step_trace.specs.UncheckedSteps.{IsChecked, IsLeft, unchecked}
use Rattle.step_trace.proofs.unchecked_steps.Unchecked.check_all.Given as goal

abbrev pub decreases-loop-self : goal.decreases-loop-self
decreases-loop-self l = length l.self.placed.steps - length l.self.taken.items

-- the steps that are left lead where all of them led, and are reached as they were then
abbrev pub invariant-loop-self : goal.invariant-loop-self
invariant-loop-self l = record {
  sound : IsChecked l.self;
  config : l.self.config ≡ l.fn.self.config;
  placed : l.self.placed ≡ l.fn.self.placed;
  leads : unchecked l.self ≡ unchecked l.fn.self;
  later : (no : ℕ) → IsLeft l.self no → IsLeft l.fn.self no;
}
