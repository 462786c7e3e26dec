use Rattle.std.proofs.Common.{◌≡◌, List, ◌∙◌, sym, ap, subst}
use Rattle.simulated_runs.proofs.Common.{Posted, due_ids, not_due}
use Rattle.simulated_runs.proofs.DueMessages.{all-left, none-due}
use Rattle.simulated_runs.proofs.trays.Tray.take_due.Goals as goal

pub returns-then-tick-self-clause-due : goal.returns-then-tick-self-clause-due
returns-then-tick-self-clause-due c = c.new.ensures.items ∙ sym (none-due c.args.tick
    c.self.inside.earliest c.self.inside.posted.items c.self.invariant c.if-tick-self.true) ∙ ap (due_ids c.args.tick) c.self.view_is

pub returns-then-tick-self-clause-left : goal.returns-then-tick-self-clause-left
returns-then-tick-self-clause-left c =
    subst (λ (m : List Posted). m ≡ not_due c.args.tick m) c.self.view_is
    (sym (all-left c.args.tick c.self.inside.earliest c.self.inside.posted.items c.self.invariant c.if-tick-self.true))
