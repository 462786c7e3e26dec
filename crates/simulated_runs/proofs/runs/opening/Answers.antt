use Rattle.std.proofs.Common.{◌≤◌, length}
use Rattle.command_options.specs.Simulations.{live}
use Rattle.simulated_runs.proofs.Openings.{HasRun-opening, for-stated, small-bounds}
use Rattle.simulated_runs.proofs.runs.opening.Goals as goal

pub returns-clause-run : goal.returns-clause-run
returns-clause-run c =
    let o = c.args.options in
    HasRun-opening o.config o.crashes.items o.bounds _ o.patience c.n-n.ensures.sound c.in_ok-new.ensures.config c.in_ok-new.ensures.steps
    c.in_ok-paces.ensures
    (rw (c.n-n.ensures.value, c.deref-2.ensures.value) at c.in_ok-lasts.ensures)
    (rw c.n-n.ensures.value at c.in_ok-post.ensures.trays) c.in_ok-post.ensures.bounds c.new-3.ensures
    (rw (c.n-n.ensures.value, c.deref.ensures.value) at c.in_ok-turns.ensures)
    (for-stated (λ b. length (live o.config.n o.crashes.items) ≤ b.phi) o.bounds o.kept) (small-bounds o.bounds)
