use Rattle.std.proofs.Common.{ℕ, ◌<◌, length, subst}
use Rattle.std.specs.Prelude.{slice_index}
use Rattle.timed_events.proofs.CausalOrders.{walked-all}
use Rattle.timed_events.proofs.cause_cycles.cause_cycle.Goals as goal

pub returns-clause-none : goal.returns-clause-none
returns-clause-none c = λ e. (
  c.in_ok-walk.walk.order.items,
  walked-all c.args.events.now c.in_ok-walk.walk.heads.items
      c.in_ok-walk.walk.met.items c.in_ok-walk.walk.waits.items c.in_ok-walk.walk.ranks.items
      c.in_ok-walk.walk.order.items c.in_ok-walk.walk.awake.items c.in_ok-walk.ensures.walked
      (subst (λ xs. (i : ℕ) → i < length xs → 0 < slice_index xs i) c.deref.ensures.value c.in-None.ensures.none),
)
