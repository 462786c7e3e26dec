use Rattle.std.proofs.Common.{ℕ, List, All, length, ◌≡◌, ◌≤◌, Some, sym, subst, rules}
use Rattle.step_trace.specs.Traces.{step_at}
use Rattle.chunk_join.proofs.ReceivedIds.{ids_low, ids_high}
use Rattle.chunk_join.proofs.block_messages.append_takes.Goals as goal

pub append_ids-requires-clause-low : goal.append_ids-requires-clause-low
append_ids-requires-clause-low c =
    let t = c.args.trace.now in
    let step : step_at t.steps c.args.at.no ≡ Some c.in-Some.step.now = search rules in
    subst (λ (ids : List ℕ). All (λ s. 1 ≤ s) ids) (sym c.ids.ensures) (ids_low t c.args.at.no c.in-Some.step.now c.step.ensures.sound step)

pub append_ids-requires-clause-high : goal.append_ids-requires-clause-high
append_ids-requires-clause-high c =
    let t = c.args.trace.now in
    let step : step_at t.steps c.args.at.no ≡ Some c.in-Some.step.now = search rules in
    subst (λ (ids : List ℕ). All (λ s. s ≤ length t.steps) ids)
    (sym c.ids.ensures) (ids_high t c.args.at.no c.in-Some.step.now c.step.ensures.sound step)
