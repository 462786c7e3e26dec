use Rattle.std.proofs.Common.{rules, ◌≡◌, sym, find, not, None, true}
use Rattle.step_trace.specs.PushRefusals.{is_rising}
use Rattle.step_trace.specs.DeliveryIndex.{flag_of}
use Rattle.step_trace.specs.Takes.{can_take}
use Rattle.step_trace.proofs.Takes.{no_refusal}
use Rattle.step_trace.proofs.push_refusals.ids_refusal.Goals as goal

pub returns-then-is_none : goal.returns-then-is_none
returns-then-is_none c =
    let rising : is_rising c.args.ids.now ≡ true = search rules in
    let none : find (λ s. not (can_take c.args.so_far.now (flag_of c.args.taken.now) c.args.tick c.args.p s)) c.args.ids.now
    ≡ None = search rules in
    sym (no_refusal c.args.so_far.now (flag_of c.args.taken.now) c.args.tick c.args.p c.args.ids.now rising none)
