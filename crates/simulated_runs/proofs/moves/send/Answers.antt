use Rattle.std.proofs.Common.{◌≤◌, List, length, sym, subst, arith}
use Rattle.simulated_runs.proofs.Common.{Step, DeltaGoesOn, AreUnderWay}
use Rattle.simulated_runs.proofs.KeptDues.{goes-on-sent}
use Rattle.simulated_runs.proofs.UnderWay.{AreUnderWay-sent}
use Rattle.simulated_runs.proofs.moves.send.Goals as goal

pub returns-in-Ok-clause-under_way : goal.returns-in-Ok-clause-under_way
returns-in-Ok-clause-under_way c =
    let t = c.args.world.now.trace in
    let old = c.args.post.now.trays.items in
    let new = c.send.new.self.trays.items in
    let high : c.args.to ≤ length old = let a = c.requires.receiver.1 in let b = c.requires.trays in omega arith in
    subst (λ (steps : List Step). AreUnderWay steps new) (sym c.in_ok-make_send.ensures.made)
    (AreUnderWay-sent t.config t.steps c.args.p c.args.to
    c.args.tick c.args.post.now.bounds old new c.requires.well_formed c.requires.next c.requires.receiver.0 high
    c.in-Ok.ensures.count c.in-Ok.ensures.posted c.requires.under_way)

pub returns-in-Ok-clause-delta : goal.returns-in-Ok-clause-delta
returns-in-Ok-clause-delta c =
    let t = c.args.world.now.trace in
    let old = c.args.post.now.trays.items in
    let new = c.send.new.self.trays.items in
    let high : c.args.to ≤ length old = let a = c.requires.receiver.1 in let b = c.requires.trays in omega arith in
    subst (λ (steps : List Step). DeltaGoesOn c.args.post.now.bounds t.steps old steps new) (sym c.in_ok-make_send.ensures.made)
    (goes-on-sent t.config c.args.post.now.bounds c.args.p
    c.args.to c.args.tick t.steps old new c.requires.well_formed c.requires.receiver.0 high
    c.in-Ok.ensures.count c.requires.next c.in-Ok.ensures.posted)
