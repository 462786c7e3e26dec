use Rattle.std.proofs.Common.{ℕ, ◌≤◌, ◌++◌, ◌∷◌, [], List, All, Contains, length, sym, ap, subst, ◌∙◌, arith}
use Rattle.std.proofs.lemmas.List.Elements.{All-contains_itself}
use Rattle.simulated_runs.proofs.Common.{Step, buffer, receiving, due_ids, tray_of, DeltaGoesOn, AreUnderWay}
use Rattle.simulated_runs.proofs.KeptDues.{goes-on-received}
use Rattle.simulated_runs.proofs.UnderWay.{AreUnderWay-received, due-waits}
use Rattle.simulated_runs.proofs.moves.receive.Goals as goal

pub take-ends-requires-clause-waiting : goal.take-ends-requires-clause-waiting
take-ends-requires-clause-waiting c =
    let t = c.args.world.now.trace in
    let tray = tray_of c.args.post.now.trays.items c.args.p in
    let high : c.args.p ≤ length c.args.post.now.trays.items = let a = c.requires.processor.1 in let b = c.requires.trays in omega arith in
    let own = c.requires.under_way c.args.p c.requires.processor.0 high in
    subst (λ (ids : List ℕ). All (λ s. Contains (buffer t.steps c.args.p) s) ids) (sym (c.deref.ensures.value ∙ c.in-Ok.ensures.due))
    (λ k d l. due-waits t.steps c.args.p c.args.tick tray own _ (All-contains_itself (due_ids c.args.tick tray) k d l))

pub returns-clause-under_way : goal.returns-clause-under_way
returns-clause-under_way c =
    let t = c.args.world.now.trace in
    let old = c.args.post.now.trays.items in
    let new = c.take_due.new.self.trays.items in
    let high : c.args.p ≤ length old = let a = c.requires.processor.1 in let b = c.requires.trays in omega arith in
    subst (λ (steps : List Step). AreUnderWay steps new)
    (sym (c.in_ok-make_receive.ensures.made ∙ ap (λ (ids : List ℕ). t.steps ++ receiving c.args.p c.take-ends.result ids ∷ [])
    (c.deref-2.ensures.value ∙ c.in-Ok.ensures.due)))
    (AreUnderWay-received t.config t.steps c.args.p
    c.args.tick c.take-ends.result old new c.requires.well_formed c.requires.processor.0 high
    c.in-Ok.ensures.count c.in-Ok.ensures.left c.requires.under_way)

pub returns-clause-delta : goal.returns-clause-delta
returns-clause-delta c =
    let t = c.args.world.now.trace in
    let old = c.args.post.now.trays.items in
    let new = c.take_due.new.self.trays.items in
    let high : c.args.p ≤ length old = let a = c.requires.processor.1 in let b = c.requires.trays in omega arith in
    subst (λ (steps : List Step). DeltaGoesOn c.args.post.now.bounds t.steps old steps new)
    (sym (c.in_ok-make_receive.ensures.made ∙ ap (λ (ids : List ℕ). t.steps ++ receiving c.args.p c.take-ends.result ids ∷ [])
    (c.deref-2.ensures.value ∙ c.in-Ok.ensures.due)))
    (goes-on-received t.config c.args.post.now.bounds
    c.args.p c.args.tick c.take-ends.result t.steps old new c.requires.well_formed c.requires.processor.0 high
    c.in-Ok.ensures.count c.requires.next c.in-Ok.ensures.left)
