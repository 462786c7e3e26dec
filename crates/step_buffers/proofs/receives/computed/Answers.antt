use Rattle.std.proofs.Common.{◌≡◌, ◌∙◌, ◌++◌, ◌∷◌, [], true, refl, sym}
use Rattle.step_buffers.proofs.Common.{IsWellFormed, Fits-from_none, IsWellFormed-push, heard_in, of_round, receiving}
use Rattle.step_buffers.proofs.HeardInboxes.{heard_from-rises, heard_in-senders, node_at-computes}
use Rattle.step_buffers.proofs.receives.computed.Goals as goal
use Rattle.step_buffers.proofs.receives.computed.Goals.{After-deref}

well_formed : (c : After-deref)
    → IsWellFormed c.args.trace.now.config (c.args.trace.now.steps ++ receiving c.args.p true c.args.taken.now ∷ [])
well_formed c =
    let x = receiving c.args.p true c.args.taken.now in
    IsWellFormed-push c.args.trace.now.config c.args.trace.now.steps x c.requires.run.run.well_formed
    (Fits-from_none c.args.trace.now.config c.args.trace.now.steps x c.requires.next.fits)

-- what is heard
heard : (c : After-deref) → c.deref.result.now
    ≡ heard_in c.args.letters.now c.args.receiver.now.inbox.near c.args.taken.now c.args.receiver.now.round c.args.trace.now.config.n
heard c = c.deref.ensures.value ∙ c.in_ok-heard.ensures
    ∙ rw (c.near.ensures.value, c.as_slice.ensures, c.n.ensures.value, c.config-config.ensures) refl

pub compute-requires-clause-senders : goal.compute-requires-clause-senders
compute-requires-clause-senders c =
    let here = (goal.at.compute-requires-clause-senders c).After-deref in
    let x = c.args.receiver.now in
    rw (heard here, c.config-config.ensures) (heard_in-senders c.args.trace.now.config
    c.args.trace.now.steps c.args.p x.round c.args.taken.now x.inbox.near x.inbox.later c.args.letters.now
    (well_formed here) c.requires.letters c.requires.receiver.stands.round c.requires.receiver.inbox c.requires.gathered)

pub compute-requires-clause-rising : goal.compute-requires-clause-rising
compute-requires-clause-rising c =
    let x = c.args.receiver.now in
    rw (heard (goal.at.compute-requires-clause-rising c).After-deref)
    (heard_from-rises c.args.letters.now (of_round c.args.letters.now x.round x.inbox.near
    ++ of_round c.args.letters.now x.round c.args.taken.now) c.args.trace.now.config.n)

pub returns : goal.returns
returns c =
    let here = (goal.at.returns c).After-deref in
    let x = c.args.receiver.now in
    c.in_ok-compute.ensures.ok
    ∙ rw (heard here, c.config-config.ensures, c.in_ok-node.ensures, c.requires.receiver.stands.node) refl
    ∙ sym (node_at-computes c.args.trace.now.config
    c.args.trace.now.steps c.args.p x.round c.args.taken.now x.inbox.near x.inbox.later c.args.letters.now
    (well_formed here) c.requires.letters c.requires.receiver.stands.round c.requires.receiver.inbox c.requires.gathered)
