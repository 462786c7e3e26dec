use Rattle.std.proofs.Common.{suc, ◌≡◌, ◌<◌, ◌+◌, ◌∙◌, ◌++◌, ◌∷◌, [], List, length, false, ◌==◌, sym, subst, arith, inl, inr}
use Rattle.std.proofs.Math.Bool.{and-false}
use Rattle.std.specs.Prelude.{All, Contains}
use Rattle.std.proofs.lemmas.List.Elements.{All-weaker, All-contains, All-contains_itself, Contains-append_left}
use Rattle.step_buffers.proofs.Common.{Step, IsWellFormed, step_at_last, Fits-from_none, IsWellFormed-push, passed, buffer, Entry, ids_of, receiving, AreLetters, IsInbox}
use Rattle.step_buffers.proofs.StepPrefixes.{passed-append}
use Rattle.step_buffers.proofs.GrownNodes.{passed-ends}
use Rattle.step_buffers.proofs.KeptLetters.{AreLetters-received, AreLetters-released}
use Rattle.step_buffers.proofs.BufferSteps.{buffer-received, buffer-rises}
use Rattle.step_buffers.proofs.KeptInboxes.{IsInbox-took, IsInbox-turned}
use Rattle.step_buffers.proofs.KeptProcessors.{IsStanding-stays, IsStanding-turned}
use Rattle.step_buffers.proofs.receives.settle.Goals as goal
use Rattle.step_buffers.proofs.receives.settle.Goals.{After-release}

-- the steps with the Receive
abbrev longer : After-release → List Step
longer c = c.args.trace.now.steps ++ receiving c.args.p c.args.ends c.args.taken ∷ []

ids : (c : After-release) → c.last_ids-ids.result.now ≡ c.args.taken
ids c = c.last_ids-ids.ensures c.args.trace.now.steps (receiving c.args.p c.args.ends c.args.taken) c.in_ok-push_receive.ensures.grown.steps

well_formed : (c : After-release) → IsWellFormed c.args.trace.now.config (longer c)
well_formed c =
    let x = receiving c.args.p c.args.ends c.args.taken in
    IsWellFormed-push c.args.trace.now.config c.args.trace.now.steps x c.requires.run.run.well_formed
    (Fits-from_none c.args.trace.now.config c.args.trace.now.steps x c.requires.next.fits)

letters : (c : After-release) → AreLetters c.args.trace.now.config (longer c) c.release.new.letters.items
letters c =
    let config = c.args.trace.now.config in
    let steps = c.args.trace.now.steps in
    let x = receiving c.args.p c.args.ends c.args.taken in
    let round = c.requires.receiver.stands.round in
    let sum = passed-append steps (x ∷ []) c.args.p in
    let first : AreLetters config (longer c) c.push_reserved.new.self.items =
    rw (c.push_reserved.ensures.items, c.in_ok-push_receive.ensures.letters, c.empty.ensures)
    (AreLetters-received config steps c.args.p c.args.ends
    c.args.taken c.args.letters.now.items c.requires.run.run.well_formed c.requires.letters) in
    AreLetters-released config (longer c) c.args.p
    c.args.receiver.now.round c.last_ids-ids.result.now c.push_reserved.new.self.items c.release.new.letters.items first (omega arith)
    (λ s d. ((well_formed c).earlier (suc (length steps)) s x (step_at_last steps x) (subst (λ xs. Contains xs s) (ids c) d)).1)
    c.release.ensures.places c.release.ensures.left

inbox : (c : After-release) → IsInbox (longer c) c.args.p c.args.receiver.now.round c.keep_ahead.new.self.near c.keep_ahead.new.self.later
inbox c =
    let config = c.args.trace.now.config in
    let steps = c.args.trace.now.steps in
    let round = c.args.receiver.now.round in
    let old = c.push_receive.new.inbox in
    let new = c.keep_ahead.new.self in
    IsInbox-took config steps (receiving c.args.p c.args.ends c.args.taken) round old.near new.near old.later new.later c.deref.result.now
    (well_formed c) (rw (c.deref.ensures.value, c.in_ok-push_receive.ensures.letters) c.requires.letters) c.requires.receiver.stands.round
    (rw (ids c) at c.keep_ahead.ensures.kept) c.keep_ahead.ensures.entries
    (rw (c.in_ok-push_receive.ensures.near, c.in_ok-push_receive.ensures.later) c.requires.receiver.inbox)

waiting : (c : After-release) → c.take_out.new.self.items ≡ buffer (longer c) c.args.p
waiting c = c.take_out.ensures.items ∙ rw (ids c, c.requires.receiver.buffer) (sym (buffer-received c.args.trace.now.config
    c.args.trace.now.steps c.args.p c.args.p c.args.ends c.args.taken c.requires.run.run.well_formed))

pub take_out-requires-clause-rising : goal.take_out-requires-clause-rising
take_out-requires-clause-rising c =
    let x = receiving c.args.p c.args.ends c.args.taken in
    rw (c.last_ids-ids.ensures c.args.trace.now.steps x c.in_ok-push_receive.ensures.grown.steps)
    (Fits-from_none c.args.trace.now.config c.args.trace.now.steps x c.requires.next.fits).rising

pub take_out-requires-clause-waiting : goal.take_out-requires-clause-waiting
take_out-requires-clause-waiting c = rw c.requires.receiver.buffer (buffer-rises c.args.trace.now.steps c.args.p)

pub returns-in_default-clause-letters : goal.returns-in_default-clause-letters
returns-in_default-clause-letters c =
    let grown = c.in_ok-push_receive.ensures.grown in
    rw (grown.config, grown.steps) (letters (goal.at.returns-in_default-clause-letters c).After-release)

pub returns-in_default-clause-receiver : goal.returns-in_default-clause-receiver
returns-in_default-clause-receiver c =
    let p = c.args.p in
    let x = receiving p c.args.ends c.args.taken in
    let old = c.args.receiver.now in
    let here = (goal.at.returns-in_default-clause-receiver c).After-release in
    let grown = c.in_ok-push_receive.ensures.grown in
    let off : c.args.ends ≡ false = rw c.in_default.is at c.requires.turned in
    rw (grown.config, grown.steps) (record {
      stands = IsStanding-stays c.args.trace.now.config c.args.trace.now.steps x p old.round old.node old.since
          old.last old.said c.requires.run.run.well_formed (rw off (and-false (p == p))) (and-false (p == p)) c.requires.receiver.stands;
      buffer = waiting here;
      inbox = inbox here;
    })

pub returns-clause-letters : goal.returns-clause-letters
returns-clause-letters c =
    let p = c.args.p in
    let here = (goal.at.returns-clause-letters c).After-release in
    let grown = c.in_ok-push_receive.ensures.grown in
    let new = c.keep_ahead.new.self in
    let turned = rw c.in-Some.is at c.requires.turned in
    let before = c.requires.receiver.stands.round in
    let more = passed-ends c.args.trace.now.steps (receiving p c.args.ends c.args.taken) turned.0 in
    rw (grown.config, grown.steps)
    (AreLetters-released c.args.trace.now.config (longer here) p (c.args.receiver.now.round + 1)
    c.near.result.now c.release.new.letters.items c.release-2.new.letters.items (letters here) (omega arith)
    (λ s d. (let k = ((inbox here).ids s).0
    (Contains-append_left new.near (ids_of new.later) s (subst (λ xs. Contains xs s) c.near.ensures.value d)) in (k.sender, k.sent)))
    c.release-2.ensures.places c.release-2.ensures.left)

pub returns-clause-receiver : goal.returns-clause-receiver
returns-clause-receiver c =
    let config = c.args.trace.now.config in
    let steps = c.args.trace.now.steps in
    let p = c.args.p in
    let x = receiving p c.args.ends c.args.taken in
    let old = c.args.receiver.now in
    let here = (goal.at.returns-clause-receiver c).After-release in
    let grown = c.in_ok-push_receive.ensures.grown in
    let new = c.keep_ahead.new.self in
    let turned = rw c.in-Some.is at c.requires.turned in
    let before = c.requires.receiver.stands.round in
    let more = passed-ends steps x turned.0 in
    let now : old.round ≡ passed (longer here) p = omega arith in
    let later : All (λ (e : Entry). old.round < e.0.0) new.later =
    All-weaker (Contains new.later) (λ (e : Entry). old.round < e.0.0)
    (λ e d. elim (c.keep_ahead.ensures.entries e d) [
      | inl old_entry ↦ All-contains (λ (y : Entry). old.round < y.0.0) c.push_receive.new.inbox.later e
          (rw c.in_ok-push_receive.ensures.later turned.2) old_entry
      | inr new_entry ↦ new_entry.0
    ])
    new.later (All-contains_itself new.later) in
    rw (grown.config, grown.steps) (record {
      stands = rw c.empty-2.ensures (IsStanding-turned config steps x old.round
          old.node c.in-Some.node old.since c.decided_since-receiver.result old.last old.said c.requires.run.run.well_formed turned.0
          (rw turned.0 turned.1) c.decided_since-receiver.ensures.kept c.decided_since-receiver.ensures.changed c.requires.receiver.stands);
      buffer = waiting here;
      inbox = rw (c.drop_past.ensures.near, c.drop_past.ensures.later)
          (IsInbox-turned config (longer here) p old.round new.near new.later c.deref-2.result.now
          (rw (c.deref-2.ensures.value, ← grown.config, ← grown.steps) (returns-clause-letters c)) now later (inbox here));
    })
