use Rattle.std.proofs.Common.{◌≡◌, ◌+◌, ◌∙◌, refl, arith}
use Rattle.lock_phases.specs.Rounds.{owner, phase_of}
use Rattle.step_buffers.proofs.NextSends.{sent-to_owner, sent-to_none, sent-alike}
use Rattle.step_buffers.proofs.processors.candidate.Goals as goal

pub returns-then-not-is_to_owner-clause-only : goal.returns-then-not-is_to_owner-clause-only
returns-then-not-is_to_owner-clause-only c = λ s me to l none.
    let others = c.is_to_owner.ensures.all c.if-not-is_to_owner.true in
    sent-alike c.args.config.now s me c.args.round to (c.args.last + 1) others.0 others.1 ∙ none

pub returns-then-next-owner-clause-first : goal.returns-then-next-owner-clause-first
returns-then-next-owner-clause-first c = λ s me to l h.
    let at : c.owner-owner.result ≡ owner c.args.config.now.n (phase_of c.args.round) = c.owner-owner.ensures.value
    ∙ rw (c.n-n.ensures.value, c.phase_of.ensures) refl in
    sent-to_owner c.args.config.now s me c.args.round to (c.is_to_owner.ensures.owner c.if-not-is_to_owner.false) (λ e. omega arith)

pub returns-then-next-owner-clause-only : goal.returns-then-next-owner-clause-only
returns-then-next-owner-clause-only c = λ s me to l none.
    let at : c.owner-owner.result ≡ owner c.args.config.now.n (phase_of c.args.round) = c.owner-owner.ensures.value
    ∙ rw (c.n-n.ensures.value, c.phase_of.ensures) refl in
    sent-to_none c.args.config.now s me c.args.round c.owner-owner.result to
    (c.is_to_owner.ensures.owner c.if-not-is_to_owner.false) (λ e. omega arith) none

pub returns-else-next-owner-clause-only : goal.returns-else-next-owner-clause-only
returns-else-next-owner-clause-only c = λ s me to l none.
    let at : c.owner-owner.result ≡ owner c.args.config.now.n (phase_of c.args.round) = c.owner-owner.ensures.value
    ∙ rw (c.n-n.ensures.value, c.phase_of.ensures) refl in
    let past = c.if-next-owner.false in
    sent-to_none c.args.config.now s me c.args.round
    (c.args.last + 1) to (c.is_to_owner.ensures.owner c.if-not-is_to_owner.false) (λ e. omega arith) none
