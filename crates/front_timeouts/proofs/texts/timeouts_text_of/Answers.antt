use Rattle.std.proofs.Common.{ℕ, ◌≤◌, ◌∙◌, List, All, sym, subst}
use Rattle.step_trace.specs.declared.processors.TheConstants.{MAX_MEMBER}
use Rattle.front_timeouts.specs.Followers.{IsProcessor, members_to}
use Rattle.front_timeouts.proofs.ListedFollowers.{members_to-member, All-contained}
use Rattle.front_timeouts.proofs.texts.timeouts_text_of.Goals as goal

pub listed_text-requires-clause-followers : goal.listed_text-requires-clause-followers
listed_text-requires-clause-followers c =
    let items = c.deref.ensures.value ∙ c.in_ok-followers.ensures in
    subst (λ (qs : List ℕ). All IsProcessor qs) (sym items)
    (All-contained IsProcessor (members_to c.args.followers MAX_MEMBER)
    (λ q among. let m = members_to-member c.args.followers MAX_MEMBER q among in (m.1, m.2)))

pub listed_text-requires-clause-followers_within : goal.listed_text-requires-clause-followers_within
listed_text-requires-clause-followers_within c =
    let items = c.deref.ensures.value ∙ c.in_ok-followers.ensures in
    subst (λ (qs : List ℕ). All (λ q. q ≤ c.args.trace.now.config.n) qs) (sym items)
    (All-contained (λ q. q ≤ c.args.trace.now.config.n) (members_to c.args.followers MAX_MEMBER)
    (λ q among. c.requires.followers_within q (members_to-member c.args.followers MAX_MEMBER q among).0))
