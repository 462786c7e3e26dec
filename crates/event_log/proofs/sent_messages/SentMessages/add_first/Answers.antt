use Rattle.std.proofs.Common.{◌≡◌, ◌∙◌, true}
use Rattle.trace_text.specs.Names.{has_name}
use Rattle.event_log.proofs.SentNames.{was-there, with_name-there}
use Rattle.event_log.proofs.sent_messages.SentMessages.add_first.Goals as goal

pub returns-then-not-is_new-clause-sent : goal.returns-then-not-is_new-clause-sent
returns-then-not-is_new-clause-sent c =
    let names = c.self.inside.names in
    let name = c.args.name.now in
    let there : has_name names name ≡ true = was-there (has_name names name) _ c.in_ok-is_new.ensures.added c.if-not-is_new.true in
    rw (c.in_ok-is_new.ensures.names ∙ with_name-there names name there) c.self.view_is
