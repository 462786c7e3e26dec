use Rattle.std.proofs.Common.{refl}
use Rattle.step_buffers.proofs.inboxes.Inbox.keep_for_later.Goals as goal

pub returns-clause-later : goal.returns-clause-later
returns-clause-later c = rw (← c.self.view_is) (_, refl, rw c.unwrap.ensures at c.push.ensures.permutation)
