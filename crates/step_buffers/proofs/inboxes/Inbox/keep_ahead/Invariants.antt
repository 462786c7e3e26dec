use Rattle.std.proofs.Common.{◌++◌, ◌+◌, ◌≤◌, take, Contains}
use Rattle.std.specs.List.Sorted.{IsPermutation}
use Rattle.step_buffers.specs.Inboxes.{Entry, kept_ids, ahead, IsEntered}
use Rattle.step_buffers.proofs.inboxes.Inbox.keep_ahead.Given as goal

abbrev pub invariant-loop-id : goal.invariant-loop-id
invariant-loop-id l = record {
  kept : IsPermutation (kept_ids l.fn.self ++ ahead l.letters l.round (take l.id-index l.ids)) (kept_ids l.self);
  entries : (e : Entry) → Contains l.self.later e → IsEntered l.fn.self.later l.letters l.round e;
  room : l.fn.self.room ≤ l.self.room + l.id-index;
}
