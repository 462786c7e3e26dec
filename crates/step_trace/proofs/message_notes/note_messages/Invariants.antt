use Rattle.std.proofs.Common.{◌≡◌, length, take}
use Rattle.step_trace.specs.MessageNotes.{AreNoted}
use Rattle.step_trace.proofs.message_notes.note_messages.Given as goal

abbrev pub invariant-loop-s : goal.invariant-loop-s
invariant-loop-s l = record {
  long : length l.notes.items ≡ length l.fn.notes.items;
  noted : AreNoted l.number (take l.s-index l.ids) l.fn.notes.items l.notes.items;
}
