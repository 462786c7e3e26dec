use Rattle.std.proofs.Common.{◌∙◌}
use Rattle.std.proofs.lemmas.List.{length-set}
use Rattle.step_trace.proofs.MessageNotes.{noted-more}
use Rattle.step_trace.proofs.message_notes.note_messages.Goals as goal

pub loop-s-preserved : goal.loop-s-preserved
loop-s-preserved c =
    let known = c.loop-s.invariant in
    let below = c.loop-s-test.true in
    record {
      long = length-set c.loop-s.notes.items _ c.args.number ∙ known.long;
      noted = λ s. noted-more c.args.notes.now.items c.loop-s.notes.items c.args.ids.now c.args.number c.loop-s.s-index s below known.long
          (c.requires c.loop-s.s-index 0 below) (known.noted s);
    }
