use Rattle.text_commands.proofs.ReadBack.{text_2-stands}
use Rattle.text_commands.proofs.upgrades.text_2_by_four.Goals as goal

-- what is written is read back
pub returns-clause-text : goal.returns-clause-text
returns-clause-text g c =
    let text = c.in_ok-trace_text_2_by_four.ensures in
    record { written = text.text; stands = text_2-stands c.args.trace.now c.in_ok-trace_text_2_by_four.field-0.items text.sound text.text }
