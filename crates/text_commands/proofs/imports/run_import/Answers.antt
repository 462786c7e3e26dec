use Rattle.std.proofs.Common.{rules, sym}
use Rattle.std.proofs.lemmas.Result.{err_from_is_err_and}
use Rattle.command_faults.specs.Printing.{WentOut}
use Rattle.text_commands.specs.Imports.{IsImportTold, IsToldOfLogs, IsUnimported}
use Rattle.text_commands.specs.Serving.{IsServeFault}
use Rattle.text_commands.proofs.ImportFaults.{now_told, unread-served, unread-told, unread-unwritten}
use Rattle.text_commands.proofs.WrittenAnswers.{cut, front-untold, of_known, write-told}
use Rattle.text_commands.proofs.imports.run_import.Goals as goal

-- the log isn't read to its end
pub returns-in_err-text-clause-served : goal.returns-in_err-text-clause-served
returns-in_err-text-clause-served g c =
    let p = err_from_is_err_and c.from_residual.result c.from_residual.ensures.1 in
    let h = c.in_err-text.ensures.refused in
    rw (p.1, p.2) (record {
      cause = unread-served c.args.form c.args.options.now _ _ _ _ _ h;
      own = unread-told _ _ h;
      unread = c.in_err-text.ensures.read;
      unwritten = unread-unwritten _ _ _ h;
    })

-- the trace wasn't written whole
pub returns-in_err-write_text-clause-served : goal.returns-in_err-write_text-clause-served
returns-in_err-write_text-clause-served g c =
    let p = err_from_is_err_and c.from_residual-in_err-write_text.result c.from_residual-in_err-write_text.ensures.1 in
    let o = c.args.options.now in
    let Told = WentOut g.N.Write.contents c.args.notes.now c.print_notes.new.writer in
    let text = c.in_ok-text.text.items in
    let told = rw (sym c.as_str.ensures.value) at c.in_ok-texts.ensures.texts in
    rw (p.1, p.2) (record {
      cause = of_known (λ known. IsServeFault (IsImportTold c.args.form o Told) (IsUnimported c.args.form o) known _ _ _)
          text _ c.in_ok-text.ensures.text (cut (IsImportTold c.args.form o Told) (IsUnimported c.args.form o) text c.deref.result.now _ _ _
          (rw c.deref.ensures.value (now_told c.args.form o Told _ _ _ told c.print_notes.ensures)) tt
          (front-untold _ _ _ _ c.in_err-write_text.ensures.part));
      own = write-told IsToldOfLogs _;
      unread = search rules;
      unwritten = search rules;
    })

pub returns-clause-served : goal.returns-clause-served
returns-clause-served g c =
    let o = c.args.options.now in
    let told = rw (sym c.as_str.ensures.value) at c.in_ok-texts.ensures.texts in
    record {
      text = c.in_ok-text.text.items;
      out = c.deref.result.now;
      all = c.in_ok-text.ensures.text;
      end = search rules;
      gives = rw c.deref.ensures.value
          (now_told c.args.form o (WentOut g.N.Write.contents c.args.notes.now c.print_notes.new.writer) _ _ _ told c.print_notes.ensures);
      whole = c.in_ok-write_text.ensures.whole;
      flushed = search rules;
      readable = search rules;
      faultless = search rules;
    }
