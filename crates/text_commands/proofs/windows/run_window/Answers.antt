use Rattle.std.proofs.Common.{rules, sym}
use Rattle.std.proofs.lemmas.Result.{err_from_is_err_and}
use Rattle.command_faults.specs.Printing.{WentOut}
use Rattle.text_commands.specs.Imports.{IsToldOfLogs}
use Rattle.text_commands.specs.Serving.{IsServeFault}
use Rattle.text_commands.specs.Windows.{IsWindowTold, IsWindowless}
use Rattle.text_commands.proofs.WindowFaults.{now_told, unread-served, unread-told, unread-unwritten, untold-faultless, untold-served, untold-told, untold-unwritten}
use Rattle.text_commands.proofs.WrittenAnswers.{cut, front-untold, of_known, write-told}
use Rattle.text_commands.proofs.windows.run_window.Goals as goal

-- the window isn't read
pub returns-in_err-window-clause-served : goal.returns-in_err-window-clause-served
returns-in_err-window-clause-served g c =
    let p = err_from_is_err_and c.from_residual.result c.from_residual.ensures.1 in
    let h = c.in_err-window.ensures.refused in
    rw (p.1, p.2) (record {
      cause = unread-served c.args.form c.args.options.now c.args.from _ _ _ _ _ h;
      own = unread-told c.args.options.now c.args.from _ _ h;
      unread = c.in_err-window.ensures.read;
      unwritten = unread-unwritten _ c.args.options.now c.args.from _ _ h;
    })

-- the window is refused
pub returns-in_err-texts-clause-served : goal.returns-in_err-texts-clause-served
returns-in_err-texts-clause-served g c =
    let p = err_from_is_err_and c.from_residual-in_err-texts.result c.from_residual-in_err-texts.ensures.1 in
    let o = c.args.options.now in
    let w = c.in_ok-window.window in
    let h = c.in_err-texts.ensures.refused in
    rw (p.1, p.2) (record {
      cause = untold-served c.args.form o c.args.from _ _ _ _ w _ c.in_ok-window.ensures.window h;
      own = untold-told c.args.form o w _ h;
      unread = untold-faultless _ _ c.args.form o w _ h c.in_ok-window.ensures.faultless;
      unwritten = untold-unwritten _ c.args.form o w _ h;
    })

-- the trace wasn't written whole
pub returns-in_err-write_text-clause-served : goal.returns-in_err-write_text-clause-served
returns-in_err-write_text-clause-served g c =
    let p = err_from_is_err_and c.from_residual-in_err-write_text.result c.from_residual-in_err-write_text.ensures.1 in
    let o = c.args.options.now in
    let from = c.args.from in
    let Told = WentOut g.N.Write.contents c.args.notes.now c.print_notes.new.writer in
    let window = c.in_ok-window.ensures.window in
    let told = rw (sym c.as_str.ensures.value) at c.in_ok-texts.ensures.texts in
    let made = now_told c.args.form o Told _ _ _ told c.print_notes.ensures in
    rw (p.1, p.2) (record {
      cause = of_known (λ known. IsServeFault (IsWindowTold c.args.form o from Told) (IsWindowless c.args.form o from) known _ _ _)
          window.text _ window.is (cut (IsWindowTold c.args.form o from Told) (IsWindowless c.args.form o from) window.text
          c.deref.result.now _ _ _ (record { window = c.in_ok-window.window; is = window.window; told = rw c.deref.ensures.value made }) tt
          (front-untold _ _ _ _ c.in_err-write_text.ensures.part));
      own = write-told IsToldOfLogs _;
      unread = search rules;
      unwritten = search rules;
    })

pub returns-clause-served : goal.returns-clause-served
returns-clause-served g c =
    let o = c.args.options.now in
    let window = c.in_ok-window.ensures.window in
    let told = rw (sym c.as_str.ensures.value) at c.in_ok-texts.ensures.texts in
    let made =
    now_told c.args.form o (WentOut g.N.Write.contents c.args.notes.now c.print_notes.new.writer) _ _ _ told c.print_notes.ensures in
    record {
      text = window.text;
      out = c.deref.result.now;
      all = window.is;
      end = search rules;
      gives = record { window = c.in_ok-window.window; is = window.window; told = rw c.deref.ensures.value made };
      whole = c.in_ok-write_text.ensures.whole;
      flushed = search rules;
      readable = search rules;
      faultless = search rules;
    }
