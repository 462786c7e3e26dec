use Rattle.std.proofs.Common.{◌∙◌, ap, refl, sym, Ok, rules}
use Rattle.trace_text.specs.Records.{◌>>=◌}
use Rattle.log_windows.specs.declared.lists.Spreading.{Spreading}
use Rattle.log_windows.proofs.lists.spread_log.Goals as goal

pub returns-clause-log : goal.returns-clause-log
returns-clause-log c =
    let read = rw (c.in_ok-take_rows.was, c.in-Ok.ensures) at c.take_rows.ensures in
    record {
      small = search rules;
      sent = _;
      outside = _;
      spread = ap (λ r. r >>= λ (s : Spreading). Ok s.rows) read ∙ ap (λ (s : Spreading). Ok s.rows) (sym c.spreading.view_is);
      outside_are = refl;
      unsent_are = refl;
    }
