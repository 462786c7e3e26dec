use Rattle.std.proofs.Common.{inl, None, refl, sym, subst, length, arith}
use Rattle.std.proofs.lemmas.Result.{err_from_is_err_and}
use Rattle.std.proofs.lemmas.List.Elements.{All-weaker}
use Rattle.event_log.specs.declared.times.TimeKind.{TimeKind}
use Rattle.event_log.specs.Logs.{seen_log}
use Rattle.event_log.specs.TickRows.{IsRowOf, clock_of}
use Rattle.event_log.specs.TickTables.{AreLogRows, IsLogRowRefusal, IsToldBy, with_width}
use Rattle.event_log.proofs.LogRefusals.{large-text, read-refusal, unaligned-refusal, unfit-refusal}
use Rattle.event_log.proofs.OtherRefusals.{unaligned-other, unread-other, until-other}
use Rattle.event_log.proofs.TickTables.{fits-with, read-with, row-told, rows-refused, unfit-with, unread-with}
use Rattle.event_log.proofs.tick_tables.read_ticks.Goals as goal

pub returns-then-text-gt-MAX_TEXT_BYTES-clause-refused : goal.returns-then-text-gt-MAX_TEXT_BYTES-clause-refused
returns-then-text-gt-MAX_TEXT_BYTES-clause-refused c =
    let large = large-text (with_width c.args.options.now 1) c.args.text.now c.if-text-gt-MAX_TEXT_BYTES.true in
    (1, omega arith, inl large, λ e. absurd (cc e))

pub returns-in_err-log-clause-refused : goal.returns-in_err-log-clause-refused
returns-in_err-log-clause-refused c =
    let p = err_from_is_err_and c.from_residual.result c.from_residual.ensures.1 in
    let o = c.args.options.now in
    let text = c.args.text.now in
    let why = c.in_err-log.field-0.0 in
    rw (p.1, p.2) (
      1,
      omega arith,
      read-refusal (with_width o 1) text why (unread-with o text 1 why c.in_err-log.ensures.refused),
      unread-other o text why c.in_err-log.ensures.refused,
    )

pub returns-in_err-until-clause-refused : goal.returns-in_err-until-clause-refused
returns-in_err-until-clause-refused c =
    let p = err_from_is_err_and c.from_residual-in_err-until.result c.from_residual-in_err-until.ensures.1 in
    let o = c.args.options.now in
    let text = c.args.text.now in
    let log = c.in_ok-log.log in
    let why = c.in_err-until.field-0.0 in
    rw (p.1, p.2) (
      1,
      omega arith,
      unfit-refusal (with_width o 1) text why (record {
        log = seen_log log;
        read = read-with o text 1 _ c.in_ok-log.ensures.read;
        unfit = inl (unfit-with o log.kind 1 why (omega arith) (sym c.in_err-until.ensures));
      }),
      until-other log.kind o.until why (sym c.in_err-until.ensures),
    )

pub returns-in_err-aligned-clause-refused : goal.returns-in_err-aligned-clause-refused
returns-in_err-aligned-clause-refused c =
    let p = err_from_is_err_and c.from_residual-in_err-aligned.result c.from_residual-in_err-aligned.ensures.1 in
    let o = c.args.options.now in
    let text = c.args.text.now in
    let log = c.in_ok-log.log in
    let why = c.in_err-aligned.field-0.0 in
    let until = c.in_ok-until.until in
    rw (p.1, p.2) (
      1,
      omega arith,
      unaligned-refusal (with_width o 1) text log.nodes log.events.items why c.in_err-aligned.ensures.refused.1
          (λ same. record {
            log = seen_log log;
            events = log.events.items;
            clock = clock_of log.kind until 1;
            told = record {
              read = read-with o text 1 _ c.in_ok-log.ensures.read;
              same = refl;
              fits = fits-with o log.kind until 1 (omega arith) (sym c.in_ok-until.ensures);
            };
            limit = None;
            fits_idle = refl;
            asked = c.in_err-aligned.ensures.refused.0;
            unaligned = same;
          }),
      unaligned-other text log.nodes log.events.items why c.in_err-aligned.ensures.refused.1,
    )

pub returns-in_err-rows-clause-refused : goal.returns-in_err-rows-clause-refused
returns-in_err-rows-clause-refused c =
    let p = err_from_is_err_and c.from_residual-in_err-rows.result c.from_residual-in_err-rows.ensures.1 in
    let o = c.args.options.now in
    let text = c.args.text.now in
    let log = c.in_ok-log.log in
    let aligned = c.in_ok-aligned.aligned in
    let until = c.in_ok-until.until in
    let why = c.in_err-rows.field-0.0 in
    rw (p.1, p.2) (rows-refused o text (seen_log log) log.events.items c.in_ok-log.ensures.read
    refl aligned c.in_ok-aligned.ensures.aligned c.in_ok-aligned.ensures.nodes until (sym c.in_ok-until.ensures) why
    (subst (λ (kind : TimeKind). IsLogRowRefusal o.drop_lost text aligned.log.nodes aligned.log.events.items kind until why)
    c.in_ok-aligned.ensures.kind c.in_err-rows.ensures.refused) c.in_err-rows.ensures.other)

pub returns-clause-table : goal.returns-clause-table
returns-clause-table c =
    let o = c.args.options.now in
    let text = c.args.text.now in
    let log = c.in_ok-log.log in
    let aligned = c.in_ok-aligned.aligned in
    let until = c.in_ok-until.until in
    let rows = c.in_ok-rows.rows.items in
    let h = subst (λ (kind : TimeKind). AreLogRows o.drop_lost kind (length aligned.log.nodes) aligned.log.events.items until rows)
    c.in_ok-aligned.ensures.kind c.in_ok-rows.ensures.rows in
    record {
      log = seen_log log;
      read = c.in_ok-log.ensures.read;
      kind_is = refl;
      events = log.events.items;
      same = refl;
      offsets = aligned.offsets;
      aligned = aligned.log.events.items;
      clocks = c.in_ok-aligned.ensures.aligned;
      until = until;
      ends = sym c.in_ok-until.ensures;
      left = h.left;
      left_at = h.left_at;
      are_left = h.are_left;
      some = h.some;
      widths = h.widths;
      each = All-weaker (IsRowOf (length aligned.log.nodes) h.left log.kind until) (λ row. IsToldBy
          (with_width o row.width) text row.placing) (row-told o text (seen_log log) log.events.items c.in_ok-log.ensures.read refl aligned
          c.in_ok-aligned.ensures.aligned c.in_ok-aligned.ensures.nodes until
          (sym c.in_ok-until.ensures) h.left h.left_at h.are_left h.some) rows h.each;
    }

pub log_rows-requires-clause-given : goal.log_rows-requires-clause-given
log_rows-requires-clause-given c = record {
  log = seen_log c.in_ok-log.log;
  events = c.in_ok-log.log.events.items;
  read = c.in_ok-log.ensures.read;
  same = refl;
  offsets = c.in_ok-aligned.aligned.offsets;
  clocks = c.in_ok-aligned.ensures.aligned;
  nodes_are = c.in_ok-aligned.ensures.nodes;
}
