use Rattle.std.proofs.Common.{◌≡◌, ◌∙◌, ap, sym, arith, true, false}
use Rattle.std.specs.Str.{bytes_eq}
use Rattle.trace_text.specs.Records.{field_of}
use Rattle.event_log.specs.Columns.{is_named}
use Rattle.event_log.proofs.HeaderPlaces.{place-found, place-later, place-none}
use Rattle.event_log.proofs.columns.place_from.Goals as goal

pub returns-then-field_is-clause-place : goal.returns-then-field_is-clause-place
returns-then-field_is-clause-place g c =
    let header = g.F.Fields.fields c.args.header.now in
    let field = field_of header c.loop-i.i in
    let name = ap (λ n. bytes_eq field n) (c.as_bytes.ensures.value ∙ c.name.ensures) in
    let named : is_named c.args.column field ≡ true = sym (c.field_is.ensures ∙ name) ∙ c.if-field_is.true in
    sym (c.loop-i.invariant ∙ place-found c.loop-i.i header c.args.column (omega arith) named)

pub loop-i-preserved : goal.loop-i-preserved
loop-i-preserved g c =
    let header = g.F.Fields.fields c.args.header.now in
    let field = field_of header c.loop-i.i in
    let name = ap (λ n. bytes_eq field n) (c.as_bytes.ensures.value ∙ c.name.ensures) in
    let other : is_named c.args.column field ≡ false = sym (c.field_is.ensures ∙ name) ∙ c.if-field_is.false in
    c.loop-i.invariant ∙ place-later c.loop-i.i header c.args.column (omega arith) other

pub returns-clause-place : goal.returns-clause-place
returns-clause-place g c =
    sym (c.loop-i.invariant ∙ place-none c.loop-i.i (g.F.Fields.fields c.args.header.now) c.args.column (omega arith))
