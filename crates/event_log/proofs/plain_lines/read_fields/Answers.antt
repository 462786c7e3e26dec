use Rattle.std.proofs.Common.{◌∷◌, [], ◌∙◌, ap, sym, subst, map}
use Rattle.std.proofs.lemmas.List.{map-append}
use Rattle.event_log.specs.PlainLines.{EndsLine}
use Rattle.event_log.proofs.PlainLines.{BeginsLine, line-ends, line-goes_on}
use Rattle.event_log.proofs.plain_lines.read_fields.Goals as goal

pub returns-then-found : goal.returns-then-found
returns-then-found c =
    let text = c.args.text.now in
    let fields = map (λ field. field.now) c.loop-found.fields.items in
    let more = ap (map (λ field. field.now)) c.in-Ok.ensures.ok
    ∙ map-append (λ field. field.now) c.loop-found.fields.items (c.in-Some.found.bytes ∷ []) in
    subst (λ fs. EndsLine text c.args.at fs c.in-Some.found.end) (sym more)
    (line-ends text c.args.at c.loop-found.from fields c.in-Some.found c.loop-found.invariant c.in-Some.ensures c.if-found.true)

pub loop-found-preserved : goal.loop-found-preserved
loop-found-preserved c =
    let text = c.args.text.now in
    let fields = map (λ field. field.now) c.loop-found.fields.items in
    let more = ap (map (λ field. field.now)) c.in-Ok.ensures.ok
    ∙ map-append (λ field. field.now) c.loop-found.fields.items (c.in-Some.found.bytes ∷ []) in
    subst (λ fs. BeginsLine text c.args.at c.in-Some.found.end fs) (sym more)
    (line-goes_on text c.args.at c.loop-found.from fields c.in-Some.found c.loop-found.invariant c.in-Some.ensures c.if-found.false)
