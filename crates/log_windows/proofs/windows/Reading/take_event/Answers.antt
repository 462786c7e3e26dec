use Rattle.std.proofs.Common.{◌<◌, ◌∙◌, sym, arith, rules}
use Rattle.std.proofs.lemmas.Int.{to_z-of_z}
use Rattle.std.proofs.lemmas.Result.{err_from_is_err_and}
use mir.Syntax.{w128}
use mir.Val.{SFits}
use Rattle.csv.specs.Records.{fields_of}
use Rattle.log_windows.specs.declared.windows.TheConstants.{MAX_LOGGED}
use Rattle.log_windows.proofs.EventsRead.{event-refused}
use Rattle.log_windows.proofs.windows.Reading.take_event.Goals as goal

pub returns-in_err-take : goal.returns-in_err-take
returns-in_err-take c =
    let p = err_from_is_err_and c.from_residual-in_err-take.result c.from_residual-in_err-take.ensures.1 in
    let few : c.args.self.now.count < MAX_LOGGED = omega (arith, c.if-self-ge-MAX_LOGGED.false) in
    let kind = rw c.kind_of.ensures at c.settled-kind.ensures in
    let told = sym (rw (kind, c.field.ensures) at c.moment_as.ensures) ∙ c.in-Some.is in
    let settles = sym c.times_by.ensures ∙ c.in_ok-times.was in
    let fits : SFits w128 c.in-Some.moment.time = search rules in
    let taken = simp to_z-of_z at c.in_err-take.ensures in
    rw (p.1, p.2) (event-refused c.args.columns.now c.args.self.now
    (fields_of c.args.fields.now) c.in-Some.moment c.in_ok-times.times c.in_err-take.field-0.0 few told settles taken)
