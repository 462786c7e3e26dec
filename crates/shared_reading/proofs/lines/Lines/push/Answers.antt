use Rattle.std.proofs.Common.{◌≡◌, ◌-◌, ◌∙◌, true, Ok, rules, sym, subst, arith}
use Rattle.shared_reading.specs.Lines.{Read, numbered, is_next, with_next}
use Rattle.shared_reading.proofs.NumberedLines.{next-above, line-pushed}
use Rattle.shared_reading.proofs.lines.Lines.push.Goals as goal

pub overflow_sub-self : goal.overflow_sub-self
overflow_sub-self c =
    let s = c.self.inside in
    let next : c.is_next.result ≡ true = search rules in
    let seen : is_next (numbered s.first s.steps.steps s.steps.ticks) c.args.line.no
    ≡ true = subst (λ (r : Read). is_next r.lines c.args.line.no ≡ true) (sym c.self.view_is) (sym c.is_next.ensures ∙ next) in
    omega (arith, c.self.invariant.1, next-above s.first c.args.line.no s.steps.steps s.steps.ticks c.self.invariant.0 seen)

pub returns : goal.returns
returns c =
    let s = c.self.inside in
    let next : c.is_next.result ≡ true = search rules in
    let seen : is_next (numbered s.first s.steps.steps s.steps.ticks) c.args.line.no
    ≡ true = subst (λ (r : Read). is_next r.lines c.args.line.no ≡ true) (sym c.self.view_is) (sym c.is_next.ensures ∙ next) in
    let new = c.push.new.self in
    subst (λ (r : Read). with_next r c.args.line ≡ Ok
    (record { version = s.version; lines = numbered (c.args.line.no - s.count) new.steps new.ticks })) c.self.view_is
    (line-pushed s.version s.first s.count s.steps new c.args.line c.self.invariant.0 c.self.invariant.1 seen c.in-Ok.ensures.ok)
