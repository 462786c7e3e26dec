use Rattle.std.proofs.Common.{◌≡◌, ◌<◌, ◌+◌, ◌∙◌, ◌==◌, ℕ, true, false, nat_eq, length, sym, subst, arith}
use Rattle.std.proofs.lemmas.Bool.Decides.{nat_tests}
use Rattle.shared_reading.specs.Lines.{Read, is_next}
use Rattle.shared_reading.proofs.NumberedLines.{next-first, next-later}
use Rattle.shared_reading.proofs.lines.Lines.is_next.Goals as goal

same-place : (place count n first len : ℕ) → n ≡ first + place → count ≡ len → nat_eq place count ≡ (n == first + len)
same-place place count n first len at h = grind (arith, nat_tests)

below : (n first len : ℕ) → n < first → false ≡ (n == first + len)
below n first len less = grind (arith, nat_tests)

pub returns-then-self-eq0 : goal.returns-then-self-eq0
returns-then-self-eq0 c =
    let s = c.self.inside in
    let none : length s.steps.steps ≡ 0 = omega (arith, c.self.invariant.1) in
    subst (λ (r : Read). true ≡ is_next r.lines c.args.no) c.self.view_is
    (sym (next-first s.first c.args.no s.steps.steps s.steps.ticks none))

pub returns-in-Some : goal.returns-in-Some
returns-in-Some c =
    let s = c.self.inside in
    let count = c.self.invariant.1 in
    let some : 0 < length s.steps.steps = omega (arith, count) in
    let at : c.args.no ≡ s.first + c.in-Some.place = omega arith in
    subst (λ (r : Read). nat_eq c.in-Some.place s.count ≡ is_next r.lines c.args.no) c.self.view_is
    (same-place c.in-Some.place s.count c.args.no s.first (length s.steps.steps) at count
    ∙ sym (next-later s.first c.args.no s.steps.steps s.steps.ticks c.self.invariant.0 some))

pub returns-in-None : goal.returns-in-None
returns-in-None c =
    let s = c.self.inside in
    let some : 0 < length s.steps.steps = omega (arith, c.self.invariant.1) in
    let less : c.args.no < s.first = omega arith in
    subst (λ (r : Read). false ≡ is_next r.lines c.args.no) c.self.view_is
    (below c.args.no s.first (length s.steps.steps) less
    ∙ sym (next-later s.first c.args.no s.steps.steps s.steps.ticks c.self.invariant.0 some))
