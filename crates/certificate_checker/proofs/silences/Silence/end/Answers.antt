use Rattle.std.proofs.Common.{ℕ, ◌≡◌, ◌∙◌, List, true, false, sym, ltb, subst, arith, rules}
use Rattle.std.specs.List.Sorted.{IsNonDecreasing, IsPartitionPoint}
use Rattle.std.proofs.lemmas.List.{get_or_default}
use Rattle.std.proofs.lemmas.List.Sorted.{IsPartitionPoint-from_clause, IsPartitionedBy-ltb}
use Rattle.certificate_checker.specs.Silences.{IsNextStep}
use Rattle.certificate_checker.proofs.NextSteps.{ArePassed, IsNextStep-at, IsNextStep-none}
use Rattle.certificate_checker.proofs.silences.Silence.end.Goals as goal
use Rattle.certificate_checker.proofs.silences.Silence.end.Goals.{After-partition_point-passed}

-- how many ticks were passed
passed : (c : After-partition_point-passed) → IsNonDecreasing c.args.self.now.ticks.items
    → ArePassed c.args.x c.partition_point-passed.result c.args.self.now
passed c rising =
    let e = c.as_slice.ensures.value in
    subst
    (λ (xs : List ℕ). IsPartitionPoint (λ y. ltb y c.args.x ≡ true) (λ y. ltb y c.args.x ≡ false) xs c.partition_point-passed.result) e
    (IsPartitionPoint-from_clause (λ y. ltb y c.args.x) _ _ c.partition_point-passed.ensures.partitioned
    (IsPartitionedBy-ltb (λ y. y) _ c.args.x (subst IsNonDecreasing (sym e) rising)) (λ a r q k. search rules))

pub returns-then-passed-len : goal.returns-then-passed-len
returns-then-passed-len c = λ p s high.
    let t = c.args.trace.now in
    let place = c.partition_point-passed.result in
    let inside = c.if-passed-len.true in
    let len = c.len.ensures in
    let read = get_or_default c.args.self.now.ticks.items place c.index.result.now 0 (omega (arith, inside, len)) in
    let known = passed (goal.at.returns-then-passed-len c).After-partition_point-passed s.rising in
    subst (λ (next : ℕ). IsNextStep t p c.args.x next) (sym (c.from.ensures ∙ c.index.ensures ∙ read))
    (IsNextStep-at t p c.args.x place c.args.self.now c.last_tick-after.ensures.timed s known
    (omega (arith, inside, len)))

pub returns-else-passed-len : goal.returns-else-passed-len
returns-else-passed-len c = λ p s high.
    let t = c.args.trace.now in
    let past = c.if-passed-len.false in
    let len = c.len.ensures in
    let known = passed (goal.at.returns-else-passed-len c).After-partition_point-passed s.rising in
    rw c.last_tick-after.ensures.value
    (IsNextStep-none t p c.args.x c.partition_point-passed.result c.args.self.now s known (omega (arith, past, len)) high)
