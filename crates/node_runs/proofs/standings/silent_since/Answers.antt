use Rattle.std.proofs.Common.{subst, sym, ◌∙◌}
use Rattle.step_trace.specs.Witnesses.{NamesGap}
use Rattle.node_runs.proofs.SilentMembers.{none_silent, other_gap, named_silent}
use Rattle.node_runs.proofs.standings.silent_since.Goals as goal

pub returns-in_default : goal.returns-in_default
returns-in_default c = λ set trace levels.
    let level = levels.each c.args.from c.at-level.result c.requires.low c.at-level.ensures in
    none_silent set trace c.args.from c.at-level.result.phi level.phi
    (subst (λ x. NamesGap set trace c.args.from c.at-level.result.phi x) c.in_default.is level.gap)

pub returns-then-gap-from : goal.returns-then-gap-from
returns-then-gap-from c = λ set trace levels.
    let level = levels.each c.args.from c.at-level.result c.requires.low c.at-level.ensures in
    let named = subst (λ x. NamesGap set trace c.args.from c.at-level.result.phi x) c.in-Some.is level.gap in
    other_gap set trace c.args.from c.at-level.result.phi c.in-Some.gap level.phi named (λ both. c.if-gap-from.true both.0)

pub returns-then-gap-len : goal.returns-then-gap-len
returns-then-gap-len c = λ set trace levels.
    let level = levels.each c.args.from c.at-level.result c.requires.low c.at-level.ensures in
    let named = subst (λ x. NamesGap set trace c.args.from c.at-level.result.phi x) c.in-Some.is level.gap in
    other_gap set trace c.args.from c.at-level.result.phi c.in-Some.gap level.phi named
    (λ both. c.if-gap-len.true (both.1 ∙ sym (c.len.ensures.value ∙ levels.count)))

pub returns : goal.returns
returns c = λ set trace levels.
    let level = levels.each c.args.from c.at-level.result c.requires.low c.at-level.ensures in
    let named = subst (λ x. NamesGap set trace c.args.from c.at-level.result.phi x) c.in-Some.is level.gap in
    named_silent set trace c.args.from c.at-level.result.phi c.in-Some.gap named c.if-gap-from.false
    (c.if-gap-len.false ∙ (c.len.ensures.value ∙ levels.count))
