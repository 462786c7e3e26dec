use Rattle.std.proofs.Common.{arith}
use Rattle.timed_events.specs.declared.walk_briefs.WalkBrief.{WalkBrief}
use Rattle.timed_events.proofs.WalkBriefs.{processor-of_brief}
use Rattle.timed_events.proofs.walk_briefs.processor_of.Goals as goal

-- what would be read out of bounds
abbrev none : WalkBrief
none = record { processor = 0; to = 0; count = 0; message = 0 }

pub overflow_sub-result : goal.overflow_sub-result
overflow_sub-result c =
    let m = c.requires.processors c.args.place c.requires.inside in
    let e = processor-of_brief c.args.events.now c.args.briefs.now c.args.place none c.requires.briefs c.requires.inside m.1 in
    let l = m.0 in
    omega (arith, e, l)

pub returns-clause-value : goal.returns-clause-value
returns-clause-value c =
    let m = c.requires.processors c.args.place c.requires.inside in
    let e = processor-of_brief c.args.events.now c.args.briefs.now c.args.place none c.requires.briefs c.requires.inside m.1 in
    omega (arith, e)

pub returns-clause-inside : goal.returns-clause-inside
returns-clause-inside c =
    let m = c.requires.processors c.args.place c.requires.inside in
    let e = processor-of_brief c.args.events.now c.args.briefs.now c.args.place none c.requires.briefs c.requires.inside m.1 in
    let l = m.0 in
    let u = m.1 in
    omega (arith, e, l, u)
