use Rattle.std.proofs.Common.{◌∙◌, ◌-◌, length, drop, take_all, length-drop, arith}
use Rattle.trace_text.proofs.TextFronts.{front-marked}
use Rattle.trace_text.proofs.record_limits.limited_len.Goals as goal

pub returns-clause-front : goal.returns-clause-front
returns-clause-front c =
    let text = c.args.text.now in
    let mark = c.mark_len-mark.result in
    let rest = c.mark_len-mark.ensures.rest in
    let whole = take_all (length text - mark) (drop mark text) (omega (arith, length-drop mark text)) in
    front-marked text mark c.front_len.result c.mark_len-mark.ensures.within rest ∙ rw (rest, ← whole) c.front_len.ensures.front
