use Rattle.std.proofs.Common.{◌≡◌, ◌∙◌, [], ◌∷◌, get_or, take, length, sym, arith, append_assoc, append-nil}
use Rattle.std.proofs.lemmas.List.{take_more, drop_all}
use Rattle.trace_text.specs.CsvPlaces.{state_of}
use Rattle.trace_text.specs.RecordLimits.{front_from}
use Rattle.trace_text.proofs.TextFronts.{front-byte, front-ends}
use Rattle.trace_text.proofs.record_limits.front_len.Goals as goal

pub loop-i-preserved : goal.loop-i-preserved
loop-i-preserved c =
    let text = c.args.text.now in
    let few = c.if-progress-gt-MAX_FIELDS.false in
    let byte = front-byte c.loop-i.progress.fields c.after-progress.result.fields (state_of c.loop-i.progress.place)
    (state_of c.after-progress.result.place) text c.loop-i.i c.loop-i-test.true c.after-progress.ensures.place
    c.after-progress.ensures.fields (omega (arith, few)) in
    let more = take_more text c.loop-i.i 0 c.loop-i-test.true in
    record {
      few = omega (arith, few);
      front = c.loop-i.invariant.front ∙ rw (byte, more) (sym (append_assoc (take c.loop-i.i text) (get_or text c.loop-i.i 0 ∷ []) _));
    }

pub returns-then-progress-gt-MAX_FIELDS-clause-front : goal.returns-then-progress-gt-MAX_FIELDS-clause-front
returns-then-progress-gt-MAX_FIELDS-clause-front c =
    let text = c.args.text.now in
    let many = c.if-progress-gt-MAX_FIELDS.true in
    let byte = front-ends c.loop-i.progress.fields c.after-progress.result.fields
    (state_of c.loop-i.progress.place) text c.loop-i.i c.loop-i-test.true c.after-progress.ensures.fields (omega (arith, many)) in
    take_more text c.loop-i.i 0 c.loop-i-test.true ∙ sym (rw byte at c.loop-i.invariant.front)

pub returns-clause-front : goal.returns-clause-front
unfolding front_from
returns-clause-front c =
    let text = c.args.text.now in
    let end : c.loop-i.i ≡ length text = omega (arith, c.loop-i-test.false, c.loop-i.auto.i-end) in
    let none = drop_all (length text) text (omega arith) in
    sym (c.loop-i.invariant.front ∙ rw (end, none) (append-nil (take (length text) text)))
