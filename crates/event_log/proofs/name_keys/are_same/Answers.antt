use Rattle.std.proofs.Common.{length, ap, sym, arith}
use Rattle.std.specs.Prelude.{slice_index}
use Rattle.std.proofs.lemmas.Grind.{same_number_lists}
use Rattle.trace_text.proofs.Numbers.{bytes_eq-other, bytes_eq-same}
use Rattle.event_log.proofs.name_keys.are_same.Goals as goal

pub returns-then-a-b : goal.returns-then-a-b
returns-then-a-b c = sym (bytes_eq-other c.args.a.now c.args.b.now (λ same. (let l = ap length same in omega (arith, l))))

pub returns-then-a-i : goal.returns-then-a-i
returns-then-a-i c = sym (bytes_eq-other c.args.a.now c.args.b.now (λ same. c.if-a-i.true (ap (λ xs. slice_index xs c.loop-i.i) same)))

pub returns : goal.returns
returns c = sym (bytes_eq-same c.args.a.now c.args.b.now
    (same_number_lists c.args.a.now c.args.b.now (omega arith) (λ k l. c.loop-i.invariant k (omega arith))))
