use Rattle.std.proofs.Common.{ℕ, ◌≡◌, ◌<◌, ◌^◌, Result, Ok, Err, IfOk, decimal, List, string_bytes, subst, sym, arith}
use Rattle.trace_text.specs.RecordWriting.{IsPlain}
use Rattle.trace_text.proofs.PlainFields.{IsPlain-decimal}
use Rattle.trace_text.proofs.record_writing.number_text.Goals as goal

plain : {S E : Type 0} (bytes : S → List ℕ) (r : Result S E) (n : ℕ)
    → n < 2 ^ 64 → IfOk r (λ s. bytes s ≡ decimal n) → IfOk r (λ s. IsPlain (bytes s))
plain bytes (Ok s) n h e = subst IsPlain (sym e) (IsPlain-decimal n h)
plain bytes (Err e) n h _ = tt

pub returns-clause-plain : goal.returns-clause-plain
returns-clause-plain c = plain string_bytes c.to_string.result c.args.n (omega arith) c.to_string.ensures.ok
