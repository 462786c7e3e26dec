use Rattle.std.proofs.Common.{◌-◌, inl, inr, arith}
use Rattle.std.proofs.lemmas.Bool.{cases_eq}
use Rattle.bound_witness.proofs.MissSearches.{IsNamedMiss-found}
use Rattle.bound_witness.proofs.communication_bounds.last_miss_of_length.Goals as goal

pub loop-sent-preserved : goal.loop-sent-preserved
loop-sent-preserved c = record {
  none = λ o i l. elim (cases_eq o.sent (c.loop-sent.sent - 1)) [
    | inl q ↦ c.in_default.ensures.none o q i
    | inr q ↦ c.loop-sent.invariant.none o i (omega arith)
  ];
}

pub returns-in-Some : goal.returns-in-Some
returns-in-Some c =
    IsNamedMiss-found c.args.set c.args.trace.now c.args.g c.args.span _ c.loop-sent.sent c.in-Some.miss
    c.requires.timed (omega arith) c.in-Some.ensures c.loop-sent.invariant
