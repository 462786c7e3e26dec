use Rattle.std.proofs.Common.{subst, sym, arith}
use Rattle.std.proofs.lemmas.Grind.{common_steps}
use Rattle.chunk_join.proofs.JoinedInOrder.{IsPart-all, Memory-all}
use Rattle.chunk_join.proofs.joins.join_all.Goals as goal

pub returns-clause-value : goal.returns-clause-value
returns-clause-value g c = grind (arith, common_steps)

pub returns-clause-part : goal.returns-clause-part
returns-clause-part g c =
    let m = g.J.Joined in
    λ whole i k a. subst (λ x. m.IsPart whole i k x)
    (sym (returns-clause-value g c)) (IsPart-all m.IsPart m.empty m.refusal m.joined g.met.J.Joined.laws whole i k c.args.parts.items a)

pub returns-in-Err-clause-refused : goal.returns-in-Err-clause-refused
returns-in-Err-clause-refused g c = grind (arith, common_steps)

pub returns-in-Err-clause-fitting : goal.returns-in-Err-clause-fitting
returns-in-Err-clause-fitting g c =
    let m = g.J.Joined in
    λ whole i k a. Memory-all m.IsPart m.empty m.refusal m.joined g.met.J.Joined.laws _ whole i k c.args.parts.items a
    (returns-in-Err-clause-refused g c)
