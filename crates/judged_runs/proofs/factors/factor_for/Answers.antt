use Rattle.std.proofs.Common.{inl, inr, Result, Ok, Err}
use Rattle.std.specs.Prelude.{OnErr}
use Rattle.std.proofs.lemmas.Result.{on_err_weaker}
use Rattle.judged_runs.proofs.factors.factor_for.Goals as goal

pub returns-then-whole-clause-factor : goal.returns-then-whole-clause-factor
returns-then-whole-clause-factor c = rw c.if-whole.true c.least_factor_in_whole.ensures

pub returns-else-whole-clause-factor : goal.returns-else-whole-clause-factor
returns-else-whole-clause-factor c = rw c.if-whole.false c.least_factor_in_time.ensures.factor

on_any : {T E P : Type 0} (r : Result T E) → P → OnErr r P
on_any (Ok x) h = tt
on_any (Err e) h = h

pub returns-then-whole-clause-more : goal.returns-then-whole-clause-more
returns-then-whole-clause-more c = on_any c.least_factor_in_whole.result (inl c.if-whole.true)

pub returns-else-whole-clause-more : goal.returns-else-whole-clause-more
returns-else-whole-clause-more c = on_err_weaker c.least_factor_in_time.result (λ more. inr more) c.least_factor_in_time.ensures.more
