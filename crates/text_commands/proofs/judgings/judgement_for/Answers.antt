use Rattle.std.proofs.Common.{◌∙◌, refl}
use Rattle.std.proofs.lemmas.Result.{err_from_is_err_and}
use Rattle.text_commands.proofs.JudgedTraces.{formula-declined, undecided-declined}
use Rattle.text_commands.proofs.judgings.judgement_for.Goals as goal

-- the deadline is no formula
pub returns-in_err-formula-clause-refused : goal.returns-in_err-formula-clause-refused
returns-in_err-formula-clause-refused c =
    let p = err_from_is_err_and c.from_residual-in_err-formula.result c.from_residual-in_err-formula.ensures.1 in
    rw (p.1, p.2) (formula-declined c.args.judging.now c.args.decisions.now c.args.trace.now c.as_bytes.result.now _ _ refl
    (c.as_bytes.ensures.value ∙ c.as_str.ensures.value) c.in_ok-set.ensures.within
    c.in_err-formula.ensures.refused)

-- there are no decisions
pub returns-in_err-decisions-clause-refused : goal.returns-in_err-decisions-clause-refused
returns-in_err-decisions-clause-refused c =
    let p = err_from_is_err_and c.from_residual-in_err-decisions.result c.from_residual-in_err-decisions.ensures.1 in
    rw (p.1, p.2) (undecided-declined c.args.judging.now c.args.decisions.now c.args.trace.now _ _ refl
    (record {
      within = c.in_ok-set.ensures.within;
      formula = c.in_ok-formula.formula;
      written = rw (c.as_bytes.ensures.value, c.as_str.ensures.value) at c.in_ok-formula.ensures.ok;
    })
    c.in_ok-test_start.ensures.started c.in_err-decisions.ensures.refused)

pub returns-clause-verdict : goal.returns-clause-verdict
returns-clause-verdict c =
    record {
      asked = record {
        within = c.in_ok-set.ensures.within;
        formula = c.in_ok-formula.formula;
        written = rw (c.as_bytes.ensures.value, c.as_str.ensures.value) at c.in_ok-formula.ensures.ok;
      };
      started = c.in_ok-test_start.ensures.started;
      decisions = c.in_ok-decisions.decisions.items;
      read = c.in_ok-decisions.ensures.decisions;
      exact = rw (c.in_ok-set.ensures.set, c.deref.ensures.value, c.demands_of-demands.ensures, c.details_of-details.ensures)
          at c.in_ok-judgement_of.ensures;
    }
