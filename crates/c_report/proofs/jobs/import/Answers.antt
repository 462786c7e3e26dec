use Rattle.std.proofs.Common.{ℕ, Vec, Global, ◌∙◌, inr, subst, sym}
use Rattle.std.proofs.lemmas.Result.{err_from_is_err_and}
use Rattle.c_report.specs.Commands.{IsImportFor}
use Rattle.c_report.proofs.jobs.import.Goals as goal

pub returns-clause-printed : goal.returns-clause-printed
returns-clause-printed c = record {
  reads = sym c.as_str.ensures.value ∙ c.in_ok-test_file.ensures.lent;
  well = c.well.ensures.status;
  exact = subst (λ (v : Vec ℕ Global). IsImportFor c.args.job.now.options c.args.text.now v.items)
      (sym c.well.ensures.text) c.in_ok-imported.ensures.imported;
}

pub returns-in_err-imported-clause-refused : goal.returns-in_err-imported-clause-refused
returns-in_err-imported-clause-refused c =
    let p = err_from_is_err_and c.from_residual-in_err-imported.result c.from_residual-in_err-imported.ensures.1 in
    rw (p.1, p.2) (inr (sym c.as_str.ensures.value ∙ c.in_ok-test_file.ensures.lent, c.in_err-imported.ensures.refused))
