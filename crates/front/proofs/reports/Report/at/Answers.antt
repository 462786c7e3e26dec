use Rattle.std.proofs.Common.{◌≡◌, IsSomeAnd, subst, sym, rules}
use Rattle.front.specs.Reports.{row_at, Serves}
use Rattle.front.proofs.ServingRows.{row_at-serves}
use Rattle.front.proofs.reports.Report.at.Goals as goal

pub returns-clause-serves : goal.returns-clause-serves
returns-clause-serves c = λ set trace time is_report len start end.
    let row : c.last_begun.result ≡ row_at c.args.self.now c.args.g = search rules in
    subst (λ o. IsSomeAnd o (Serves set trace c.args.g))
    (sym row) (row_at-serves c.args.self.now c.args.g set trace time is_report len start end)
