use Rattle.text_commands.proofs.reports.rows_of.Goals as goal

pub returns-in_ok-front-in-Ok-clause-report : goal.returns-in_ok-front-in-Ok-clause-report
returns-in_ok-front-in-Ok-clause-report g c = c.in_ok-front-in-Ok.ensures.report c.args.set c.args.trace.now c.in-Ok.ensures.stairs
