use Rattle.std.proofs.Common.{◌≡◌, Err, rules}
use Rattle.std.proofs.lemmas.Result.{err_from_is_err_and}
use Rattle.event_log.specs.Options.{told_options}
use Rattle.event_log.specs.Results.{both}
use Rattle.event_log.proofs.ToldTimes.{first-fault}
use Rattle.event_log.proofs.option_texts.read_options.Goals as goal

pub returns-in_err-nodes-clause-refused : goal.returns-in_err-nodes-clause-refused
returns-in_err-nodes-clause-refused c =
    let p = err_from_is_err_and c.from_residual.result c.from_residual.ensures.1 in
    let e : both c.listed_nodes-nodes.result c.told_times-times.result ≡ Err c.in_err-nodes.field-0.0 = search rules in
    rw (p.1, p.2) (first-fault (told_options c.args.given.now) _ _ _ c.listed_nodes-nodes.ensures.listed
    c.listed_nodes-nodes.ensures.refused c.told_times-times.ensures.refused e)
