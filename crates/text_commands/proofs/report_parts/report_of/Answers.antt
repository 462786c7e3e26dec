use Rattle.std.proofs.Common.{◌∙◌}
use Rattle.std.proofs.lemmas.Result.{IfOk-weaker}
use Rattle.text_commands.proofs.report_parts.report_of.Goals as goal

pub returns : goal.returns
returns c = record {
  report = IfOk-weaker c.front.result _ _ (λ r h. h c.args.set c.args.trace.now c.in_ok-stairs.ensures) c.front.ensures.report;
  len = IfOk-weaker c.front.result _ _ (λ r h. h ∙ c.in_ok-stairs.ensures.count) c.front.ensures.len;
}
