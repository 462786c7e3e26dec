use Rattle.std.proofs.Common.{refl, ap, subst, ◌∙◌}
use Rattle.std.specs.Io.KnownBytes.{Appends}
use Rattle.trace_text.specs.Faults.{inner_of}
use Rattle.trace_text.specs.TraceTexts.{trace_text}
use Rattle.command_faults.specs.Printing.{WentOut}
use Rattle.node_runs.specs.DecisionLines.{told_decisions}
use Rattle.node_runs.specs.Runs.{IsEndedRun}
use Rattle.std.proofs.lemmas.Result.{err_from_is_err_and}
use Rattle.node_runs.proofs.EndedRuns.{unwritten_run}
use Rattle.node_runs.proofs.ToldLines.{followed_end}
use Rattle.node_runs.proofs.runs.run_nodes.Goals as goal

pub returns-in_err-write_trace-clause-part : goal.returns-in_err-write_trace-clause-part
returns-in_err-write_trace-clause-part g c =
    let p = err_from_is_err_and c.from_residual-in_err-write_trace.result c.from_residual-in_err-write_trace.ensures.1 in
    rw (p.1, p.2) (unwritten_run (IsEndedRun c.args.limits.end c.args.config.now c.args.limits.steps)
    c.in_ok-world.world.trace _ _ _ _ c.in_ok-world.ensures.run c.trace.ensures.value c.in_err-write_trace.ensures.part)

pub returns-in_err-write_trace-clause-followed : goal.returns-in_err-write_trace-clause-followed
returns-in_err-write_trace-clause-followed g c =
    followed_end g.E.Write.contents c.args.config.now c.args.follower.now c.world_made.new.follower
    c.tell_whole.new.follower c.world_made.ensures.followed
    (c.tell_whole.ensures c.args.config.now c.in_ok-world.ensures.run.run)

pub returns-clause-followed : goal.returns-clause-followed
returns-clause-followed g c = followed_end g.E.Write.contents c.args.config.now c.args.follower.now
    c.world_made.new.follower c.tell_whole.new.follower c.world_made.ensures.followed
    (c.tell_whole.ensures c.args.config.now c.in_ok-world.ensures.run.run)

pub returns-clause-run : goal.returns-clause-run
returns-clause-run g c =
    let trace = c.in_ok-world.world.trace in
    let over = c.in_ok-world.ensures.run in (
      trace_text trace,
      record {
        trace = trace;
        over = over;
        written = refl;
        noted = subst (WentOut g.N.Write.contents c.args.notes.now c.print_notes.new.writer) (c.as_str.ensures.value
            ∙ c.in_ok-decided.ensures ∙ ap (λ s. told_decisions s trace.steps) over.run.config) c.print_notes.ensures;
      },
      subst (λ t. Appends (g.W.Write.contents (inner_of c.args.writer.now))
          (g.W.Write.contents (inner_of c.write_trace.new.writer)) (trace_text t)) c.trace.ensures.value c.in_ok-write_trace.ensures.whole,
    )
