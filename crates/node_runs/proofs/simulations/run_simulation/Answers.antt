use Rattle.std.proofs.Common.{ℕ, List, ◌++◌, refl, subst, ap, ◌∙◌}
use Rattle.std.specs.Io.KnownBytes.{Appends}
use Rattle.trace_text.specs.Faults.{inner_of}
use Rattle.trace_text.specs.TraceTexts.{trace_text}
use Rattle.command_faults.specs.Printing.{WentOut}
use Rattle.node_runs.specs.DecisionLines.{told_decisions}
use Rattle.std.proofs.lemmas.Result.{err_from_is_err_and}
use Rattle.node_runs.specs.Simulations.{IsSimulated}
use Rattle.node_runs.proofs.EndedRuns.{unwritten_run}
use Rattle.node_runs.proofs.simulations.run_simulation.Goals as goal

pub returns-in_err-write_trace-clause-part : goal.returns-in_err-write_trace-clause-part
returns-in_err-write_trace-clause-part g c =
    let p = err_from_is_err_and c.from_residual-in_err-write_trace.result c.from_residual-in_err-write_trace.ensures.1 in
    rw (p.1, p.2) (unwritten_run (IsSimulated c.args.options) c.in_ok-world.world.trace _ _ _ _ c.in_ok-world.ensures.run
    c.trace.ensures.value c.in_err-write_trace.ensures.part)

pub returns-clause-run : goal.returns-clause-run
returns-clause-run g c =
    let trace = c.in_ok-world.world.trace in (
      trace_text trace,
      record {
        trace = trace;
        simulated = c.in_ok-world.ensures.run;
        written = refl;
        noted = subst (WentOut g.N.Write.contents c.args.notes.now c.print_notes.new.writer) (c.as_str.ensures.value ∙ c.in_ok-noted.ensures
            ∙ ap (λ (early : List ℕ). told_decisions trace.config trace.steps ++ early) c.in_ok-early.ensures) c.print_notes.ensures;
      },
      subst (λ t. Appends (g.W.Write.contents (inner_of c.args.writer.now))
          (g.W.Write.contents (inner_of c.write_trace.new.writer)) (trace_text t)) c.trace.ensures.value c.in_ok-write_trace.ensures.whole,
    )
