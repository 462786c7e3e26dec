use Rattle.std.proofs.Common.{◌≡◌, ◌+◌, ◌-◌, ◌++◌, ◌∙◌, ap, append_assoc, arith, drop, subst, sym, take, List, ℕ}
use Rattle.std.proofs.lemmas.List.{append-nil}
use Rattle.step_trace.specs.declared.steps.Step.{Step}
use Rattle.step_trace.specs.Traces.{step_at}
use Rattle.step_trace.specs.Ticks.{tick_at}
use Rattle.trace_text.specs.Records.{record_line, text_of_records}
use Rattle.trace_text.specs.TraceTexts.{step_record, step_records}
use Rattle.trace_text.proofs.WrittenRecords.{some-step, text-step}
use Rattle.trace_text.proofs.writing.push_steps.Goals as goal

pub loop-before-init : goal.loop-before-init
loop-before-init c =
    let none : c.args.from - c.args.from ≡ 0 = omega arith in
    record {
      order = omega arith;
      text = rw none (sym (append-nil c.args.text.now.items));
    }

pub unreachable-requires : goal.unreachable-requires
unreachable-requires c =
    let inside = c.loop-before-test.true in
    let within = c.requires.within in
    some-step c.args.trace.now.steps c.loop-before.before (omega (arith, inside, within)) (sym c.in_default.ensures.value)

pub loop-before-preserved : goal.loop-before-preserved
loop-before-preserved c =
    let v = c.args.version in
    let ticks = c.args.trace.now.ticks in
    let steps = c.args.trace.now.steps in
    let from = c.args.from in
    let before = c.loop-before.before in
    let step = c.in-Some.step.now in
    let order = c.loop-before.invariant.order in
    let old = c.args.text.now.items in
    let number : from + (before - from) + 1 ≡ before + 1 = omega (arith, order) in
    let place : before + 1 - from ≡ before - from + 1 = omega (arith, order) in
    let parts : ℕ → List ℕ = λ k. text_of_records (step_records v ticks (from + 1) (take k (drop from steps))) in
    let more = text-step v ticks steps from (before - from) step (ap (step_at steps) number ∙ sym c.in-Some.ensures.value) in
    let turn : parts (before + 1 - from) ≡ parts (before - from) ++ record_line
    (step_record v (before + 1) (tick_at ticks (before + 1)) step) =
    ap parts place ∙ more ∙ ap (λ (i : ℕ). parts (before - from) ++ record_line (step_record v i (tick_at ticks i) step)) number in
    record {
      order = omega (arith, order);
      text = c.in_ok-push_step.ensures ∙ ap (λ (n : ℕ). c.loop-before.text.items ++ record_line (step_record v (before + 1) n step))
          c.tick.ensures.value ∙ ap (λ (t : List ℕ). t ++ record_line (step_record v (before + 1) (tick_at ticks (before + 1)) step))
          c.loop-before.invariant.text ∙ append_assoc old (parts (before - from))
          (record_line (step_record v (before + 1) (tick_at ticks (before + 1)) step)) ∙ ap (λ (t : List ℕ). old ++ t) (sym turn);
    }

pub returns : goal.returns
returns c =
    let past = c.loop-before-test.false in
    let end = c.loop-before.auto.before-end c.requires.order in
    let same : c.loop-before.before ≡ c.args.to = omega (arith, past, end) in
    let steps : ℕ → List Step = λ k. take (k - c.args.from) (drop c.args.from c.args.trace.now.steps) in
    subst (λ k. c.loop-before.text.items ≡ c.args.text.now.items ++ text_of_records
    (step_records c.args.version c.args.trace.now.ticks (c.args.from + 1) (steps k)))
    same c.loop-before.invariant.text
