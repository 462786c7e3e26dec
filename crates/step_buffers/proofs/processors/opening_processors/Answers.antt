use Rattle.std.proofs.Common.{◌≡◌, ◌+◌, ◌-◌, ◌∙◌, suc, length, get_or, refl, sym, ap, arith}
use Rattle.std.proofs.lemmas.List.{length_push}
use Rattle.step_buffers.proofs.Common.{opening, initial_value}
use Rattle.step_buffers.proofs.KeptProcessors.{AreOpening-push, AreProcessors-opening}
use Rattle.step_buffers.proofs.processors.opening_processors.Goals as goal

pub loop-value-preserved : goal.loop-value-preserved
loop-value-preserved c =
    let config = c.args.config.now in
    let kept = c.loop-value.processors.items in
    let k = c.loop-value.value-index in
    let init : c.init-value-items.result.now ≡ config.init = c.init-value-items.ensures in
    let e : suc (length kept) - 1 ≡ k = omega (arith, c.loop-value.invariant.0) in
    let value : get_or c.init-value-items.result.now k 0 ≡ initial_value config (suc (length kept)) = ap (λ xs. get_or xs k 0) init
    ∙ ap (λ n. get_or config.init n 0) (sym e) in
    let node = c.in_ok-new.ensures ∙ ap opening value in (
      ap length c.in_ok-push.ensures.items ∙ length_push kept _ ∙ ap (λ n. n + 1) c.loop-value.invariant.0,
      rw c.in_ok-push.ensures.items (AreOpening-push config kept _ c.loop-value.invariant.1
          (record {
            round = refl;
            last = refl;
            node = node;
            since = refl;
            buffer = c.new-in-loop-value.ensures.items;
            near = c.new-in-loop-value-2.ensures.near;
            later = c.new-in-loop-value-2.ensures.later;
            said = c.empty.ensures;
          })),
    )

pub returns-clause-kept : goal.returns-clause-kept
returns-clause-kept c =
    let long = c.n.ensures.sound.values in
    let count = c.loop-value.invariant.0 in
    let init = ap length c.init-value-items.ensures in
    let end = c.loop-value-test.false in
    AreProcessors-opening c.args.config.now c.loop-value.processors.items (omega arith) c.loop-value.invariant.1
