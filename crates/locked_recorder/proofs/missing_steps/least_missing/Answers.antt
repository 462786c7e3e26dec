use Rattle.std.proofs.Common.{◌≡◌, ◌+◌, ◌++◌, ◌∷◌, [], ap, sym, ◌∙◌, take}
use Rattle.std.proofs.lemmas.List.{take_more}
use Rattle.locked_recorder.proofs.LeastMissing.{Misses-standing, Misses-above, Misses-less}
use Rattle.locked_recorder.proofs.missing_steps.least_missing.Goals as goal
use Rattle.locked_recorder.proofs.missing_steps.least_missing.Goals.{then-is_below+then-not-stands, else-is_below, else-is_below-via-then-is_below+else-not-stands, else-is_below-via-else-is_below}

pub loop-one-preserved : goal.loop-one-preserved
loop-one-preserved c =
    let steps = c.args.trace.now.steps in
    let done = c.args.done.now in
    let i = c.loop-one.one-index in
    let least = c.loop-one.least in
    let one = c.one-item.result in
    let grown : take (i + 1) done ≡ take i done ++ one ∷ [] = take_more done i one c.loop-one-test.true
    ∙ ap (λ d. take i done ++ d ∷ []) (sym c.one-item.is) in
    let old = c.loop-one.invariant in
    elim c.if-is_below.branch [
      | then-is_below+then-not-stands w ↦ rw (w.least-is, grown) (Misses-less steps (take i done) one least old
          (c.is_below.ensures.0 w.if-is_below.true) (λ h. let clash = sym (w.stands.ensures.1 h) ∙ w.if-not-stands.true in cc))
      | else-is_below w ↦ elim w.else-is_below.branch [
        | else-is_below-via-then-is_below+else-not-stands v ↦ rw (w.least-is, grown)
            (Misses-standing steps (take i done) one least old (v.stands.ensures.0 v.if-not-stands.false))
        | else-is_below-via-else-is_below v ↦ rw (w.least-is, grown)
            (Misses-above steps (take i done) one least old (λ h. let clash = sym (c.is_below.ensures.1 h) ∙ v.if-is_below.false in cc))
      ]
    ]
