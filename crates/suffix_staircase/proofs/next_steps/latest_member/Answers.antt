use Rattle.std.proofs.Common.{sym, ◌∙◌}
use Rattle.suffix_staircase.proofs.NextSteps.{IsLatest-passed, IsLatest-taken}
use Rattle.suffix_staircase.proofs.next_steps.latest_member.Goals as goal
use Rattle.suffix_staircase.proofs.next_steps.latest_member.Goals.{then-contains+then-next_steps-latest}
use Rattle.suffix_staircase.proofs.next_steps.latest_member.Goals.{else-contains}
use Rattle.suffix_staircase.proofs.next_steps.latest_member.Goals.{else-contains-via-then-contains+else-next_steps-latest}
use Rattle.suffix_staircase.proofs.next_steps.latest_member.Goals.{else-contains-via-else-contains}

pub loop-p-preserved : goal.loop-p-preserved
loop-p-preserved c =
    let next = c.args.next_steps.now in
    let known = c.loop-p.invariant in
    elim c.if-contains.branch [
      | then-contains+then-next_steps-latest w ↦ rw w.latest-is (IsLatest-taken c.args.set c.loop-p.p
          c.loop-p.latest next known c.loop-p-test.true (sym c.contains.ensures ∙ w.if-contains.true) w.if-next_steps-latest.true)
      | else-contains w ↦ rw w.latest-is
          (IsLatest-passed c.args.set c.loop-p.p c.loop-p.latest next known (elim w.else-contains.branch [
            | else-contains-via-then-contains+else-next_steps-latest w' ↦ (λ _. w'.if-next_steps-latest.false)
            | else-contains-via-else-contains w' ↦ (λ member. cc (member, c.contains.ensures, w'.if-contains.false))
          ]))
    ]
