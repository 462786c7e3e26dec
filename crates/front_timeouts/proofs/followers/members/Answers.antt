use Rattle.std.proofs.Common.{ℕ, ◌≡◌, ◌+◌, ◌-◌, ◌∙◌, ◌++◌, ◌∷◌, List, [], sym, ap, arith}
use Rattle.step_trace.specs.declared.processors.TheConstants.{MAX_MEMBER}
use Rattle.front_timeouts.specs.Followers.{members_to}
use Rattle.front_timeouts.proofs.ListedFollowers.{members_to-next, members_to-same, members_to-none}
use Rattle.front_timeouts.proofs.followers.members.Goals as goal
use Rattle.front_timeouts.proofs.followers.members.Goals.{then-contains+in_ok-push, else-contains}

pub loop-p-init : goal.loop-p-init
loop-p-init c = record { low = omega arith; items = c.new-all.ensures.items ∙ sym (members_to-none c.args.set) }

pub loop-p-preserved : goal.loop-p-preserved
loop-p-preserved c =
    let known = c.loop-p.invariant in
    let next : c.loop-p.p + 1 - 1 ≡ c.loop-p.p = omega arith in
    record {
      low = omega arith;
      items = elim c.if-contains.branch [
        | then-contains+in_ok-push w ↦ rw w.all-is (w.in_ok-push.ensures.items ∙ ap (λ (xs : List ℕ). xs ++ c.loop-p.p ∷ []) known.items
            ∙ sym (members_to-next c.args.set c.loop-p.p known.low (sym c.contains.ensures ∙ w.if-contains.true))
            ∙ ap (members_to c.args.set) (sym next))
        | else-contains w ↦ rw w.all-is (known.items ∙ sym (members_to-same c.args.set c.loop-p.p known.low
            (sym c.contains.ensures ∙ w.if-contains.false)) ∙ ap (members_to c.args.set) (sym next))
      ];
    }

pub returns : goal.returns
returns c =
    let end : c.loop-p.p - 1 ≡ MAX_MEMBER = omega (arith, c.loop-p-test.false, c.loop-p.auto.p-end) in
    c.loop-p.invariant.items ∙ ap (members_to c.args.set) end
