use Rattle.std.proofs.Common.{rules, ◌≡◌, ◌+◌, ◌-◌, ◌∙◌, inl, inr, Some, get_or, suc, sym, ap, subst, arith}
use Rattle.std.specs.Prelude.{slice_get}
use Rattle.std.proofs.lemmas.Bool.{cases_lt}
use Rattle.std.proofs.lemmas.Option.{same_Some, slice_get-get_or}
use Rattle.suffix_staircase.specs.declared.levels.Level.{Level}
use Rattle.chunk_join.specs.declared.summaries.Message.{Message}
use Rattle.chunk_join.specs.Finishes.{missed, with_missed, HasMissesFrom}
use Rattle.chunk_join.proofs.MessagesBack.{StandsBefore-with_missed, StandsBefore-through, with_missed-phi, with_missed-gap, HasMissesFrom-back}
use Rattle.chunk_join.proofs.finishes.note_messages.Goals as goal

pub returns-then-tick-g-clause-misses : goal.returns-then-tick-g-clause-misses
returns-then-tick-g-clause-misses c =
    let e : c.loop-k.k ≡ c.loop-k.k - 1 + 1 = omega (arith, c.loop-k-test.true) in
    λ h. subst (λ n. HasMissesFrom c.args.part.now n c.loop-k.level) e (c.loop-k.invariant.misses h)

pub returns-clause-misses : goal.returns-clause-misses
returns-clause-misses c =
    let e : c.loop-k.k ≡ 0 = omega (arith, c.loop-k-test.false) in
    λ h. subst (λ n. HasMissesFrom c.args.part.now n c.loop-k.level) e (c.loop-k.invariant.misses h)

pub loop-k-preserved : goal.loop-k-preserved
loop-k-preserved c =
    let k = c.loop-k.k - 1 in
    let message = c.index-message.result.now in
    let part = c.args.part.now in
    let within = c.loop-k.invariant.within in
    let e : c.loop-k.k ≡ suc k = omega (arith, c.loop-k-test.true) in
    let read : message ≡ get_or part.sent k message = search rules in
    let at : slice_get part.sent k ≡ Some message = slice_get-get_or part.sent k message
    (omega (arith, within, c.loop-k-test.true, c.requires)) ∙ ap (λ (m : Message). Some m) (sym read) in
    let is : c.note_message.new.level ≡ with_missed part.to c.loop-k.level message (missed part.last message) = search rules in
    record {
      within = omega (arith, within);
      falling = StandsBefore-through _ c.loop-k.level _
          (rw is (StandsBefore-with_missed part.to c.loop-k.level message (missed part.last message))) c.loop-k.invariant.falling;
      phi = ap (λ (l : Level). l.phi) is ∙ with_missed-phi part.to c.loop-k.level message (missed part.last message)
          ∙ c.loop-k.invariant.phi;
      gap = ap (λ (l : Level). l.gap) is ∙ with_missed-gap part.to c.loop-k.level message (missed part.last message)
          ∙ c.loop-k.invariant.gap;
      later = λ j m low high h. elim (cases_lt k j) [
        | inl later ↦ c.loop-k.invariant.later j m (omega (arith, later, c.loop-k-test.true)) high h
        | inr first ↦ (
            let same : j ≡ k = omega (arith, first, low) in
            let one = ap (λ (x : Message). x.sent.tick) (same_Some _ _ (sym h ∙ ap (slice_get part.sent) same ∙ at)) in
            omega (arith, one, c.if-tick-g.false))
      ];
      misses = λ h. subst (HasMissesFrom part k) (sym is) (HasMissesFrom-back part k message c.loop-k.level at
          (subst (λ n. HasMissesFrom part n c.loop-k.level) e (c.loop-k.invariant.misses h)));
    }
