use Rattle.std.proofs.Common.{ℕ, ◌⊎◌, inl, inr, replicate, Some, None, Option, List, ◌≡◌, ◌+◌, ◌-◌, ◌<◌, ◌≤◌, ◌∙◌, length, take, get_or, refl, sym, ap, subst, arith}
use Rattle.std.specs.Prelude.{option_copied}
use Rattle.std.proofs.lemmas.Option.{slice_get_within}
use Rattle.std.proofs.lemmas.List.{length-take, length-set, get_or-replicate}
use Rattle.step_trace.specs.Configurations.{Setup}
use Rattle.step_trace.specs.Traces.{Recorded, step_at}
use Rattle.step_buffers.specs.declared.moves.Done.{Done}
use Rattle.step_buffers.specs.HeardTables.{passed}
use Rattle.step_buffers.proofs.GrownNodes.{passed-within}
use Rattle.locked_recorder.specs.Audits.{done_last}
use Rattle.locked_recorder.specs.Comparisons.{AreCompared, IsNextAgreed}
use Rattle.locked_recorder.proofs.DoneSteps.{step_at-there, passed-take, passed-own, done_last-by_round}
use Rattle.locked_recorder.proofs.SeatRounds.{IsAt-from, AreRounds-none, AreRounds-more}
use Rattle.locked_recorder.proofs.SeatOrder.{length-in_order}
use Rattle.locked_recorder.proofs.ComparedSeats.{AreCompared-none, AreCompared-more}
use Rattle.locked_recorder.proofs.seat_comparisons.compare_seats.Goals as goal

none_or_some : (o : Option ℕ) → (o ≡ None) ⊎ ((v : ℕ) × (o ≡ Some v))
none_or_some None = inl refl
none_or_some (Some v) = inr (v, refl)

pub loop-no-init : goal.loop-no-init
loop-no-init c =
    let trace = c.args.world.now.trace in
    let seats = c.args.seats.now in
    let config : c.config.result.now ≡ trace.config = c.config.ensures ∙ ap (λ (t : Recorded). t.config) c.trace-trace.ensures.value in
    let n : c.n-n.result ≡ trace.config.n = c.n-n.ensures.value ∙ ap (λ (k : Setup). k.n) config in
    let count = length-in_order trace.config seats c.requires.order in
    let some : c.in_ok-agreed.agreed.items ≡ replicate c.n-n.result (Some 0) =
    c.in_ok-agreed.ensures.items_if_clones_equal
    (λ y k. elim (none_or_some y) [ inl e ↦ absurd (rw e at k) | inr v ↦ v.1 ∙ ap Some (rw v.1 at k) ]) in
    let one : c.in_ok-rounds.rounds.items ≡ replicate c.n-n.result 1 = c.in_ok-rounds.ensures.items_if_clones_equal (λ y k. k) in
    let zeros : (i : ℕ) (m : Option ℕ) → i < length c.in_ok-agreed.agreed.items → get_or c.in_ok-agreed.agreed.items i m ≡ Some 0 =
    λ i m l.
    rw some (get_or-replicate c.n-n.result i (Some 0) m (omega (arith, l, c.in_ok-agreed.ensures.len, c.in_ok-agreed.agreed.ok.0))) in
    let ones : (i d : ℕ) → i < length c.in_ok-rounds.rounds.items → get_or c.in_ok-rounds.rounds.items i d ≡ 1 =
    λ i d l. rw one (get_or-replicate c.n-n.result i 1 d (omega (arith, l, c.in_ok-rounds.ensures.len, c.in_ok-rounds.rounds.ok.0))) in (
      AreCompared-none trace.config trace.steps seats c.in_ok-agreed.agreed.items
          (omega (arith, c.in_ok-agreed.ensures.len, c.in_ok-agreed.agreed.ok.0)) zeros,
      AreRounds-none trace.steps c.in_ok-rounds.rounds.items ones,
      omega (arith, c.in_ok-rounds.ensures.len, c.in_ok-rounds.rounds.ok.0),
      omega arith,
    )

pub unreachable-requires : goal.unreachable-requires
unreachable-requires c =
    let trace = c.args.world.now.trace in
    let low = c.loop-no.invariant.3 in
    let count : c.len.result ≡ length trace.steps = c.len.ensures.value
    ∙ ap (λ (t : Recorded). length t.steps) c.trace-trace.ensures.value in
    let before = c.loop-no-test.true in
    step_at-there trace.steps c.loop-no.no low (omega arith)
    (ap (λ (t : Recorded). step_at t.steps c.loop-no.no) (sym c.trace-trace.ensures.value)
    ∙ sym c.step.ensures.value ∙ ap option_copied c.in_default.is)

pub index-requires : goal.index-requires
index-requires c =
    let trace = c.args.world.now.trace in
    let is = IsAt-from trace.config c.trace-trace.result.now trace c.args.seats.now
    c.loop-no.rounds.items c.loop-no.no c.in-Some.step.now c.trace-trace.ensures.value c.trace-trace.ensures.run.well_formed
    c.requires.order c.loop-no.invariant.1 c.loop-no.invariant.2 c.loop-no.invariant.3 c.in-Some.ensures.value in
    let place = is.place in
    omega (arith, c.loop-no.rounds.ok.0)

pub round_after-round-requires : goal.round_after-round-requires
round_after-round-requires c =
    let trace = c.args.world.now.trace in
    let is = IsAt-from trace.config c.trace-trace.result.now trace c.args.seats.now
    c.loop-no.rounds.items c.loop-no.no c.in-Some.step.now c.trace-trace.ensures.value c.trace-trace.ensures.run.well_formed
    c.requires.order c.loop-no.invariant.1 c.loop-no.invariant.2 c.loop-no.invariant.3 c.in-Some.ensures.value in
    let x = c.in-Some.step.now in
    let n = c.loop-no.no - 1 in
    let round = c.index.ensures ∙ is.round c.index.result.now in
    let most = passed-within (take n trace.steps) x.proc in
    let short = length-take n trace.steps in
    let room = c.trace-trace.ensures.run.well_formed.short in
    let all : passed (take n trace.steps) x.proc < length trace.steps = omega (arith, slice_get_within trace.steps n x is.at) in
    omega arith

pub index_mut-requires : goal.index_mut-requires
index_mut-requires c =
    let trace = c.args.world.now.trace in
    let is = IsAt-from trace.config c.trace-trace.result.now trace c.args.seats.now
    c.loop-no.rounds.items c.loop-no.no c.in-Some.step.now c.trace-trace.ensures.value c.trace-trace.ensures.run.well_formed
    c.requires.order c.loop-no.invariant.1 c.loop-no.invariant.2 c.loop-no.invariant.3 c.in-Some.ensures.value in
    let place = is.place in
    omega (arith, c.loop-no.rounds.ok.0)

pub decision_in-decision-requires-clause-first : goal.decision_in-decision-requires-clause-first
decision_in-decision-requires-clause-first c =
    let trace = c.args.world.now.trace in
    let is = IsAt-from trace.config c.trace-trace.result.now trace c.args.seats.now
    c.loop-no.rounds.items c.loop-no.no c.in-Some.step.now c.trace-trace.ensures.value c.trace-trace.ensures.run.well_formed
    c.requires.order c.loop-no.invariant.1 c.loop-no.invariant.2 c.loop-no.invariant.3 c.in-Some.ensures.value in
    let round = c.index.ensures ∙ is.round c.index.result.now in
    let after = c.round_after-round.ensures in
    omega arith

pub decision_in-decision-requires-clause-reached : goal.decision_in-decision-requires-clause-reached
decision_in-decision-requires-clause-reached c =
    let trace = c.args.world.now.trace in
    let is = IsAt-from trace.config c.trace-trace.result.now trace c.args.seats.now
    c.loop-no.rounds.items c.loop-no.no c.in-Some.step.now c.trace-trace.ensures.value c.trace-trace.ensures.run.well_formed
    c.requires.order c.loop-no.invariant.1 c.loop-no.invariant.2 c.loop-no.invariant.3 c.in-Some.ensures.value in
    let x = c.in-Some.step.now in
    let n = c.loop-no.no - 1 in
    let round = c.index.ensures ∙ is.round c.index.result.now in
    let own = passed-own trace.steps n x is.at in
    let most = passed-take trace.steps (n + 1) x.proc in
    let after = c.round_after-round.ensures in
    omega arith

pub offset_bounds-seats-i : goal.offset_bounds-seats-i
offset_bounds-seats-i c =
    let trace = c.args.world.now.trace in
    let is = IsAt-from trace.config c.trace-trace.result.now trace c.args.seats.now
    c.loop-no.rounds.items c.loop-no.no c.in-Some.step.now c.trace-trace.ensures.value c.trace-trace.ensures.run.well_formed
    c.requires.order c.loop-no.invariant.1 c.loop-no.invariant.2 c.loop-no.invariant.3 c.in-Some.ensures.value in
    let seat = is.seat in
    let count = length-in_order trace.config c.args.seats.now c.requires.order in
    let few : trace.config.n ≤ 64 = subst (λ (k : Setup). k.n ≤ 64)
    (c.config.ensures ∙ ap (λ (t : Recorded). t.config) c.trace-trace.ensures.value) c.n-n.ensures.sound.most in
    search (arith)

pub bounds-seats-i : goal.bounds-seats-i
bounds-seats-i c =
    let trace = c.args.world.now.trace in
    let is = IsAt-from trace.config c.trace-trace.result.now trace c.args.seats.now
    c.loop-no.rounds.items c.loop-no.no c.in-Some.step.now c.trace-trace.ensures.value c.trace-trace.ensures.run.well_formed
    c.requires.order c.loop-no.invariant.1 c.loop-no.invariant.2 c.loop-no.invariant.3 c.in-Some.ensures.value in
    is.seat

pub index-requires-in-loop-no : goal.index-requires-in-loop-no
index-requires-in-loop-no c =
    let trace = c.args.world.now.trace in
    let is = IsAt-from trace.config c.trace-trace.result.now trace c.args.seats.now
    c.loop-no.rounds.items c.loop-no.no c.in-Some.step.now c.trace-trace.ensures.value c.trace-trace.ensures.run.well_formed
    c.requires.order c.loop-no.invariant.1 c.loop-no.invariant.2 c.loop-no.invariant.3 c.in-Some.ensures.value in
    let seat = is.seat in
    let count = c.loop-no.invariant.0.count in
    omega (arith, c.loop-no.agreed.ok.0)

pub index_mut-requires-in-loop-no : goal.index_mut-requires-in-loop-no
index_mut-requires-in-loop-no c =
    let trace = c.args.world.now.trace in
    let is = IsAt-from trace.config c.trace-trace.result.now trace c.args.seats.now
    c.loop-no.rounds.items c.loop-no.no c.in-Some.step.now c.trace-trace.ensures.value c.trace-trace.ensures.run.well_formed
    c.requires.order c.loop-no.invariant.1 c.loop-no.invariant.2 c.loop-no.invariant.3 c.in-Some.ensures.value in
    let seat = is.seat in
    let count = c.loop-no.invariant.0.count in
    omega (arith, c.loop-no.agreed.ok.0)

pub loop-no-preserved : goal.loop-no-preserved
loop-no-preserved c =
    let trace = c.args.world.now.trace in
    let is = IsAt-from trace.config c.trace-trace.result.now trace c.args.seats.now
    c.loop-no.rounds.items c.loop-no.no c.in-Some.step.now c.trace-trace.ensures.value c.trace-trace.ensures.run.well_formed
    c.requires.order c.loop-no.invariant.1 c.loop-no.invariant.2 c.loop-no.invariant.3 c.in-Some.ensures.value in
    let x = c.in-Some.step.now in
    let n = c.loop-no.no - 1 in
    let seats = c.args.seats.now in
    let i = x.proc - 1 in
    let positive = c.loop-no.invariant.3 in
    let next : c.loop-no.no + 1 - 1 ≡ n + 1 = omega arith in
    let within = slice_get_within trace.steps n x is.at in
    let before = c.index.ensures ∙ is.round c.index.result.now in
    let own = passed-own trace.steps n x is.at in
    let after = c.round_after-round.ensures in
    let round : c.round_after-round.result ≡ passed (take (n + 1) trace.steps) x.proc + 1 = omega arith in
    let place : n + 1 ≡ c.loop-no.no = omega arith in
    let same = done_last-by_round trace.config trace.steps (n + 1) x c.round_after-round.result
    c.decision_in-decision.result c.trace-trace.ensures.run.well_formed (omega arith) round c.decision_in-decision.ensures in
    let step : IsNextAgreed c.index-seats-i.result.done
    (done_last trace.config (take (n + 1) trace.steps) x) c.index-in-loop-no.result.now c.next_agreed.result =
    subst (λ (d : Done). IsNextAgreed c.index-seats-i.result.done d c.index-in-loop-no.result.now c.next_agreed.result)
    (subst
    (λ k. record {
      no = k;
      step = x;
      round = c.round_after-round.result;
      decision = c.decision_in-decision.result;
    } ≡ done_last trace.config
    (take (n + 1) trace.steps) x) place same)
    (subst
    (λ (ds : List Done). IsNextAgreed ds
    (record {
      no = c.loop-no.no;
      step = x;
      round = c.round_after-round.result;
      decision = c.decision_in-decision.result;
    }) c.index-in-loop-no.result.now c.next_agreed.result)
    c.done.ensures c.next_agreed.ensures) in (
      rw next (AreCompared-more trace.config trace.steps
          n x seats c.loop-no.agreed.items i c.index-seats-i.result c.index-in-loop-no.result.now c.next_agreed.result
          c.requires.order is.at c.loop-no.invariant.0 is.own is.seat c.index-seats-i.is c.index-in-loop-no.ensures step),
      rw next (AreRounds-more trace.steps n x c.loop-no.rounds.items
          i c.index.result.now c.round_after-round.result is.at is.own is.place c.index.ensures after c.loop-no.invariant.1),
      length-set c.loop-no.rounds.items i c.round_after-round.result ∙ c.loop-no.invariant.2,
      omega arith,
    )

pub returns : goal.returns
returns c =
    let trace = c.args.world.now.trace in
    let count : c.len.result ≡ length trace.steps = c.len.ensures.value
    ∙ ap (λ (t : Recorded). length t.steps) c.trace-trace.ensures.value in
    let last = c.loop-no-test.false in
    let most = c.loop-no.auto.no-end (omega arith) in
    let end : c.loop-no.no - 1 ≡ length trace.steps = omega arith in
    subst (λ (k : ℕ). AreCompared trace.config trace.steps k c.args.seats.now c.loop-no.agreed.items) end c.loop-no.invariant.0
