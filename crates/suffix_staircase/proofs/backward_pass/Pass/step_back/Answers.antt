use Rattle.std.proofs.Common.{ℕ, ◌≡◌, ◌-◌, IsTrue, refl, sym, ap, subst, ◌∙◌, arith}
use Rattle.step_trace.proofs.StepPositions.{same_step}
use Rattle.suffix_staircase.proofs.Common.{Step, has_proc, tick_of, Level, with_miss}
use Rattle.suffix_staircase.proofs.MissBounds.{KnowsMissesAfter-other, MissesLowered, MissesLowered-with_miss}
use Rattle.suffix_staircase.proofs.MissNumbers.{IsLastMissOf-from_numbers}
use Rattle.suffix_staircase.proofs.NextSteps.{AreNextTicks-other}
use Rattle.suffix_staircase.proofs.ReceivesLowered.{KnowsReceives-other}
use Rattle.suffix_staircase.proofs.backward_pass.Pass.step_back.Goals as goal
use Rattle.suffix_staircase.proofs.backward_pass.Pass.step_back.Goals.{After-note_miss}

pub returns-then-not-contains-clause-known : goal.returns-then-not-contains-clause-known
returns-then-not-contains-clause-known c =
    let set = c.args.self.now.set in
    let t = c.args.trace.now in
    let step = c.step_of.result.now in
    let at = c.step_of.ensures.step in
    let known = c.requires.known in
    let other : ¬ IsTrue (has_proc set step.proc) = λ member. cc (member, c.contains.ensures, c.if-not-contains.true) in
    record {
      members = refl;
      receives = KnowsReceives-other set t c.args.no step c.args.self.now.receives c.step_of.ensures.sound at other known.receives;
      next_steps = record {
        next = AreNextTicks-other (λ p. IsTrue (has_proc set p)) t c.args.no step _ at other known.next_steps.next;
        latest = known.next_steps.latest;
      };
      misses = KnowsMissesAfter-other set t c.args.no
          c.args.self.now.level.delta step c.args.self.now.level.miss c.requires.low at other known.misses;
    }

pub step_back-requires-clause-member : goal.step_back-requires-clause-member
step_back-requires-clause-member c =
    let set = c.args.self.now.set in
    λ x at.
    let same = same_step c.args.trace.now.steps c.args.no x c.step_of.result.now at c.step_of.ensures.step in
    subst (λ (s : Step). IsTrue (has_proc set s.proc)) (sym same) (sym c.contains.ensures ∙ c.if-not-contains.false)

-- one step back by the last Receive that misses its message
lowered : (c : After-note_miss)
    → MissesLowered c.args.self.now.set c.args.trace.now (c.args.no - 1) c.args.self.now.level c.note_miss.new.level
lowered c =
    let t = c.args.trace.now in
    let level = c.args.self.now.level in
    let missed = c.step_back-missed.result in
    let last = IsLastMissOf-from_numbers c.args.self.now.set t
    (record { steps = c.step_back-missed.ensures.sound; time = c.requires.timed }) c.args.no missed c.step_back-missed.ensures.missed in
    let long : c.saturating_sub-long.result ≡ tick_of t missed - tick_of t c.args.no =
    omega (arith, c.saturating_sub-long.ensures, c.tick_at.ensures.value, c.requires.tick) in
    let is = c.note_miss.ensures ∙ ap (λ (n : ℕ). with_miss level (record { sent = c.args.no; missed = missed }) n) long in
    subst (λ (l : Level). MissesLowered c.args.self.now.set t (c.args.no - 1) level l) (sym is)
    (MissesLowered-with_miss c.args.self.now.set t c.args.no missed level c.requires.low c.requires.known.misses last)

pub returns-clause-known : goal.returns-clause-known
returns-clause-known c = record {
  members = refl;
  receives = c.step_back-missed.ensures.known;
  next_steps = c.step_back.ensures;
  misses = (lowered (goal.at.returns-clause-known c).After-note_miss).misses;
}

pub returns-clause-falling : goal.returns-clause-falling
returns-clause-falling c = (lowered (goal.at.returns-clause-falling c).After-note_miss).falling

pub returns-clause-phi : goal.returns-clause-phi
returns-clause-phi c = (lowered (goal.at.returns-clause-phi c).After-note_miss).phi

pub returns-clause-gap : goal.returns-clause-gap
returns-clause-gap c = (lowered (goal.at.returns-clause-gap c).After-note_miss).gap
