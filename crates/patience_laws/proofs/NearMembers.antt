-- Members within a phase of one another that suspect none of their own hear out the next lock-release round.
use Rattle.std.proofs.Common.{ℕ, zero, suc, ◌≡◌, ◌+◌, ◌-◌, ◌*◌, ◌<◌, ◌≤◌, inl, inr, List, Some, true, sym, ap, subst, ◌∙◌, arith}
use Rattle.std.proofs.lemmas.Bool.{cases_lt}
use Rattle.patience_laws.proofs.Common.{Receive, Setup, has_proc, Recorded, step_at, part_of, owner, phase_of}
use Rattle.patience_laws.proofs.Common.{part_at-releasing, round_at, node_before, may_hear}
use Rattle.patience_laws.proofs.Common.{may_hear_in, HasHeardOf, peer_after, Suspects, WasSilent, KeepsBounds}
use Rattle.patience_laws.proofs.Common.{AreInTouch, AreInRoundFrom, IsHeardOutByAll, TakeInOrder, HearThemselves}
use Rattle.patience_laws.proofs.Common.{HaveMet, NoneBefore, SuspectNoneIn, ticks_rise, tick_of}
use Rattle.patience_laws.proofs.PacedSteps.{rounds_after, round-here}
use Rattle.deciding_runs.proofs.NotedPeers.{heard-weaker}
use Rattle.patience_laws.proofs.KnownRounds.{rounds-up}
use Rattle.patience_laws.proofs.SilentPhases.{suspected-silent, silent-suspected}
use Rattle.patience_laws.proofs.EndedReceives.{complete-heard}
use Rattle.patience_laws.proofs.PatienceTicks.{IsEndOf, rounds-ended, end-of}
use Rattle.patience_laws.proofs.MemberRounds.{member-proc}
use Rattle.patience_laws.proofs.AskedAcknowledgements.{five-rounds}
use Rattle.patience_laws.proofs.HeldRounds.{IsCompleteAt, since, hear-out-round, meet-once}
use Rattle.patience_laws.proofs.FirstEnds.{FirstEnd, first-end}

module _ (patience set : ℕ) (trace : Recorded) (g d f : ℕ) (keeps : KeepsBounds patience set trace g d f)
    (order : TakeInOrder set trace) (itself : HearThemselves set trace) (enough : 5 * d + (4 * trace.config.n + 14) * f ≤ patience)
    (s x : ℕ) (touch : AreInTouch patience set trace g s x) (low : 1 < s) (there : AreInRoundFrom set trace s x) (r : ℕ) (up : s ≤ r)
    (near : r ≤ s + 4) (part : part_of r ≡ 4) (first : NoneBefore set trace r x) (loud : SuspectNoneIn patience set trace r) where
  abbrev c : Setup
  c = trace.config

  over : AreInRoundFrom set trace (r + 1) (x + patience)
  over p m k is by =
      let five = five-rounds patience set trace g d f keeps order itself s x touch
      (omega arith) patience s x enough (omega arith) (omega arith) there p m k is by in
      omega arith

  -- in a lock-release round all may be heard
  may : (p q n : ℕ) → part_of (rounds_after trace.steps p n + 1) ≡ 4
      → may_hear c (node_before c trace.steps p (suc n)) (rounds_after trace.steps p n + 1) p q ≡ true
  may p q n is = ap (λ y. may_hear_in y (node_before c trace.steps p (suc n)) (owner c.n (phase_of (rounds_after trace.steps p n + 1))) p q)
      (part_at-releasing (rounds_after trace.steps p n + 1) is)

  now : (p q n : ℕ) (ids : List ℕ) → has_proc set p ≡ true → has_proc set q ≡ true → (at : step_at trace.steps (suc n)
      ≡ Some (record { proc = p; act = Receive true ids })) → rounds_after trace.steps p n + 1 ≡ r → IsCompleteAt
      patience set trace g d f keeps s x touch low p n ids → HasHeardOf trace.steps p q (rounds_after trace.steps p n + 1) (suc n)
  now p q n ids mp mq at is done =
      let e : suc n - 1 ≡ n = omega arith in
      complete-heard c patience trace.steps p keeps.run.well_formed n ids true at
      (keeps.paced p mp) q (member-proc c set keeps.within q mq) done (may p q n (ap part_of is ∙ part))
      (λ y. loud p q (suc n) mp mq (record { ids = ids; ends = true; step = at })
      (round-here trace.steps p n ∙ is) (subst (λ m. (peer_after c patience trace.steps p q m).suspected ≡ true) (sym e) y))

  -- who heard of another in the round doesn't suspect it in the next phase
  trusts : (p q n : ℕ) → has_proc set p ≡ true → has_proc set q ≡ true → rounds_after trace.steps p n + 1 ≡ r + 4
      → (e : IsEndOf trace.steps p r) → suc e.place ≤ n → HasHeardOf trace.steps p q r (suc e.place)
      → Suspects c patience trace.steps p q n → ⊥
  trusts p q n mp mq is e early h suspects =
      go (suspected-silent c patience trace.steps p q keeps.run.well_formed (member-proc c set keeps.within q mq) n suspects) where
        go : WasSilent trace.steps p q n → ⊥
        go was = elim (cases_lt e.place was.place) [
          | inl later ↦ was.behind (heard-weaker trace.steps p q r was.round
              (suc e.place) was.place (bounded was.place was.round was.last was.round_is was.by was.step) (omega arith) h)
          | inr sooner ↦ (
              let f : suc e.place - 1 ≡ e.place = omega arith in
              loud p q (suc e.place) mp mq (record { ids = e.ids; ends = true; step = e.step })
              (round-here trace.steps p e.place ∙ e.round_is)
              (subst (λ m. (peer_after c patience trace.steps p q m).suspected ≡ true) (sym f)
              (silent-suspected c patience trace.steps p q keeps.run.well_formed (member-proc c set keeps.within q mq) e.place (record {
                round = was.round;
                place = was.place;
                ids = was.ids;
                step = was.step;
                round_is = was.round_is;
                last = was.last;
                by = sooner;
                nothing = λ m from by t. was.nothing m from (omega arith) t;
                behind = was.behind;
              }))))
        ]
          where
            -- a lock-release round that p ended by then is this one at most
            bounded : (k w : ℕ) → part_of w ≡ 4 → round_at trace.steps p k ≡ w
                → k ≤ n → step_at trace.steps k ≡ Some (record { proc = p; act = Receive true was.ids }) → w ≤ r
            bounded zero w last here by at = let e0 = here in omega arith
            bounded (suc k) w last here by at =
                let ended = rounds-ended c patience trace.steps p k was.ids at in
                omega (arith, rounds-up c patience trace.steps p (suc k) n by, round-here trace.steps p k)

  next : (p q n : ℕ) (ids : List ℕ) → has_proc set p ≡ true → has_proc set q ≡ true
      → (at : step_at trace.steps (suc n) ≡ Some (record { proc = p; act = Receive true ids })) → rounds_after trace.steps p n + 1 ≡ r + 4
      → (e : IsEndOf trace.steps p r) → suc e.place ≤ n → HasHeardOf trace.steps p q r (suc e.place) → IsCompleteAt
      patience set trace g d f keeps s x touch low p n ids → HasHeardOf trace.steps p q (rounds_after trace.steps p n + 1) (suc n)
  next p q n ids mp mq at is e early h done = complete-heard c patience trace.steps p keeps.run.well_formed n ids true at
      (keeps.paced p mp) q (member-proc c set keeps.within q mq) done (may p q n (omega arith)) (trusts p q n mp mq is e early h)

  -- So they hear out the round.
  hear-near : IsHeardOutByAll set trace r
  hear-near = hear-out-round patience set trace g d f keeps s x touch low r x up (omega arith) first part over now next

  -- and have met as soon as all are past it.
  pub near-met : (one : ℕ) → has_proc set one ≡ true
      → x + patience + f ≤ trace.last + 1 → HaveMet patience set trace g (r + 1) (x + patience)
  near-met one mo long =
      let since_touch = touch.since in
      let y = keeps.phi.each (x + patience) (omega arith) long one mo in
      let from = y.from in
      let tick = y.step.tick in
      let past = over one mo y.step.place y.step.step (omega arith) in
      meets (end-of c patience trace.steps one r (y.step.place - 1) (omega arith) (omega arith)).0
    where
      meets : IsEndOf trace.steps one r → HaveMet patience set trace g (r + 1) (x + patience)
      meets own = of (first-end set trace.steps r one mo own)
        where
          early : tick_of trace (suc own.place) < x + patience
          early = elim (cases_lt (tick_of trace (suc own.place)) (x + patience)) [
            | inl l ↦ l
            | inr l ↦ absurd (
                let is = round-here trace.steps one own.place ∙ own.round_is in
                omega (arith, over one mo (suc own.place) (Receive true own.ids, own.step) l))
          ]

          of : FirstEnd set trace.steps r → HaveMet patience set trace g (r + 1) (x + patience)
          of end = record {
            first = r + 1;
            since = tick_of trace (suc end.place);
            met = meet-once patience set trace g d f keeps order s x r touch up part hear-near end
                (let is = end.round_is in since patience set trace g d f keeps s x touch low r x up
                (omega arith) first end.proc end.place (Receive true end.ids) end.member end.step (omega arith));
            in_time = omega arith;
            before =
                let l = early in
                let rise = ticks_rise trace keeps.trace_is.time (suc end.place) (suc own.place)
                (record { proc = end.proc; act = Receive true end.ids })
                (record { proc = one; act = Receive true own.ids }) end.step own.step
                (end.first one (suc own.place) own.ids mo own.step (round-here trace.steps one own.place ∙ own.round_is)) in
                omega arith;
          }
