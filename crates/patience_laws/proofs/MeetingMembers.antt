-- Members that need one another meet.
use Rattle.std.proofs.Common.{ℕ, suc, ◌≡◌, ◌+◌, ◌-◌, ◌*◌, ◌%◌, ◌<◌, ◌≤◌, inl, inr, List, take, Some, true, false, sym, ap, subst, ◌∙◌, arith}
use Rattle.std.proofs.lemmas.Bool.{cases_lt}
use Rattle.patience_laws.proofs.Common.{Receive, Setup, IsProc, has_proc, Recorded, step_at, tick_of, ticks_rise}
use Rattle.patience_laws.proofs.Common.{part_of, owner, phase_of, part_at-releasing, node_before}
use Rattle.patience_laws.proofs.Common.{may_hear_in, may_hear_all_in, HasHeardOf, heard_ids, is_complete, KeepsBounds}
use Rattle.patience_laws.proofs.Common.{AreInTouch, AreInRoundFrom, IsHeardOutByAll, TakeInOrder, ComesTo, AreAlone}
use Rattle.patience_laws.proofs.Common.{HearThemselves, NeedAll, longest_round, met_round, met_tick, HaveMet}
use Rattle.patience_laws.specs.PacedRuns.{pace_after}
use Rattle.patience_laws.proofs.PacedSteps.{rounds_after, round-here}
use Rattle.patience_laws.proofs.UnheardSuspects.{suspect-unheard}
use Rattle.patience_laws.proofs.EndedReceives.{complete-heard, quorum-heard}
use Rattle.patience_laws.proofs.PatienceTicks.{IsEndOf, rounds-ended, end-of}
use Rattle.patience_laws.proofs.MemberRounds.{member-proc}
use Rattle.patience_laws.proofs.PassedRounds.{passes-rounds}
use Rattle.patience_laws.proofs.SettledMembers.{in-touch, comes-late}
use Rattle.patience_laws.proofs.FirstEnds.{FirstEnd, first-end}
use Rattle.patience_laws.proofs.ClosingWaves.{HeardOutOnce, closes}
use Rattle.patience_laws.proofs.HeldRounds.{since, meet-once}

module _ (patience set : ℕ) (trace : Recorded) (g d f : ℕ) (keeps : KeepsBounds patience set trace g d f) where
  abbrev c : Setup
  c = trace.config

  -- who ends a lock-release round as complete has heard of each member, where the members need one another
  needs : (base x0 : ℕ) → AreInTouch patience set trace g base x0 → NeedAll patience set trace x0 → (p q n : ℕ) (ids : List ℕ)
      → has_proc set p ≡ true → has_proc set q ≡ true → step_at trace.steps (suc n) ≡ Some (record { proc = p; act = Receive true ids })
      → base ≤ rounds_after trace.steps p n + 1 → part_of (rounds_after trace.steps p n + 1) ≡ 4 → x0 ≤ tick_of trace (suc n)
      → is_complete c (node_before c trace.steps p (suc n)) (rounds_after trace.steps p n + 1) p (heard_ids (take n trace.steps) p ids
      (pace_after c patience trace.steps p n)) ≡ true → HasHeardOf trace.steps p q (rounds_after trace.steps p n + 1) (suc n)
  needs base x0 touch (inl few) p q n ids mp mq at up part late done = quorum-heard c patience
      trace.steps p keeps.run.well_formed n ids true at (keeps.paced p mp) set few others q (member-proc c set keeps.within q mq) mq done
      (ap (λ x. may_hear_all_in x (node_before c trace.steps p (suc n)) (owner c.n (phase_of (rounds_after trace.steps p n + 1))) p)
      (part_at-releasing (rounds_after trace.steps p n + 1) part))
    where
      others : (z : ℕ) → IsProc c z → has_proc set z ≡ false → HasHeardOf trace.steps p z (rounds_after trace.steps p n + 1) (suc n) → ⊥
      others z is other h =
          let silent = touch.silent p z mp is other (suc n) (record { ids = ids; ends = true; step = at }) late in
          let ended = rounds-ended c patience trace.steps p n ids at in
          suspect-unheard c patience trace.steps p z
          (suc n) (rounds_after trace.steps p n + 1) keeps.run.well_formed is (omega arith) silent h
  needs base x0 touch (inr none) p q n ids mp mq at up part late done =
      let e : suc n - 1 ≡ n = omega arith in
      complete-heard c patience trace.steps p keeps.run.well_formed n ids true at
      (keeps.paced p mp) q (member-proc c set keeps.within q mq) done
      (ap (λ x. may_hear_in x (node_before c trace.steps p (suc n)) (owner c.n (phase_of (rounds_after trace.steps p n + 1))) p q)
      (part_at-releasing (rounds_after trace.steps p n + 1) part))
      (λ s. none p q (suc n) mp mq (record { ids = ids; ends = true; step = at }) late
      (subst (λ m. (Rattle.patience_laws.specs.PacedRuns.peer_after c patience trace.steps p q m).suspected ≡ true) (sym e) s))

  need-later : (x z : ℕ) → x ≤ z → NeedAll patience set trace x → NeedAll patience set trace z
  need-later x z l (inl few) = inl few
  need-later x z l (inr none) = inr (λ p q k mp mq receive by. none p q k mp mq receive (omega arith))

  module _ (order : TakeInOrder set trace) (itself : HearThemselves set trace) (enough : 5 * d + (4 * trace.config.n + 14) * f ≤ patience)
      (least most : ℕ) (alone : AreAlone set trace g least most)
      (need : NeedAll patience set trace g) (one : ℕ) (mo : has_proc set one ≡ true) where
    abbrev u : ℕ
    u = longest_round c patience f

    -- in so many ticks all are past the rounds of the others
    abbrev w : ℕ
    w = (most + 9 - least) * u

    abbrev x0 : ℕ
    x0 = g + w

    abbrev base : ℕ
    base = most - most % 4 + 5

    abbrev start : ℕ
    start = most + w + 8 - (most + w + 8) % 4 + 4

    abbrev limit : ℕ
    limit = most + 5 * w + 20

    in-by : (r : ℕ) → AreInRoundFrom set trace r (g + (r - least) * u)
    in-by r p m k is by =
        let all = passes-rounds trace patience set g f p keeps.run keeps.trace_is.time
        (keeps.paced p m) m keeps.phi (r - least) least g (omega arith) (alone.there p m) k is by in
        omega arith

    base-there : AreInRoundFrom set trace (base + 4) x0
    base-there p m k is by = let all = in-by (most + 9) p m k is by in omega arith

    touch : AreInTouch patience set trace g base x0
    touch = in-touch patience set trace g d f keeps least most alone base x0 (omega arith) (omega arith) (omega arith) base-there

    none-before : (p k : ℕ) → has_proc set p ≡ true → ComesTo trace.steps p start k → x0 ≤ tick_of trace k
    none-before p k m come =
        let is = come.round_is in
        comes-late patience set trace g d f keeps least most alone p k x0 (Receive true come.ids) come.step (omega arith) (omega arith)

    module _ (long : met_tick c patience g f least most + f ≤ trace.last + 1) where
      -- the member passes them all in time
      ends : (m : ℕ) → 1 ≤ m → m ≤ limit → IsEndOf trace.steps one m
      ends m low high =
          let s = keeps.phi.each (met_tick c patience g f least most) (omega arith) long one mo in
          let from = s.from in
          let tick = s.step.tick in
          let there = in-by (met_round c patience f least most) one mo s.step.place s.step.step (omega arith) in
          (end-of c patience trace.steps one m (s.step.place - 1) low (omega arith)).0

      pub have-met : HaveMet patience set trace g (met_round c patience f least most) (met_tick c patience g f least most)
      have-met = of (closes patience set trace g d f keeps order itself enough base x0 touch
          (omega arith) (needs base x0 touch (need-later g x0 (omega arith) need)) one mo limit ends (w + 2)
          (base + 4) start x0 (omega arith) (omega arith) (omega arith) (omega arith) (omega arith) none-before base-there (omega arith))
        where
          of : HeardOutOnce patience set trace g d f keeps order itself enough base x0 touch
              (omega arith) (needs base x0 touch (need-later g x0 (omega arith) need)) start (start + 4 * (w + 2))
              → HaveMet patience set trace g (met_round c patience f least most) (met_tick c patience g f least most)
          of h = met h.round (omega (arith, h.above)) (omega (arith, h.below)) h.part h.heard h.from
            where
              met : (r : ℕ) → start ≤ r → r ≤ limit → part_of r ≡ 4
                  → IsHeardOutByAll set trace r → ((p k : ℕ) → has_proc set p ≡ true → ComesTo trace.steps p r k → x0 ≤ tick_of trace k)
                  → HaveMet patience set trace g (met_round c patience f least most) (met_tick c patience g f least most)
              met r low high part heard from = meets
                  (first-end set trace.steps r one mo (ends r (omega arith) high)) (ends r (omega arith) high) where
                    meets : FirstEnd set trace.steps r → IsEndOf trace.steps one r
                        → HaveMet patience set trace g (met_round c patience f least most) (met_tick c patience g f least most)
                    meets end own = record {
                      first = r + 1;
                      since = tick_of trace (suc end.place);
                      met = meet-once patience set trace g d f keeps order base x0 r touch (omega arith) part heard end late;
                      in_time = omega arith;
                      before = let l = own-early in let rise =
                          rises one (suc own.place) own.ids own.step
                          (end.first one (suc own.place) own.ids mo own.step
                          (round-here trace.steps one own.place ∙ own.round_is)) in omega arith;
                    }
                      where
                        late : x0 ≤ tick_of trace (suc end.place)
                        late =
                            let is = end.round_is in
                            since patience set trace g d f keeps base x0 touch (omega arith) r x0 (omega arith) (omega arith) from
                            end.proc end.place (Receive true end.ids) end.member end.step (omega arith)

                        rises : (p k : ℕ) (ids : List ℕ)
                            → step_at trace.steps k ≡ Some (record { proc = p; act = Receive true ids })
                            → suc end.place ≤ k → tick_of trace (suc end.place) ≤ tick_of trace k
                        rises p k ids at l = ticks_rise trace keeps.trace_is.time (suc end.place) k (record
                            { proc = end.proc; act = Receive true end.ids }) (record { proc = p; act = Receive true ids }) end.step at l

                        own-early : tick_of trace (suc own.place) < met_tick c patience g f least most
                        own-early = elim (cases_lt (tick_of trace (suc own.place)) (met_tick c patience g f least most)) [
                          | inl l ↦ l
                          | inr l ↦ absurd (
                              let there = in-by (met_round c patience f least most) one mo
                              (suc own.place) (Receive true own.ids, own.step) (omega arith) in
                              let is = round-here trace.steps one own.place ∙ own.round_is in
                              omega arith)
                        ]
