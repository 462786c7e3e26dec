-- The gap between members closes: while the foremost waits, all others pass five rounds.
use Rattle.std.proofs.Common.{ℕ, zero, suc, ◌≡◌, ◌+◌, ◌*◌, ◌<◌, ◌≤◌, ◌⊎◌, inl, inr, List, take, Some, Bool, true, false, refl, ap, ◌∙◌, arith}
use Rattle.std.proofs.lemmas.Bool.{cases_lt}
use Rattle.std.proofs.lemmas.Option.{none-some}
use Rattle.patience_laws.proofs.Common.{Send, Receive, Setup, has_proc, Recorded, step_at, tick_of, number_below}
use Rattle.patience_laws.proofs.Common.{ticks_rise, part_of, node_before, HasHeardOf, heard_ids, is_complete}
use Rattle.patience_laws.proofs.Common.{KeepsBounds, AreInTouch, AreInRoundFrom, IsHeardOutByAll, TakeInOrder}
use Rattle.patience_laws.proofs.Common.{HearThemselves, NoneBefore}
use Rattle.patience_laws.specs.PacedRuns.{pace_after}
use Rattle.patience_laws.proofs.PacedSteps.{rounds_after, round-here}
use Rattle.patience_laws.proofs.RoundSends.{round_at-up}
use Rattle.patience_laws.proofs.EndedReceives.{Why, Complete, Behind, Impatient, why-ends}
use Rattle.patience_laws.proofs.PatienceTicks.{IsEndOf, rounds-ended, end-of}
use Rattle.patience_laws.proofs.AskedAcknowledgements.{five-rounds}
use Rattle.patience_laws.proofs.HeldRounds.{IsCompleteAt, since, impatient, unheard, ended-before, hear-out-round}
use Rattle.patience_laws.proofs.FirstEnds.{FirstEnd, first-end}

module _ (patience set : ℕ) (trace : Recorded) (g d f : ℕ) (keeps : KeepsBounds patience set trace g d f)
    (order : TakeInOrder set trace) (itself : HearThemselves set trace) (enough : 5 * d + (4 * trace.config.n + 14) * f ≤ patience)
    (base x0 : ℕ) (touch : AreInTouch patience set trace g base x0) (low : 1 < base) (hears : (p q n : ℕ) (ids : List ℕ)
    → has_proc set p ≡ true → has_proc set q ≡ true → step_at trace.steps (suc n) ≡ Some (record { proc = p; act = Receive true ids })
    → base ≤ rounds_after trace.steps p n + 1 → part_of (rounds_after trace.steps p n + 1) ≡ 4 → x0 ≤ tick_of trace (suc n)
    → is_complete trace.config (node_before trace.config trace.steps p (suc n)) (rounds_after trace.steps p n + 1) p
    (heard_ids (take n trace.steps) p ids (pace_after trace.config patience trace.steps p n)) ≡ true
    → HasHeardOf trace.steps p q (rounds_after trace.steps p n + 1) (suc n)) where
  abbrev c : Setup
  c = trace.config

  module _ (r x : ℕ) (up : base ≤ r) (late : x0 ≤ x) (first : NoneBefore set trace r x) where
    -- nobody comes to the next lock-release round before one has ended this
    next-first : (end : FirstEnd set trace.steps r) → NoneBefore set trace (r + 4) (tick_of trace (suc end.place))
    next-first end p zero m come = absurd (none-some _ come.step)
    next-first end p (suc k) m come =
        let is = come.round_is in
        let here = round-here trace.steps p k in
        let e = end-of c patience trace.steps p r (suc k)
        (omega arith) (let ended = rounds-ended c patience trace.steps p k come.ids come.step in omega arith) in
        let inside = e.1 in
        let begins = end.first p (suc e.0.place) e.0.ids m e.0.step (round-here trace.steps p e.0.place ∙ e.0.round_is) in
        ticks_rise trace keeps.trace_is.time (suc end.place) (suc k) (record { proc = end.proc; act = Receive true end.ids })
        (record { proc = p; act = Receive true come.ids }) end.step come.step (omega arith)

    -- The first that ends the round heard of all, and so all are in it; or it waited for its patience.
    module _ (part : part_of r ≡ 4) (end : FirstEnd set trace.steps r) where
      first-ends : AreInRoundFrom set trace r (tick_of trace (suc end.place)) ⊎ (x + patience ≤ tick_of trace (suc end.place))
      first-ends = go (why-ends c patience trace.steps end.proc keeps.run.well_formed end.place end.ids true end.step
          (keeps.paced end.proc end.member) refl) where
            is : rounds_after trace.steps end.proc end.place + 1 ≡ r
            is = end.round_is

            tick : x ≤ tick_of trace (suc end.place)
            tick = let e = is in since patience set trace g d f keeps base x0 touch low r x up late first end.proc end.place
                (Receive true end.ids) end.member end.step (omega arith)

            go : Why c patience trace.steps end.proc keeps.run.well_formed end.place end.ids true end.step (keeps.paced end.proc end.member)
                → AreInRoundFrom set trace r (tick_of trace (suc end.place)) ⊎ (x + patience ≤ tick_of trace (suc end.place))
            go (Impatient out) = let e = is in inr (impatient patience set trace g d
                f keeps base x0 touch low r x up late first end.proc end.place (Receive true end.ids) end.member end.step (omega arith) out)
            go (Complete done) = inl there
              where
                there : AreInRoundFrom set trace r (tick_of trace (suc end.place))
                there q mq k step by =
                    let e = is in
                    let t = tick in
                    let h = hears end.proc q end.place end.ids end.member mq end.step
                    (omega arith) (ap part_of is ∙ part) (omega arith) done in
                    let later = h.later in
                    let sent = keeps.trace_is.time.later h.place h.message
                    (record { proc = end.proc; act = Receive h.take.ends h.take.ids }, h.take.step, h.take.taken) in
                    let rise = ticks_rise trace keeps.trace_is.time h.place (suc end.place)
                    (record { proc = end.proc; act = Receive h.take.ends h.take.ids })
                    (record { proc = end.proc; act = Receive true end.ids }) h.take.step end.step h.by in
                    let earlier = number_below trace keeps.trace_is.time h.message k
                    (record { proc = q; act = Send end.proc }) (record { proc = q; act = step.0 }) h.sent step.1 (omega arith) in
                    let up_to = round_at-up c patience trace.steps q h.message k (omega arith) in
                    omega arith
            go (Behind ahead) = let e = is in of e (has_proc set ahead.proc) refl
              where
                of : rounds_after trace.steps end.proc end.place + 1 ≡ r → (b : Bool) → has_proc set ahead.proc ≡ b
                    → AreInRoundFrom set trace r (tick_of trace (suc end.place)) ⊎ (x + patience ≤ tick_of trace (suc end.place))
                of e false other = absurd
                    (unheard patience set trace g d f keeps base x0 touch low r x up late first end.proc ahead.proc
                    end.place (rounds_after trace.steps end.proc end.place + 1 + 5) end.ids end.member other ahead.is
                    end.step (omega arith) (omega arith) ahead.heard_of)
                of e true member =
                    let before = ended-before patience set trace g d f keeps base x0 touch low r x up late first end.proc
                    ahead.proc end.place (rounds_after trace.steps end.proc end.place + 1 + 5) ahead.heard_of r
                    (omega arith) (omega arith) in
                    let begins = end.first ahead.proc (suc before.0.place) before.0.ids member before.0.step
                    (round-here trace.steps ahead.proc before.0.place ∙ before.0.round_is) in
                    absurd (omega (arith, before.1))

  -- a lock-release round that all hear out, not before this tick
  pub record HeardOutOnce (least most : ℕ) : Type 0 where
    pub round : ℕ
    pub above : least ≤ round
    pub below : round ≤ most
    pub part : part_of round ≡ 4
    pub heard : IsHeardOutByAll set trace round
    pub from : NoneBefore set trace round x0

  wider : (least most a b : ℕ) → a ≤ least → most ≤ b → HeardOutOnce least most → HeardOutOnce a b
  wider least most a b l m h = record {
    round = h.round;
    above = let e = h.above in omega arith;
    below = let e = h.below in omega arith;
    part = h.part;
    heard = h.heard;
    from = h.from;
  }

  -- Members that are no more than a phase apart when the foremost comes to such a round hear it out.
  closes-near : (s r x : ℕ) → base ≤ s → s ≤ r → r ≤ s + 4
      → part_of r ≡ 4 → x0 ≤ x → NoneBefore set trace r x → AreInRoundFrom set trace s x → HeardOutOnce r r
  closes-near s r x up below near part late first there = record {
    round = r;
    above = omega arith;
    below = omega arith;
    part = part;
    heard = hear-out-round patience set trace g d f keeps base x0 touch low r x (omega arith) late first part over now next;
    from = λ p k m come. let l = first p k m come in omega arith;
  }
    where
      over : AreInRoundFrom set trace (r + 1) (x + patience)
      over p m k is by =
          let five = five-rounds patience set trace g d f keeps order itself base x0 touch
          (omega arith) patience s x enough up late there p m k is by in
          omega arith

      now : (p q n : ℕ) (ids : List ℕ) → has_proc set p ≡ true → has_proc set q ≡ true → (at : step_at trace.steps (suc n)
          ≡ Some (record { proc = p; act = Receive true ids })) → rounds_after trace.steps p n + 1 ≡ r → IsCompleteAt
          patience set trace g d f keeps base x0 touch low p n ids → HasHeardOf trace.steps p q (rounds_after trace.steps p n + 1) (suc n)
      now p q n ids mp mq at is done =
          let tick = since patience set trace g d f keeps base x0 touch low r x
          (omega arith) late first p n (Receive true ids) mp at (omega arith) in
          hears p q n ids mp mq at (omega arith) (ap part_of is ∙ part) (omega arith) done

      next : (p q n : ℕ) (ids : List ℕ) → has_proc set p ≡ true → has_proc set q ≡ true
          → (at : step_at trace.steps (suc n) ≡ Some (record { proc = p; act = Receive true ids })) → rounds_after trace.steps p n + 1
          ≡ r + 4 → (e : IsEndOf trace.steps p r) → suc e.place ≤ n → HasHeardOf trace.steps p q r (suc e.place) → IsCompleteAt
          patience set trace g d f keeps base x0 touch low p n ids → HasHeardOf trace.steps p q (rounds_after trace.steps p n + 1) (suc n)
      next p q n ids mp mq at is e before h done =
          let tick = since patience set trace g d f keeps base x0 touch low r x
          (omega arith) late first p n (Receive true ids) mp at (omega arith) in
          hears p q n ids mp mq at (omega arith) (omega arith) (omega arith) done

  -- Members that are more apart do so within as many phases as they are rounds apart.
  module _ (one : ℕ) (mo : has_proc set one ≡ true) (limit : ℕ) (ends : (m : ℕ) → 1 ≤ m → m ≤ limit → IsEndOf trace.steps one m) where
    abbrev Closes : ℕ → Type 0
    Closes gap = (s r x : ℕ) → base ≤ s → s ≤ r → r ≤ s + 4 + gap → part_of r ≡ 4
        → x0 ≤ x → NoneBefore set trace r x → AreInRoundFrom set trace s x → r + 4 * gap ≤ limit → HeardOutOnce r (r + 4 * gap)

    pub closes : (gap : ℕ) → Closes gap
    closes zero s r x up below near part late first there within =
        wider r r r (r + 4 * zero) (omega arith) (omega arith) (closes-near s r x up below (omega arith) part late first there)
    closes (suc gap) s r x up below near part late first there within =
        go (closes gap) (first-end set trace.steps r one mo (ends r (omega arith) (omega arith))) where
          later : (z : ℕ) → x + patience ≤ z → AreInRoundFrom set trace (s + 5) z
          later z l p m k is by = five-rounds patience set trace g d f keeps order itself base x0 touch
              (omega arith) patience s x enough up late there p m k is (omega arith)

          go : Closes gap → FirstEnd set trace.steps r → HeardOutOnce r (r + 4 * suc gap)
          go rest end = elim (cases_lt (s + 4) r) [
            | inr close ↦ wider r r r (r + 4 * suc gap) (omega arith) (omega arith) (closes-near s r x up below close part late first there)
            | inl far ↦ elim (first-ends r x (omega arith) late first part end) [
              | inl all ↦ wider (r + 4) (r + 4) r (r + 4 * suc gap) (omega arith) (omega arith) (closes-near r (r + 4) (tick_of trace (suc
                  end.place)) (omega arith) (omega arith)
                  (omega arith) (omega arith) after (next-first r x (omega arith) late first end) all)
              | inr waited ↦ wider (r + 4) (r + 4 + 4 * gap) r (r + 4 * suc gap) (omega arith) (omega arith)
                  (rest (s + 5) (r + 4) (tick_of trace (suc end.place)) (omega arith) (omega arith) (omega arith) (omega arith) after
                  (next-first r x (omega arith) late first end) (later (tick_of trace (suc end.place)) waited) (omega arith))
            ]
          ]
            where
              after : x0 ≤ tick_of trace (suc end.place)
              after = let is = end.round_is in let t =
                  since patience set trace g d f keeps base x0 touch low r x (omega arith) late first end.proc end.place
                  (Receive true end.ids) end.member end.step (omega arith) in omega arith
