-- A lock-release round that all are past before a patience is: all hear it out.
use Rattle.std.proofs.Common.{ℕ, zero, suc, ◌≡◌, ◌+◌, ◌-◌, ◌<◌, ◌≤◌, List, take, Some, Bool, true, false, refl, sym, subst, ◌∙◌, arith}
use Rattle.std.proofs.lemmas.Option.{none-some}
use Rattle.patience_laws.proofs.Common.{Act, Receive, Setup, IsProc, has_proc, Recorded, step_at, tick_of, ticks_rise}
use Rattle.patience_laws.proofs.Common.{part_of, node_before, HasHeardOf, heard_ids, is_complete, KeepsBounds}
use Rattle.patience_laws.proofs.Common.{AreInTouch, AreInRoundFrom, IsHeardOutByAll, TakeInOrder, MeetOnce, NoneBefore}
use Rattle.patience_laws.specs.PacedRuns.{pace_after}
use Rattle.patience_laws.proofs.PacedSteps.{rounds_after, round-here}
use Rattle.patience_laws.proofs.LeastRounds.{touch-later}
use Rattle.patience_laws.proofs.FirstEnds.{FirstEnd}
use Rattle.patience_laws.proofs.RoundSends.{round_at-up}
use Rattle.patience_laws.proofs.UnheardSuspects.{suspect-unheard}
use Rattle.patience_laws.proofs.EndedReceives.{Why, Complete, Behind, Impatient, why-ends}
use Rattle.patience_laws.proofs.PatienceTicks.{IsEndOf, rounds-ended, end-of, patience-lasts}
use Rattle.patience_laws.proofs.MemberRounds.{end-later}

module _ (patience set : ℕ) (trace : Recorded) (g d f : ℕ)
    (keeps : KeepsBounds patience set trace g d f) (base x0 : ℕ) (touch : AreInTouch patience set trace g base x0) (low : 1 < base) where
  abbrev c : Setup
  c = trace.config

  -- a message that was taken was sent before
  sent-earlier : (p q s n : ℕ) (h : HasHeardOf trace.steps p q s n) → h.message < n
  sent-earlier p q s n h =
      let earlier = (keeps.run.well_formed.earlier h.place h.message
      (record { proc = p; act = Receive h.take.ends h.take.ids }) h.take.step h.take.taken).0 in
      omega (arith, h.by)

  -- what p heard with step n + 1, which takes these messages, is complete
  abbrev pub IsCompleteAt : ℕ → ℕ → List ℕ → Type 0
  IsCompleteAt p n ids = is_complete c (node_before c trace.steps p (suc n))
      (rounds_after trace.steps p n + 1) p (heard_ids (take n trace.steps) p ids (pace_after c patience trace.steps p n)) ≡ true

  module _ (r x : ℕ) (up : base ≤ r) (late : x0 ≤ x) (first : NoneBefore set trace r x) where
    -- what comes in the round or after it comes no earlier
    pub since : (q n : ℕ) (act : Act) → has_proc set q ≡ true → step_at trace.steps (suc n) ≡ Some (record { proc = q; act = act })
        → r ≤ rounds_after trace.steps q n + 1 → x ≤ tick_of trace (suc n)
    since q n act m at there =
        let e = end-of c patience trace.steps q (r - 1) n (omega arith) (omega arith) in
        let inside = e.1 in
        let is = e.0.round_is in
        let here = round-here trace.steps q e.0.place in
        let come = first q (suc e.0.place) m (record { ids = e.0.ids; step = e.0.step; round_is = omega arith }) in
        let rise = ticks_rise trace keeps.trace_is.time (suc e.0.place)
        (suc n) (record { proc = q; act = Receive true e.0.ids }) (record { proc = q; act = act }) e.0.step at (omega arith) in
        omega arith

    -- and a patience ends such a round so much later
    pub impatient : (q n : ℕ) (act : Act) → has_proc set q ≡ true → step_at trace.steps (suc n) ≡ Some (record { proc = q; act = act })
        → r ≤ rounds_after trace.steps q n + 1 → (pace_after c patience trace.steps q n).left ≤ 1 → x + patience ≤ tick_of trace (suc n)
    impatient q n act m at there out =
        let e = end-of c patience trace.steps q (r - 1) n (omega arith) (omega arith) in
        let is = e.0.round_is in
        let here = round-here trace.steps q e.0.place in
        let come = first q (suc e.0.place) m (record { ids = e.0.ids; step = e.0.step; round_is = omega arith }) in
        let h = end-of c patience trace.steps q (rounds_after trace.steps q n) n (omega arith) (omega arith) in
        let rise = end-later trace patience keeps.trace_is.time q (r - 1) (rounds_after trace.steps q n) e.0 h.0 (omega arith) in
        let ticks = patience-lasts trace patience q keeps.trace_is.time (rounds_after trace.steps q n) h.0 n act h.1 refl at out in
        omega arith

    -- of another processor nothing is heard of such a round
    pub unheard : (q z n s : ℕ) (ids : List ℕ) → has_proc set q ≡ true
        → has_proc set z ≡ false → IsProc c z → step_at trace.steps (suc n) ≡ Some (record { proc = q; act = Receive true ids })
        → r ≤ rounds_after trace.steps q n + 1 → rounds_after trace.steps q n + 1 ≤ s → HasHeardOf trace.steps q z s (suc n) → ⊥
    unheard q z n s ids mq mz is at there far h =
        let tick = since q n (Receive true ids) mq at there in
        let silent = touch.silent q z mq is mz (suc n) (record { ids = ids; ends = true; step = at }) (omega arith) in
        let ended = rounds-ended c patience trace.steps q n ids at in
        suspect-unheard c patience trace.steps q z (suc n) s keeps.run.well_formed is (omega arith) silent h

    -- who was heard of in a later round has ended this one
    pub ended-before : (q z n s : ℕ) (h : HasHeardOf trace.steps q z s (suc n)) (m : ℕ)
        → 1 ≤ m → m < s → (e : IsEndOf trace.steps z m) × (suc e.place ≤ n)
    ended-before q z n s h m positive below =
        let earlier = sent-earlier q z s (suc n) h in
        let e = end-of c patience trace.steps z m (h.message - 1) positive (omega (arith, h.later)) in
        (e.0, omega (arith, e.1, h.later))

    -- Who ends the round as complete heard of all; and so does who ends the next lock-release round, if it did in this
    -- one.
    module _ (part : part_of r ≡ 4) (over : AreInRoundFrom set trace (r + 1) (x + patience))
        (now : (p q n : ℕ) (ids : List ℕ) → has_proc set p ≡ true → has_proc set q ≡ true
        → step_at trace.steps (suc n) ≡ Some (record { proc = p; act = Receive true ids }) → rounds_after trace.steps p n + 1 ≡ r
        → IsCompleteAt p n ids → HasHeardOf trace.steps p q (rounds_after trace.steps p n + 1) (suc n)) (next : (p q n : ℕ) (ids : List ℕ)
        → has_proc set p ≡ true → has_proc set q ≡ true → step_at trace.steps (suc n) ≡ Some (record { proc = p; act = Receive true ids })
        → rounds_after trace.steps p n + 1 ≡ r + 4 → (e : IsEndOf trace.steps p r) → suc e.place ≤ n → HasHeardOf trace.steps p q r
        (suc e.place) → IsCompleteAt p n ids → HasHeardOf trace.steps p q (rounds_after trace.steps p n + 1) (suc n)) where
      -- no member is past the next lock-release round while one is in this
      nobody-ended : (p n : ℕ) (act : Act) → has_proc set p ≡ true → step_at trace.steps (suc n) ≡ Some (record { proc = p; act = act })
          → rounds_after trace.steps p n + 1 ≡ r → (bound k q : ℕ) (ids : List ℕ) → k < bound → suc k ≤ n → has_proc set q ≡ true
          → step_at trace.steps (suc k) ≡ Some (record { proc = q; act = Receive true ids }) → rounds_after trace.steps q k + 1 ≡ r + 4 → ⊥
      nobody-ended p n act mp at here zero k q ids b l mq there is = absurd (omega arith)
      nobody-ended p n act mp at here (suc bound) k q ids b l mq there is = go (nobody-ended p n act mp at here bound)
          (why-ends c patience trace.steps q keeps.run.well_formed k ids true there (keeps.paced q mq) refl)
        where
          tick : x ≤ tick_of trace (suc k)
          tick = since q k (Receive true ids) mq there (omega arith)

          heard_p : HasHeardOf trace.steps q p (rounds_after trace.steps q k + 1) (suc k) → ⊥
          heard_p h =
              let earlier = sent-earlier q p (rounds_after trace.steps q k + 1) (suc k) h in
              let rise = round_at-up c patience trace.steps p h.message (suc n) (omega arith) in
              omega (arith, h.later, round-here trace.steps p n)

          -- it heard of p when it ended the round itself
          heard-then : (e : IsEndOf trace.steps q r) → suc e.place ≤ k
              → ((k q : ℕ) (ids : List ℕ) → k < bound → suc k ≤ n → has_proc set q ≡ true
              → step_at trace.steps (suc k) ≡ Some (record { proc = q; act = Receive true ids })
              → rounds_after trace.steps q k + 1 ≡ r + 4 → ⊥) → HasHeardOf trace.steps q p r (suc e.place)
          heard-then e early before =
              why (why-ends c patience trace.steps q keeps.run.well_formed e.place e.ids true e.step (keeps.paced q mq) refl) where
                ended : rounds_after trace.steps q e.place + 1 ≡ r
                ended = e.round_is

                why : Why c patience trace.steps q keeps.run.well_formed e.place e.ids true e.step (keeps.paced q mq)
                    → HasHeardOf trace.steps q p r (suc e.place)
                why (Complete done) = subst (λ s. HasHeardOf trace.steps q p s (suc e.place)) ended
                    (now q p e.place e.ids mq mp e.step ended done)
                why (Impatient out) =
                    let same = ended in
                    let long = impatient q e.place (Receive true e.ids) mq e.step (omega arith) out in
                    let rise = ticks_rise trace keeps.trace_is.time (suc e.place)
                    (suc n) (record { proc = q; act = Receive true e.ids }) (record { proc = p; act = act }) e.step at (omega arith) in
                    let past = over p mp (suc n) (act, at) (omega arith) in
                    absurd (omega (arith, round-here trace.steps p n))
                why (Behind ahead) = let same = ended in of same (has_proc set ahead.proc) refl
                  where
                    of : rounds_after trace.steps q e.place + 1 ≡ r
                        → (b : Bool) → has_proc set ahead.proc ≡ b → HasHeardOf trace.steps q p r (suc e.place)
                    of same false other = absurd (unheard q ahead.proc e.place (rounds_after trace.steps q e.place + 1 + 5)
                        e.ids mq other ahead.is e.step (omega arith) (omega arith) ahead.heard_of)
                    of same true member =
                        let end = ended-before q ahead.proc e.place
                        (rounds_after trace.steps q e.place + 1 + 5) ahead.heard_of (r + 4) (omega arith) (omega arith) in
                        let inside = end.1 in
                        absurd (before end.0.place ahead.proc end.0.ids (omega arith) (omega arith) member end.0.step end.0.round_is)

          go : ((k q : ℕ) (ids : List ℕ) → k < bound → suc k ≤ n → has_proc set q ≡ true
              → step_at trace.steps (suc k) ≡ Some (record { proc = q; act = Receive true ids })
              → rounds_after trace.steps q k + 1 ≡ r + 4 → ⊥)
              → Why c patience trace.steps q keeps.run.well_formed k ids true there (keeps.paced q mq) → ⊥
          go before (Complete done) =
              let e = end-of c patience trace.steps q r k (omega arith) (omega arith) in
              let inside = e.1 in
              heard_p (next q p k ids mq mp there is e.0 (omega arith) (heard-then e.0 (omega arith) before) done)
          go before (Impatient out) =
              let long = impatient q k (Receive true ids) mq there (omega arith) out in
              let rise = ticks_rise trace keeps.trace_is.time
              (suc k) (suc n) (record { proc = q; act = Receive true ids }) (record { proc = p; act = act }) there at (omega arith) in
              let past = over p mp (suc n) (act, at) (omega arith) in
              omega (arith, round-here trace.steps p n)
          go before (Behind ahead) = of (has_proc set ahead.proc) refl
            where
              of : (b : Bool) → has_proc set ahead.proc ≡ b → ⊥
              of false e = unheard q ahead.proc k (rounds_after trace.steps q k + 1 + 5) ids mq e ahead.is there
                  (omega arith) (omega arith) ahead.heard_of
              of true e =
                  let end = ended-before q ahead.proc k
                  (rounds_after trace.steps q k + 1 + 5) ahead.heard_of (r + 4) (omega arith) (omega arith) in
                  let inside = end.1 in
                  before end.0.place ahead.proc end.0.ids (omega arith) (omega arith) e end.0.step end.0.round_is

      -- So all hear out the round, if all are past it before a patience is.
      pub hear-out-round : IsHeardOutByAll set trace r
      hear-out-round p q zero ids mp mq at here may = absurd (none-some _ at)
      hear-out-round p q (suc n) ids mp mq at here may =
          go (why-ends c patience trace.steps p keeps.run.well_formed n ids true at (keeps.paced p mp) refl) where
            is : rounds_after trace.steps p n + 1 ≡ r
            is = sym (round-here trace.steps p n) ∙ here

            go : Why c patience trace.steps p keeps.run.well_formed n ids true at (keeps.paced p mp) → HasHeardOf trace.steps p q r (suc n)
            go (Complete done) = subst (λ s. HasHeardOf trace.steps p q s (suc n)) is (now p q n ids mp mq at is done)
            go (Impatient out) =
                let e = is in
                let long = impatient p n (Receive true ids) mp at (omega arith) out in
                let past = over p mp (suc n) (Receive true ids, at) (omega arith) in
                absurd (omega arith)
            go (Behind ahead) = let e = is in of e (has_proc set ahead.proc) refl
              where
                of : rounds_after trace.steps p n + 1 ≡ r → (b : Bool) → has_proc set ahead.proc ≡ b → HasHeardOf trace.steps p q r (suc n)
                of e false other = absurd (unheard p ahead.proc n
                    (rounds_after trace.steps p n + 1 + 5) ids mp other ahead.is at (omega arith) (omega arith) ahead.heard_of)
                of e true member =
                    let end = ended-before p ahead.proc n
                    (rounds_after trace.steps p n + 1 + 5) ahead.heard_of (r + 4) (omega arith) (omega arith) in
                    let inside = end.1 in
                    absurd (nobody-ended p n (Receive true ids) mp at e
                    (suc end.0.place) end.0.place ahead.proc end.0.ids (omega arith) (omega arith) member end.0.step end.0.round_is)

-- A round that all hear out brings them together, from when the first has ended it.
pub meet-once : (patience set : ℕ) (trace : Recorded) (g d f : ℕ) → KeepsBounds patience set trace g d f
    → TakeInOrder set trace → (base x0 r : ℕ) → AreInTouch patience set trace g base x0 → base ≤ r → part_of r ≡ 4
    → IsHeardOutByAll set trace r → (end : FirstEnd set trace.steps r) → x0 ≤ tick_of trace (suc end.place)
    → MeetOnce patience set trace g (r + 1) (tick_of trace (suc end.place))
meet-once patience set trace g d f keeps order base x0 r touch up part heard end late = record {
  later = omega arith;
  part = omega arith;
  touch = subst (λ m. AreInTouch patience set trace g m (tick_of trace (suc end.place))) same
      (touch-later patience set trace g base x0 r (tick_of trace (suc end.place)) up late touch);
  order = order;
  first = λ p k m come. ticks_rise trace keeps.trace_is.time (suc end.place) k
      (record { proc = end.proc; act = Receive true end.ids }) (record { proc = p; act = Receive true come.ids }) end.step come.step
      (end.first p k come.ids m come.step (let e = come.round_is in omega arith));
  one = end.proc;
  member = end.member;
  place = suc end.place;
  comes = record {
    ids = end.ids;
    step = end.step;
    round_is = (let e = round-here trace.steps end.proc end.place in let is = end.round_is in omega arith);
  };
  at = refl;
  heard = subst (IsHeardOutByAll set trace) same heard;
}
  where
    same : r ≡ r + 1 - 1
    same = omega arith
