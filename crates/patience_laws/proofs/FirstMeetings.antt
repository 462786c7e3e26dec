-- One lock-release round that all members hear out brings them together.
use Rattle.std.proofs.Common.{ℕ, zero, suc, ◌≡◌, ◌+◌, ◌-◌, ◌*◌, true, subst, arith}
use Rattle.std.proofs.lemmas.Option.{none-some}
use Rattle.patience_laws.proofs.Common.{Send, Receive, has_proc, Recorded, number_below, ticks_rise, part_of}
use Rattle.patience_laws.proofs.Common.{HasHeardOf, Suspects, IsInRoundFrom, KeepsBounds}
use Rattle.patience_laws.proofs.Common.{AreInRoundFrom, ComesTo, ComeTogether, MeetOnce}
use Rattle.patience_laws.proofs.PacedSteps.{round-here}
use Rattle.patience_laws.proofs.RoundSends.{round_at-up}
use Rattle.patience_laws.proofs.UnheardSuspects.{suspect-unheard}
use Rattle.patience_laws.proofs.LeastRounds.{releasing-ends, touch-later}
use Rattle.patience_laws.proofs.PatienceTicks.{rounds-ended}
use Rattle.patience_laws.proofs.MemberRounds.{member-proc}
use Rattle.patience_laws.proofs.HeardRounds.{may-all}

module _ (patience set : ℕ) (trace : Recorded) (g d f : ℕ)
    (keeps : KeepsBounds patience set trace g d f) (round y : ℕ) (meet : MeetOnce patience set trace g round y) where
  last : part_of (round - 1) ≡ 4
  last = let l = meet.later in let e = meet.part in omega arith

  -- what one of them heard when it came to the round
  heard-of : (p q k : ℕ) → has_proc set p ≡ true → has_proc set q ≡ true
      → ComesTo trace.steps p round k → HasHeardOf trace.steps p q (round - 1) k
  heard-of p q k mp mq come = meet.heard p q k come.ids mp mq come.step
      (let e = come.round_is in omega arith) (may-all trace.config trace.steps p (round - 1) q last)

  -- each has sent its locks by then
  there : AreInRoundFrom set trace (round - 1) y
  there q mq k is late =
      let h = heard-of meet.one q meet.place meet.member mq meet.comes in
      let at = meet.at in
      let later = h.later in
      let sent = keeps.trace_is.time.later h.place h.message
      (record { proc = meet.one; act = Receive h.take.ends h.take.ids }, h.take.step, h.take.taken) in
      let rise = ticks_rise trace keeps.trace_is.time h.place meet.place
      (record { proc = meet.one; act = Receive h.take.ends h.take.ids })
      (record { proc = meet.one; act = Receive true meet.comes.ids }) h.take.step meet.comes.step h.by in
      let earlier = number_below trace keeps.trace_is.time h.message k
      (record { proc = q; act = Send meet.one }) (record { proc = q; act = is.0 }) h.sent is.1 (omega arith) in
      let up = round_at-up trace.config patience trace.steps q h.message k (omega arith) in
      omega arith

  all : AreInRoundFrom set trace round (y + (trace.config.n * f + d + f))
  all p m =
      let low = meet.later in
      let e : round - 1 + 1 ≡ round = omega arith in
      let z : y + trace.config.n * f + d + f ≡ y + (trace.config.n * f + d + f) = omega arith in
      subst (IsInRoundFrom trace p round) z
      (subst (λ r. IsInRoundFrom trace p r (y + trace.config.n * f + d + f)) e
      (releasing-ends patience set trace g d f keeps (round - 1) y meet.touch there (omega arith) last p m))

  -- and suspects nobody whom it has heard
  loud : (p q k : ℕ) → has_proc set p ≡ true → has_proc set q ≡ true
      → ComesTo trace.steps p round k → ¬ Suspects trace.config patience trace.steps p q k
  loud p q zero mp mq come suspects = absurd (none-some _ come.step)
  loud p q (suc k) mp mq come suspects =
      let ended = rounds-ended trace.config patience trace.steps p k come.ids come.step in
      let here = round-here trace.steps p k in
      let is = come.round_is in
      suspect-unheard trace.config patience trace.steps p q (suc k) (round - 1) keeps.run.well_formed
      (member-proc trace.config set keeps.within q mq) (omega arith) suspects (heard-of p q (suc k) mp mq come)

  pub come-together : ComeTogether patience set trace g d f round y
  come-together = record {
    later = meet.later;
    part = meet.part;
    touch = touch-later patience set trace g (round - 1) y round y (omega arith) (omega arith) meet.touch;
    order = meet.order;
    first = meet.first;
    all = all;
    loud = loud;
  }
