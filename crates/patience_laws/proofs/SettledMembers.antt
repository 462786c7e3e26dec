-- Members that are alone from a tick on are in touch once a phase has passed.
use Rattle.std.proofs.Common.{ℕ, zero, suc, ◌≡◌, ◌+◌, ◌-◌, ◌<◌, ◌≤◌, inl, inr, Some, true, false, refl, ◌∙◌, arith}
use Rattle.std.proofs.lemmas.Bool.{cases_lt}
use Rattle.std.proofs.lemmas.Option.{none-some}
use Rattle.patience_laws.proofs.Common.{Act, Send, Receive, IsProc, has_proc, Recorded, step_at, IsReceiveOf, tick_of}
use Rattle.patience_laws.proofs.Common.{own_ticks_rise, part_of, round_at, HasHeardOf, Suspects, WasSilent, KeepsBounds}
use Rattle.patience_laws.proofs.Common.{AreInTouch, AreInRoundFrom, AreAlone}
use Rattle.patience_laws.proofs.PacedSteps.{rounds_after, round-here, step-cases}
use Rattle.patience_laws.proofs.KnownRounds.{rounds-step}
use Rattle.patience_laws.proofs.RoundSends.{round-grows}
use Rattle.patience_laws.proofs.SilentPhases.{silent-suspected}
use Rattle.patience_laws.proofs.PatienceTicks.{IsEndOf, end-of}

module _ (patience set : ℕ) (trace : Recorded) (g d f : ℕ)
    (keeps : KeepsBounds patience set trace g d f) (least most : ℕ) (alone : AreAlone set trace g least most) where
  -- what was heard of another processor is of an early round
  unheard-late : (p q r k : ℕ) → has_proc set p ≡ true
      → IsProc trace.config q → has_proc set q ≡ false → most < r → HasHeardOf trace.steps p q r k → ⊥
  unheard-late p q r k mp is other late h =
      let early = alone.quiet p q h.place mp is other (record { message = h.message; sent = h.sent; take = h.take }) in
      let sent = keeps.trace_is.time.later h.place h.message
      (record { proc = p; act = Receive h.take.ends h.take.ids }, h.take.step, h.take.taken) in
      let low = alone.early q h.message (Send p, h.sent) (omega arith) in
      omega (arith, h.later)

  -- who passed a phase since then suspects all others
  suspects : (p q r k : ℕ) → has_proc set p ≡ true → IsProc trace.config q → has_proc set q ≡ false
      → most < r → part_of r ≡ 1 → r + 4 ≤ rounds_after trace.steps p k + 1 → Suspects trace.config patience trace.steps p q k
  suspects p q r k mp is other late part there =
      let e = end-of trace.config patience trace.steps p (r + 3) k (omega arith) (omega arith) in
      let inside = e.1 in
      silent-suspected trace.config patience trace.steps p q keeps.run.well_formed is k (silent e.0 (omega arith))
    where
      silent : (e : IsEndOf trace.steps p (r + 3)) → suc e.place ≤ k → WasSilent trace.steps p q k
      silent e by = record {
        round = r + 3;
        place = suc e.place;
        ids = e.ids;
        step = e.step;
        round_is = round-here trace.steps p e.place ∙ e.round_is;
        last = omega arith;
        by = by;
        nothing = λ m from until t. (
            let early = alone.quiet p q m mp is other t in
            omega (arith, alone.early p m (Receive t.take.ends t.take.ids, t.take.step) early));
        behind = unheard-late p q (r + 3) (suc e.place) mp is other (omega arith);
      }

  -- So the members are in touch from then on.
  pub in-touch : (r x : ℕ) → g ≤ x → most < r → part_of r ≡ 1 → AreInRoundFrom set trace (r + 4) x → AreInTouch patience set trace g r x
  in-touch r x since late part there = record {
    since = since;
    fresh = λ p q s mp mq sent later. fresh q s p sent later;
    silent = λ p q mp is other k receive by. silent p q mp is other k receive by;
  }
    where
      fresh : (q s p : ℕ) → step_at trace.steps s ≡ Some (record { proc = q; act = Send p })
          → r ≤ round_at trace.steps q s → g ≤ tick_of trace s
      fresh q s p sent later = elim (cases_lt (tick_of trace s) g) [
        | inl early ↦ absurd (let low = alone.early q s (Send p, sent) early in omega arith)
        | inr l ↦ l
      ]

      silent : (p q : ℕ) → has_proc set p ≡ true → IsProc trace.config q → has_proc set q ≡ false → (k : ℕ)
          → IsReceiveOf trace.steps k p → x ≤ tick_of trace k → Suspects trace.config patience trace.steps p q k
      silent p q mp is other zero receive by = absurd (none-some _ receive.step)
      silent p q mp is other (suc k) receive by =
          let low = there p mp (suc k) (Receive receive.ends receive.ids, receive.step) by in
          let up = rounds-step trace.config patience trace.steps p k in
          suspects p q r (suc k) mp is other late part (omega (arith, round-here trace.steps p k))

  -- rounds rise no faster than ticks
  grown : (p n k : ℕ) (act : Act) → n < k → step_at trace.steps k ≡ Some (record { proc = p; act = act })
      → g ≤ tick_of trace k → rounds_after trace.steps p n + g ≤ most + tick_of trace k
  grown p zero k act l at since = let e : rounds_after trace.steps p zero ≡ 0 = refl in omega arith
  grown p (suc n) k act l at since = elim (step-cases trace.config patience trace.steps p n) [
    | inl still ↦ (let e = still.round in let before = grown p n k act (omega arith) at since in omega arith)
    | inr r ↦ (
        let grows = round-grows trace.config patience trace.steps p n in
        let rise = own_ticks_rise trace keeps.trace_is.time
        (suc n) k (record { proc = p; act = Receive r.ends r.ids }) (record { proc = p; act = act }) r.step at refl l in
        let here = round-here trace.steps p n in
        elim (cases_lt (tick_of trace (suc n)) g) [
          | inl early ↦ (let low = alone.early p (suc n) (Receive r.ends r.ids, r.step) early in omega arith)
          | inr late ↦ (let before = grown p n (suc n) (Receive r.ends r.ids) (omega arith) r.step late in omega arith)
        ])
  ]

  -- so nobody comes to a late round early
  pub comes-late : (p k x : ℕ) (act : Act) → step_at trace.steps k ≡ Some (record { proc = p; act = act })
      → g ≤ x → most + 1 + (x - g) < round_at trace.steps p k + 1 → x ≤ tick_of trace k
  comes-late p zero x act at since late = absurd (none-some _ at)
  comes-late p (suc k) x act at since late = elim (cases_lt (tick_of trace (suc k)) x) [
    | inr l ↦ l
    | inl early ↦ absurd (
        let here = round-here trace.steps p k in
        elim (cases_lt (tick_of trace (suc k)) g) [
          | inl first ↦ (let low = alone.early p (suc k) (act, at) first in omega arith)
          | inr after ↦ (let up = grown p k (suc k) act (omega arith) at after in omega arith)
        ])
  ]
