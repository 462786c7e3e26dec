-- Members that come to a round together hear out each round from then on.
use Rattle.std.proofs.Common.{ℕ, zero, suc, ◌≡◌, ◌≢◌, ◌+◌, ◌-◌, ◌%◌, ◌*◌, ◌<◌, ◌≤◌, ◌⊎◌, inl, inr, List, length, Some, true, refl, sym, ap, subst, ◌∙◌, arith, Bool, false}
use Rattle.std.proofs.lemmas.Bool.{cases_lt, cases_eq}
use Rattle.std.proofs.lemmas.Option.{none-some}
use Rattle.patience_laws.proofs.Common.{Act, Send, Receive, Step, Setup, IsProc, has_proc, Recorded, step_at, tick_of}
use Rattle.patience_laws.proofs.Common.{step_at_within, number_below, ticks_rise, part_of, Releasing, part_at-releasing}
use Rattle.patience_laws.proofs.Common.{passed, before, round_at, node_before, may_hear, HasHeardOf}
use Rattle.patience_laws.proofs.Common.{HearOut, IsHeardOut, deciding_round, HasPassedBy, round_at-passed, Suspects}
use Rattle.patience_laws.proofs.Common.{WasSilent, IsInRoundFrom, may_hear_of, KeepsBounds, AreInRoundFrom}
use Rattle.patience_laws.proofs.Common.{OweAcknowledgements, IsHeardOutByAll, ComesTo, ComeTogether}
use Rattle.std.proofs.Math.Seq.{take-length}
use Rattle.patience_laws.specs.PacedRuns.{pace_after}
use Rattle.patience_laws.proofs.PacedSteps.{rounds_after, round-here}
use Rattle.patience_laws.proofs.KnownRounds.{rounds-up}
use Rattle.patience_laws.proofs.SilentPhases.{suspected-silent, silent-suspected}
use Rattle.patience_laws.proofs.UnheardSuspects.{suspect-unheard}
use Rattle.patience_laws.proofs.RoundSends.{round_at-up}
use Rattle.patience_laws.proofs.EndedReceives.{Why, Complete, Behind, Impatient, why-ends, complete-heard}
use Rattle.patience_laws.proofs.LeastRounds.{may-in, part-next, listing-ends, locking-ends, acknowledging-ends, releasing-ends, touch-later}
use Rattle.patience_laws.proofs.PatienceTicks.{IsEndOf, rounds-ended, end-of, patience-lasts}
use Rattle.patience_laws.proofs.MemberRounds.{member-proc, end-later}
use Rattle.patience_laws.proofs.OwedAcknowledgements.{owe-all}

-- in a lock-release round all may be heard
pub may-all : (c : Setup) (steps : List Step) (p round q : ℕ) → part_of round ≡ 4 → may_hear_of c steps p round q ≡ true
may-all c steps p round q part = may-in Releasing c steps p round q (part_at-releasing round part)

module _ (patience set : ℕ) (trace : Recorded) (g d f : ℕ) (keeps : KeepsBounds patience set trace g d f) (round y : ℕ)
    (come : ComeTogether patience set trace g d f round y) where
  abbrev c : Setup
  c = trace.config

  -- by so many ticks after the first one all members are in the phase, and after so many more past it
  abbrev t4 : ℕ
  t4 = trace.config.n * f + d + f

  abbrev t : ℕ
  t = 4 * d + 2 * (trace.config.n * f) + 9 * f

  -- the rounds up to this one are heard out
  abbrev pub HeardBefore : ℕ → Type 0
  HeardBefore r = (s : ℕ) → round ≤ s → s < r → IsHeardOutByAll set trace s

  sooner : (p r x z : ℕ) → x ≤ z → IsInRoundFrom trace p r x → IsInRoundFrom trace p r z
  sooner p r x z l there k is late = there k is (omega arith)

  -- an end of a round is at the round
  end-round : (p r : ℕ) (e : IsEndOf trace.steps p r) → round_at trace.steps p (suc e.place) ≡ r
  end-round p r e = round-here trace.steps p e.place ∙ e.round_is

  -- how p comes to the round
  comes : (p : ℕ) (e : IsEndOf trace.steps p (round - 1)) → ComesTo trace.steps p round (suc e.place)
  comes p e = record { ids = e.ids; step = e.step; round_is = (let a = end-round p (round - 1) e in let l = come.later in omega arith) }

  -- all members are in a phase so many ticks after one came to it
  all-there : (fr : ℕ) → round ≤ fr → part_of fr ≡ 1 → HeardBefore fr → (p : ℕ) → has_proc set p ≡ true → (e : IsEndOf trace.steps p
      (fr - 1)) → (y ≤ tick_of trace (suc e.place)) × AreInRoundFrom set trace fr (tick_of trace (suc e.place) + t4)
  all-there fr low part heard p m e = go (cases_lt round fr)
    where
      begins : fr ≡ round → (y ≤ tick_of trace (suc e.place)) × AreInRoundFrom set trace fr (tick_of trace (suc e.place) + t4)
      begins same =
          let this : IsEndOf trace.steps p (round - 1) = subst (λ n. IsEndOf trace.steps p (n - 1)) same e in
          let to : ComesTo trace.steps p round (suc e.place) =
          record { ids = e.ids; step = e.step; round_is = (let a = end-round p (fr - 1) e in let l = come.later in omega arith) } in
          let since = come.first p (suc e.place) m to in (
            since,
            λ q mq. subst (λ n. IsInRoundFrom trace q n (tick_of trace (suc e.place) + t4))
                (sym same) (sooner q round (y + t4) (tick_of trace (suc e.place) + t4) (omega arith) (come.all q mq)),
          )

      go : (round < fr) ⊎ (fr ≤ round) → (y ≤ tick_of trace (suc e.place)) × AreInRoundFrom set trace fr (tick_of trace (suc e.place) + t4)
      go (inr l) = begins (omega arith)
      go (inl l) = (
        since,
        λ q mq. subst (λ n. IsInRoundFrom trace q n (tick_of trace (suc e.place) + t4)) next
            (sooner q (fr - 1 + 1) (tick_of trace (suc e.place) + trace.config.n * f + d + f)
            (tick_of trace (suc e.place) + t4) (omega arith) (after q mq)),
      )
        where
          next : fr - 1 + 1 ≡ fr
          next = omega arith

          last : part_of (fr - 1) ≡ 4
          last = let low_round = come.later in omega arith

          since : y ≤ tick_of trace (suc e.place)
          since =
              let low_round = come.later in
              let is = e.round_is in
              let e0 = end-of c patience trace.steps p (round - 1) e.place (omega arith) (omega arith) in
              let first = come.first p (suc e0.0.place) m (comes p e0.0) in
              let rise = end-later trace patience keeps.trace_is.time p (round - 1) (fr - 1) e0.0 e (omega arith) in
              omega arith

          -- each has sent its locks
          there : AreInRoundFrom set trace (fr - 1) (tick_of trace (suc e.place))
          there q mq k is late =
              let h = heard (fr - 1) (omega arith)
              (omega arith) p q (suc e.place) e.ids m mq e.step (end-round p (fr - 1) e) (may-all c trace.steps p (fr - 1) q last) in
              let later = h.later in
              let by = h.by in
              let sent = keeps.trace_is.time.later h.place h.message
              (record { proc = p; act = Receive h.take.ends h.take.ids }, h.take.step, h.take.taken) in
              let rise = ticks_rise trace keeps.trace_is.time h.place (suc e.place) (record {
                proc = p;
                act = Receive h.take.ends h.take.ids;
              }) (record { proc = p; act = Receive true e.ids }) h.take.step e.step h.by in
              let earlier = number_below trace keeps.trace_is.time h.message k
              (record { proc = q; act = Send p }) (record { proc = q; act = is.0 }) h.sent is.1 (omega arith) in
              let up = round_at-up c patience trace.steps q h.message k (omega arith) in
              omega arith

          after : AreInRoundFrom set trace (fr - 1 + 1) (tick_of trace (suc e.place) + trace.config.n * f + d + f)
          after = releasing-ends patience set trace g d f keeps (fr - 1) (tick_of trace (suc e.place))
              (touch-later patience set trace g round y (fr - 1) (tick_of trace (suc e.place))
              (omega arith) since come.touch) there (let low_round = come.later in omega arith) last

  -- the parts of a phase
  module _ (fr x : ℕ) (low : round ≤ fr) (since : y ≤ x) (part : part_of fr ≡ 1) (there : AreInRoundFrom set trace fr x) where
    first_low : 1 ≤ fr
    first_low = let l = come.later in omega arith

    abbrev x2 : ℕ
    x2 = x + f + d + f

    abbrev x3 : ℕ
    x3 = x2 + 3 * f + trace.config.n * f + d + f

    abbrev x4 : ℕ
    x4 = x3 + f + d + f

    second : AreInRoundFrom set trace (fr + 1) x2
    second = listing-ends patience set trace g d f keeps fr x
        (touch-later patience set trace g round y fr x low since come.touch) there first_low part

    part2 : part_of (fr + 1) ≡ 2
    part2 = part-next fr 1 first_low (omega arith) part

    third : AreInRoundFrom set trace (fr + 1 + 1) x3
    third = locking-ends patience set trace g d f keeps
        (fr + 1) x2 (touch-later patience set trace g round y (fr + 1) x2 (omega arith) (omega arith) come.touch) second (omega arith) part2

    part3 : part_of (fr + 1 + 1) ≡ 3
    part3 = part-next (fr + 1) 2 (omega arith) (omega arith) part2

    module _ (heard : IsHeardOutByAll set trace (fr + 1)) where
      owe : OweAcknowledgements set trace (fr + 1 + 1)
      owe = owe-all trace patience set keeps.run come.order (fr + 1) (omega arith) part2 heard (member-proc c set keeps.within)

      fourth : AreInRoundFrom set trace (fr + 1 + 1 + 1) x4
      fourth = acknowledging-ends patience set trace g d f keeps (fr + 1 + 1) x3
          (touch-later patience set trace g round y (fr + 1 + 1) x3 (omega arith) (omega arith) come.touch) third (omega arith) part3 owe

      part4 : part_of (fr + 1 + 1 + 1) ≡ 4
      part4 = part-next (fr + 1 + 1) 3 (omega arith) (omega arith) part3

      next-phase : AreInRoundFrom set trace (fr + 1 + 1 + 1 + 1) (x + t)
      next-phase p m = sooner p (fr + 1 + 1 + 1 + 1) (x4 + trace.config.n * f + d + f) (x + t) (omega arith)
          (releasing-ends patience set trace g d f keeps (fr + 1 + 1 + 1) x4 (touch-later patience set trace g round y
          (fr + 1 + 1 + 1) x4 (omega arith) (omega arith) come.touch) fourth (omega arith) part4 p m)

  -- p heard of q in each lock-release round that it ended so far
  abbrev HeardLast : ℕ → ℕ → ℕ → Type 0
  HeardLast p q n = (s k : ℕ) (ids : List ℕ) → round ≤ s → part_of s ≡ 4 → k ≤ n → step_at trace.steps k
      ≡ Some (record { proc = p; act = Receive true ids }) → round_at trace.steps p k ≡ s → HasHeardOf trace.steps p q s k

  -- then it doesn't suspect it
  loud-on : (p q n : ℕ) → has_proc set p ≡ true → has_proc set q ≡ true
      → round ≤ rounds_after trace.steps p n + 1 → HeardLast p q n → ¬ Suspects c patience trace.steps p q n
  loud-on p q n mp mq low heard s =
      go (suspected-silent c patience trace.steps p q keeps.run.well_formed (member-proc c set keeps.within q mq) n s) where
        go : WasSilent trace.steps p q n → ⊥
        go was = elim (cases_lt was.round round) [
          | inr late ↦ was.behind (heard was.round was.place was.ids late was.last was.by was.step was.round_is)
          | inl early ↦ (
              let low_round = come.later in
              let e = end-of c patience trace.steps p (round - 1) n (omega arith) (omega arith) in
              come.loud p q (suc e.0.place) mp mq (comes p e.0) (silent-suspected c patience trace.steps p q keeps.run.well_formed
              (member-proc c set keeps.within q mq) (suc e.0.place) (record {
                round = was.round;
                place = was.place;
                ids = was.ids;
                step = was.step;
                round_is = was.round_is;
                last = was.last;
                by = came-before was early e.0;
                nothing = λ m from by t. was.nothing m from (omega (arith, e.1)) t;
                behind = was.behind;
              })))
        ]
          where
            -- the silent round was over before p came to the round
            came-before : (was : WasSilent trace.steps p q n)
                → was.round < round → (e : IsEndOf trace.steps p (round - 1)) → was.place ≤ suc e.place
            came-before was early e = elim (cases_lt (suc e.place) was.place) [
              | inr l ↦ l
              | inl l ↦ absurd (
                  let up = round_at-up c patience trace.steps p (suc e.place + 1) was.place (omega arith) in
                  let here : round_at trace.steps p (suc (suc e.place))
                  ≡ rounds_after trace.steps p (suc e.place) + 1 = round-here trace.steps p (suc e.place) in
                  let f : suc e.place + 1 ≡ suc (suc e.place) = omega (arith, come.later, e.after, was.round_is) in
                  let g = ap (round_at trace.steps p) f in
                  omega (arith, come.later, e.after, was.round_is))
            ]

  -- A round is over so many ticks after one member came to the phase, if those before were heard out.
  over-by : (r : ℕ) → round ≤ r → HeardBefore r → (fr : ℕ) → part_of fr ≡ 1 → fr ≤ r → r ≤ fr + 3 → (one : ℕ) → has_proc set one ≡ true
      → (e : IsEndOf trace.steps one (fr - 1)) → AreInRoundFrom set trace (r + 1) (tick_of trace (suc e.place) + t4 + t)
  over-by r low heard fr part first last one mo e p m =
      let begins : round ≤ fr = phase-low in
      let start = all-there fr begins part (λ s a b. heard s a (omega arith)) one mo e in
      let x = tick_of trace (suc e.place) + t4 in
      let since : y ≤ x = (let a = start.0 in omega arith) in
      of x begins since start.1 (cases_eq r fr) (cases_eq r (fr + 1)) (cases_eq r (fr + 1 + 1))
    where
      phase-low : round ≤ fr
      phase-low = let p1 = come.part in omega arith

      of : (x : ℕ) → round ≤ fr → y ≤ x → AreInRoundFrom set trace fr x → (r ≡ fr) ⊎ (r ≢ fr)
          → (r ≡ fr + 1) ⊎ (r ≢ fr + 1) → (r ≡ fr + 1 + 1) ⊎ (r ≢ fr + 1 + 1) → IsInRoundFrom trace p (r + 1) (x + t)
      of x begins since there (inl a) b d = subst (λ s. IsInRoundFrom trace p (s + 1) (x + t))
          (sym a) (sooner p (fr + 1) (x2 fr x begins since part there) (x + t) (omega arith) (second fr x begins since part there p m))
      of x begins since there (inr a) (inl b) d =
          subst (λ s. IsInRoundFrom trace p (s + 1) (x + t)) (sym b)
          (sooner p (fr + 1 + 1) (x3 fr x begins since part there) (x + t) (omega arith)
          (third fr x begins since part there p m))
      of x begins since there (inr a) (inr b) (inl d) =
          subst (λ s. IsInRoundFrom trace p (s + 1) (x + t)) (sym d)
          (sooner p (fr + 1 + 1 + 1) (x4 fr x begins since part there) (x + t) (omega arith)
          (fourth fr x begins since part there (heard (fr + 1) (omega arith) (omega arith)) p m))
      of x begins since there (inr a) (inr b) (inr d) =
          let z : r ≡ fr + 1 + 1 + 1 = omega arith in
          subst (λ s. IsInRoundFrom trace p (s + 1) (x + t))
          (sym z) (next-phase fr x begins since part there (heard (fr + 1) (omega arith) (omega arith)) p m)

  module _ (enough : 5 * d + (3 * trace.config.n + 10) * f ≤ patience) where
    lasting : t4 + t ≤ patience
    lasting =
        let e : (3 * trace.config.n + 10) * f ≡ 3 * (trace.config.n * f) + 10 * f = grind arith in
        let most = enough in
        omega arith

    module _ (r : ℕ) (low : round ≤ r) (heard : HeardBefore r) (fr : ℕ) (part : part_of fr ≡ 1) (first : fr ≤ r) (last : r ≤ fr + 3) where
      -- No patience ends the round, nor a later one before all members have ended it.
      impatient : (q n m : ℕ) (ids : List ℕ) → has_proc set q ≡ true
          → step_at trace.steps (suc n) ≡ Some (record { proc = q; act = Receive true ids })
          → rounds_after trace.steps q n + 1 ≡ m → r ≤ m → (pace_after c patience trace.steps q n).left ≤ 1 → (p k : ℕ) (act : Act)
          → has_proc set p ≡ true → step_at trace.steps k ≡ Some (record { proc = p; act = act }) → suc n ≤ k → r < round_at trace.steps p k
      impatient q n m ids mq at is up out p k act mp there l =
          let low_round = come.later in
          let begins = phase-low in
          let begin = end-of c patience trace.steps q (fr - 1) n (omega arith) (omega arith) in
          let end = end-of c patience trace.steps q (m - 1) n (omega arith) (omega arith) in
          let rise = end-later trace patience keeps.trace_is.time q (fr - 1) (m - 1) begin.0 end.0 (omega arith) in
          let ticks = patience-lasts trace patience q keeps.trace_is.time (m - 1) end.0 n (Receive true ids) end.1 (omega arith) at out in
          let most = lasting in
          let later = ticks_rise trace keeps.trace_is.time
          (suc n) k (record { proc = q; act = Receive true ids }) (record { proc = p; act = act }) at there l in
          let over = over-by r low heard fr part first last q mq begin.0 p mp k (act, there) (omega arith) in
          omega arith
        where
          phase-low : round ≤ fr
          phase-low = let p1 = come.part in omega arith

    -- from when p comes to the round, time is past y
    since-coming : (p n : ℕ) (act : Act) → has_proc set p ≡ true
        → step_at trace.steps (suc n) ≡ Some (record { proc = p; act = act }) → round ≤ rounds_after trace.steps p n + 1
        → y ≤ tick_of trace (suc n)
    since-coming p n act m at low =
        let low_round = come.later in
        let e = end-of c patience trace.steps p (round - 1) n (omega arith) (omega arith) in
        let inside = e.1 in
        let first = come.first p (suc e.0.place) m (comes p e.0) in
        let rise = ticks_rise trace keeps.trace_is.time (suc e.0.place)
        (suc n) (record { proc = p; act = Receive true e.0.ids }) (record { proc = p; act = act }) e.0.step at (omega arith) in
        omega arith

    -- whom p may hear at a step, by its round
    may-at : (p q n m : ℕ) → rounds_after trace.steps p n + 1 ≡ m → may_hear_of c trace.steps p m q ≡ true
        → may_hear c (node_before c trace.steps p (suc n)) (rounds_after trace.steps p n + 1) p q ≡ true
    may-at p q n m is may =
        let before_is : passed (before trace.steps (suc n)) p ≡ m - 1 = omega (arith, round-here trace.steps p n) in
        rw (is, before_is) may

    -- a message that was taken was sent before
    sent-earlier : (p q s n : ℕ) (h : HasHeardOf trace.steps p q s n) → h.message < n
    sent-earlier p q s n h =
        let earlier = (keeps.run.well_formed.earlier h.place h.message
        (record { proc = p; act = Receive h.take.ends h.take.ids }) h.take.step h.take.taken).0 in
        omega (arith, h.by)

    -- the members heard one another in the round when they ended it, up to step n
    abbrev HeardTo : ℕ → ℕ → Type 0
    HeardTo r n = (p q k : ℕ) (ids : List ℕ) → has_proc set p ≡ true
        → has_proc set q ≡ true → k ≤ n → step_at trace.steps k ≡ Some (record { proc = p; act = Receive true ids })
        → round_at trace.steps p k ≡ r → may_hear_of c trace.steps p r q ≡ true → HasHeardOf trace.steps p q r k

    -- then each suspects none in a round before the next but one lock-release round
    loud-to : (r n m : ℕ) → HeardBefore r → HeardTo r n → part_of m ≡ 4 → m ≤ r + 4 → round ≤ m → (q p k : ℕ)
        → has_proc set q ≡ true → has_proc set p ≡ true → k ≤ n → rounds_after trace.steps q k + 1 ≡ m
        → ¬ Suspects c patience trace.steps q p k
    loud-to r n m heard to mpart near low q p k mq mp l is = loud-on q p k mq mp (omega arith) last
      where
        last : HeardLast q p k
        last s zero ids up part by at here = absurd (none-some _ at)
        last s (suc i) ids up part by at here = elim (cases_lt s r) [
          | inl before ↦ heard s up before q p (suc i) ids mq mp at here (may-all c trace.steps q s p part)
          | inr not_before ↦ (
              let after = rounds-ended c patience trace.steps q i ids at in
              let e = round-here trace.steps q i in
              let rise = rounds-up c patience trace.steps q (suc i) k by in
              let same : s ≡ r = omega arith in
              subst (λ x. HasHeardOf trace.steps q p x (suc i)) (sym same)
              (to q p (suc i) ids mq mp (omega arith) at
              (here ∙ same) (subst (λ x. may_hear_of c trace.steps q x p ≡ true) same (may-all c trace.steps q s p part))))
        ]

    module _ (r : ℕ) (low : round ≤ r) (heard : HeardBefore r) (fr : ℕ) (part : part_of fr ≡ 1) (first : fr ≤ r) (last : r ≤ fr + 3)
        (p n : ℕ) (act : Act) (mp : has_proc set p ≡ true) (at : step_at trace.steps (suc n) ≡ Some (record { proc = p; act = act }))
        (here : rounds_after trace.steps p n + 1 ≡ r) (to : HeardTo r n)
        (m : ℕ) (mpart : part_of m ≡ 4) (later : r < m) (near : m ≤ r + 4) where
      -- who was heard to be ahead isn't
      unheard-of : (q z k s : ℕ) (ids : List ℕ) → has_proc set q ≡ true → has_proc set z ≡ false → IsProc c z
          → step_at trace.steps (suc k) ≡ Some (record { proc = q; act = Receive true ids })
          → round ≤ rounds_after trace.steps q k + 1 → rounds_after trace.steps q k + 1 ≤ s
          → HasHeardOf trace.steps q z s (suc k) → ⊥
      unheard-of q z k s ids mq mz is there up far h =
          let silent = come.touch.silent q z mq is mz
          (suc k) (record { ids = ids; ends = true; step = there }) (since-coming q k (Receive true ids) mq there up) in
          let ended = rounds-ended c patience trace.steps q k ids there in
          suspect-unheard c patience trace.steps q z (suc k) s keeps.run.well_formed is (omega arith) silent h

      -- no member ends round m before this step of p
      nobody-ended : (bound k q : ℕ) (ids : List ℕ) → k < bound → suc k ≤ n → has_proc set q ≡ true
          → step_at trace.steps (suc k) ≡ Some (record { proc = q; act = Receive true ids }) → rounds_after trace.steps q k + 1 ≡ m → ⊥
      nobody-ended zero k q ids b l mq there is = absurd (omega arith)
      nobody-ended (suc bound) k q ids b l mq there is =
          go (nobody-ended bound) (why-ends c patience trace.steps q keeps.run.well_formed k ids true there (keeps.paced q mq) refl) where
            heard_p : HasHeardOf trace.steps q p (rounds_after trace.steps q k + 1) (suc k) → ⊥
            heard_p h =
                let earlier = sent-earlier q p (rounds_after trace.steps q k + 1) (suc k) h in
                let up = round_at-up c patience trace.steps p h.message (suc n) (omega arith) in
                omega (arith, h.later, round-here trace.steps p n)

            go : ((k q : ℕ) (ids : List ℕ) → k < bound → suc k ≤ n → has_proc set q ≡ true
                → step_at trace.steps (suc k) ≡ Some (record { proc = q; act = Receive true ids })
                → rounds_after trace.steps q k + 1 ≡ m → ⊥)
                → Why c patience trace.steps q keeps.run.well_formed k ids true there (keeps.paced q mq) → ⊥
            go before (Complete done) = heard_p (complete-heard c patience trace.steps q keeps.run.well_formed k ids true there
                (keeps.paced q mq) p (member-proc c set keeps.within p mp) done (may-at q p k m is (may-all c trace.steps q m p mpart))
                (loud-to r n m heard to mpart near (omega arith) q p k mq mp (omega arith) is))
            go before (Behind ahead) = of (has_proc set ahead.proc) refl
              where
                of : (b : Bool) → has_proc set ahead.proc ≡ b → ⊥
                of false e = unheard-of q ahead.proc k
                    (rounds_after trace.steps q k + 1 + 5) ids mq e ahead.is there (omega arith) (omega arith) ahead.heard_of
                of true e =
                    let h = ahead.heard_of in
                    let earlier = sent-earlier q ahead.proc (rounds_after trace.steps q k + 1 + 5) (suc k) h in
                    let far = h.later in
                    let end = end-of c patience trace.steps ahead.proc m (h.message - 1) (omega arith) (omega arith) in
                    let inside = end.1 in
                    before end.0.place ahead.proc end.0.ids (omega arith) (omega arith) e end.0.step end.0.round_is
            go before (Impatient out) =
                let over = impatient r low heard fr part first last q k m ids mq there is
                (omega arith) out p (suc n) act mp at (omega arith) in
                omega (arith, round-here trace.steps p n)

      -- so p is not left behind
      pub nobody-ahead : (z : ℕ) (ids : List ℕ) → IsProc c z → act ≡ Receive true ids → HasHeardOf trace.steps p z (r + 5) (suc n) → ⊥
      nobody-ahead z ids is e h = of (has_proc set z) refl
        where
          of : (b : Bool) → has_proc set z ≡ b → ⊥
          of false f = unheard-of p z n (r + 5) ids mp f is
              (at ∙ ap (λ a. Some (record { proc = p; act = a })) e) (omega arith) (omega arith) h
          of true f =
              let earlier = sent-earlier p z (r + 5) (suc n) h in
              let far = h.later in
              let end = end-of c patience trace.steps z m (h.message - 1) (omega arith) (omega arith) in
              let inside = end.1 in
              nobody-ended (suc end.0.place) end.0.place z end.0.ids (omega arith) (omega arith) f end.0.step end.0.round_is

    -- A round is heard out, if those before were.
    heard-step : (r : ℕ) → round ≤ r → HeardBefore r → (n : ℕ) → HeardTo r n → (p q : ℕ) (ids : List ℕ)
        → has_proc set p ≡ true → has_proc set q ≡ true
        → step_at trace.steps (suc n) ≡ Some (record { proc = p; act = Receive true ids })
        → round_at trace.steps p (suc n) ≡ r → may_hear_of c trace.steps p r q ≡ true
        → HasHeardOf trace.steps p q r (suc n)
    heard-step r low heard n to p q ids mp mq at here may =
        go (why-ends c patience trace.steps p keeps.run.well_formed n ids true at (keeps.paced p mp) refl) where
          is : rounds_after trace.steps p n + 1 ≡ r
          is = sym (round-here trace.steps p n) ∙ here

          last : HeardLast p q n
          last s zero ends up part by there is_at = absurd (none-some _ there)
          last s (suc i) ends up part by there is_at =
              let after = rounds-ended c patience trace.steps p i ends there in
              let e = round-here trace.steps p i in
              let f = is in
              let rise = rounds-up c patience trace.steps p (suc i) n by in
              heard s up (omega arith) p q (suc i) ends mp mq there is_at (may-all c trace.steps p s q part)

          -- the phase of the round, and the lock-release round after it
          ahead-of-none : (z : ℕ) → IsProc c z → HasHeardOf trace.steps p z (r + 5) (suc n) → ⊥
          ahead-of-none z proper h =
              let low_round = come.later in
              elim (cases_eq ((r - 1) % 4) 3) [
                | inl at_end ↦ nobody-ahead r low heard (r - (r - 1) % 4) (omega arith) (omega arith)
                    (omega arith) p n (Receive true ids) mp at is to (r + 4) (omega arith) (omega arith) (omega arith) z ids proper refl h
                | inr inside ↦ nobody-ahead r low heard (r - (r - 1) % 4) (omega arith) (omega arith) (omega arith) p n
                    (Receive true ids) mp at is to (r - (r - 1) % 4 + 3) (omega arith) (omega arith)
                    (omega arith) z ids proper refl h
              ]

          impossible : (pace_after c patience trace.steps p n).left ≤ 1 → ⊥
          impossible out =
              let low_round = come.later in
              let over = impatient r low heard (r - (r - 1) % 4) (omega arith)
              (omega arith) (omega arith) p n r ids mp at is (omega arith) out p (suc n) (Receive true ids) mp at (omega arith) in
              omega arith

          go : Why c patience trace.steps p keeps.run.well_formed n ids true at (keeps.paced p mp) → HasHeardOf trace.steps p q r (suc n)
          go (Complete done) = subst (λ s. HasHeardOf trace.steps p q s (suc n)) is
              (complete-heard c patience trace.steps p keeps.run.well_formed n ids true at (keeps.paced p mp) q
              (member-proc c set keeps.within q mq) done (may-at p q n r is may) (loud-on p q n mp mq (let e = is in omega arith) last))
          go (Behind ahead) = absurd
              (ahead-of-none ahead.proc ahead.is (subst (λ s. HasHeardOf trace.steps p ahead.proc (s + 5) (suc n)) is ahead.heard_of))
          go (Impatient out) = absurd (impossible out)

    heard-to : (r : ℕ) → round ≤ r → HeardBefore r → (n : ℕ) → HeardTo r n
    heard-to r low heard zero p q k ids mp mq l at here may = absurd (let a = (step_at_within trace.steps k _ at).0 in omega arith)
    heard-to r low heard (suc n) p q k ids mp mq l at here may = go (heard-to r low heard n) (cases_eq k (suc n))
      where
        go : HeardTo r n → (k ≡ suc n) ⊎ (k ≢ suc n) → HasHeardOf trace.steps p q r k
        go to (inl e) = subst (HasHeardOf trace.steps p q r) (sym e) (heard-step r low heard n to p q ids mp mq (subst (λ i. step_at
            trace.steps i ≡ Some (record { proc = p; act = Receive true ids })) e at) (sym (ap (round_at trace.steps p) e) ∙ here) may)
        go to (inr other) = to p q k ids mp mq (omega arith) at here may

    heard-next : (r : ℕ) → round ≤ r → HeardBefore r → IsHeardOutByAll set trace r
    heard-next r low heard p q k ids mp mq at here may = heard-to r low heard k p q k ids mp mq (omega arith) at here may

    heard-up : (r : ℕ) → HeardBefore r
    heard-up zero s low l = absurd (omega arith)
    heard-up (suc r) s low l = go (heard-up r) (cases_eq s r)
      where
        go : HeardBefore r → (s ≡ r) ⊎ (s ≢ r) → IsHeardOutByAll set trace s
        go before (inl e) = subst (IsHeardOutByAll set trace) (sym e) (heard-next r (omega arith) before)
        go before (inr n) = before s low (omega arith)

    -- So each round from the one on is heard out.
    pub heard-all : (r : ℕ) → round ≤ r → IsHeardOutByAll set trace r
    heard-all r low = heard-up (suc r) r low (omega arith)

    -- and the members are in later phases in time
    pub phases-on : (j : ℕ) → AreInRoundFrom set trace (round + 4 * j) (y + t4 + j * t)
    phases-on zero p m =
        let e : round + 4 * 0 ≡ round = omega arith in
        let h : y + t4 ≡ y + t4 + 0 * t = grind arith in
        subst (IsInRoundFrom trace p (round + 4 * 0)) h (subst (λ r. IsInRoundFrom trace p r (y + t4)) (sym e) (come.all p m))
    phases-on (suc j) p m =
        let first_part = come.part in
        let low_round = come.later in
        let e : round + 4 * j + 1 + 1 + 1 + 1 ≡ round + 4 * suc j = omega arith in
        let h : y + t4 + j * t + t ≡ y + t4 + suc j * t = grind arith in
        subst (IsInRoundFrom trace p (round + 4 * suc j)) h
        (subst (λ r. IsInRoundFrom trace p r (y + t4 + j * t + t)) e
        (next-phase (round + 4 * j) (y + t4 + j * t)
        (omega arith) (omega arith) (omega arith) (phases-on j) (heard-all (round + 4 * j + 1) (omega arith)) p m))

    -- so the members hear one another out in the terms of the runs that decide
    pub hear-out : (last : ℕ) → ((p : ℕ) → has_proc set p ≡ true → last ≤ passed trace.steps p) → HearOut c trace.steps set round last
    hear-out last passes = record {
      within = keeps.within;
      size = keeps.size;
      numbered = let low_round = come.later in omega arith;
      order = come.order;
      rounds = λ p r m low high. ended p r m low (end-of c patience trace.steps p r (length trace.steps)
          (let low_round = come.later in omega arith) (let all = passes p m in let e : rounds_after trace.steps p (length trace.steps)
          ≡ passed trace.steps p = ap (λ xs. passed xs p) (take-length trace.steps) in omega arith)).0;
    }
      where
        ended : (p r : ℕ) → has_proc set p ≡ true → round ≤ r → IsEndOf trace.steps p r → IsHeardOut c trace.steps set p r
        ended p r m low e = record {
          place = suc e.place;
          ids = e.ids;
          step = e.step;
          round_is = end-round p r e;
          heard = λ q mq may. heard-all r low p q (suc e.place) e.ids m mq e.step (end-round p r e) (rw before_is at may);
        }
          where
            before_is : passed (before trace.steps (suc e.place)) p ≡ r - 1
            before_is = let is = end-round p r e in omega arith

    -- Each member passes the deciding round in time.
    pub passes-by : (p : ℕ) → has_proc set p ≡ true → y + t4 + (trace.config.n + 1) * t + f ≤ trace.last + 1
        → HasPassedBy trace p (deciding_round c round) (y + t4 + (trace.config.n + 1) * t + f)
    passes-by p m enough_ticks =
        let since = come.touch.since in
        let s = keeps.phi.each (y + t4 + (trace.config.n + 1) * t) (omega arith) enough_ticks p m in
        let from = s.from in
        let until = s.until in
        let tick = s.step.tick in
        of s.step.place s.step.step.0 s.step.step.1
        (phases-on (trace.config.n + 1) p m s.step.place s.step.step (omega arith)) (omega arith)
      where
        deciding : deciding_round c round + 2 ≡ round + 4 * (trace.config.n + 1)
        deciding = let first_part = come.part in omega arith

        of : (k : ℕ) (act : Act) → step_at trace.steps k ≡ Some (record { proc = p; act = act })
            → round + 4 * (trace.config.n + 1) ≤ round_at trace.steps p k
            → tick_of trace k ≤ y + t4 + (trace.config.n + 1) * t + f
            → HasPassedBy trace p (deciding_round c round) (y + t4 + (trace.config.n + 1) * t + f)
        of zero act at up by = absurd (none-some _ at)
        of (suc k) act at up by =
            let is = round-here trace.steps p k in
            let d_is = deciding in
            let e = end-of c patience trace.steps p (deciding_round c round) k (omega arith) (omega arith) in
            let inside = e.1 in
            let rise = ticks_rise trace keeps.trace_is.time (suc e.0.place)
            (suc k) (record { proc = p; act = Receive true e.0.ids }) (record { proc = p; act = act }) e.0.step at (omega arith) in
            record {
              place = suc e.0.place;
              ids = e.0.ids;
              step = e.0.step;
              round_is = end-round p (deciding_round c round) e.0;
              by = omega arith;
            }

    -- who passed a round by a tick has passed it
    pub passed-by : (p r x : ℕ) → HasPassedBy trace p r x → r ≤ passed trace.steps p
    passed-by p r x h = of h.place h.step h.round_is
      where
        of : (k : ℕ) → step_at trace.steps k ≡ Some (record { proc = p; act = Receive true h.ids })
            → round_at trace.steps p k ≡ r → r ≤ passed trace.steps p
        of k at is = let e = round_at-passed trace.steps k (record { proc = p; act = Receive true h.ids }) at refl in omega arith
