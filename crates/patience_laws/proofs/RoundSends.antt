-- How soon a processor has sent all that it has to send in a round, and ends it.
use Rattle.std.proofs.Common.{ℕ, zero, suc, ◌≡◌, ◌+◌, ◌-◌, ◌*◌, ◌<◌, ◌≤◌, ◌⊎◌, inl, inr, List, length, Some, Bool, true, false, cond, refl, sym, ap, subst, ◌∙◌, arith}
use Rattle.std.specs.Prelude.{slice_get, count_by, get_or}
use Rattle.std.specs.List.{range_with_len}
use Rattle.std.proofs.lemmas.Bool.{cases_lt}
use Rattle.std.proofs.lemmas.Option.{slice_get-get_or, slice_get_past, none-some}
use Rattle.patience_laws.proofs.Common.{Act, Send, Receive, Step, Setup, has_proc, Recorded, step_at, IsStepOf, tick_of}
use Rattle.patience_laws.proofs.Common.{IsTimed, PhiHolds, number_below, passed, before, round_at, is_sent_in}
use Rattle.patience_laws.proofs.Common.{count_by-more, is_sent_in-from_send, round_at-ended, StepsByPace, IsInRoundFrom}
use Rattle.patience_laws.proofs.Common.{sends_to, EachEnds}
use Rattle.step_buffers.specs.Runs.{IsRun, next_destination, sent_before}
use Rattle.patience_laws.proofs.PacedSteps.{rounds_after, step-cases}
use Rattle.patience_laws.proofs.KnownRounds.{rounds-up}

pub times-more : (i f : ℕ) → suc i * f ≡ i * f + f
times-more i f = grind arith

-- where p sends next at step k, by its round and how many messages it sent in it
pub next_destination-in : (c : Setup) (steps : List Step) (p k round : ℕ) → round_at steps p k ≡ round
    → next_destination c steps p k ≡ slice_get (sends_to c steps p round) (sent_before steps p round k)
unfolding next_destination
next_destination-in c steps p k round e =
    let same : passed (before steps k) p ≡ round - 1 = omega arith in
    rw (e, same) refl

-- rounds never fall
pub round_at-up : (c : Setup) (patience : ℕ) (steps : List Step) (p j k : ℕ) → j ≤ k → round_at steps p j ≤ round_at steps p k
round_at-up c patience steps p j k l = let up = rounds-up c patience steps p (j - 1) (k - 1) (omega arith) in omega arith

-- by one at most with a step
pub round-grows : (c : Setup) (patience : ℕ) (steps : List Step) (p k : ℕ) → rounds_after steps p (suc k) ≤ rounds_after steps p k + 1
round-grows c patience steps p k = elim (step-cases c patience steps p k) [
  | inl s ↦ (let e = s.round in omega arith)
  | inr r ↦ grown r.ends r.round
]
  where
    grown : (b : Bool) → rounds_after steps p (suc k) ≡ rounds_after steps p k + cond b 1 0
        → rounds_after steps p (suc k) ≤ rounds_after steps p k + 1
    grown true e = omega arith
    grown false e = omega arith

-- what was sent by a step was sent by a later one
module _ (steps : List Step) (p r : ℕ) where
  count : ℕ → ℕ
  count n = count_by (λ s. is_sent_in steps p r s) (range_with_len 1 n)

  count-rise : (j more : ℕ) → count j ≤ count (j + more)
  unfolding count
  count-rise j zero = let e : j + 0 ≡ j = omega arith in rw e (omega arith)
  count-rise j (suc more) =
      let e : j + suc more ≡ suc (j + more) = omega arith in
      let last = count_by-more (λ s. is_sent_in steps p r s) (j + more) in
      rw e (omega (arith, count-rise j more))

  pub sent_before-up : (j k : ℕ) → j ≤ k → sent_before steps p r j ≤ sent_before steps p r k
  unfolding count
  sent_before-up j k l =
      let e : j - 1 + (k - 1 - (j - 1)) ≡ k - 1 = omega arith in
      subst (λ n. count (j - 1) ≤ count n) e (count-rise (j - 1) (k - 1 - (j - 1)))

  -- a message counts
  pub sent_before-send : (to j k : ℕ) → step_at steps j ≡ Some (record { proc = p; act = Send to })
      → round_at steps p j ≡ r → j < k → sent_before steps p r j < sent_before steps p r k
  unfolding count
  sent_before-send to zero k at round l = absurd (none-some _ at)
  sent_before-send to (suc j) k at round l =
      let one = count_by-more (λ s. is_sent_in steps p r s) j in
      let passes : is_sent_in steps p r (suc j) ≡ true = is_sent_in-from_send steps p r
      (suc j) (record { round = round; step = record { proc = p; act = Send to }; stands = at; sender = refl; sends = refl }) in
      let more : count (suc j) ≡ count j + 1 = one ∙ ap (λ b. count j + cond b 1 0) passes in
      let e : suc j + (k - 1 - suc j) ≡ k - 1 = omega arith in
      let rise : count (suc j) ≤ count (k - 1) = subst (λ n. count (suc j) ≤ count n) e (count-rise (suc j) (k - 1 - suc j)) in
      let f : suc j - 1 ≡ j = omega arith in
      let here : count (suc j - 1) ≡ count j = ap count f in
      omega arith

module _ (trace : Recorded) (patience set g f p : ℕ) (run : IsRun trace.config trace.steps) (time : IsTimed trace)
    (paced : StepsByPace trace.config patience trace.steps p) (member : has_proc set p ≡ true) (phi : PhiHolds set trace g f) where
  -- a step of p in the f ticks from x on, before a step in a tick after them
  pub record IsOneOf (x k : ℕ) : Type 0 where
    pub place : ℕ
    pub act : Act
    pub at : step_at trace.steps place ≡ Some (record { proc = p; act = act })
    pub from : x ≤ tick_of trace place
    pub until : tick_of trace place < x + f
    pub earlier : place < k

  pub one-before : (x k : ℕ) → g ≤ x → IsStepOf trace.steps k p → x + f ≤ tick_of trace k → IsOneOf x k
  one-before x k from is late =
      let last = (time.inside k (record { proc = p; act = is.0 }) is.1).1 in
      let s = phi.each x from (omega arith) p member in
      let at = s.step.step in
      let tick = s.step.tick in
      let low = s.from in
      let high = s.until in
      record {
        place = s.step.place;
        act = at.0;
        at = at.1;
        from = omega arith;
        until = omega arith;
        earlier = number_below trace time s.step.place k
            (record { proc = p; act = at.0 }) (record { proc = p; act = is.0 }) at.1 is.1 (omega arith);
      }

  module _ (round x : ℕ) (since : g ≤ x) (there : IsInRoundFrom trace p round x) where
    -- a step between is in the round
    pub same-round : (j k : ℕ) (act : Act) → step_at trace.steps j ≡ Some (record { proc = p; act = act })
        → x ≤ tick_of trace j → j ≤ k → round_at trace.steps p k ≡ round → round_at trace.steps p j ≡ round
    same-round j k act at from l here =
        omega (arith, round_at-up trace.config patience trace.steps p j k l, there j (act, at) from)

    -- p sends first, as long as it has something to send
    pub sends-first : (j k : ℕ) (act : Act) → step_at trace.steps j ≡ Some (record { proc = p; act = act })
        → round_at trace.steps p j ≡ round → j < k → sent_before trace.steps p round j < length (sends_to trace.config trace.steps p round)
        → sent_before trace.steps p round j < sent_before trace.steps p round k
    sends-first j k act at here l more =
        let to = get_or (sends_to trace.config trace.steps p round) (sent_before trace.steps p round j) 0 in
        let next : next_destination trace.config trace.steps p j ≡ Some to =
        next_destination-in trace.config trace.steps p j round here
        ∙ slice_get-get_or (sends_to trace.config trace.steps p round) (sent_before trace.steps p round j) 0 more in
        let e : act ≡ Send to = paced.sends j to act at next in
        sent_before-send trace.steps p round to j k (at ∙ ap (λ a. Some (record { proc = p; act = a })) e) here l

    -- in i times f ticks p sends i messages, or all
    pub sends-in : (i k : ℕ) → IsStepOf trace.steps k p → x + i * f ≤ tick_of trace k → round_at trace.steps p k ≡ round
        → (i ≤ sent_before trace.steps p round k) ⊎ (length (sends_to trace.config trace.steps p round) ≤ sent_before trace.steps p round k)
    sends-in zero k is late here = inl (omega arith)
    sends-in (suc i) k is late here =
        let e = times-more i f in
        let one = one-before (x + i * f) k (omega arith) is (omega arith) in
        let from = one.from in
        let l = one.earlier in
        let same = same-round one.place k one.act one.at (omega arith) (omega arith) here in
        let up = sent_before-up trace.steps p round one.place k (omega arith) in
        elim (cases_lt (sent_before trace.steps p round one.place) (length (sends_to trace.config trace.steps p round))) [
          | inl more ↦ (
              let grown = sends-first one.place k one.act one.at same l more in
              elim (sends-in i one.place (one.act, one.at) from same) [
                | inl enough ↦ inl (omega arith)
                | inr all ↦ inr (omega arith)
              ])
          | inr all ↦ inr (omega arith)
        ]

    -- where all is sent p receives
    pub receives : (j : ℕ) (act : Act) → step_at trace.steps j ≡ Some (record { proc = p; act = act }) → round_at trace.steps p j ≡ round
        → length (sends_to trace.config trace.steps p round) ≤ sent_before trace.steps p round j
        → (ids : List ℕ) × (ends : Bool) × (act ≡ Receive ends ids)
    receives j (Send to) at here all =
        let due = run.each j (record { proc = p; act = Send to }) at in
        absurd (none-some to (sym (slice_get_past (sends_to trace.config trace.steps p round) (sent_before trace.steps p round j) all)
        ∙ sym (next_destination-in trace.config trace.steps p j round here) ∙ due))
    receives j (Receive ends ids) at here all = (ids, ends, refl)

    -- Where each Receive of the round ends it, from the tick on by which all is sent, it is over f ticks later.
    pub round-ends : (most z : ℕ) → length (sends_to trace.config trace.steps p round) ≤ most
        → x + most * f ≤ z → EachEnds trace p round z → IsInRoundFrom trace p (round + 1) (z + f)
    round-ends most z few late each k is after = elim (cases_lt round (round_at trace.steps p k)) [
      | inl done ↦ omega arith
      | inr not_yet ↦ (
          let low = there k is (omega arith) in
          let here : round_at trace.steps p k ≡ round = omega arith in
          let one = one-before z k (omega arith) is after in
          let from = one.from in
          let l = one.earlier in
          let same = same-round one.place k one.act one.at (omega arith) (omega arith) here in
          let sent : length (sends_to trace.config trace.steps p round)
          ≤ sent_before trace.steps p round one.place = elim (sends-in most one.place (one.act, one.at) (omega arith) same) [
            | inl enough ↦ omega arith
            | inr all ↦ all
          ] in
          let r = receives one.place one.act one.at same sent in
          let at : step_at trace.steps one.place ≡ Some (record { proc = p; act = Receive r.1 r.0 }) =
          subst (λ a. step_at trace.steps one.place ≡ Some (record { proc = p; act = a })) r.2 one.at in
          let ends = each one.place r.0 r.1 at same from in
          let next = round_at-ended trace.steps one.place (record { proc = p; act = Receive r.1 r.0 }) at ends in
          let up = round_at-up trace.config patience trace.steps p (one.place + 1) k (omega arith) in
          omega arith)
    ]
