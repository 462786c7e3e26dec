-- How many messages a processor sends in a round, and by which tick.
use Rattle.std.proofs.Common.{ℕ, zero, suc, ◌≡◌, ◌+◌, ◌*◌, ◌<◌, ◌≤◌, ◌⊎◌, inl, inr, List, length, Some, None, is_some, Bool, true, false, cond, refl, sym, ap, subst, ◌∙◌, arith}
use Rattle.std.specs.Prelude.{Contains, slice_get, count_by}
use Rattle.std.specs.List.{range_with_len}
use Rattle.std.proofs.lemmas.Bool.{cases_lt, cases_eq, true≢false, eq-eqb}
use Rattle.std.proofs.lemmas.Option.{slice_get-get_or, none-some}
use Rattle.std.proofs.lemmas.List.Sums.{sum_by-cons, length-filter}
use Rattle.patience_laws.proofs.Common.{Act, Send, Receive, Step, Setup, IsProc, has_proc, Recorded, step_at, tick_of}
use Rattle.patience_laws.proofs.Common.{IsTimed, PhiHolds, Contains-filter, ticks_rise, Body, part_of, owner, phase_of}
use Rattle.patience_laws.proofs.Common.{Locking, out-in, part_at-locking, processors, Contains-processors}
use Rattle.patience_laws.proofs.Common.{All-range_with_len, round_at, StepsByPace, IsInRoundFrom, sends_to, node_in}
use Rattle.lock_phases.specs.NodeFunctions.{out}
use Rattle.step_buffers.specs.Runs.{IsRun, IsSend, next_destination, sent_before}
use Rattle.step_buffers.proofs.NextSends.{sent-to_owner}
use Rattle.patience_laws.proofs.PacedSteps.{rounds_after, round-here, step-cases}
use Rattle.patience_laws.proofs.EndedReceives.{count_by-none}
use Rattle.patience_laws.proofs.RoundSends.{next_destination-in, sent_before-up, sends-in, sends-first, times-more}
use Rattle.patience_laws.proofs.SentInRounds.{sent-to}

-- at most as many as there are processors
count-few : (test : ℕ → Bool) (a n : ℕ) → count_by test (range_with_len a n) ≤ n
count-few test a zero = omega arith
count-few test a (suc n) =
    let first = sum_by-cons (λ z. cond {A = ℕ} (test z) 1 0) a (range_with_len (a + 1) n) in
    omega (arith, at-most (test a), count-few test (a + 1) n)
  where
    at-most : (b : Bool) → cond {A = ℕ} b 1 0 ≤ 1
    at-most true = omega arith
    at-most false = omega arith

-- at most one, where one alone passes
count-one : (test : ℕ → Bool) (o a n : ℕ) → ((x : ℕ) → test x ≡ true → x ≡ o) → count_by test (range_with_len a n) ≤ 1
count-one test o a zero only = omega arith
count-one test o a (suc n) only = go (count-one test o (a + 1) n only) (test a) refl
  where
    first : count_by test (range_with_len a (suc n)) ≡ cond {A = ℕ} (test a) 1 0 + count_by test (range_with_len (a + 1) n)
    first = sum_by-cons (λ z. cond {A = ℕ} (test z) 1 0) a (range_with_len (a + 1) n)

    later : test a ≡ true → (x : ℕ) → Contains (range_with_len (a + 1) n) x → test x ≡ false
    later t x d = fails (test x) refl
      where
        fails : (b : Bool) → test x ≡ b → test x ≡ false
        fails false e = e
        fails true e =
            let r = All-range_with_len (a + 1) n d.0 x d.1 in
            let is : _ ≡ x = d.2 in
            let low : a + 1 ≤ x = subst (λ m. a + 1 ≤ m) is r.0 in
            absurd (omega (arith, only x e, only a t))

    go : count_by test (range_with_len (a + 1) n) ≤ 1 → (b : Bool) → test a ≡ b → count_by test (range_with_len a (suc n)) ≤ 1
    go few true t =
        let f : cond {A = ℕ} (test a) 1 0 ≡ 1 = ap (λ b. cond {A = ℕ} b 1 0) t in
        let e = first in
        omega (arith, count_by-none test (range_with_len (a + 1) n) (later t))
    go few false t =
        let f : cond {A = ℕ} (test a) 1 0 ≡ 0 = ap (λ b. cond {A = ℕ} b 1 0) t in
        let e = first in
        omega arith

module _ (c : Setup) (steps : List Step) (p round : ℕ) where
  abbrev sends : ℕ → Bool
  sends to = is_some (out c (node_in c steps p round) p round to)

  pub few-all : length (sends_to c steps p round) ≤ c.n
  few-all = let e = length-filter sends (processors c) in let l = count-few sends 1 c.n in omega arith

  pub few-one : (part_of round ≡ 1) ⊎ (part_of round ≡ 3) → length (sends_to c steps p round) ≤ 1
  few-one part = let e = length-filter sends (processors c) in
      let l = count-one sends (owner c.n (phase_of round)) 1 c.n only in omega arith where
        only : (x : ℕ) → sends x ≡ true → x ≡ owner c.n (phase_of round)
        only x t = elim (cases_eq x (owner c.n (phase_of round))) [
          | inl e ↦ e
          | inr other ↦ absurd (true≢false (sym t ∙ sent-to_owner c (node_in c steps p round) p round x part other))
        ]

  -- an owner without a proposal sends nothing in a locking round
  says-none : part_of round ≡ 2 → p ≡ owner c.n (phase_of round) → (node_in c steps p round).proposal ≡ None → (to : ℕ) → sends to ≡ false
  says-none part is none to = ap is_some said
    where
      said : out c (node_in c steps p round) p round to ≡ None
      said = out-in Locking c (node_in c steps p round) p round to (part_at-locking round part)
          ∙ rw (eq-eqb p (owner c.n (phase_of round)) is, none) refl

  pub few-none : part_of round ≡ 2 → p ≡ owner c.n (phase_of round)
      → (node_in c steps p round).proposal ≡ None → length (sends_to c steps p round) ≤ 0
  few-none part is none =
      let l = count_by-none sends (processors c) (λ to d. says-none part is none to) in
      omega (arith, length-filter sends (processors c))

  -- who is told something in a round is among those
  pub told-place : (to : ℕ) (body : Body) → IsProc c to → out c (node_in c steps p round) p round to ≡ Some body
      → (i : ℕ) × (i < length (sends_to c steps p round)) × (slice_get (sends_to c steps p round) i ≡ Some to)
  told-place to body is said =
      let d = Contains-filter sends (processors c) to (Contains-processors c to is) (ap is_some said) in
      (d.0, d.1, slice_get-get_or (sends_to c steps p round) d.0 to d.1 ∙ ap (λ x. Some x) d.2)

-- q sent p a message of this round or of a later one by a tick
pub record IsSentBy (trace : Recorded) (q p round y : ℕ) : Type 0 where
  pub message : ℕ
  pub sent : IsSend trace.steps q p message
  pub later : round ≤ round_at trace.steps q message
  pub by : tick_of trace message ≤ y

-- who has passed a round has sent all
pub all-passed : (c : Setup) (patience : ℕ) (steps : List Step) (q round n : ℕ) → IsRun c steps → 1 ≤ round → round ≤ rounds_after steps q n
    → length (sends_to c steps q round) ≤ sent_before steps q round (suc n)
all-passed c patience steps q round zero run low passed = absurd (let e : rounds_after steps q zero ≡ 0 = refl in omega arith)
all-passed c patience steps q round (suc n) run low passed = elim (cases_lt (rounds_after steps q n) round) [
  | inr before ↦ (let l = all-passed c patience steps q round n run low before in
      let up = sent_before-up steps q round (suc n) (suc (suc n)) (omega arith) in omega arith)
  | inl now ↦ elim (step-cases c patience steps q n) [
    | inl still ↦ absurd (let e = still.round in omega arith)
    | inr r ↦ ended r.ends r.ids r.step r.round now
  ]
]
  where
    ended : (ends : Bool) (ids : List ℕ) → step_at steps (suc n) ≡ Some (record { proc = q; act = Receive ends ids })
        → rounds_after steps q (suc n) ≡ rounds_after steps q n + cond ends 1 0
        → rounds_after steps q n < round → length (sends_to c steps q round) ≤ sent_before steps q round (suc (suc n))
    ended false ids at e now = absurd (let f : rounds_after steps q (suc n) ≡ rounds_after steps q n + 0 = e in omega arith)
    ended true ids at e now =
        let f : rounds_after steps q (suc n) ≡ rounds_after steps q n + 1 = e in
        let here : round_at steps q (suc n) ≡ round = round-here steps q n ∙ omega arith in
        let due : next_destination c steps q (suc n) ≡ None = run.each (suc n) (record { proc = q; act = Receive true ids }) at in
        let none : slice_get (sends_to c steps q round) (sent_before steps q round (suc n))
        ≡ None = sym (next_destination-in c steps q (suc n) round here) ∙ due in
        let up = sent_before-up steps q round (suc n) (suc (suc n)) (omega arith) in
        elim (cases_lt (sent_before steps q round (suc n)) (length (sends_to c steps q round))) [
          | inl l ↦ absurd (none-some _ (sym none ∙ slice_get-get_or (sends_to c steps q round) (sent_before steps q round (suc n)) 0 l))
          | inr l ↦ omega arith
        ]

module _ (trace : Recorded) (patience set g f q : ℕ) (run : IsRun trace.config trace.steps) (time : IsTimed trace)
    (paced : StepsByPace trace.config patience trace.steps q) (member : has_proc set q ≡ true) (phi : PhiHolds set trace g f)
    (round x : ℕ) (since : g ≤ x) (there : IsInRoundFrom trace q round x) (low : 1 ≤ round) where
  -- after a step in the last of i + 1 times f ticks, all is sent
  all-sent : (i j : ℕ) (act : Act) → step_at trace.steps j ≡ Some (record { proc = q; act = act })
      → x + i * f ≤ tick_of trace j → length (sends_to trace.config trace.steps q round) ≤ suc i
      → length (sends_to trace.config trace.steps q round) ≤ sent_before trace.steps q round (suc j)
  all-sent i zero act at late few = absurd (none-some _ at)
  all-sent i (suc j) act at late few = elim (cases_lt round (round_at trace.steps q (suc j))) [
    | inl passed ↦ (
        let e = round-here trace.steps q j in
        let all = all-passed trace.config patience trace.steps q round j run low (omega arith) in
        let up = sent_before-up trace.steps q round (suc j) (suc (suc j)) (omega arith) in
        omega arith)
    | inr not_yet ↦ (
        let least = there (suc j) (act, at) (omega arith) in
        let here : round_at trace.steps q (suc j) ≡ round = omega arith in
        let up = sent_before-up trace.steps q round (suc j) (suc (suc j)) (omega arith) in
        elim (cases_lt (sent_before trace.steps q round (suc j)) (length (sends_to trace.config trace.steps q round))) [
          | inl more ↦ (
              let grown = sends-first trace patience set g f q run time paced member phi round x since there
              (suc j) (suc (suc j)) act at here (omega arith) more in
              elim (sends-in trace patience set g f q run time paced member phi round x since there i (suc j) (act, at) late here) [
                | inl enough ↦ omega arith
                | inr all ↦ omega arith
              ])
          | inr all ↦ omega arith
        ])
  ]

  pub sent-by : (i p : ℕ) (body : Body) → length (sends_to trace.config trace.steps q round) ≤ suc i → IsProc trace.config p
      → out trace.config (node_in trace.config trace.steps q round) q round p ≡ Some body
      → x + suc i * f ≤ trace.last → IsSentBy trace q p round (x + suc i * f)
  sent-by i p body few is said last =
      let e = times-more i f in
      let s = phi.each (x + i * f) (omega arith) (omega arith) q member in
      let at = s.step.step in
      let tick = s.step.tick in
      let from = s.from in
      let until = s.until in
      let place = told-place trace.config trace.steps q round p body is said in
      let all = all-sent i s.step.place at.0 at.1 (omega arith) few in
      let here = place.1 in
      let sent = sent-to trace.config trace.steps q p round run place.0 (suc s.step.place) (omega arith) place.2 in
      let earlier = sent.earlier in
      let round_is = sent.round_is in
      let rise = ticks_rise trace time sent.message s.step.place
      (record { proc = q; act = Send p }) (record { proc = q; act = at.0 }) sent.sent at.1 (omega arith) in
      record { message = sent.message; sent = sent.sent; later = omega arith; by = omega arith }
