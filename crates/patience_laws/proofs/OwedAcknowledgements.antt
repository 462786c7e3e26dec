-- Who hears out a locking round owes an acknowledgement to an owner with a proposal.
use Rattle.std.proofs.Common.{ℕ, zero, suc, ◌≡◌, ◌+◌, ◌-◌, ◌≤◌, inl, inr, List, length, Some, is_some, Bool, true, false, ◌==◌, ◌&&◌, ◌||◌, not, refl, sym, ap, subst, ◌∙◌, arith, eq-eqb}
use Rattle.std.proofs.lemmas.Bool.{cases_lt, cases_eq, eqb-true, true≢false}
use Rattle.std.proofs.lemmas.Option.{none-some, same_Some}
use Rattle.patience_laws.proofs.Common.{act_sends, Step, HearThemselves, Send, Receive, Setup, IsProc, has_proc}
use Rattle.patience_laws.proofs.Common.{Recorded, step_at, step_at_within, Body, Lock, with_proper, IsToldToLock, State}
use Rattle.patience_laws.proofs.Common.{part_of, owner, phase_of, Locking, locking-told, part_at-locking, lock-sent}
use Rattle.patience_laws.proofs.Common.{messages_heard-has, IsRun, IsSend, sent_before, heard_table-from_heard}
use Rattle.patience_laws.proofs.Common.{HasHeardOf, IsTakenAt, may_hear_of, sends_to, node_in, OweAcknowledgements}
use Rattle.patience_laws.proofs.Common.{IsHeardOutByAll, TakeInOrder}
use Rattle.std.proofs.Math.Seq.{take-length}
use Rattle.round_model.specs.RoundStates.{state_after, messages_heard}
use Rattle.round_model.proofs.SendersHeard.{messages_heard-rise}
use Rattle.step_buffers.specs.HeardTables.{passed, round_at, heard_table}
use Rattle.lock_phases.specs.NodeFunctions.{out}
use Rattle.patience_laws.proofs.PacedSteps.{rounds_after, round-here}
use Rattle.patience_laws.proofs.RoundSends.{round_at-up}
use Rattle.patience_laws.proofs.SentInRounds.{sent-to}
use Rattle.patience_laws.proofs.RoundMessages.{told-place, all-passed}
use Rattle.patience_laws.proofs.LeastRounds.{may-in, node-next, proposal-kept}
use Rattle.patience_laws.proofs.PatienceTicks.{end-of, rounds-ended}

-- the next round of a locking round is of the same phase
pub same-phase : (round : ℕ) → 1 ≤ round → part_of round ≡ 2 → phase_of (round + 1) ≡ phase_of round
same-phase round low part = omega arith

or-where : (a b : Bool) → (a ≡ true → b ≡ true) → (not a || b) ≡ true
or-where true b h = h refl
or-where false b h = refl

module _ (trace : Recorded) (patience set : ℕ) (run : IsRun trace.config trace.steps)
    (order : TakeInOrder set trace) (round : ℕ) (low : 1 ≤ round) (part : part_of round ≡ 2) where
  abbrev c : Setup
  c = trace.config

  module _ (o q v : ℕ) (own : o ≡ owner c.n (phase_of round)) (mo : has_proc set o ≡ true) (mq : has_proc set q ≡ true) (is : IsProc c q)
      (from : IsProc c o) (proposes : (node_in c trace.steps o round).proposal ≡ Some v) (over : round ≤ passed trace.steps q)
      (heard : (k : ℕ) (ids : List ℕ) → step_at trace.steps k ≡ Some (record { proc = q; act = Receive true ids })
      → round_at trace.steps q k ≡ round → may_hear_of c trace.steps q round o ≡ true → HasHeardOf trace.steps q o round k) where
    -- the message that tells q to lock
    abbrev telling : Body
    telling = with_proper (node_in c trace.steps o round) (Lock v)

    -- q takes it in time
    record IsTold : Type 0 where
      message : ℕ
      sent : IsSend trace.steps o q message
      round_is : round_at trace.steps o message ≡ round
      place : ℕ
      take : IsTakenAt trace.steps q place message
      in_time : round_at trace.steps q place ≤ round

    may : may_hear_of c trace.steps q round o ≡ true
    may = may-in Locking c trace.steps q round o (part_at-locking round part)
        ∙ ap (λ j. o == j && (not (q == j) || is_some (node_in c trace.steps q round).proposal)) (sym own)
        ∙ rw (eq-eqb o o refl) (or-where (q == o) (is_some (node_in c trace.steps q round).proposal)
        (λ e. ap is_some (ap (λ j. (node_in c trace.steps j round).proposal) (eqb-true q o e) ∙ proposes)))

    said : out c (node_in c trace.steps o round) o round q ≡ Some telling
    said = subst (λ j. out c (node_in c trace.steps o round) j round q ≡ Some telling)
        (sym own) (lock-sent c (node_in c trace.steps o round) round q v part proposes)

    passed-all : rounds_after trace.steps q (length trace.steps) ≡ passed trace.steps q
    passed-all = ap (λ xs. passed xs q) (take-length trace.steps)

    is-told : IsTold
    is-told =
        let e = end-of c patience trace.steps q round (length trace.steps) low (let f = passed-all in omega arith) in
        of (suc e.0.place) e.0.ids e.0.step (round-here trace.steps q e.0.place ∙ e.0.round_is)
      where
        of : (k : ℕ) (ids : List ℕ) → step_at trace.steps k ≡ Some (record { proc = q; act = Receive true ids })
            → round_at trace.steps q k ≡ round → IsTold
        of k ids at here = go (heard k ids at here may)
          where
            go : HasHeardOf trace.steps q o round k → IsTold
            go h = elim (cases_lt round (round_at trace.steps o h.message)) [
              | inr same ↦ (
                  record {
                    message = h.message;
                    sent = h.sent;
                    round_is = omega (arith, h.later);
                    place = h.place;
                    take = h.take;
                    in_time = let up = round_at-up c patience trace.steps q h.place k h.by in omega (arith, h.later);
                  })
              | inl passed_it ↦ (
                  let within = step_at_within trace.steps h.message _ h.sent in
                  let low_message = within.0 in
                  let e : suc (h.message - 1) ≡ h.message = omega arith in
                  let all : length (sends_to c trace.steps o round) ≤ sent_before trace.steps o round (suc (h.message - 1)) =
                  all-passed c patience trace.steps o round (h.message - 1) run low (omega arith) in
                  let place = told-place c trace.steps o round q telling is said in
                  let index = place.1 in
                  let first = sent-to c trace.steps o q round run place.0 (suc (h.message - 1)) (omega arith) place.2 in
                  let earlier = first.earlier in
                  let taken = order q o mq mo first.message h.message h.place first.sent h.sent (omega arith) h.take in
                  record {
                    message = first.message;
                    sent = first.sent;
                    round_is = first.round_is;
                    place = taken.place;
                    take = taken.take;
                    in_time = let up = round_at-up c patience trace.steps q taken.place k
                        (let a = taken.by in let b = h.by in omega arith) in omega arith;
                  })
            ]

    hears : heard_table trace.steps q round o ≡ true
    hears =
        let t = is-told in
        heard_table-from_heard trace.steps q round o (record {
          over = over;
          message = t.message;
          take = record {
            place = t.place;
            step = record { proc = q; act = Receive t.take.ends t.take.ids };
            stands = t.take.step;
            taker = refl;
            taken = t.take.taken;
          };
          in_time = t.in_time;
          sent = record { round = t.round_is; step = record { proc = o; act = Send q }; stands = t.sent; sender = refl; sends = refl };
        })

    pub owes : (node_in c trace.steps q (round + 1)).owes_ack ≡ true
    owes =
        let nodes = state_after c (heard_table trace.steps) (round - 1) in
        let all = messages_heard c (heard_table trace.steps) nodes q round in
        let told : IsToldToLock (owner c.n (phase_of round)) all v = record {
          message = (o, telling);
          is_heard = messages_heard-has c (heard_table trace.steps) nodes q round
              (o, telling) (record { sender = from; heard = hears; body = said });
          sender = own;
          kind = refl;
        } in
        ap (λ (s : State). s.owes_ack) (node-next c trace.steps q round low)
        ∙ (locking-told c (node_in c trace.steps q round) q round all v part
        (messages_heard-rise c (heard_table trace.steps) nodes q round) told).owes_ack

  -- an owner that takes what it sends to itself owes itself one
  pub owes-itself : HearThemselves set trace → (o v : ℕ) → o ≡ owner c.n (phase_of round) → has_proc set o ≡ true → IsProc c o → (node_in c
      trace.steps o round).proposal ≡ Some v → round ≤ passed trace.steps o → (node_in c trace.steps o (round + 1)).owes_ack ≡ true
  owes-itself itself o v own mo is proposes over = owes o o v own mo mo is is proposes over heard
    where
      said : out c (node_in c trace.steps o round) o round o ≡ Some (with_proper (node_in c trace.steps o round) (Lock v))
      said = subst (λ j. out c (node_in c trace.steps o round) j round o ≡ Some (with_proper (node_in c trace.steps o round) (Lock v)))
          (sym own) (lock-sent c (node_in c trace.steps o round) round o v part proposes)

      heard : (k : ℕ) (ids : List ℕ) → step_at trace.steps k ≡ Some (record { proc = o; act = Receive true ids })
          → round_at trace.steps o k ≡ round → may_hear_of c trace.steps o round o ≡ true → HasHeardOf trace.steps o o round k
      heard zero ids at here told = absurd (none-some _ at)
      heard (suc k) ids at here told =
          let ended = rounds-ended c patience trace.steps o k ids at in
          let e = round-here trace.steps o k in
          let all = all-passed c patience trace.steps o round (suc k) run low (omega arith) in
          let place = told-place c trace.steps o round o (with_proper (node_in c trace.steps o round) (Lock v)) is said in
          let index = place.1 in
          let first = sent-to c trace.steps o o round run place.0 (suc (suc k)) (omega arith) place.2 in
          let earlier = first.earlier in
          let round_is = first.round_is in
          elim (cases_eq first.message (suc k)) [
            | inl same ↦ absurd
                (sends-not ids (subst (λ n. step_at trace.steps n ≡ Some (record { proc = o; act = Send o })) same first.sent) at)
            | inr other ↦ (
                let taken = itself o first.message (suc k) mo first.sent (record { ids = ids; ends = true; step = at }) (omega arith) in
                record {
                  message = first.message;
                  sent = first.sent;
                  later = omega arith;
                  place = taken.place;
                  take = taken.take;
                  by = taken.by;
                })
          ]
        where
          sends-not : (ids : List ℕ) → step_at trace.steps (suc k) ≡ Some (record { proc = o; act = Send o })
              → step_at trace.steps (suc k) ≡ Some (record { proc = o; act = Receive true ids }) → ⊥
          sends-not ids a b = true≢false (ap (λ (x : Step). act_sends x.act)
              (same_Some (record { proc = o; act = Send o }) (record { proc = o; act = Receive true ids }) (sym a ∙ b)))

  pub owe-all : IsHeardOutByAll set trace round → ((p : ℕ) → has_proc set p ≡ true → IsProc c p) → OweAcknowledgements set trace (round + 1)
  owe-all heard procs v mo proposes q mq came =
      let own : owner c.n (phase_of (round + 1)) ≡ owner c.n (phase_of round) = ap (owner c.n) (same-phase round low part) in
      owes (owner c.n (phase_of (round + 1))) q v own mo mq (procs q mq) (procs (owner c.n (phase_of (round + 1))) mo)
      (sym (proposal-kept c trace.steps (owner c.n (phase_of (round + 1))) round low part) ∙ proposes) (omega arith)
      (λ k ids at here is_heard. heard q (owner c.n (phase_of (round + 1))) k ids mq mo at here is_heard)
