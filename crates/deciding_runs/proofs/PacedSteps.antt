-- A step by a pace: what is heard with it is heard in the trace.
use Rattle.std.proofs.Common.{ℕ, suc, ◌≡◌, ◌+◌, ◌-◌, ◌<◌, ◌≤◌, ◌⊎◌, inl, inr, List, [], ◌∷◌, ◌++◌, length, Option, Some, None, Bool, true, false, ◌==◌, refl, sym, ap, subst, ◌∙◌, arith}
use Rattle.std.specs.Prelude.{Contains, fold}
use Rattle.std.proofs.lemmas.Bool.{cases_lt}
use Rattle.std.proofs.lemmas.List.{length-append, length-set}
use Rattle.std.proofs.lemmas.Option.{same_Some}
use Rattle.step_trace.specs.declared.steps.Act.TheVariants as act
use Rattle.step_trace.proofs.StepPrefixes.{step_at-prefix_old}
use Rattle.deciding_runs.proofs.Common.{Step, Setup, IsProc, step_at, IsWellFormed, step_at_within, step_at_last}
use Rattle.deciding_runs.proofs.Common.{Contains-head, Contains-rest, part_of, passed, round_at, IsSend, buffer}
use Rattle.deciding_runs.proofs.Common.{next_send, step_of, round_at-prefix, Peer, HasHeardOf}
use Rattle.deciding_runs.proofs.Common.{Paced, WereHeard, heard_message, heard_waiting, ends_round, paced_move}
use Rattle.deciding_runs.proofs.Common.{after_receive, after_move}
use Rattle.step_buffers.specs.Origins.{sender_of, round_ahead}
use Rattle.step_buffers.proofs.BufferSteps.{IsWaiting-from_buffer}
use Rattle.step_buffers.proofs.MessageOrigins.{sender_of-sent, round_ahead-ahead, round_ahead-past}
use Rattle.deciding_runs.proofs.NotedPeers.{WereHeard-longer, WereHeard-noted, WereHeard-phase}

module _ (c : Setup) (steps : List Step) (p : ℕ) (ends : Bool) (w : IsWellFormed c steps) where
  -- the Receive of all that waits
  abbrev taking : Step
  taking = record { proc = p; act = act.Receive ends (buffer steps p) }

  abbrev now : List Step
  now = steps ++ record { proc = p; act = act.Receive ends (buffer steps p) } ∷ []

  -- it comes last
  longer : length now ≡ suc (length steps)
  longer = length-append steps (taking ∷ []) ∙ omega arith

  taking-last : step_at now (length now) ≡ Some taking
  taking-last = ap (step_at now) longer ∙ step_at_last steps taking

  -- no message is heard as of a later round than its own
  ahead-most : (q s : ℕ) → IsSend steps q p s → round_ahead steps p s ≤ round_at steps q s
  ahead-most q s sent = go (cases_lt (passed steps p) (round_at steps q s))
    where
      go : (passed steps p < round_at steps q s) ⊎ (round_at steps q s ≤ passed steps p) → round_ahead steps p s ≤ round_at steps q s
      go (inl l) = let e = round_ahead-ahead steps q p s sent l in omega arith
      go (inr l) = let e = round_ahead-past steps q p s sent l in omega arith

  -- what waited is heard with it
  hears-waiting : (s : ℕ) → Contains (buffer steps p) s → HasHeardOf now p (sender_of steps s) (round_ahead steps p s) (length now)
  hears-waiting s d =
      let waits = IsWaiting-from_buffer steps p s d in
      let q = waits.sender in
      let from : sender_of steps s ≡ q = sender_of-sent steps q p s waits.sent in
      let within = step_at_within steps s _ waits.sent in
      let inside = within.1 in
      let most = ahead-most q s waits.sent in
      let same = round_at-prefix steps (taking ∷ []) q s (omega arith) in
      subst (λ j. HasHeardOf now p j (round_ahead steps p s) (length now)) (sym from)
      (record {
        message = s;
        sent = step_at-prefix_old steps (taking ∷ []) s _ waits.sent;
        later = omega arith;
        place = length now;
        take = record { ids = buffer steps p; ends = ends; step = taking-last; taken = d };
        by = omega arith;
      })

  -- and its sender is a processor
  sender-within : (s : ℕ) → Contains (buffer steps p) s → IsProc c (sender_of steps s)
  sender-within s d =
      let waits = IsWaiting-from_buffer steps p s d in
      subst (IsProc c) (sym (sender_of-sent steps waits.sender p s waits.sent)) (w.procs s _ waits.sent)

  -- of some of these messages too
  WereHeard-some : (ids : List ℕ) (peers : List Peer) → length peers ≡ c.n → ((s : ℕ) → Contains ids s → Contains (buffer steps p) s)
      → WereHeard now p peers → WereHeard now p (fold (heard_message steps p) peers ids)
  WereHeard-some [] peers long some were = were
  WereHeard-some (s ∷ ids) peers long some were =
      let waits = some s (Contains-head s ids) in
      let is = sender-within s waits in
      let low = is.0 in
      let high = is.1 in
      WereHeard-some ids (heard_message steps p peers s)
      (length-set peers (sender_of steps s - 1) _ ∙ long) (λ t e. some t (Contains-rest s t ids e))
      (WereHeard-noted now p (sender_of steps s) (round_ahead steps p s) peers low (omega arith) (hears-waiting s waits) were)

  WereHeard-waiting : (x : Paced) → length x.peers ≡ c.n → WereHeard steps p x.peers → WereHeard now p (heard_waiting steps p x).peers
  WereHeard-waiting x long were = WereHeard-some (buffer steps p) x.peers long
      (λ s d. d) (WereHeard-longer steps (taking ∷ []) p x.peers were)

-- what was heard, after a Receive
WereHeard-received : (steps : List Step) (p round : ℕ) (ends : Bool) (x : Paced)
    → WereHeard steps p x.peers → WereHeard steps p (after_receive ends round x).peers
WereHeard-received steps p round false x were = were
WereHeard-received steps p round true x were = go (part_of round == 4) refl
  where
    go : (b : Bool) → (part_of round == 4) ≡ b → WereHeard steps p (after_receive true round x).peers
    go true e = rw e (WereHeard-phase steps p round x.peers were)
    go false e = rw e were

-- What is heard with a step by a pace is heard in the trace with that step.
pub WereHeard-moved : (c : Setup) (steps : List Step) (step : Step) (p : ℕ) (x : Paced)
    → IsProc c p → IsWellFormed c steps → length x.peers ≡ c.n → step_of c steps p (paced_move c steps p x) ≡ Some step
    → WereHeard steps p x.peers → WereHeard (steps ++ step ∷ []) p (after_move c steps p x).peers
WereHeard-moved c steps step p x is w long made were = go (next_send c steps p) refl
  where
    go : (to : Option ℕ) → next_send c steps p ≡ to → WereHeard (steps ++ step ∷ []) p (after_move c steps p x).peers
    go (Some to) e = rw e (WereHeard-longer steps (step ∷ []) p x.peers were)
    go None e =
        let ends = ends_round c steps p x in
        let same : record { proc = p; act = act.Receive ends (buffer steps p) } ≡ step = same_Some _ _ (rw e at made) in
        rw (e, ← same)
        (WereHeard-received (steps ++ record { proc = p; act = act.Receive ends (buffer steps p) } ∷ []) p
        (passed steps p + 1) ends (heard_waiting steps p x)
        (WereHeard-waiting c steps p ends w x long were))
