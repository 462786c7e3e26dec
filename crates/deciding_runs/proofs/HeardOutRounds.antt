-- Processors that end their rounds when they have heard all that they may hear stay together, and decide.
use Rattle.std.proofs.Common.{ℕ, zero, suc, ◌≡◌, ◌<◌, ◌≤◌, ◌⊎◌, inl, inr, List, Option, Some, None, true, is_some, refl, sym, subst, arith}
use Rattle.std.specs.Prelude.{Contains}
use Rattle.std.proofs.lemmas.Bool.{cases_lt}
use Rattle.std.proofs.lemmas.Option.{slice_get_within, get_or_from_slice_get}
use Rattle.deciding_runs.proofs.Common.{Step, Setup, IsSetup, has_proc, Contains-from_filter, Body, deciding_round}
use Rattle.deciding_runs.proofs.Common.{HaveDecided, IsSend, IsRun, node_at, sent_before, AreTogether, IsTakenInTime}
use Rattle.deciding_runs.proofs.Common.{may_hear, IsTakenAt, IsTakenBefore, HasHeardOf, TakesInOrder, IsHeardOut}
use Rattle.deciding_runs.proofs.Common.{HearOut}
use Rattle.lock_phases.specs.NodeFunctions.{out}
use Rattle.round_model.specs.RoundStates.{processors, state_after}
use Rattle.step_buffers.specs.HeardTables.{passed, before, round_at, heard_table}
use Rattle.deciding_runs.proofs.EndedRounds.{passed-ending}
use Rattle.deciding_runs.proofs.SentMessages.{round_destinations}
use Rattle.deciding_runs.proofs.RoundTellers.{tells-may_hear}
use Rattle.deciding_runs.proofs.RoundOrders.{round_at-rises, sent-before, sent-once, sent-place}
use Rattle.deciding_runs.proofs.DecidedMembers.{members-decide}

-- who sends a message has something to say
said-of_sent : (c : Setup) (steps : List Step) (q to rounds s : ℕ) → IsRun c steps → IsSend steps q to s → round_at steps q s ≡ suc rounds
    → is_some (out c (state_after c (heard_table steps) rounds q) q (suc rounds) to) ≡ true
said-of_sent c steps q to rounds s run sent round =
    let at = sent-place c steps q to rounds s run sent round in
    let dests = round_destinations c steps q rounds in
    let place = sent_before steps q (suc rounds) s in
    let is : Contains dests to = (place, slice_get_within dests place to at, get_or_from_slice_get dests place to to at) in
    (Contains-from_filter _ (processors c) to is).1

-- so it is among those whom its receiver may hear
sender-may_hear : (c : Setup) (steps : List Step) (p q rounds s : ℕ) → IsRun c steps → IsSend steps q p s → round_at steps q s ≡ suc rounds
    → may_hear c (state_after c (heard_table steps) rounds p) (suc rounds) p q ≡ true
sender-may_hear c steps p q rounds s run sent round =
    go (out c (state_after c (heard_table steps) rounds q) q (suc rounds) p) refl (said-of_sent c steps q p rounds s run sent round)
  where
    go : (o : Option Body) → out c (state_after c (heard_table steps) rounds q) q (suc rounds) p ≡ o → is_some o ≡ true
        → may_hear c (state_after c (heard_table steps) rounds p) (suc rounds) p q ≡ true
    go None e h = cc
    go (Some body) e h = tells-may_hear c (heard_table steps) rounds p q body e

-- a message of the round was taken by the time when its sender was heard of
taken-when_heard : (c : Setup) (steps : List Step) (p q rounds k s : ℕ) → IsRun c steps → TakesInOrder steps p q
    → IsSend steps q p s → round_at steps q s ≡ suc rounds → HasHeardOf steps p q (suc rounds) k → IsTakenBefore steps p k s
taken-when_heard c steps p q rounds k s run order sent round heard = go (cases_lt (suc rounds) (round_at steps q heard.message))
  where
    go : (suc rounds < round_at steps q heard.message) ⊎ (round_at steps q heard.message ≤ suc rounds) → IsTakenBefore steps p k s
    go (inl l) =
        let was = order s heard.message heard.place sent heard.sent (sent-before steps q s heard.message (omega arith)) heard.take in
        record { place = was.place; take = was.take; by = omega (arith, heard.by, was.by) }
    go (inr l) =
        let later = heard.later in
        let same : heard.message ≡ s = sent-once c steps q p rounds heard.message s run heard.sent sent (omega arith) round in
        record { place = heard.place; take = subst (IsTakenAt steps p heard.place) same heard.take; by = heard.by }

-- so it is taken in time
in-time : (c : Setup) (steps : List Step) (set p q rounds s : ℕ) → IsRun c steps → has_proc set q ≡ true → TakesInOrder steps p q
    → IsHeardOut c steps set p (suc rounds) → IsSend steps q p s → round_at steps q s ≡ suc rounds → IsTakenInTime steps p (suc rounds) s
in-time c steps set p q rounds s run mq order out_of sent round =
    let end : passed (before steps out_of.place) p ≡ rounds = (let e = out_of.round_is in omega arith) in
    let may = subst (λ n. may_hear c (state_after c (heard_table steps) n p) (suc rounds) p q ≡ true)
    (sym end) (sender-may_hear c steps p q rounds s run sent round) in
    let was = taken-when_heard c steps p q rounds out_of.place s run order sent round (out_of.heard q mq may) in
    let rises = round_at-rises steps p was.place out_of.place was.by in
    let here = out_of.round_is in
    record {
      place = was.place;
      ids = was.take.ids;
      ends = was.take.ends;
      step = was.take.step;
      taken = was.take.taken;
      in_time = omega arith;
    }

-- Who ends its rounds so stays together with the others.
pub AreTogether-heard_out : (c : Setup) (steps : List Step) (set first last : ℕ)
    → IsRun c steps → first ≤ last → HearOut c steps set first last → AreTogether c steps set first last
AreTogether-heard_out c steps set first last run some are = record {
  within = are.within;
  size = are.size;
  numbered = are.numbered;
  passed = λ p mp. let end = are.rounds p last mp some (omega arith) in passed-ending steps p end.place last end.ids end.step end.round_is;
  hear = hear;
}
  where
    hear : (round : ℕ) → first ≤ round → round ≤ last → (p q s : ℕ)
        → has_proc set p ≡ true → has_proc set q ≡ true → IsSend steps q p s → round_at steps q s ≡ round → IsTakenInTime steps p round s
    hear zero low high p q s mp mq sent round = absurd (let numbered = are.numbered in omega arith)
    hear (suc rounds) low high p q s mp mq sent round =
        in-time c steps set p q rounds s run mq (are.order p q mp mq) (are.rounds p (suc rounds) mp low high) sent round

-- And they decide.
pub hearing-decides : (c : Setup) (steps : List Step) (set first : ℕ)
    → IsSetup c → IsRun c steps → HearOut c steps set first (deciding_round c first) → HaveDecided set (node_at c steps)
hearing-decides c steps set first setup run are = members-decide c steps set first setup run
    (AreTogether-heard_out c steps set first (deciding_round c first) run (let n = setup.least in omega arith) are)
