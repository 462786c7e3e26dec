-- What the heard table says, in words: a step that took a message in time. And what comes later in
-- a trace changes no row of it that is over, and no node of such a round.
use Rattle.std.proofs.Common.{ℕ, ◌≡◌, ◌+◌, ◌-◌, ◌≤◌, List, length, get_or, Option, Some, None, Bool, true, false, ◌&&◌, ◌==◌, refl, arith, eq-eqb, suc, ◌<◌, ◌⊎◌, inl, inr, ◌++◌, sym, ◌∙◌}
use Rattle.std.specs.Prelude.{Contains, nat_le}
use Rattle.std.specs.List.{list_any}
use Rattle.std.specs.Option.{option_map_or}
use Rattle.std.proofs.lemmas.Bool.{eqb-true, leb-true, le-leb, and_parts, and_from, cases_lt}
use Rattle.std.proofs.lemmas.List.FromFn.{length-range_with_len, get_or-range_with_len}
use Rattle.step_trace.proofs.StepPrefixes.{step_at-prefix}
use Rattle.step_buffers.proofs.Common.{Step, act_ids, act_sends, step_at, IsWellFormed, step_at_within, list_any-found, list_any-at, Setup, IsSettled, state_after-settled}
use Rattle.step_buffers.specs.HeardTables.{passed, round_at, numbers, is_sent_in, hears_at, heard_table}
use Rattle.round_model.specs.RoundStates.{state_after}
use Rattle.step_buffers.proofs.StepPrefixes.{passed-append, passed-before, round_at-prefix, round_at-past}

-- step k is one that passes a test
pub record IsStepWith (test : Step → Bool) (steps : List Step) (k : ℕ) : Type 0 where
  pub step : Step
  pub stands : step_at steps k ≡ Some step
  pub passes : test step ≡ true

IsStepWith-from_test : (test : Step → Bool) (steps : List Step) (k : ℕ)
    → option_map_or test (step_at steps k) false ≡ true → IsStepWith test steps k
IsStepWith-from_test test steps k h = go (step_at steps k) refl h
  where
    go : (o : Option Step) → step_at steps k ≡ o → option_map_or test o false ≡ true → IsStepWith test steps k
    go None e t = cc
    go (Some x) e t = record { step = x; stands = e; passes = t }

test-from_step : (test : Step → Bool) (steps : List Step) (k : ℕ) (x : Step) → step_at steps k ≡ Some x → test x ≡ true
    → option_map_or test (step_at steps k) false ≡ true
test-from_step test steps k x e t = rw e t

-- s is a message that q sent in its round r
pub record IsSentIn (steps : List Step) (q r s : ℕ) : Type 0 where
  pub round : round_at steps q s ≡ r
  pub step : Step
  pub stands : step_at steps s ≡ Some step
  pub sender : step.proc ≡ q
  pub sends : act_sends step.act ≡ true

pub IsSentIn-from_test : (steps : List Step) (q r s : ℕ) → is_sent_in steps q r s ≡ true → IsSentIn steps q r s
IsSentIn-from_test steps q r s h =
    let parts = and_parts (round_at steps q s == r) (option_map_or (λ x. x.proc == q && act_sends x.act) (step_at steps s) false) h in
    let at = IsStepWith-from_test (λ x. x.proc == q && act_sends x.act) steps s parts.1 in
    let said = and_parts (at.step.proc == q) (act_sends at.step.act) at.passes in
    record {
      round = eqb-true (round_at steps q s) r parts.0;
      step = at.step;
      stands = at.stands;
      sender = eqb-true at.step.proc q said.0;
      sends = said.1;
    }

pub is_sent_in-from_send : (steps : List Step) (q r s : ℕ) → IsSentIn steps q r s → is_sent_in steps q r s ≡ true
is_sent_in-from_send steps q r s is =
    and_from (round_at steps q s == r) (option_map_or (λ x. x.proc == q && act_sends x.act) (step_at steps s) false)
    (eq-eqb (round_at steps q s) r is.round)
    (test-from_step (λ x. x.proc == q && act_sends x.act) steps s is.step is.stands
    (and_from (is.step.proc == q) (act_sends is.step.act) (eq-eqb is.step.proc q is.sender) is.sends))

-- a step of p took message s
pub record IsTakenBy (steps : List Step) (p s : ℕ) : Type 0 where
  pub place : ℕ
  pub step : Step
  pub stands : step_at steps place ≡ Some step
  pub taker : step.proc ≡ p
  pub taken : Contains (act_ids step.act) s

-- p heard q in round r, which it has passed: a step of p took a message of q of that round in time
pub record IsHeard (steps : List Step) (p r q : ℕ) : Type 0 where
  pub over : r ≤ passed steps p
  pub message : ℕ
  pub take : IsTakenBy steps p message
  pub in_time : round_at steps p take.place ≤ r
  pub sent : IsSentIn steps q r message

pub IsHeard-from_table : (steps : List Step) (p r q : ℕ) → heard_table steps p r q ≡ true → IsHeard steps p r q
unfolding heard_table
IsHeard-from_table steps p r q h =
    let parts = and_parts (nat_le r (passed steps p)) (list_any (λ k. hears_at steps p r q k) (numbers steps)) h in
    let k = list_any-found (λ k. hears_at steps p r q k) (numbers steps) parts.1 in
    let takes : Step → Bool = λ x. x.proc == p && list_any (λ s. is_sent_in steps q r s) (act_ids x.act) in
    let at = and_parts (nat_le (round_at steps p k.0) r) (option_map_or takes (step_at steps k.0) false) k.2 in
    let x = IsStepWith-from_test takes steps k.0 at.1 in
    let does = and_parts (x.step.proc == p) (list_any (λ s. is_sent_in steps q r s) (act_ids x.step.act)) x.passes in
    let s = list_any-found (λ s. is_sent_in steps q r s) (act_ids x.step.act) does.1 in
    record {
      over = leb-true r (passed steps p) parts.0;
      message = s.0;
      take = record {
        place = k.0;
        step = x.step;
        stands = x.stands;
        taker = eqb-true x.step.proc p does.0;
        taken = s.1;
      };
      in_time = leb-true (round_at steps p k.0) r at.0;
      sent = IsSentIn-from_test steps q r s.0 s.2;
    }

-- the number of a step is one of the numbers
pub Contains-numbers : (steps : List Step) (k : ℕ) → 1 ≤ k → k ≤ length steps → Contains (numbers steps) k
Contains-numbers steps k low high =
    let long : length (numbers steps) ≡ length steps = length-range_with_len 1 (length steps) in
    let is : get_or (numbers steps) (k - 1) k ≡ 1 + (k - 1) = get_or-range_with_len 1 (length steps) (k - 1) k (omega arith) in
    (k - 1, omega arith, omega arith)

pub heard_table-from_heard : (steps : List Step) (p r q : ℕ) → IsHeard steps p r q → heard_table steps p r q ≡ true
unfolding heard_table
heard_table-from_heard steps p r q is =
    let t = is.take in
    let takes : Step → Bool = λ x. x.proc == p && list_any (λ s. is_sent_in steps q r s) (act_ids x.act) in
    let within = step_at_within steps t.place t.step t.stands in
    and_from (nat_le r (passed steps p)) (list_any (λ k. hears_at steps p r q k) (numbers steps))
    (le-leb r (passed steps p) is.over)
    (list_any-at (λ k. hears_at steps p r q k) (numbers steps) t.place
    (Contains-numbers steps t.place (omega arith) within.1)
    (and_from (nat_le (round_at steps p t.place) r) (option_map_or takes (step_at steps t.place) false)
    (le-leb (round_at steps p t.place) r is.in_time)
    (test-from_step takes steps t.place t.step t.stands
    (and_from (t.step.proc == p) (list_any (λ s. is_sent_in steps q r s) (act_ids t.step.act))
    (eq-eqb t.step.proc p t.taker)
    (list_any-at (λ s. is_sent_in steps q r s) (act_ids t.step.act) is.message t.taken
    (is_sent_in-from_send steps q r is.message is.sent))))))

pub same_tests : (a b : Bool) → (a ≡ true → b ≡ true) → (b ≡ true → a ≡ true) → a ≡ b
same_tests true b f g = sym (f refl)
same_tests false true f g = g refl
same_tests false false f g = refl

-- a message of a prefix, and of the whole
IsSentIn-same : (steps other : List Step) (q r s : ℕ) → round_at other q s ≡ round_at steps q s
    → step_at other s ≡ step_at steps s → IsSentIn steps q r s → IsSentIn other q r s
IsSentIn-same steps other q r s round step is = record {
  round = round ∙ is.round;
  step = is.step;
  stands = step ∙ is.stands;
  sender = is.sender;
  sends = is.sends;
}

pub IsSentIn-longer : (steps more : List Step) (q r s : ℕ) → s ≤ length steps → IsSentIn steps q r s
    → IsSentIn (steps ++ more) q r s
IsSentIn-longer steps more q r s l = IsSentIn-same steps
    (steps ++ more) q r s (round_at-prefix steps more q s (omega arith)) (step_at-prefix steps more s l)

pub IsSentIn-prefix : (steps more : List Step) (q r s : ℕ) → s ≤ length steps → IsSentIn (steps ++ more) q r s
    → IsSentIn steps q r s
IsSentIn-prefix steps more q r s l =
    IsSentIn-same (steps ++ more) steps q r s (sym (round_at-prefix steps more q s (omega arith)))
    (sym (step_at-prefix steps more s l))

-- what was heard stays heard
IsHeard-longer : (c : Setup) (steps more : List Step) (p r q : ℕ) → IsWellFormed c steps → IsHeard steps p r q
    → IsHeard (steps ++ more) p r q
IsHeard-longer c steps more p r q w is =
    let t = is.take in
    let b = step_at_within steps t.place t.step t.stands in
    let e = w.earlier t.place is.message t.step t.stands t.taken in
    let l = e.0 in
    let within = b.1 in
    record {
      over = (let o = is.over in let m = passed-append steps more p in omega arith);
      message = is.message;
      take = record {
        place = t.place;
        step = t.step;
        stands = step_at-prefix steps more t.place within ∙ t.stands;
        taker = t.taker;
        taken = t.taken;
      };
      in_time = (let same = round_at-prefix steps more p t.place (omega arith) in let i = is.in_time in omega arith);
      sent = IsSentIn-longer steps more q r is.message (omega arith) is.sent;
    }

-- and in a round that is over nothing more is heard
IsHeard-prefix : (c : Setup) (steps more : List Step) (p r q : ℕ) → IsWellFormed c steps → r ≤ passed steps p
    → IsHeard (steps ++ more) p r q → IsHeard steps p r q
IsHeard-prefix c steps more p r q w over is = go is.take is.in_time (cases_lt (length steps) is.take.place)
  where
    go : (t : IsTakenBy (steps ++ more) p is.message) → round_at (steps ++ more) p t.place ≤ r
        → (length steps < t.place) ⊎ (t.place ≤ length steps) → IsHeard steps p r q
    go t early (inl late) = absurd (let past = round_at-past steps more p t.place late in omega arith)
    go t early (inr within) =
        let stands : step_at steps t.place ≡ Some t.step = sym (step_at-prefix steps more t.place within) ∙ t.stands in
        let e = w.earlier t.place is.message t.step stands t.taken in
        let l = e.0 in
        let same = round_at-prefix steps more p t.place (omega arith) in
        record {
          over = over;
          message = is.message;
          take = record { place = t.place; step = t.step; stands = stands; taker = t.taker; taken = t.taken };
          in_time = omega arith;
          sent = IsSentIn-prefix steps more q r is.message (omega arith) is.sent;
        }

-- a row of a round that is over
pub heard_table-prefix : (c : Setup) (steps more : List Step) (p r q : ℕ) → IsWellFormed c steps → r ≤ passed steps p
    → heard_table steps p r q ≡ heard_table (steps ++ more) p r q
heard_table-prefix c steps more p r q w over =
    same_tests (heard_table steps p r q) (heard_table (steps ++ more) p r q)
    (λ h. heard_table-from_heard (steps ++ more) p r q (IsHeard-longer c steps more p r q w (IsHeard-from_table steps p r q h)))
    (λ h. heard_table-from_heard steps p r q (IsHeard-prefix c steps more p r q w over (IsHeard-from_table (steps ++ more) p r q h)))

-- who is heard in a round had passed all rounds before it
pub heard_table-sender : (steps : List Step) (p rounds q : ℕ) → heard_table steps p (suc rounds) q ≡ true
    → rounds ≤ passed steps q
heard_table-sender steps p rounds q h =
    let is = IsHeard-from_table steps p (suc rounds) q h in
    omega (arith, passed-before steps q is.message, is.sent.round)

-- the nodes of the rounds that their processors have passed are settled
pub passed-settled : (c : Setup) (steps more : List Step) → IsWellFormed c steps
    → IsSettled c (heard_table steps) (heard_table (steps ++ more)) (λ p r. r ≤ passed steps p)
passed-settled c steps more w = record {
  earlier = λ p rounds s. omega arith;
  rows = λ p rounds q s is. heard_table-prefix c steps more p (suc rounds) q w s;
  senders = λ p rounds q s is h. heard_table-sender steps p rounds q h;
}

-- so they are the same in each longer trace
pub state_after-prefix : (c : Setup) (steps more : List Step) (rounds p : ℕ) → IsWellFormed c steps
    → rounds ≤ passed steps p
    → state_after c (heard_table steps) rounds p ≡ state_after c (heard_table (steps ++ more)) rounds p
state_after-prefix c steps more rounds p w over =
    state_after-settled c (heard_table steps) (heard_table (steps ++ more)) (λ p r. r ≤ passed steps p)
    (passed-settled c steps more w) rounds p over
