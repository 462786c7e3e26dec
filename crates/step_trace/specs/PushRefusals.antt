-- The reasons against one more step, in their order.
use Rattle.std.specs.Prelude.{ℕ, ◌≡◌, ◌<◌, List, [], ◌∷◌, length, Option, Some, None, Bool, true}
use Rattle.std.specs.Prelude.{false, ◌&&◌, Contains, nat_lt, not, find, if◌then◌else◌}
use Rattle.std.specs.List.{list_any}
use Rattle.std.specs.Option.{option_map_or}
use Rattle.step_trace.specs.declared.steps.Act.{Act}
use Rattle.step_trace.specs.declared.steps.Act.TheVariants.{Send, Receive}
use Rattle.step_trace.specs.declared.steps.Step.{Step}
use Rattle.step_trace.specs.declared.traces.TheConstants.{MAX_STEPS}
use Rattle.step_trace.specs.declared.traces.PushError.{PushError}
use Rattle.step_trace.specs.declared.traces.PushError.TheVariants.{Full, BadProc, BadDest, IdsNotRising, UnknownMessage}
use Rattle.step_trace.specs.declared.traces.PushError.TheVariants.{NotAddressed, SameTick, Redelivered, Memory}
use Rattle.step_trace.specs.Configurations.{Setup, is_proc}
use Rattle.step_trace.specs.Steps.{act_sends_to, act_sends, act_takes}
use Rattle.step_trace.specs.Traces.{step_at}

-- whether some step takes message s
abbrev pub is_taken : List Step → ℕ → Bool
is_taken steps s = list_any (λ x. act_takes x.act s) steps

-- whether the step of number s is a Send
abbrev pub is_message : List Step → ℕ → Bool
is_message steps s = option_map_or (λ x. act_sends x.act) (step_at steps s) false

-- whether the step of number s is a Send to p
abbrev pub is_sent_to : List Step → ℕ → ℕ → Bool
is_sent_to steps s p = option_map_or (λ x. act_sends_to x.act p) (step_at steps s) false

-- whether each id is above the one before
abbrev pub is_rising_from : ℕ → List ℕ → Bool
is_rising_from x [] = true
is_rising_from x (y ∷ ys) = nat_lt x y && is_rising_from y ys

abbrev pub is_rising : List ℕ → Bool
is_rising [] = true
is_rising (x ∷ xs) = is_rising_from x xs

-- the reason that the first id gives, or else the next reason
abbrev pub first_id : Option ℕ → (ℕ → PushError) → Option PushError → Option PushError
first_id None why next = next
first_id (Some s) why next = Some (why s)

-- the first reason against a Receive of these ids by p, by tests of which messages were sent in its tick and
-- which were taken
abbrev pub ids_refusal : List Step → (ℕ → Bool) → (ℕ → Bool) → ℕ → List ℕ → Option PushError
ids_refusal steps now taken p ids =
    if is_rising ids then
    first_id (find (λ s. not (is_message steps s)) ids) (λ s. UnknownMessage s)
    (first_id (find (λ s. not (is_sent_to steps s p)) ids) (λ s. NotAddressed s)
    (first_id (find now ids) (λ s. SameTick s)
    (first_id (find taken ids) (λ s. Redelivered s) None)))
    else Some IdsNotRising

-- the first reason against an act of p, by a test of which messages were sent in its tick
abbrev pub act_refusal : Setup → List Step → (ℕ → Bool) → ℕ → Act → Option PushError
act_refusal c steps now p (Send to) = if is_proc c to then None else Some BadDest
act_refusal c steps now p (Receive ends ids) = ids_refusal steps now (is_taken steps) p ids

-- the first reason against one more step in a tick of its own, in which no message was sent; out of memory aside
abbrev pub refusal : Setup → List Step → Step → Option PushError
refusal c steps x =
    if nat_lt (length steps) MAX_STEPS then
    (if is_proc c x.proc then act_refusal c steps (λ s. false) x.proc x.act else Some BadProc)
    else Some Full

-- the answer is this reason, or out of memory if there is none
abbrev pub IsRefusal : PushError → Option PushError → Type 0
IsRefusal Memory why = why ≡ None
IsRefusal e why = why ≡ Some e

-- s is the least of these ids that fails the test
pub record IsLeastFailing (test : ℕ → Bool) (ids : List ℕ) (s : ℕ) : Type 0 where
  pub member : Contains ids s
  pub fails : test s ≡ false
  pub least : (i : ℕ) → Contains ids i → i < s → test i ≡ true
