-- Messages that may be taken.
use Rattle.std.proofs.Common.{ℕ, ◌≡◌, List, Option, Some, None, Bool, true, false, ◌&&◌, refl, find, not, Contains}
use Rattle.std.specs.Option.{option_map_or}
use Rattle.std.proofs.lemmas.Bool.{not_from_true, not-false, not-true}
use Rattle.step_trace.specs.declared.steps.Act.{Act}
use Rattle.step_trace.specs.declared.steps.Act.TheVariants.{Send, Receive}
use Rattle.step_trace.specs.declared.steps.Step.{Step}
use Rattle.step_trace.specs.Steps.{act_sends, act_sends_to}
use Rattle.step_trace.specs.Traces.{step_at}
use Rattle.step_trace.specs.PlacedSteps.{Ticked}
use Rattle.step_trace.specs.PushRefusals.{is_message, is_sent_to, is_rising, ids_refusal}
use Rattle.step_trace.specs.TickRefusals.{is_sent_in}
use Rattle.step_trace.specs.Takes.{can_take}
use Rattle.step_trace.proofs.FittingSteps.{find-none}
use Rattle.step_trace.proofs.Refusals.{find_all}

-- what is sent to somebody is a message
sent_is-message : (steps : List Step) (s p : ℕ) → is_sent_to steps s p ≡ true → is_message steps s ≡ true
sent_is-message steps s p h = at (step_at steps s) h where
  by : (a : Act) → act_sends_to a p ≡ true → act_sends a ≡ true
  by (Send to) k = refl
  by (Receive ends ids) k = cc k

  at : (x : Option Step) → option_map_or (λ y. act_sends_to y.act p) x false ≡ true → option_map_or (λ y. act_sends y.act) x false ≡ true
  at None k = cc k
  at (Some y) k = by y.act k

each_of : (a b c : Bool) → (a && b && c) ≡ true → (a ≡ true) × (b ≡ true) × (c ≡ true)
each_of true true true h = (refl, refl, refl)
each_of true true false h = cc h
each_of true false c h = cc h
each_of false b c h = cc h

-- if each message can be taken, no reason holds against rising ids
pub no_refusal : (placed : Ticked) (taken : ℕ → Bool) (tick p : ℕ) (ids : List ℕ) → is_rising ids ≡ true → find
    (λ s. not (can_take placed taken tick p s)) ids ≡ None → ids_refusal placed.steps (is_sent_in placed.ticks tick) taken p ids ≡ None
no_refusal placed taken tick p ids rising none =
    let parts : (s : ℕ) → Contains ids s → (is_sent_to placed.steps s p ≡ true)
    × (not (is_sent_in placed.ticks tick s) ≡ true) × (not (taken s) ≡ true) =
    λ s d. each_of _ _ _ (not-false _ (find_all (λ i. not (can_take placed taken tick p i)) ids none s d)) in
    let known = find-none (λ s. not (is_message placed.steps s)) ids
    (λ s d. not_from_true _ (sent_is-message placed.steps s p (parts s d).0)) in
    let addressed = find-none (λ s. not (is_sent_to placed.steps s p)) ids (λ s d. not_from_true _ (parts s d).0) in
    let before = find-none (is_sent_in placed.ticks tick) ids (λ s d. not-true _ (parts s d).1) in
    let untaken = find-none taken ids (λ s d. not-true _ (parts s d).2) in
    rw (rising, known, addressed, before, untaken) refl
