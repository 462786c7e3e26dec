-- What follows from the briefs of events.
use Rattle.std.proofs.Common.{ℕ, ◌≡◌, ◌<◌, ◌≤◌, Option, None, true, false, List, [], ◌∷◌, length, map, get_or, min, Some, zero, suc, refl, sym, ap, ◌∙◌, arith}
use Rattle.std.specs.Prelude.{slice_get}
use Rattle.std.specs.Option.{option_map_or}
use Rattle.std.proofs.lemmas.Bool.{eqb-true}
use Rattle.step_trace.specs.declared.configurations.TheConstants.{MAX_PROCESSORS}
use Rattle.timed_events.specs.declared.walk_briefs.WalkBrief.{WalkBrief}
use Rattle.timed_events.specs.declared.events.Event.{Event}
use Rattle.timed_events.specs.declared.events.EventAct.{EventAct}
use Rattle.timed_events.specs.declared.events.EventAct.TheVariants.{Send, Receive}
use Rattle.timed_events.specs.Briefs.{sent_to}
use Rattle.timed_events.specs.Checks.{is_for, messages_at, processor_at, received_in, sends_to}
use Rattle.timed_events.specs.WalkBriefs.{count_of, message_of, walk_brief_of}
use Rattle.timed_events.proofs.BriefEvents.{event-at}

brief-at : (events : List Event) (i : ℕ) (e : Event) (d : WalkBrief)
    → slice_get events i ≡ Some e → get_or (map walk_brief_of events) i d ≡ walk_brief_of e
brief-at [] i e d h = absurd (cc)
brief-at (x ∷ xs) zero e d h = let same : x ≡ e = cc in ap walk_brief_of same
brief-at (x ∷ xs) (suc i) e d h = brief-at xs i e d h

brief-processor : (events : List Event) (place : ℕ) (e : Event) (b : WalkBrief)
    → slice_get events place ≡ Some e → b ≡ walk_brief_of e → processor_at events place ≤ MAX_PROCESSORS → b.processor ≡ e.processor
brief-processor events place e b at same most =
    let p = ap (λ o. option_map_or (λ x. x.processor) o 0) at in
    let q = ap (λ x. x.processor) same in
    omega arith

no-messages : (ms : List (Option ℕ)) → count_of ms ≡ 0 → [] ≡ ms
no-messages [] h = refl
no-messages (None ∷ ms) h = absurd (cc h)
no-messages (Some s ∷ []) h = absurd (cc h)
no-messages (Some s ∷ m ∷ ms) h = absurd (cc h)

one-message : (ms : List (Option ℕ)) → count_of ms ≡ 1 → Some (message_of ms) ∷ [] ≡ ms
one-message [] h = absurd (cc h)
one-message (None ∷ ms) h = absurd (cc h)
one-message (Some s ∷ []) h = refl
one-message (Some s ∷ m ∷ ms) h = absurd (cc h)

sent-to : (a : EventAct) (p : ℕ) → p ≤ MAX_PROCESSORS → sends_to a p ≡ true → min (sent_to a) 255 ≡ p
sent-to (Send to) p most h = let e = eqb-true to p h in omega arith
sent-to (Receive messages) p most h = absurd (cc h)

-- what is read of the brief at a place
module _ (events : List Event) (briefs : List WalkBrief)
    (place : ℕ) (d : WalkBrief) (same : briefs ≡ map walk_brief_of events) (inside : place < length events) where
  of_event : (e : Event) × (slice_get events place ≡ Some e) × (get_or briefs place d ≡ walk_brief_of e)
  of_event = let e = event-at events place inside in (e.0, e.1, ap (λ bs. get_or bs place d) same ∙ brief-at events place e.0 d e.1)

  pub processor-of_brief : processor_at events place ≤ MAX_PROCESSORS → (get_or briefs place d).processor ≡ processor_at events place
  processor-of_brief most = let e = of_event in brief-processor events place e.0 (get_or briefs place d) e.1 e.2 most
      ∙ sym (ap (λ o. option_map_or (λ x. x.processor) o 0) e.1)

  pub none-of_brief : (get_or briefs place d).count ≡ 0 → [] ≡ messages_at events place
  none-of_brief h = let e = of_event in no-messages (received_in e.0.act) (sym (ap (λ x. x.count) e.2) ∙ h)
      ∙ sym (ap (λ o. option_map_or (λ x. received_in x.act) o []) e.1)

  pub one-of_brief : (get_or briefs place d).count ≡ 1 → Some (get_or briefs place d).message ∷ [] ≡ messages_at events place
  one-of_brief h = let e = of_event in ap (λ x. Some x.message ∷ []) e.2 ∙ one-message
      (received_in e.0.act) (sym (ap (λ x. x.count) e.2) ∙ h) ∙ sym (ap (λ o. option_map_or (λ x. received_in x.act) o []) e.1)

  pub receiver-of_brief : (p : ℕ) → p ≤ MAX_PROCESSORS → is_for events place p ≡ true → (get_or briefs place d).to ≡ p
  receiver-of_brief p most h = let e = of_event in
      ap (λ x. x.to) e.2 ∙ sent-to e.0.act p most (sym (ap (λ o. option_map_or (λ x. sends_to x.act p) o false) e.1) ∙ h)
