-- A text and options have one log, with aligned clocks or not.
use Rattle.std.proofs.Common.{ℕ, ◌≡◌, ◌∙◌, List, [], ◌∷◌, length, map, Result, Ok, refl, sym, ap, ap₂, subst}
use Rattle.timed_events.specs.declared.events.Event.{Event}
use Rattle.timed_events.specs.declared.events.EventAct.{EventAct}
use Rattle.timed_events.specs.declared.events.EventAct.TheVariants as act
use Rattle.event_log.specs.declared.options.Options.{Options}
use Rattle.event_log.specs.declared.refusals.LogError.{LogError}
use Rattle.event_log.specs.Alignments.{AreAligned}
use Rattle.event_log.specs.Events.{Seen, seen, seen_act}
use Rattle.event_log.specs.Imports.{IsAlignedLogOf}
use Rattle.event_log.specs.Logs.{SeenLog}
use Rattle.event_log.proofs.OneAlignment.{aligned-once}
use Rattle.event_log.proofs.OneImport.{IsRead-unique}

-- an event is what is seen of it
act-once : (a b : EventAct) → seen_act a ≡ seen_act b → a ≡ b
act-once (act.Send to) (act.Send other) e = let same : to ≡ other = cc e in ap act.Send same
act-once (act.Send to) (act.Receive messages) e = absurd (cc e)
act-once (act.Receive messages) (act.Send to) e = absurd (cc e)
act-once (act.Receive messages) (act.Receive others) e = let same : messages ≡ others = cc e in ap act.Receive same

event-once : (x y : Event) → seen x ≡ seen y → x ≡ y
event-once x y e =
    let time = ap (λ (s : Seen). s.time) e in
    let processor = ap (λ (s : Seen). s.processor) e in
    let does = act-once x.act y.act (ap (λ (s : Seen). s.act) e) in
    ap (λ t. let z : Event = record { time = t; processor = x.processor; act = x.act } in z) time
    ∙ ap₂ (λ p (a : EventAct). let z : Event = record { time = y.time; processor = p; act = a } in z) processor does

seen-once : (xs ys : List Event) → map seen xs ≡ map seen ys → xs ≡ ys
seen-once [] [] e = refl
seen-once [] (y ∷ ys) e = absurd (cc e)
seen-once (x ∷ xs) [] e = absurd (cc e)
seen-once (x ∷ xs) (y ∷ ys) e =
    let head : seen x ≡ seen y = cc e in
    let tail : map seen xs ≡ map seen ys = cc e in
    ap₂ (λ (z : Event) (zs : List Event). z ∷ zs) (event-once x y head) (seen-once xs ys tail)

same-log : {x y : SeenLog} → ◌≡◌ {A = Result SeenLog LogError} (Ok x) (Ok y) → x ≡ y
same-log e = cc e

pub aligned-log-once : (o : Options) (text : List ℕ) (ns ms : List (List ℕ)) (xs ys : List Event)
    → IsAlignedLogOf o text ns xs → IsAlignedLogOf o text ms ys → (ns ≡ ms) × (xs ≡ ys)
aligned-log-once o text ns ms xs ys s t =
    (s.nodes_are ∙ ap (λ (l : SeenLog). l.nodes) log ∙ sym t.nodes_are, seen-once xs ys (sym one.1)) where
      log : s.log ≡ t.log
      log = same-log (IsRead-unique o text (Ok s.log) (Ok t.log) s.read t.read)

      events : map seen s.events ≡ map seen t.events
      events = s.same ∙ ap (λ (l : SeenLog). l.events) log ∙ sym t.same

      one : (s.offsets ≡ t.offsets) × (map seen ys ≡ map seen xs)
      one = aligned-once o.align s.log.kind (length s.log.nodes) s.events t.events s.offsets t.offsets xs ys events s.clocks
          (subst (λ (l : SeenLog). AreAligned o.align l.kind (length l.nodes) t.events t.offsets ys) (sym log) t.clocks)
