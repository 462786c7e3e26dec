-- Events within so many nodes are those of so many processors.
use Rattle.std.proofs.Common.{◌≡◌, ℕ, zero, suc, ◌<◌, arith, List, [], ◌∷◌, length, map}
use Rattle.std.specs.Prelude.{Some, slice_get, All}
use Rattle.std.proofs.lemmas.List.Elements.{All-head, All-tail}
use Rattle.timed_events.specs.Checks.{AreMeant, GoesWithin, processor_at}
use Rattle.timed_events.specs.declared.events.Event.{Event}
use Rattle.timed_events.specs.declared.events.EventAct.{EventAct}
use Rattle.timed_events.specs.declared.events.EventAct.TheVariants as act
use Rattle.event_log.specs.Events.{seen, seen_act}
use Rattle.event_log.specs.SoundLogs.{IsNumber, IsWithin, SendsWithin}

pub within-at : (n : ℕ) (events : List Event) (i : ℕ) (e : Event)
    → All (IsWithin n) (map seen events) → slice_get events i ≡ Some e → IsWithin n (seen e)
within-at n [] i e h k = cc k
within-at n (x ∷ xs) zero e h k = let same : x ≡ e = cc k in rw (← same) (All-head (IsWithin n) (seen x) (map seen xs) h)
within-at n (x ∷ xs) (suc i) e h k = within-at n xs i e (All-tail (IsWithin n) (seen x) (map seen xs) h) k

processor-within : (n : ℕ) (events : List Event) (i : ℕ)
    → All (IsWithin n) (map seen events) → i < length events → IsNumber n (processor_at events i)
processor-within n [] i h lt = absurd (omega (arith, lt))
processor-within n (x ∷ xs) zero h lt = (All-head (IsWithin n) (seen x) (map seen xs) h).0
processor-within n (x ∷ xs) (suc i) h lt = processor-within n xs i (All-tail (IsWithin n) (seen x) (map seen xs) h) (omega (arith, lt))

goes-within : (n : ℕ) (a : EventAct) → SendsWithin n (seen_act a) → GoesWithin n a
goes-within n (act.Send to) h = h
goes-within n (act.Receive messages) h = tt

pub are-meant : (n : ℕ) (events : List Event) → All (IsWithin n) (map seen events) → AreMeant events n
are-meant n events h i lt =
    let p = processor-within n events i h lt in
    record { least = p.0; most = p.1; to = λ e k. goes-within n e.act (within-at n events i e h k).1 }
