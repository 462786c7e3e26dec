-- The clocks of events are aligned in one way, by what is seen of the events.
use Rattle.std.proofs.Common.{ℕ, suc, ◌≡◌, ◌<◌, ◌∙◌, Bool, true, false, List, [], ◌∷◌, length, map, Option, Some, None, refl, sym, ap, ap₂, subst, arith, ℤ, ◌+ℤ◌, ◌<ℤ◌}
use Rattle.std.specs.Prelude.{All, ◌-◌}
use Rattle.std.proofs.lemmas.List.Elements.{All-cons, All-head, All-nil, All-tail}
use Rattle.timed_events.specs.declared.cause_cycles.Hop.{Hop}
use Rattle.timed_events.specs.declared.events.Event.{Event}
use Rattle.timed_events.specs.Checks.{time_at}
use Rattle.timed_events.specs.Received.{hops_of}
use Rattle.clock_offsets.specs.EventNeeds.{AreClockOffsets, AreInOrder, IsInOrder, clock_at, offset_in}
use Rattle.clock_offsets.specs.MovedClocks.{moved_event}
use Rattle.clock_offsets.proofs.ClockOffsets.{same-both}
use Rattle.event_log.specs.declared.times.TimeKind.{TimeKind}
use Rattle.event_log.specs.Alignments.{AreAligned}
use Rattle.event_log.specs.Events.{Seen, seen}
use Rattle.event_log.proofs.SeenEvents.{hops-same, processors-same, times-same}

-- what is in order by the one events is so by the others
order-same : (xs ys : List Event) → map seen xs ≡ map seen ys → (x : ℕ → ℤ) → AreInOrder xs x → AreInOrder ys x
order-same xs ys e x o = subst (λ hops. All (IsInOrder ys x) hops) (hops-same xs ys e) (each (hops_of xs) o) where
  moved : (i : ℕ) → (time_at xs i +ℤ x (clock_at xs i)) ≡ (time_at ys i +ℤ x (clock_at ys i))
  moved i = ap₂ (λ (t : ℤ) (p : ℕ). t +ℤ x (p - 1)) (times-same xs ys e i) (processors-same xs ys e i)

  one : (hop : Hop) → IsInOrder xs x hop → IsInOrder ys x hop
  one hop h = subst (λ t. t <ℤ (time_at ys hop.event +ℤ x (clock_at ys hop.event)))
      (moved hop.message) (subst (λ t. (time_at xs hop.message +ℤ x (clock_at xs hop.message)) <ℤ t) (moved hop.event) h)

  each : (hops : List Hop) → All (IsInOrder xs x) hops → All (IsInOrder ys x) hops
  each [] a = All-nil (IsInOrder ys x)
  each (h ∷ hs) a = All-cons (IsInOrder ys x) h hs (one h (All-head (IsInOrder xs x) h hs a)) (each hs (All-tail (IsInOrder xs x) h hs a))

-- lists of one length with the same offsets are one
same-lists : (xs ys : List ℤ) → length xs ≡ length ys → ((i : ℕ) → i < length xs → offset_in xs i ≡ offset_in ys i) → xs ≡ ys
same-lists [] [] e h = refl
same-lists [] (y ∷ ys) e h = absurd (omega (arith, e))
same-lists (x ∷ xs) [] e h = absurd (omega (arith, e))
same-lists (x ∷ xs) (y ∷ ys) e h = ap₂ (λ (z : ℤ) (zs : List ℤ). z ∷ zs)
    (h 0 (omega arith)) (same-lists xs ys (omega (arith, e)) (λ i l. h (suc i) (omega (arith, l))))

offsets-same : (n : ℕ) (xs ys : List Event) → map seen xs ≡ map seen ys
    → (a b : List ℤ) → AreClockOffsets n xs a → AreClockOffsets n ys b → a ≡ b
offsets-same n xs ys e a b s t = same-lists a b (s.long ∙ sym t.long)
    (λ i l. same-both (offset_in a i) (offset_in b i)
    (s.least (offset_in b) (order-same ys xs (sym e) (offset_in b) t.ordered) t.forward i
    (subst (λ m. i < m) s.long l)) (t.least (offset_in a) (order-same xs ys e (offset_in a) s.ordered) s.forward
    i (subst (λ m. i < m) s.long l)))

-- what is seen of a moved event goes by what is seen of the event
moved_seen : List ℤ → Seen → Seen
moved_seen offsets s = record { time = s.time +ℤ offset_in offsets (s.processor - 1); processor = s.processor; act = s.act }

moved-seen : (offsets : List ℤ) (xs : List Event) → map seen (map (moved_event offsets) xs) ≡ map (moved_seen offsets) (map seen xs)
unfolding moved_seen
moved-seen offsets [] = refl
moved-seen offsets (x ∷ xs) = ap (λ (ss : List Seen). moved_seen offsets (seen x) ∷ ss) (moved-seen offsets xs)

pub aligned-once : (align : Bool) (kind : TimeKind) (n : ℕ) (xs ys : List Event) (a b : Option (List ℤ)) (ms ns : List Event)
    → map seen xs ≡ map seen ys → AreAligned align kind n xs a ms → AreAligned align kind n ys b ns
    → (a ≡ b) × (map seen ns ≡ map seen ms)
aligned-once false kind n xs ys a b ms ns e s t = (s.0 ∙ sym t.0, ap (map seen) t.1 ∙ sym e ∙ sym (ap (map seen) s.1))
aligned-once true kind n xs ys None b ms ns e s t = absurd s
aligned-once true kind n xs ys (Some a) None ms ns e s t = absurd t
aligned-once true kind n xs ys (Some a) (Some b) ms ns e s t = (ap (λ (o : List ℤ). Some o) same, moved) where
  same : a ≡ b
  same = offsets-same n xs ys e a b s.least t.least

  moved : map seen ns ≡ map seen ms
  moved =
      ap (map seen) t.moved_are ∙ moved-seen b ys ∙ ap₂ (λ (o : List ℤ) (ss : List Seen). map (moved_seen o) ss) (sym same) (sym e)
      ∙ sym (moved-seen a xs) ∙ sym (ap (map seen) s.moved_are)
