-- The bounds of events with receives of nothing in short silences.
use Rattle.std.proofs.Common.{ℕ, ◌≡◌, ◌+◌, ◌<◌, ◌≤◌, ◌⊎◌, inl, inr, Bool, true, false, List, [], length, Contains, refl, sym, ap, ◌∙◌, arith}
use Rattle.std.specs.Prelude.{slice_index}
use Rattle.std.specs.Option.{option_map_or}
use Rattle.std.proofs.lemmas.Bool.{cases_lt, eqb-true}
use Rattle.std.proofs.lemmas.List.{length-map}
use Rattle.std.proofs.lemmas.List.Elements.{All-contains}
use Rattle.std.proofs.lemmas.Option.{slice_get_within}
use Rattle.idle_laws.proofs.Common.{Contains-nil, Event, Clock, IdleTick, processor_at, sends_to, AreIdle, HasEventIn}
use Rattle.idle_laws.proofs.Common.{IsIdleTick, AreTicks, HavePassed, time_tick, AreSilent, IsInShortSilence}
use Rattle.idle_laws.proofs.Common.{IsSilentTick}
use Rattle.idle_laws.proofs.AddedEvents.{poll_of}
use Rattle.idle_laws.proofs.EventBounds.{Acts, DeltaOfEvents, IsSending, IsTakenBy, Looks}
use Rattle.idle_laws.proofs.ReceivedMessages.{received-for}

-- as many ticks as events
pub ticks-long : (spread : Bool) (events : List Event) (clock : Clock) (ticks : List ℕ)
    → AreTicks spread events clock ticks → length ticks ≡ length events
ticks-long false events clock ticks e = ap length e ∙ length-map events (λ x. time_tick events clock x.time)
ticks-long true events clock ticks h = h.long

-- the receiver of a message takes it
taker-own : (spread : Bool) (events : List Event) (clock : Clock) (ticks : List ℕ) (set i b y : ℕ)
    → HavePassed spread events clock → IsSending set events i b → (h : IsTakenBy events ticks i y)
    → processor_at events h.place ≡ b
taker-own spread events clock ticks set i b y passed s h =
    let inside = slice_get_within events i s.event s.at in
    let for = received-for spread events clock h.place i passed h.inside inside h.takes in
    let sends = sym (ap (λ o. option_map_or (λ (e : Event). sends_to e.act (processor_at events h.place)) o false) s.at
    ∙ ap (λ a. sends_to a (processor_at events h.place)) s.act) ∙ for in
    sym (eqb-true b (processor_at events h.place) sends)

module _ (n : ℕ) (events : List Event) (clock : Clock) (spread : Bool) (ticks : List ℕ) (last limit : ℕ)
    (passed : HavePassed spread events clock) (idles polls : List IdleTick)
    (idle : AreIdle n events ticks last limit idles) (silent : AreSilent n events ticks last limit polls) where
  -- the last tick of a short silence is one of its ticks
  idle-polled : (p y : ℕ) → Contains idles (poll_of p y) → Contains polls (poll_of p y)
  idle-polled p y c =
      let h = All-contains (IsIdleTick n events ticks last limit) idles (poll_of p y) idle.each c in
      silent.all p y h.least h.most (record { end = y; is = h.end; after = h.end.silence.some; until = omega arith })

  polled : (p y : ℕ) → Contains polls (poll_of p y) → IsSilentTick n events ticks last limit (poll_of p y)
  polled p y c = All-contains (IsSilentTick n events ticks last limit) polls (poll_of p y) silent.each c

  -- what is taken by the end of a short silence is taken by each of its ticks
  taken-before : (set i b y : ℕ) → IsSending set events i b
      → (h : IsInShortSilence events ticks last limit b y) → IsTakenBy events ticks i h.end → IsTakenBy events ticks i y
  taken-before set i b y s h k = record {
    place = k.place;
    inside = k.inside;
    takes = k.takes;
    after = k.after;
    until = go (cases_lt h.is.silence.since (slice_index ticks k.place));
  } where
    go : (h.is.silence.since < slice_index ticks k.place) ⊎ (slice_index ticks k.place ≤ h.is.silence.since) → slice_index ticks k.place ≤ y
    go (inl later) = absurd (h.is.silence.silent (slice_index ticks k.place) later k.until
        (record { place = k.place; inside = k.inside; own = taker-own spread events clock ticks set i b h.end passed s k; at = refl }))
    go (inr before) = let a = h.after in omega arith

  pub more-polls : (set g d : ℕ) → DeltaOfEvents set events ticks idles g d → DeltaOfEvents set events ticks polls g d
  more-polls set g d h = record { each = λ i b y s lo looks late. go i b y s lo late looks } where
    go : (i b y : ℕ) → IsSending set events i b → g ≤ slice_index ticks i
        → slice_index ticks i + d ≤ y → Looks events ticks polls b y → IsTakenBy events ticks i y
    go i b y s lo late (inl receives) = h.each i b y s lo (inl receives) late
    go i b y s lo late (inr c) =
        let q = polled b y c in
        let u = q.inside.until in
        taken-before set i b y s q.inside
        (h.each i b q.inside.end s lo (inr (idle.all b q.inside.end q.least q.most q.inside.is)) (omega arith))

  pub fewer-polls : (set g d : ℕ) → DeltaOfEvents set events ticks polls g d → DeltaOfEvents set events ticks idles g d
  fewer-polls set g d h = record { each = λ i b y s lo looks late. h.each i b y s lo (go b y looks) late } where
    go : (b y : ℕ) → Looks events ticks idles b y → Looks events ticks polls b y
    go b y (inl receives) = inl receives
    go b y (inr c) = inr (idle-polled b y c)

  -- a step stays a step
  pub sparse-full : (p y : ℕ) → Acts events ticks idles p y → Acts events ticks polls p y
  sparse-full p y (inl e) = inl e
  sparse-full p y (inr c) = inr (idle-polled p y c)

  -- a step in one of at least so many ticks as a short silence has
  pub full-sparse : (p x f y : ℕ) → 1 ≤ x → limit ≤ f
      → x ≤ y → y < x + f → Acts events ticks polls p y → (z : ℕ) × (x ≤ z) × (z < x + f) × Acts events ticks idles p z
  full-sparse p x f y one far from until (inl e) = (y, from, until, inl e)
  full-sparse p x f y one far from until (inr c) = go (cases_lt q.inside.end (x + f)) q.inside.is.silence.from where
    q : IsSilentTick n events ticks last limit (poll_of p y)
    q = polled p y c

    go : (q.inside.end < x + f) ⊎ (x + f ≤ q.inside.end) → (q.inside.is.silence.since ≡ 0)
        ⊎ HasEventIn events ticks p q.inside.is.silence.since
        → (z : ℕ) × (x ≤ z) × (z < x + f) × Acts events ticks idles p z
    go (inl within) since = let u = q.inside.until in
        (q.inside.end, omega arith, within, inr (idle.all p q.inside.end q.least q.most q.inside.is))
    go (inr past) (inl start) = let s = q.inside.is.silence.short in absurd (omega arith)
    go (inr past) (inr event) = let s = q.inside.is.silence.short in
        let a = q.inside.after in (q.inside.is.silence.since, omega arith, omega arith, inl event)

-- without receives of nothing
pub plain-delta : (set : ℕ) (events : List Event) (ticks : List ℕ) (idles : List IdleTick) (g d : ℕ)
    → DeltaOfEvents set events ticks idles g d → DeltaOfEvents set events ticks [] g d
plain-delta set events ticks idles g d h = record { each = λ i b y s lo looks late. h.each i b y s lo (go b y looks) late } where
  go : (b y : ℕ) → Looks events ticks [] b y → Looks events ticks idles b y
  go b y (inl receives) = inl receives
  go b y (inr c) = absurd (Contains-nil (poll_of b y) c)

pub plain-acts : (events : List Event) (ticks : List ℕ) (idles : List IdleTick) (p y : ℕ)
    → Acts events ticks [] p y → Acts events ticks idles p y
plain-acts events ticks idles p y (inl e) = inl e
plain-acts events ticks idles p y (inr c) = absurd (Contains-nil (poll_of p y) c)
