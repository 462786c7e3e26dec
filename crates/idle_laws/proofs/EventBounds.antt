-- The bounds of a trace of events and of receives of nothing, as the events have them.
use Rattle.std.proofs.Common.{ℕ, ◌≡◌, ◌+◌, ◌-◌, ◌<◌, ◌≤◌, ◌⊎◌, inl, inr, Bool, List, [], ◌++◌, length, map, get_or, Contains, IsTrue, Option, Some, None, refl, sym, ap, ap₂, ◌∙◌, subst, arith}
use Rattle.std.specs.Prelude.{slice_get, slice_index}
use Rattle.std.specs.Option.{option_map_or}
use Rattle.std.proofs.lemmas.Bool.{cases_lt}
use Rattle.std.proofs.lemmas.List.Elements.{Contains-get_or}
use Rattle.std.proofs.lemmas.List.Sorted.{Contains-permutation}
use Rattle.std.proofs.lemmas.Option.{same_Some, slice_get_within}
use Rattle.idle_laws.proofs.Common.{Act, Step, DeltaHolds, IsDelivered, IsMessage, StepsIn, tick_of, IsReceiveOf}
use Rattle.idle_laws.proofs.Common.{Recorded, step_at, Contains-from_map, Contains-map, Contains-nil, Event, EventAct}
use Rattle.idle_laws.proofs.Common.{Send, Receive, IdleTick, messages_at, received_in, AreReceives, HasEventIn}
use Rattle.idle_laws.proofs.Common.{IsOfNothing, ticks_of, IsActOf, IsTraceOf, sent_number, ids-from}
use Rattle.step_trace.specs.declared.steps.Act.TheVariants as act
use Rattle.step_trace.specs.Processors.{has_proc}
use Rattle.step_trace.specs.Steps.{act_dest, act_ids}
use Rattle.timed_events.proofs.IdleEvents.{received-at, get-right, get-left, nothing-received}
use Rattle.idle_laws.proofs.AddedEvents.{long-all, new-tick, old-tick, poll_of}
use Rattle.timed_events.proofs.BriefEvents.{event-at}
use Rattle.idle_laws.proofs.EventSteps.{EventOf, event-of, one-number, place-in, step-of}

-- event i is a Send between members, to b
pub record IsSending (set : ℕ) (events : List Event) (i b : ℕ) : Type 0 where
  pub event : Event
  pub at : slice_get events i ≡ Some event
  pub act : event.act ≡ Send b
  pub sender : IsTrue (has_proc set event.processor)
  pub receiver : IsTrue (has_proc set b)

abbrev IsReceive : EventAct → Type 0
IsReceive (Send to) = ⊥
IsReceive (Receive messages) = Unit {0}

-- an event is a receive by p in tick y
pub record ReceivesIn (events : List Event) (ticks : List ℕ) (p y : ℕ) : Type 0 where
  pub place : ℕ
  pub event : Event
  pub at : slice_get events place ≡ Some event
  pub own : event.processor ≡ p
  pub act : IsReceive event.act
  pub tick : slice_index ticks place ≡ y

-- p receives in tick y: by an event, or nothing
abbrev pub Looks : List Event → List ℕ → List IdleTick → ℕ → ℕ → Type 0
Looks events ticks polls p y = ReceivesIn events ticks p y ⊎ Contains polls (poll_of p y)

-- some event takes the message of event i, in a later tick than its own and by tick y
pub record IsTakenBy (events : List Event) (ticks : List ℕ) (i y : ℕ) : Type 0 where
  pub place : ℕ
  pub inside : place < length events
  pub takes : Contains (messages_at events place) (Some i)
  pub after : slice_index ticks i < slice_index ticks place
  pub until : slice_index ticks place ≤ y

-- the communication bound d holds from tick g of the events and of receives of nothing in these ticks
pub record DeltaOfEvents (set : ℕ) (events : List Event) (ticks : List ℕ) (polls : List IdleTick) (g d : ℕ) : Type 0 where
  pub each : (i b y : ℕ) → IsSending set events i b
      → g ≤ slice_index ticks i → Looks events ticks polls b y → slice_index ticks i + d ≤ y → IsTakenBy events ticks i y

-- p has a step in tick y: an event, or a receive of nothing
abbrev pub Acts : List Event → List ℕ → List IdleTick → ℕ → ℕ → Type 0
Acts events ticks polls p y = HasEventIn events ticks p y ⊎ Contains polls (poll_of p y)

nothing-is_receive : (act : EventAct) → IsOfNothing act → IsReceive act
nothing-is_receive (Send to) h = absurd h
nothing-is_receive (Receive messages) h = tt

-- what an act says of its event
sent-by : (numbers : List ℕ) (e : EventAct) (b : ℕ) → IsActOf numbers e (act.Send b) → e ≡ Send b
sent-by numbers (Send to) b h = ap (λ p. Send p) (sym (same_Some b to (ap act_dest h)))
sent-by numbers (Receive messages) b h = absurd (let e = ap act_dest h.1 in cc)

received-by : (numbers : List ℕ) (e : EventAct) (ends : Bool) (ids : List ℕ) → IsActOf numbers e (act.Receive ends ids) → IsReceive e
received-by numbers (Send to) ends ids h = absurd (let e = ap act_dest h in cc)
received-by numbers (Receive messages) ends ids h = tt

-- and an event of its act
receive-does : (numbers : List ℕ) (e : EventAct) (a : Act)
    → IsReceive e → IsActOf numbers e a → (ends : Bool) × (ids : List ℕ) × (a ≡ act.Receive ends ids)
receive-does numbers (Send to) a r h = absurd r
receive-does numbers (Receive messages) a r h = (Bool.false, h.0, h.1)

ids-of : (numbers : List ℕ) (e : EventAct) (a : Act) (s : ℕ)
    → IsActOf numbers e a → Contains (map (sent_number numbers) (received_in e)) s → Contains (act_ids a) s
ids-of numbers (Send to) a s h c = absurd (Contains-nil s c)
ids-of numbers (Receive messages) a s h c = subst (λ b. Contains (act_ids b) s) (sym h.1) (Contains-permutation _ _ s h.2.each c)

step-is : (x : Step) (p : ℕ) (a : Act) → x.proc ≡ p → x.act ≡ a → Some x ≡ Some (record { proc = p; act = a })
step-is x p a e f = ap₂ (λ (q : ℕ) (b : Act). let z : Step = record { proc = q; act = b } in Some z) e f

-- step k, which is x, is that of the event at this place
record OldStep (events : List Event) (ticks numbers : List ℕ) (trace : Recorded) (k : ℕ) (x : Step) : Type 0 where
  place : ℕ
  event : Event
  at : slice_get events place ≡ Some event
  number : slice_index numbers place ≡ k
  proc : x.proc ≡ event.processor
  does : IsActOf numbers event.act x.act
  tick : tick_of trace k ≡ slice_index ticks place

-- step k, which is x, is a receive of nothing
record NewStep (numbers : List ℕ) (polls : List IdleTick) (trace : Recorded) (k : ℕ) (x : Step) : Type 0 where
  act : EventAct
  nothing : IsOfNothing act
  does : IsActOf numbers act x.act
  poll : Contains polls (poll_of x.proc (tick_of trace k))

-- the step of an event, in this tick
record StepAt (numbers : List ℕ) (trace : Recorded) (place : ℕ) (event : Event) (tick : ℕ) : Type 0 where
  step : Step
  at : step_at trace.steps (slice_index numbers place) ≡ Some step
  proc : step.proc ≡ event.processor
  does : IsActOf numbers event.act step.act
  tick_is : tick_of trace (slice_index numbers place) ≡ tick

-- the step of a receive of nothing by p in tick y
record PollAt (numbers : List ℕ) (trace : Recorded) (p y : ℕ) : Type 0 where
  place : ℕ
  event : Event
  own : event.processor ≡ p
  nothing : IsOfNothing event.act
  step_of : StepAt numbers trace place event y

-- a trace of events and of receives of nothing behind them
module _ (n : ℕ) (events added : List Event) (ticks : List ℕ) (last : ℕ) (polls : List IdleTick) (trace : Recorded)
    (long : length ticks ≡ length events) (r : AreReceives polls added)
    (t : IsTraceOf n (events ++ added) (ticks ++ ticks_of polls) last trace) where
  abbrev all : List Event
  all = events ++ added

  abbrev all_ticks : List ℕ
  all_ticks = ticks ++ ticks_of polls

  step-cases : (k : ℕ) (x : Step) → step_at trace.steps k ≡ Some x
      → OldStep events ticks t.numbers trace k x ⊎ NewStep t.numbers polls trace k x
  step-cases k x e = go (event-of n all all_ticks last trace t k x e) where
    old : (f : EventOf all all_ticks t.numbers trace k x) → f.place < length events → OldStep events ticks t.numbers trace k x
    old f l = record {
      place = f.place;
      event = f.is.event;
      at = sym (get-left events added f.place l) ∙ f.is.at;
      number = f.number;
      proc = f.is.proc;
      does = f.is.does;
      tick = f.tick ∙ old-tick events added ticks polls long r f.place l;
    }

    new : (f : EventOf all all_ticks t.numbers trace k x) → length events ≤ f.place → NewStep t.numbers polls trace k x
    new f l =
        let m = long-all events added ticks polls long r in
        let j = f.place - length events in
        let at : f.place ≡ length events + j = omega (arith, f.inside) in
        let within : j < length polls = omega (arith, f.inside) in
        let d = poll_of 0 0 in
        let w = received-at polls added j d r within in
        let same = same_Some w.0 f.is.event (sym w.1 ∙ sym (get-right events added f.place j at) ∙ f.is.at) in
        let proc : (get_or polls j d).processor ≡ x.proc = sym w.2.own ∙ ap (λ (v : Event). v.processor) same ∙ sym f.is.proc in
        let tick : (get_or polls j d).tick ≡ tick_of trace k = sym (new-tick events added ticks polls long r f.place j d at within)
        ∙ sym f.tick in
        record {
          act = f.is.event.act;
          nothing = subst (λ (v : Event). IsOfNothing v.act) same w.2.act;
          does = f.is.does;
          poll = subst (Contains polls) (ap₂ poll_of proc tick) (Contains-get_or polls j d within);
        }

    go : EventOf all all_ticks t.numbers trace k x → OldStep events ticks t.numbers trace k x ⊎ NewStep t.numbers polls trace k x
    go f = elim (cases_lt f.place (length events)) [ inl l ↦ inl (old f l) | inr l ↦ inr (new f l) ]

  old-step : (i : ℕ) (e : Event) → slice_get events i ≡ Some e → StepAt t.numbers trace i e (slice_index ticks i)
  old-step i e at =
      let l = slice_get_within events i e at in
      let f = step-of n all all_ticks last trace t i (omega (arith, long-all events added ticks polls long r)) in
      let same = same_Some f.is.event e (sym f.is.at ∙ get-left events added i l ∙ at) in
      record {
        step = f.step;
        at = f.at;
        proc = f.is.proc ∙ ap (λ (v : Event). v.processor) same;
        does = subst (λ (v : Event). IsActOf t.numbers v.act f.step.act) same f.is.does;
        tick_is = f.tick ∙ old-tick events added ticks polls long r i l;
      }

  new-step : (p y : ℕ) → Contains polls (poll_of p y) → PollAt t.numbers trace p y
  new-step p y c =
      let j = c.0 in
      let d = poll_of p y in
      let i = length events + j in
      let within = c.1 in
      let w = received-at polls added j d r within in
      let f = step-of n all all_ticks last trace t i (omega (arith, long-all events added ticks polls long r)) in
      let same = same_Some f.is.event w.0 (sym f.is.at ∙ get-right events added i j refl ∙ w.1) in
      record {
        place = i;
        event = w.0;
        own = w.2.own ∙ ap (λ (v : IdleTick). v.processor) c.2;
        nothing = w.2.act;
        step_of = record {
          step = f.step;
          at = f.at;
          proc = f.is.proc ∙ ap (λ (v : Event). v.processor) same;
          does = subst (λ (v : Event). IsActOf t.numbers v.act f.step.act) same f.is.does;
          tick_is = f.tick ∙ new-tick events added ticks polls long r i j d refl within ∙ ap (λ (v : IdleTick). v.tick) c.2;
        };
      }

  -- the steps of the trace
  pub acts-in : (y p : ℕ) → StepsIn trace y p → Acts events ticks polls p y
  acts-in y p s = go (step-cases s.place (record { proc = p; act = s.step.0 }) s.step.1) where
    go : OldStep events ticks t.numbers trace s.place (record { proc = p; act = s.step.0 })
        ⊎ NewStep t.numbers polls trace s.place (record { proc = p; act = s.step.0 }) → Acts events ticks polls p y
    go (inl o) = inl (record {
      place = o.place;
      inside = slice_get_within events o.place o.event o.at;
      own = ap (λ v. option_map_or (λ e. e.processor) v 0) o.at ∙ sym o.proc;
      at = sym o.tick ∙ s.tick;
    })
    go (inr w) = inr (subst (λ z. Contains polls (poll_of p z)) s.tick w.poll)

  step-in : (i y : ℕ) (e : Event) → StepAt t.numbers trace i e y → StepsIn trace y e.processor
  step-in i y e f = record {
    place = slice_index t.numbers i;
    step = (f.step.act, f.at ∙ step-is f.step e.processor f.step.act f.proc refl);
    tick = f.tick_is;
  }

  pub steps-in : (y p : ℕ) → Acts events ticks polls p y → StepsIn trace y p
  steps-in y p (inl h) =
      let e = event-at events h.place h.inside in
      let own = sym (ap (λ v. option_map_or (λ (x : Event). x.processor) v 0) e.1) ∙ h.own in
      subst (StepsIn trace y) own (step-in h.place y e.0 (subst (StepAt t.numbers trace h.place e.0) h.at (old-step h.place e.0 e.1)))
  steps-in y p (inr c) =
      let f = new-step p y c in
      subst (StepsIn trace y) f.own (step-in f.place y f.event f.step_of)

  -- the messages of the trace
  message : (set i b : ℕ) → IsSending set events i b → IsMessage set trace.steps (slice_index t.numbers i) b
  message set i b s =
      let f = old-step i s.event s.at in
      let does = subst (λ e. IsActOf t.numbers e f.step.act) s.act f.does in
      record {
        from = s.event.processor;
        sent = f.at ∙ step-is f.step s.event.processor (act.Send b) f.proc does;
        sender = s.sender;
        receiver = s.receiver;
      }

  sending : (set s b : ℕ) → (m : IsMessage set trace.steps s b)
      → (i : ℕ) × IsSending set events i b × (slice_index t.numbers i ≡ s) × (tick_of trace s ≡ slice_index ticks i)
  sending set s b m = go (step-cases s (record { proc = m.from; act = act.Send b }) m.sent) where
    go : OldStep events ticks t.numbers trace s (record { proc = m.from; act = act.Send b })
        ⊎ NewStep t.numbers polls trace s (record { proc = m.from; act = act.Send b })
        → (i : ℕ) × IsSending set events i b × (slice_index t.numbers i ≡ s) × (tick_of trace s ≡ slice_index ticks i)
    go (inl o) = (
      o.place,
      record {
        event = o.event;
        at = o.at;
        act = sent-by t.numbers o.event.act b o.does;
        sender = subst (λ p. IsTrue (has_proc set p)) o.proc m.sender;
        receiver = m.receiver;
      },
      o.number,
      o.tick,
    )
    go (inr w) = absurd (subst IsOfNothing (sent-by t.numbers w.act b w.does) w.nothing)

  -- the Receives of the trace
  receive-step : (i y p : ℕ) (e : Event) → IsReceive e.act
      → e.processor ≡ p → StepAt t.numbers trace i e y → (k : ℕ) × IsReceiveOf trace.steps k p × (tick_of trace k ≡ y)
  receive-step i y p e h own f =
      let does = receive-does t.numbers e.act f.step.act h f.does in (
        slice_index t.numbers i,
        record {
          ids = does.1;
          ends = does.0;
          step = f.at
              ∙ step-is f.step p (act.Receive does.0 does.1) (f.proc ∙ own) does.2;
        },
        f.tick_is,
      )

  receive-of : (p y : ℕ) → Looks events ticks polls p y → (k : ℕ) × IsReceiveOf trace.steps k p × (tick_of trace k ≡ y)
  receive-of p y (inl h) = receive-step h.place y p h.event h.act h.own
      (subst (StepAt t.numbers trace h.place h.event) h.tick (old-step h.place h.event h.at))
  receive-of p y (inr c) =
      let f = new-step p y c in
      receive-step f.place y p f.event (nothing-is_receive f.event.act f.nothing) f.own f.step_of

  looks-at : (k p : ℕ) → IsReceiveOf trace.steps k p → Looks events ticks polls p (tick_of trace k)
  looks-at k p h = go (step-cases k (record { proc = p; act = act.Receive h.ends h.ids }) h.step) where
    go : OldStep events ticks t.numbers trace k (record { proc = p; act = act.Receive h.ends h.ids })
        ⊎ NewStep t.numbers polls trace k (record { proc = p; act = act.Receive h.ends h.ids })
        → Looks events ticks polls p (tick_of trace k)
    go (inl o) = inl (record {
      place = o.place;
      event = o.event;
      at = o.at;
      own = sym o.proc;
      act = received-by t.numbers o.event.act h.ends h.ids o.does;
      tick = sym o.tick;
    })
    go (inr w) = inr w.poll

  -- what is delivered in the trace is taken by an event
  names : (i : ℕ) (ms : List (Option ℕ)) → i < length events
      → Contains (map (sent_number t.numbers) ms) (slice_index t.numbers i) → Contains ms (Some i)
  names i ms l c = let f = Contains-from_map (sent_number t.numbers) ms (slice_index t.numbers i) c in go f.0 f.1 f.2 where
    inside : i < length all
    inside = let m = long-all events added ticks polls long r in omega arith

    go : (m : Option ℕ) → Contains ms m → sent_number t.numbers m ≡ slice_index t.numbers i → Contains ms (Some i)
    go None h e = absurd (let p = (place-in n all all_ticks last trace t i inside).3 in omega arith)
    go (Some q) h e = subst (λ z. Contains ms (Some z)) (one-number n all all_ticks last trace t i q inside e) h

  taken-by : (i y : ℕ) → i < length events → IsDelivered trace (slice_index t.numbers i) y
      → tick_of trace (slice_index t.numbers i) ≡ slice_index ticks i → IsTakenBy events ticks i y
  taken-by i y l d e = go (step-cases d.place d.takes.0 d.takes.1) where
    go : OldStep events ticks t.numbers trace d.place d.takes.0 ⊎ NewStep t.numbers polls trace d.place d.takes.0
        → IsTakenBy events ticks i y
    go (inl o) =
        let ms = names i (received_in o.event.act) l
        (ids-from t.numbers o.event.act d.takes.0.act (slice_index t.numbers i) o.does d.takes.2) in
        record {
          place = o.place;
          inside = slice_get_within events o.place o.event o.at;
          takes = subst (λ xs. Contains xs (Some i)) (sym (ap (λ v. option_map_or (λ (x : Event). received_in x.act) v []) o.at)) ms;
          after = omega (arith, o.tick, d.after);
          until = omega (arith, o.tick, d.until);
        }
    go (inr w) =
        let c = ids-from t.numbers w.act d.takes.0.act (slice_index t.numbers i) w.does d.takes.2 in
        absurd (Contains-nil (slice_index t.numbers i)
        (subst (λ ms. Contains (map (sent_number t.numbers) ms) (slice_index t.numbers i)) (nothing-received w.act w.nothing) c))

  delivered-by : (i y : ℕ) (e : Event) → slice_get events i ≡ Some e
      → IsTakenBy events ticks i y → IsDelivered trace (slice_index t.numbers i) y
  delivered-by i y e at h =
      let x = event-at events h.place h.inside in
      let f = old-step h.place x.0 x.1 in
      let s = old-step i e at in
      let ms = subst (λ xs. Contains xs (Some i)) (ap (λ v. option_map_or (λ (z : Event). received_in z.act) v []) x.1) h.takes in
      let ids = ids-of t.numbers x.0.act f.step.act
      (slice_index t.numbers i) f.does (Contains-map (sent_number t.numbers) (received_in x.0.act) (Some i) ms) in
      record {
        place = slice_index t.numbers h.place;
        after = omega (arith, s.tick_is, f.tick_is, h.after);
        until = omega (arith, f.tick_is, h.until);
        takes = (f.step, f.at, ids);
      }

  pub to-events : (set g d : ℕ) → DeltaHolds set trace g d → DeltaOfEvents set events ticks polls g d
  to-events set g d h = record {
    each = λ i b y s lo looks m. (
        let f = old-step i s.event s.at in
        let k = receive-of b y looks in
        let e = f.tick_is in
        let q = k.2 in
        taken-by i y (slice_get_within events i s.event s.at)
        (subst (IsDelivered trace (slice_index t.numbers i)) q
        ((h.each (slice_index t.numbers i) (omega arith)).on_time k.0 b (message set i b s) k.1 (omega arith)))
        e);
  }

  pub from-events : (set g d : ℕ) → DeltaOfEvents set events ticks polls g d → DeltaHolds set trace g d
  from-events set g d h = record {
    each = λ s lo. record {
      on_time = λ k b m w late. (
          let f = sending set s b m in
          let y = tick_of trace k in
          let taken = h.each f.0 b y f.1 (omega (arith, f.3)) (looks-at k b w) (omega (arith, f.3)) in
          subst (λ z. IsDelivered trace z y) f.2 (delivered-by f.0 y f.1.event f.1.at taken));
    };
  }
