-- Events with receives of nothing behind them make a trace.
use Rattle.std.proofs.Common.{ℕ, ◌≡◌, ◌+◌, ◌-◌, ◌<◌, ◌≤◌, ◌⊎◌, inl, inr, Bool, true, false, cond, ◌||◌, List, [], ◌∷◌}
use Rattle.std.proofs.Common.{◌++◌, length, take, get_or, Some, None, zero, suc, refl, sym, ap, ap₂, ◌∙◌, subst, arith}
use Rattle.std.specs.Prelude.{slice_get, slice_index, slice_index_or, nat_lt}
use Rattle.std.specs.List.{All, list_any}
use Rattle.std.specs.Option.{option_map_or}
use Rattle.std.proofs.lemmas.Bool.{cases_lt, lt-ltb}
use Rattle.std.proofs.lemmas.Grind.{common_steps}
use Rattle.std.proofs.lemmas.List.{get_or-map, length-map, get_or_append_left, get_or-append_right, append_assoc, take_more}
use Rattle.std.proofs.lemmas.List.Elements.{All-weaker}
use Rattle.std.proofs.lemmas.Option.{same_Some}
use Rattle.std.proofs.lemmas.Slice.Zip.{AllZip-long}
use Rattle.step_trace.specs.declared.configurations.TheConstants.{MAX_PROCESSORS}
use Rattle.step_trace.specs.declared.traces.TheConstants.{MAX_STEPS}
use Rattle.timed_events.specs.declared.events.Event.{Event}
use Rattle.timed_events.specs.declared.events.EventAct.{EventAct}
use Rattle.timed_events.specs.declared.events.EventAct.TheVariants.{Send, Receive}
use Rattle.timed_events.specs.declared.events.EventError.{EventError}
use Rattle.timed_events.specs.declared.idle_ticks.IdleTick.{IdleTick}
use Rattle.timed_events.specs.Firsts.{any_below}
use Rattle.timed_events.specs.Checks.{sends_to, received_in, is_message, processor_at, messages_at, is_for}
use Rattle.timed_events.specs.Checks.{received_before, was_received, late_hint, message_refusal, messages_refusal}
use Rattle.timed_events.specs.Checks.{moment_of, moment_at, GoesWithin, AreMeant, IsMeantAt, HaveOwnMoments}
use Rattle.timed_events.specs.IdleTicks.{HasEventIn, IsIdleTick, AreIdle, IsFree, IsOfNothing, IsIdleReceive, AreReceives, AreRising, moments_of, ticks_of}
use Rattle.timed_events.specs.IdleTraces.{IsGrown}
use Rattle.timed_events.specs.TickedEvents.{AreFit}
use Rattle.timed_events.proofs.FittingEvents.{named-may}
use Rattle.timed_events.proofs.TakenMessages.{is_for-inside}
use Rattle.timed_events.proofs.PassedEvents.{one-at_moment, own-passed}
use Rattle.timed_events.proofs.RankedEvents.{messages-none, moment-parts}

pub get-left : (xs ys : List Event) (i : ℕ) → i < length xs → slice_get (xs ++ ys) i ≡ slice_get xs i
get-left [] ys i l = absurd (omega arith)
get-left (x ∷ xs) ys zero l = refl
get-left (x ∷ xs) ys (suc i) l = get-left xs ys i (omega arith)

pub get-right : (xs ys : List Event) (i j : ℕ) → i ≡ length xs + j → slice_get (xs ++ ys) i ≡ slice_get ys j
get-right [] ys i j e = let s : i ≡ j = omega arith in ap (slice_get ys) s
get-right (x ∷ xs) ys zero j e = absurd (omega arith)
get-right (x ∷ xs) ys (suc i) j e = get-right xs ys i j (omega arith)

-- the receive of an idle tick
pub received-at : (idles : List IdleTick) (added : List Event) (j : ℕ) (d : IdleTick) → AreReceives idles added
    → j < length idles → (e : Event) × (slice_get added j ≡ Some e) × IsIdleReceive (get_or idles j d) e
received-at [] added j d r l = absurd (omega arith)
received-at (x ∷ idles) [] j d r l = absurd r
received-at (x ∷ idles) (e ∷ added) zero d r l = (e, refl, r.0)
received-at (x ∷ idles) (e ∷ added) (suc j) d r l = received-at idles added j d r.1 (omega arith)

pub nothing-received : (act : EventAct) → IsOfNothing act → received_in act ≡ []
nothing-received (Send to) h = absurd h
nothing-received (Receive messages) h = h

nothing-goes : (n : ℕ) (act : EventAct) → IsOfNothing act → GoesWithin n act
nothing-goes n (Send to) h = absurd h
nothing-goes n (Receive messages) h = tt

-- a message may be received
message-passes : (events : List Event) (ticks : List ℕ) (r : ℕ → Bool) (i k s : ℕ)
    → is_for events s (processor_at events i) ≡ true → r s ≡ false → slice_index ticks s < slice_index ticks i
    → message_refusal events ticks r i k (Some s) ≡ None
message-passes events ticks r i k s f n l = go (is_for events s (processor_at events i)) f
    (r s) n (nat_lt (slice_index ticks s) (slice_index ticks i)) (lt-ltb (slice_index ticks s) (slice_index ticks i) l) where
      go : (u : Bool) → u ≡ true → (v : Bool) → v ≡ false → (w : Bool) → w ≡ true
          → cond u (cond v (Some (EventError.ReceivedBefore i k))
          (cond w None (Some (EventError.NotLater i k (late_hint events s i)))))
          (Some (EventError.WrongReceiver i k)) ≡ None
      go false p v q w t = absurd (cc)
      go true p true q w t = absurd (cc)
      go true p false q false t = absurd (cc)
      go true p false q true t = refl

-- tests that say the same below a number find the same there
pub any-same : (p q : ℕ → Bool) (n : ℕ) → ((j : ℕ) → j < n → p j ≡ q j) → any_below p n ≡ any_below q n
any-same p q zero h = refl
any-same p q (suc n) h = ap₂ (λ a b. a || b) (any-same p q n (λ j l. h j (omega arith))) (h n (omega arith))

received-same : (xs ys : List Event) (i s : ℕ) → ((j : ℕ) → j < i → messages_at xs j ≡ messages_at ys j)
    → received_before xs i s ≡ received_before ys i s
unfolding received_before
received-same xs ys i s h = any-same (λ j. list_any (is_message s) (messages_at xs j))
    (λ j. list_any (is_message s) (messages_at ys j)) i (λ j l. ap (λ ms. list_any (is_message s) ms) (h j l))

module _ (n : ℕ) (events added : List Event) (ticks : List ℕ) (last : ℕ) (idles : List IdleTick)
    (most : n ≤ MAX_PROCESSORS) (meant : AreMeant events n) (fit : AreFit events ticks last)
    (free : All (IsFree n events ticks last) idles) (rising : AreRising idles) (r : AreReceives idles added) where
  abbrev all : List Event
  all = events ++ added

  abbrev all_ticks : List ℕ
  all_ticks = ticks ++ ticks_of idles

  nobody : IdleTick
  nobody = record { processor = 0; tick = 0 }

  pub long-all : length all ≡ length events + length idles
  long-all = let a = AllZip-long IsIdleReceive idles added r in
      let b : length all ≡ length events + length added = grind (arith, common_steps) in omega arith

  long-ticks : length all_ticks ≡ length events + length idles
  long-ticks = let a = length-map idles (λ (x : IdleTick). x.tick) in
      let b : length all_ticks ≡ length ticks + length (ticks_of idles) = grind (arith, common_steps) in let c = fit.long in omega arith

  -- the events that were there before
  old-processor : (i : ℕ) → i < length events → processor_at all i ≡ processor_at events i
  old-processor i l = ap (λ o. option_map_or (λ e. e.processor) o 0) (get-left events added i l)

  old-messages : (i : ℕ) → i < length events → messages_at all i ≡ messages_at events i
  old-messages i l = ap (λ o. option_map_or (λ e. received_in e.act) o []) (get-left events added i l)

  old-for : (s p : ℕ) → s < length events → is_for all s p ≡ is_for events s p
  old-for s p l = ap (λ o. option_map_or (λ e. sends_to e.act p) o false) (get-left events added s l)

  old-tick : (i : ℕ) → i < length events → slice_index all_ticks i ≡ slice_index ticks i
  old-tick i l = get_or_append_left ticks (ticks_of idles) 0 i (let e = fit.long in omega arith)

  old-moment : (i : ℕ) → i < length events → moment_at all all_ticks i ≡ moment_at events ticks i
  old-moment i l = ap₂ moment_of (old-tick i l) (old-processor i l)

  -- those that were added
  new-event : (i j : ℕ) → i ≡ length events + j → j < length idles
      → (e : Event) × (slice_get all i ≡ Some e) × IsIdleReceive (get_or idles j nobody) e
  new-event i j e l = let a = received-at idles added j nobody r l in (a.0, get-right events added i j e ∙ a.1, a.2)

  new-processor : (i j : ℕ) → i ≡ length events + j → j < length idles → processor_at all i ≡ (get_or idles j nobody).processor
  new-processor i j e l = let a = new-event i j e l in ap (λ o. option_map_or (λ x. x.processor) o 0) a.1 ∙ a.2.own

  new-messages : (i j : ℕ) → i ≡ length events + j → j < length idles → messages_at all i ≡ []
  new-messages i j e l = let a = new-event i j e l in
      ap (λ o. option_map_or (λ x. received_in x.act) o []) a.1 ∙ nothing-received a.0.act a.2.act

  new-tick : (i j : ℕ) → i ≡ length events + j → j < length idles → slice_index all_ticks i ≡ (get_or idles j nobody).tick
  new-tick i j e l =
      let long = fit.long in
      let back : i - length ticks ≡ j = omega arith in
      get_or-append_right ticks (ticks_of idles) (length ticks) i 0 refl (omega arith)
      ∙ ap (slice_index (ticks_of idles)) back
      ∙ get_or-map (λ (x : IdleTick). x.tick) idles j nobody 0 l

  new-moment : (i j : ℕ) → i ≡ length events + j → j < length idles → moment_at all all_ticks i ≡ slice_index (moments_of idles) j
  new-moment i j e l = ap₂ moment_of (new-tick i j e l) (new-processor i j e l)
      ∙ sym (get_or-map (λ (x : IdleTick). moment_of x.tick x.processor) idles j nobody 0 l)

  is-free : (j : ℕ) → j < length idles → IsFree n events ticks last (get_or idles j nobody)
  is-free j l = free j nobody l

  -- an event's messages may be received as before
  old-passes : (i k : ℕ) → i < length events → k < length (messages_at events i)
      → message_refusal all all_ticks (was_received all i k) i k (slice_index_or (messages_at all i) k None) ≡ None
  old-passes i k l b =
      let m = named-may events ticks i k fit.passed l b in
      let s = m.0 in
      let inside = is_for-inside events s (processor_at events i) m.2.for in
      let for = ap (is_for all s) (old-processor i l) ∙ old-for s (processor_at events i) inside ∙ m.2.for in
      let before = ap₂ (λ x y. x || y) (received-same all events i s (λ j a. old-messages j (omega arith)))
      (ap (λ ms. list_any (is_message s) (take k ms)) (old-messages i l)) ∙ m.2.new in
      let later : slice_index all_ticks s < slice_index all_ticks i =
      (let x = old-tick s inside in let y = old-tick i l in let z = m.2.later in omega arith) in
      let at = ap (λ ms. slice_index_or ms k None) (old-messages i l) ∙ m.1 in
      ap (message_refusal all all_ticks (was_received all i k) i k) at
      ∙ message-passes all all_ticks (was_received all i k) i k s for before later

  passes : (i : ℕ) → i < length all → (i < length events) ⊎ (length events ≤ i) → messages_refusal all all_ticks i ≡ None
  passes i l (inl old) = messages-none all all_ticks i (λ k b. old-passes i k old (let e = ap length (old-messages i old) in omega arith))
  passes i l (inr new) = messages-none all all_ticks i (λ k b.
      absurd (let m = long-all in let e = ap length (new-messages i (i - length events) (omega arith) (omega arith)) in omega arith))

  within-processors : (i : ℕ) → i < length events → (1 ≤ processor_at events i) × (processor_at events i ≤ MAX_PROCESSORS)
  within-processors i l = let a = (meant i l).least in let b = (meant i l).most in (omega arith, omega arith)

  -- an event isn't at the moment of an idle tick
  apart-new : (j i b : ℕ) → j < length events → i ≡ length events + b
      → b < length idles → ¬ (moment_at all all_ticks j ≡ moment_at all all_ticks i)
  apart-new j i b l e m same =
      let f = is-free b m in
      let f0 = f.least in
      let f1 = f.most in
      let at : moment_of (slice_index ticks j) (processor_at events j) ≡ moment_of ((get_or idles b nobody).tick)
      ((get_or idles b nobody).processor) = sym (old-moment j l) ∙ same
      ∙ ap₂ moment_of (new-tick i b e m) (new-processor i b e m) in
      let parts = moment-parts (slice_index ticks j) ((get_or idles b nobody).tick)
      (processor_at events j) ((get_or idles b nobody).processor) (within-processors j l) (f0, omega arith) at in
      f.free (record { place = j; inside = l; own = parts.1; at = parts.0 })

  own-moments : HaveOwnMoments all all_ticks
  own-moments j i b l = go (cases_lt i (length events)) (cases_lt j (length events)) where
    go : (i < length events) ⊎ (length events ≤ i)
        → (j < length events) ⊎ (length events ≤ j) → ¬ (moment_at all all_ticks j ≡ moment_at all all_ticks i)
    go (inl old) c same =
        let first : j < length events = omega arith in
        let one = one-at_moment events ticks j i fit.passed first old (sym (old-moment j first) ∙ same ∙ old-moment i old) in
        omega arith
    go (inr new) (inl old) same = let m = long-all in apart-new j i (i - length events) old (omega arith) (omega arith) same
    go (inr new) (inr late) same =
        let m = long-all in
        let x = new-moment j (j - length events) (omega arith) (omega arith) in
        let y = new-moment i (i - length events) (omega arith) (omega arith) in
        let z = rising (j - length events) (i - length events) (omega arith) (omega arith) in
        omega arith

  pub meant-all : AreMeant all n
  meant-all i l = go (cases_lt i (length events)) where
    go : (i < length events) ⊎ (length events ≤ i) → IsMeantAt all n i
    go (inl old) = record {
      least = (let a = (meant i old).least in let b = old-processor i old in omega arith);
      most = (let a = (meant i old).most in let b = old-processor i old in omega arith);
      to = λ e at. (meant i old).to e (sym (get-left events added i old) ∙ at);
    }
    go (inr new) =
        let m = long-all in
        let f = is-free (i - length events) (omega arith) in
        let p = new-processor i (i - length events) (omega arith) (omega arith) in
        let x = new-event i (i - length events) (omega arith) (omega arith) in
        record {
          least = (let a = f.least in omega arith);
          most = (let a = f.most in omega arith);
          to = λ e at. subst (λ y. GoesWithin n y.act) (same_Some x.0 e (sym x.1 ∙ at)) (nothing-goes n x.0.act x.2.act);
        }

  from-one : (i : ℕ) → i < length all → (1 ≤ slice_index all_ticks i) × (slice_index all_ticks i ≤ last)
  from-one i l = go (cases_lt i (length events)) where
    go : (i < length events) ⊎ (length events ≤ i) → (1 ≤ slice_index all_ticks i) × (slice_index all_ticks i ≤ last)
    go (inl old) = let a = fit.first i old in let b = fit.within i old in let e = old-tick i old in (omega arith, omega arith)
    go (inr new) =
        let m = long-all in
        let f = is-free (i - length events) (omega arith) in
        let e = new-tick i (i - length events) (omega arith) (omega arith) in
        let a = f.first in
        let b = f.within in
        (omega arith, omega arith)

  pub fit-all : AreFit all all_ticks last
  fit-all = record {
    long = long-ticks ∙ sym long-all;
    passed = own-passed all all_ticks (λ i l. passes i l (cases_lt i (length events))) own-moments;
    first = λ i l. (from-one i l).0;
    within = λ i l. (from-one i l).1;
    most = fit.most;
  }

-- a tick in which a short silence ends is free
idle-free : (n : ℕ) (events : List Event) (ticks : List ℕ) (last limit : ℕ)
    → AreFit events ticks last → (x : IdleTick) → IsIdleTick n events ticks last limit x → IsFree n events ticks last x
idle-free n events ticks last limit f x h = record {
  least = h.least;
  most = h.most;
  first = (let s = h.end.silence.some in omega arith);
  within = go h.end.ends;
  free = h.end.silence.silent x.tick h.end.silence.some (omega arith);
} where
  go : (x.tick ≡ last) ⊎ HasEventIn events ticks x.processor (x.tick + 1) → x.tick ≤ last
  go (inl e) = omega arith
  go (inr has) = let w = f.within has.place has.inside in let e = has.at in omega arith

pub all-free : (n : ℕ) (events : List Event) (ticks : List ℕ) (last limit : ℕ) (idles : List IdleTick)
    → AreFit events ticks last → AreIdle n events ticks last limit idles → All (IsFree n events ticks last) idles
all-free n events ticks last limit idles f h = All-weaker
    (IsIdleTick n events ticks last limit) (IsFree n events ticks last) (idle-free n events ticks last limit f) idles h.each

zip-push : (idles : List IdleTick) (added : List Event) (x : IdleTick) (e : Event)
    → AreReceives idles added → IsIdleReceive x e → AreReceives (idles ++ x ∷ []) (added ++ e ∷ [])
zip-push [] [] x e h r = (r, tt)
zip-push [] (b ∷ added) x e h r = absurd h
zip-push (a ∷ idles) [] x e h r = absurd h
zip-push (a ∷ idles) (b ∷ added) x e h r = (h.0, zip-push idles added x e h.1 r)

-- one receive more
pub grown-next : (events new : List Event) (idles : List IdleTick) (k : ℕ) (d : IdleTick) (e : Event) → k < length idles
    → IsGrown events (take k idles) new → IsIdleReceive (get_or idles k d) e
    → IsGrown events (take (k + 1) idles) (new ++ e ∷ [])
grown-next events new idles k d e l g r = record {
  added = g.added ++ e ∷ [];
  receives = subst (λ xs. AreReceives xs (g.added ++ e ∷ []))
      (sym more) (zip-push (take k idles) g.added (get_or idles k d) e g.receives r);
  grown = ap (λ xs. xs ++ e ∷ []) g.grown ∙ append_assoc events g.added (e ∷ []);
} where
  more : take (k + 1) idles ≡ take k idles ++ get_or idles k d ∷ []
  more = take_more idles k d l

module _ (n : ℕ) (events new : List Event) (ticks all : List ℕ) (last : ℕ) (idles : List IdleTick)
    (most : n ≤ MAX_PROCESSORS) (meant : AreMeant events n) (fit : AreFit events ticks last)
    (free : All (IsFree n events ticks last) idles) (rising : AreRising idles) (g : IsGrown events idles new) where
  pub meant-grown : AreMeant new n
  meant-grown = subst (λ xs. AreMeant xs n) (sym g.grown)
      (meant-all n events g.added ticks last idles most meant fit free rising g.receives)

  pub long-grown : length new ≡ length events + length idles
  long-grown = ap length g.grown ∙ long-all n events g.added ticks last idles most meant fit free rising g.receives

  pub fit-grown : all ≡ ticks ++ ticks_of idles → AreFit new all last
  fit-grown e = subst (λ xs. AreFit xs all last) (sym g.grown) (subst (λ ts. AreFit (events ++ g.added) ts last)
      (sym e) (fit-all n events g.added ticks last idles most meant fit free rising g.receives))

  -- the same of slices of both lists
  pub fit-slices : (xs : List Event) (ys : List ℕ) → all ≡ ticks ++ ticks_of idles → xs ≡ new → ys ≡ all → AreFit xs ys last
  fit-slices xs ys e f h = subst (λ es. AreFit es ys last) (sym f) (subst (λ ts. AreFit new ts last) (sym h) (fit-grown e))

  pub meant-slice : (xs : List Event) → xs ≡ new → AreMeant xs n
  meant-slice xs f = subst (λ es. AreMeant es n) (sym f) meant-grown

  pub few-slice : (xs : List Event) → xs ≡ new → length events + length idles ≤ MAX_STEPS → length xs ≤ MAX_STEPS
  few-slice xs f few = let a = ap length f in let b = long-grown in omega arith
