-- What becomes of a message, by a list of takes.
use Rattle.std.proofs.Common.{ℕ, ◌≡◌, ◌<◌, ◌≤◌, inl, inr, List, true, Option, Some, None, find}
use Rattle.std.proofs.Common.{Contains, refl, sym, ap, subst, ◌∙◌, arith, ◌==◌, true≢false}
use Rattle.std.proofs.lemmas.Bool.{cases_lt, eqb-true, and_parts}
use Rattle.step_trace.specs.declared.steps.Step.{Step}
use Rattle.step_trace.specs.Traces.{Recorded, TakesAt, IsReceiveOf}
use Rattle.step_trace.specs.Ticks.{tick_of, IsTrace}
use Rattle.step_trace.specs.Bounds.{IsMessage}
use Rattle.step_trace.proofs.StepPositions.{same_step}
use Rattle.suffix_staircase.proofs.LastMisses.{taker_receives}
use Rattle.chunk_join.specs.declared.summaries.Place.{Place}
use Rattle.chunk_join.specs.declared.summaries.Fate.{Fate}
use Rattle.chunk_join.specs.declared.summaries.Fate.TheVariants.{Open, Taken}
use Rattle.chunk_join.specs.declared.summaries.Message.{Message}
use Rattle.chunk_join.specs.declared.summaries.Take.{Take}
use Rattle.chunk_join.specs.Summaries.{IsPlace, IsSent, IsFate, IsAnyTake, IsLastReceive, last_of}
use Rattle.chunk_join.specs.Parts.{later_of, after, settle, settled_by, takes_of}
use Rattle.chunk_join.specs.Laws.Listings.{Contains-found, none_found}
use Rattle.chunk_join.specs.Laws.LastReceives.{IsLastReceive-after, IsLastReceive-one, IsLastReceive-some}

-- A message has one fate.
IsFate-one : (t : Recorded) → IsTrace t → (s : Place) (q j : ℕ) (f g : Fate) → IsFate t s q j f
    → IsFate t s q j g → f ≡ g
IsFate-one t sound s q j Open Open a b = refl
IsFate-one t sound s q j Open (Taken y) a b = absurd (omega (arith, a b.0 b.1, b.2))
IsFate-one t sound s q j (Taken x) Open a b = absurd (omega (arith, b a.0 a.1, a.2))
IsFate-one t sound s q j (Taken x) (Taken y) a b =
    let one : b.0 ≡ a.0 = sound.steps.once b.0 a.0 s.no b.1 a.1 in
    let last = subst (λ n. IsLastReceive t q s.tick (tick_of t n) y) one b.3 in
    ap (λ (o : Option Place). Taken o) (IsLastReceive-one t sound.time q s.tick (tick_of t a.0) x y a.3 last)

-- it had one up to an earlier tick
pub earlier_fate : (t : Recorded) → IsTrace t → (p : Place) (q s j : ℕ) (f : Fate) → s ≤ j → IsFate t p q j f
    → (g : Fate) × IsFate t p q s g
earlier_fate t sound p q s j Open high h = (Open, λ x takes. omega (arith, h x takes, high))
earlier_fate t sound p q s j (Taken missed) high h = elim (cases_lt s (tick_of t h.0)) [
  | inl late ↦ (
    Open,
    λ x takes. (let one = ap (λ n. tick_of t n) (sound.steps.once x h.0 p.no takes h.1) in
        omega (arith, one, late)),
  )
  | inr before ↦ (Taken missed, (h.0, h.1, before, h.3))
]

-- and keeps it, if nothing takes it after that
later_fate : (t : Recorded) (p : Place) (q s j : ℕ) (f : Fate) → s ≤ j
    → ((x : ℕ) → TakesAt t.steps x p.no → s < tick_of t x → tick_of t x ≤ j → ⊥) → IsFate t p q s f → IsFate t p q j f
later_fate t p q s j Open high none h = λ x takes. elim (cases_lt j (tick_of t x)) [
  | inl late ↦ late
  | inr until ↦ absurd (none x takes (h x takes) until)
]
later_fate t p q s j (Taken missed) high none h = (h.0, h.1, omega (arith, h.2, high), h.3)

-- a message with another fate
abbrev pub with_fate : Message → Fate → Message
with_fate m f = record { sent = m.sent; to = m.to; fate = f }

-- a take of this message
pub takes_of-true : (m : Message) (x : Take) → x.sent.no ≡ m.sent.no → x.sent.tick ≡ m.sent.tick → takes_of m x ≡ true
takes_of-true m x e f = grind (arith, e, f)

pub takes_of-same : (m : Message) (x : Take) → takes_of m x ≡ true → x.sent.no ≡ m.sent.no
takes_of-same m x e = eqb-true x.sent.no m.sent.no (and_parts (x.sent.no == m.sent.no) (x.sent.tick == m.sent.tick) e).0

-- The list has all messages like this one that members take after cut s up to tick j. With these last Receives each
-- take gives the last miss before it.
pub record KnowsTakes (set : ℕ) (t : Recorded) (s j : ℕ) (taken : List Take) (last : List (Option Place))
    (m : Message) : Type 0 where
  pub sound : (y : Take) → Contains taken y → IsAnyTake set t s y × (y.at.tick ≤ j)
  pub complete : (y : Take) → IsAnyTake set t s y → y.at.tick ≤ j → y.sent.tick ≡ m.sent.tick → Contains taken y
  pub before : (y : Take) → IsAnyTake set t s y → (low : ℕ) × (low ≤ m.sent.tick)
      × IsLastReceive t y.by low y.at.tick (later_of (last_of last y.by) y.before)

-- a message between members, sent in this part, whose fate is known up to tick s
pub record IsKnown (set : ℕ) (t : Recorded) (i s j : ℕ) (m : Message) : Type 0 where
  pub message : IsMessage set t.steps m.sent.no m.to
  pub place : IsPlace t m.sent
  pub after : i < m.sent.tick
  pub until : m.sent.tick ≤ j
  pub fate : IsFate t m.sent m.to s m.fate

module _ (set : ℕ) (t : Recorded) (sound : IsTrace t) (i s j : ℕ) (taken : List Take) (last : List (Option Place))
    (m : Message) (high : s ≤ j) (k : KnowsTakes set t s j taken last m) (known : IsKnown set t i s j m) where
  receives : (x : ℕ) → TakesAt t.steps x m.sent.no → IsReceiveOf t.steps x m.to
  receives x takes = taker_receives t.config t.steps m.sent.no m.to x _ sound.steps known.message.sent takes

  -- who takes the message in these ticks is in the list
  listed : (x : ℕ) → TakesAt t.steps x m.sent.no → s < tick_of t x → tick_of t x ≤ j
      → (y : Take) × Contains taken y × (takes_of m y ≡ true)
  listed x takes late until =
      let last = IsLastReceive-some t sound.time m.to s (tick_of t x) in
      let y : Take = record { at = record { no = x; tick = tick_of t x }; by = m.to; sent = m.sent; before = last.0 } in
      let own : IsAnyTake set t s y = record {
        member = known.message.receiver;
        receive = receives x takes;
        takes = takes;
        at_place = refl;
        sent_place = known.place;
        after = late;
        before = last.1;
      } in
      (y, k.complete y own until refl, takes_of-true m y refl refl)

  -- a take in the list gives its last miss
  taken_so : (y : Take) → Contains taken y → takes_of m y ≡ true
      → IsFate t m.sent m.to j (Taken (after m.sent (later_of (last_of last y.by) y.before)))
  taken_so y c e =
      let own = (k.sound y c).0 in
      let place = own.at_place in
      let takes : TakesAt t.steps y.at.no m.sent.no =
      subst (λ n. TakesAt t.steps y.at.no n) (takes_of-same m y e) own.takes in
      let by : y.by ≡ m.to = ap (λ (x : Step). x.proc)
      (same_step t.steps y.at.no _ _ own.receive.step (receives y.at.no takes).step) in
      let before = k.before y own in
      let missed = IsLastReceive-after t y.by before.0 y.at.tick m.sent _ before.1 before.2 in
      (y.at.no, takes, omega (arith, (k.sound y c).1, place), rw (← by, place) missed)

  settled_fate : IsFate t m.sent m.to j (settle taken last m).fate
  settled_fate = go (find (takes_of m) taken) refl where
    go : (o : Option Take) → find (takes_of m) taken ≡ o → IsFate t m.sent m.to j (settled_by last m o).fate
    go None e = later_fate t m.sent m.to s j m.fate high
        (λ x takes late until. (let y = listed x takes late until in
        true≢false (sym y.2 ∙ none_found (takes_of m) taken y.0 e y.1))) known.fate
    go (Some y) e = let found = Contains-found (takes_of m) taken y e in taken_so y found.0 found.1

  -- nothing else of it changes
  only_fate : settle taken last m ≡ with_fate m (settle taken last m).fate
  only_fate = go (find (takes_of m) taken) where
    go : (o : Option Take) → settled_by last m o ≡ with_fate m (settled_by last m o).fate
    go None = refl
    go (Some y) = refl

  -- THE LEMMA: the list gives the message its fate up to tick j
  pub settle-fate : (f : Fate) → IsFate t m.sent m.to j f → settle taken last m ≡ with_fate m f
  settle-fate f h = only_fate ∙ ap (with_fate m) (IsFate-one t sound m.sent m.to j _ f settled_fate h)

  pub IsSent-settled : IsSent set t i j (settle taken last m)
  IsSent-settled = subst (IsSent set t i j) (sym only_fate)
      (record {
        message = known.message;
        place = known.place;
        after = known.after;
        until = known.until;
        fate = settled_fate;
      })
