-- The messages of a part that is a whole trace, scanned from the last one back: the misses of those so far.
use Rattle.std.proofs.Common.{ℕ, ◌≡◌, ◌+◌, ◌-◌, ◌<◌, ◌≤◌, inl, inr, List, length, get_or, Bool, true, false, Option, Some, None, Contains, zero, suc, refl, sym, ap, subst, ◌∙◌, arith, true≢false}
use Rattle.std.specs.Prelude.{slice_get}
use Rattle.std.proofs.lemmas.Bool.{cases_lt}
use Rattle.std.proofs.lemmas.Option.{same_Some, none-some, slice_get_within, slice_get-get_or, get_or_from_slice_get}
use Rattle.step_trace.specs.declared.rows.Miss.{Miss}
use Rattle.step_trace.specs.Traces.{Recorded, IsReceiveOf}
use Rattle.step_trace.specs.Ticks.{tick_of, IsTrace}
use Rattle.step_trace.specs.Bounds.{IsMessage, IsDelivered}
use Rattle.step_trace.specs.Witnesses.{IsMiss, NamesMiss}
use Rattle.step_trace.specs.PushRefusals.{is_taken}
use Rattle.step_trace.proofs.StepPositions.{step_at_within, taken_from_at, taken_at-from_is_taken}
use Rattle.step_trace.proofs.TickOrder.{number_below, ticks_rise}
use Rattle.step_trace.proofs.ListMembers.{Contains-slice_get}
use Rattle.suffix_staircase.specs.declared.levels.Level.{Level}
use Rattle.suffix_staircase.specs.Levels.{StandsBefore}
use Rattle.suffix_staircase.specs.Analysis.{KnowsMisses, IsNamedAfter, NamesAfter, KnowsMissesAfter, with_miss}
use Rattle.suffix_staircase.proofs.LastMisses.{message_unique}
use Rattle.suffix_staircase.proofs.LevelBounds.{StandsBefore-itself}
use Rattle.suffix_staircase.proofs.MissBounds.{after_positive, MissesLowered-with_miss}
use Rattle.suffix_staircase.proofs.MissNumbers.{IsLastMissOf}
use Rattle.chunk_join.specs.declared.summaries.Place.{Place}
use Rattle.chunk_join.specs.declared.summaries.Fate.{Fate}
use Rattle.chunk_join.specs.declared.summaries.Fate.TheVariants.{Open, Taken}
use Rattle.chunk_join.specs.declared.summaries.Message.{Message}
use Rattle.chunk_join.specs.Summaries.{Rises, SentBefore, IsLastReceive, IsFate, IsSent, Summary, IsSummary, AreLastReceives, last_of}
use Rattle.chunk_join.specs.Sufficient.{Suffices}
use Rattle.chunk_join.specs.Parts.{after}
use Rattle.chunk_join.specs.Laws.LastReceives.{IsLastReceive-after, IsLastReceive-some}
use Rattle.chunk_join.specs.Finishes.{last_at, missed, missed_with, up_to, with_missed, number_of, number_at, SentFrom, HasMissesFrom}
use Rattle.chunk_join.proofs.Places.{Rises-at}

-- Elements by place.

pub slice-Contains : {X : Type 0} (xs : List X) (x : X) → Contains xs x → (k : ℕ) × (slice_get xs k ≡ Some x)
slice-Contains xs x c = (c.0, slice_get-get_or xs c.0 x c.1 ∙ ap (λ y. Some y) c.2)

pub Rises-slices : {X : Type 0} (Before : X → X → Type 0) (xs : List X) (i j : ℕ) (x y : X)
    → Rises Before xs → slice_get xs i ≡ Some x → slice_get xs j ≡ Some y → i < j → Before x y
Rises-slices Before xs i j x y r h k l =
    let both = Rises-at Before xs i j x r l (slice_get_within xs j y k) in
    subst (λ u. Before u y) (get_or_from_slice_get xs i x x h)
    (subst (λ v. Before (get_or xs i x) v) (get_or_from_slice_get xs j y x k) both)

pub last_at-Contains : {X : Type 0} (xs : List X) (n : ℕ) (x : X) → last_at xs n ≡ Some x → Contains xs x
last_at-Contains xs zero x h = absurd (none-some x h)
last_at-Contains xs (suc n) x h = Contains-slice_get xs n x h

-- For any miss, the level with it may come before the one without.

pub StandsBefore-with_miss : (level : Level) (m : Miss) (long : ℕ) → StandsBefore (with_miss level m long) level
StandsBefore-with_miss level m long =
    record { delta = grind arith; phi = grind arith; miss = λ same. grind (arith, same); gap = λ same. grind arith }

with_miss-phi : (level : Level) (m : Miss) (long : ℕ) → (with_miss level m long).phi ≡ level.phi
with_miss-phi level m long = grind arith

with_miss-gap : (level : Level) (m : Miss) (long : ℕ) → (with_miss level m long).gap ≡ level.gap
with_miss-gap level m long = grind arith

-- no miss is shorter than a positive bound
with_miss-none : (level : Level) (m : Miss) → 1 ≤ level.delta → with_miss level m 0 ≡ level
with_miss-none level m l = grind (arith, l)

pub StandsBefore-with_missed : (end : ℕ) (level : Level) (m : Message) (o : Option Place) → StandsBefore (with_missed end level m o) level
StandsBefore-with_missed end level m None = StandsBefore-itself level
StandsBefore-with_missed end level m (Some r) = StandsBefore-with_miss level _ _

pub with_missed-phi : (end : ℕ) (level : Level) (m : Message) (o : Option Place) → (with_missed end level m o).phi ≡ level.phi
with_missed-phi end level m None = refl
with_missed-phi end level m (Some r) = with_miss-phi level _ _

pub with_missed-gap : (end : ℕ) (level : Level) (m : Message) (o : Option Place) → (with_missed end level m o).gap ≡ level.gap
with_missed-gap end level m None = refl
with_missed-gap end level m (Some r) = with_miss-gap level _ _

pub StandsBefore-through : (a b c : Level) → StandsBefore a b → StandsBefore b c → StandsBefore a c
StandsBefore-through a b c h k =
    record {
      delta = omega (arith, h.delta, k.delta);
      phi = omega (arith, h.phi, k.phi);
      miss = λ e. h.miss (omega (arith, e, h.delta, k.delta)) ∙ k.miss (omega (arith, e, h.delta, k.delta));
      gap = λ e. h.gap (omega (arith, e, h.phi, k.phi)) ∙ k.gap (omega (arith, e, h.phi, k.phi));
    }

-- what is known of misses after one number is known after a smaller one, if misses between are covered by later ones
KnowsMissesAfter-moved : (set : ℕ) (t : Recorded) (old new d : ℕ) (o : Option Miss) → new ≤ old
    → ((n : Miss) → IsMiss set t n → new < n.sent → (m : Miss) × IsMiss set t m × (old < m.sent) × (tick_of t n.missed + tick_of t m.sent
    ≤ tick_of t m.missed + tick_of t n.sent)) → KnowsMissesAfter set t old d o → KnowsMissesAfter set t new d o
KnowsMissesAfter-moved set t old new d o less cover k = record {
  shorter = λ n i l. (let c = cover n i l in omega (arith, k.shorter c.0 c.1 c.2, c.3));
  named = go o k.named;
} where
  go : (o : Option Miss) → NamesAfter set t old d o → NamesAfter set t new d o
  go None h = h
  go (Some m) h = let named = h.1 in let after = named.after in (
    h.0,
    record {
      miss = named.miss;
      after = omega (arith, less, after);
      long = named.long;
      greatest = λ n i l e. elim (cases_lt old n.sent) [
        | inl late ↦ named.greatest n i late e
        | inr early ↦ omega (arith, early, after)
      ];
    },
  )

-- and of the misses from a tick on, if they are those after the number
KnowsMisses-from_number : (set : ℕ) (t : Recorded) (done g d : ℕ) (o : Option Miss) → ((m : Miss) → IsNamedAfter set t done d m
    → g ≤ tick_of t m.sent) → ((m : Miss) → IsMiss set t m → g ≤ tick_of t m.sent → done < m.sent) → ((m n : Miss) → IsMiss set t m
    → IsMiss set t n → m.sent ≤ n.sent → tick_of t m.sent ≤ tick_of t n.sent) → KnowsMissesAfter set t done d o → KnowsMisses set t g d o
KnowsMisses-from_number set t done g d o to from rise k = record {
  shorter = λ m i f. k.shorter m i (from m i f);
  named = go o k.named;
} where
  go : (o : Option Miss) → NamesAfter set t done d o → NamesMiss set t g d o
  go None h = h
  go (Some m) h = let named = h.1 in let start = to m named in (
    h.0,
    record {
      miss = named.miss;
      from = start;
      long = named.long;
      latest = λ n i f e. rise n m i named.miss (named.greatest n i (from n i f) e);
      greatest = λ n i e l. named.greatest n i (from n i (omega (arith, start, e))) l;
    },
  )

-- the number of the miss, if there is one
abbrev pub number_of_missed : Option Place → ℕ
number_of_missed None = 0
number_of_missed (Some r) = r.no

-- the last Receive of the receiver before it has the message, or before the end, is the last that misses it
pub record IsLastMissed (set : ℕ) (t : Recorded) (m : Message) (o : Option Place) : Type 0 where
  pub last : IsLastMissOf set t m.sent.no (number_of_missed o)
  pub inside : (r : Place) → o ≡ Some r → (tick_of t r.no ≡ r.tick) × (r.tick ≤ t.last)

IsLastMissed-from_last : (set : ℕ) (t : Recorded) (m : Message) (high : ℕ) (o : Option Place) → IsMessage set t.steps m.sent.no m.to
    → tick_of t m.sent.no ≡ m.sent.tick → high ≤ t.last + 1 → ((y : ℕ) → IsDelivered t m.sent.no (tick_of t y) → tick_of t y < high → ⊥)
    → ((y : ℕ) → IsMiss set t (record { sent = m.sent.no; missed = y }) → tick_of t y < high)
    → IsLastReceive t m.to m.sent.tick high o → IsLastMissed set t m o
IsLastMissed-from_last set t m high None message place end undelivered below l = record {
  last = record {
    found = λ late. (let none : tick_of t m.sent.no < 0 = late in absurd (omega (arith, none)));
    last = λ y i. absurd (l y (subst (λ (q : ℕ). IsReceiveOf t.steps y q)
        (message_unique set t.steps m.sent.no _ m.to i.to message.sent i.message) i.receive) (omega (arith, i.late, place)) (below y i));
  };
  inside = λ r e. cc;
}
IsLastMissed-from_last set t m high (Some r) message place end undelivered below l = record {
  last = record {
    found = λ late. record {
      to = m.to;
      message = message;
      receive = l.receive;
      late = late;
      undelivered = λ d. undelivered r.no d (omega (arith, at, until));
    };
    last = λ y i. (let b = l.latest y (subst (λ (q : ℕ). IsReceiveOf t.steps y q)
        (message_unique set t.steps m.sent.no _ m.to i.to message.sent i.message) i.receive) (below y i) in omega (arith, b, at));
  };
  inside = λ q e. (let same = same_Some r q e in
      subst (λ (p : Place). (tick_of t p.no ≡ p.tick) × (p.tick ≤ t.last)) same (at, omega (arith, until, end)));
} where
  at : tick_of t r.no ≡ r.tick
  at = l.place

  until : r.tick < high
  until = l.until

-- so it is what a summary keeps of the message
pub IsLastMissed-summary : (set : ℕ) (t : Recorded) → IsTrace t → (s : Summary) → AreLastReceives set t 0 t.last s.last
    → (m : Message) → IsSent set t 0 t.last m → IsLastMissed set t m (missed s.last m)
IsLastMissed-summary set t sound s a m sent = go m.fate sent.fate where
  inside : (y : ℕ) → IsMiss set t (record { sent = m.sent.no; missed = y }) → tick_of t y < t.last + 1
  inside y i = let l = (sound.time.inside y _ i.receive.step).1 in omega (arith, l)

  go : (f : Fate) → IsFate t m.sent m.to t.last f → IsLastMissed set t m (missed_with s.last m f)
  go Open fate = IsLastMissed-from_last set t m (t.last + 1) (after m.sent (last_of s.last m.to)) sent.message sent.place (omega arith)
      (λ y d l. omega (arith, fate d.place d.takes, (sound.time.inside d.place d.takes.0 d.takes.1).1))
      inside
      (IsLastReceive-after t m.to 0 (t.last + 1) m.sent (last_of s.last m.to) (omega arith) (a.members m.to sent.message.receiver))
  go (Taken missed) fate =
      let until = fate.2 in
      IsLastMissed-from_last set t m (tick_of t fate.0) missed sent.message sent.place (omega (arith, until))
      (λ y d l. (let same = ap (λ n. tick_of t n) (sound.steps.once d.place fate.0 m.sent.no d.takes fate.1) in
      omega (arith, same, d.until, l)))
      (λ y i. elim (cases_lt (tick_of t y) (tick_of t fate.0)) [
        | inl l ↦ l
        | inr late ↦ absurd (i.undelivered
            (record { place = fate.0; after = sound.time.later fate.0 m.sent.no fate.1; until = omega (arith, late); takes = fate.1 }))
      ])
      fate.3

-- Each message between members is listed.

fate_exists : (set : ℕ) (t : Recorded) → IsTrace t → (s : Place) (q : ℕ) → (f : Fate) × IsFate t s q t.last f
fate_exists set t sound s q = go (is_taken t.steps s.no) refl where
  go : (b : Bool) → is_taken t.steps s.no ≡ b → (f : Fate) × IsFate t s q t.last f
  go true e =
      let taken = taken_at-from_is_taken t.steps s.no e in
      let last = IsLastReceive-some t sound.time q s.tick (tick_of t taken.0) in
      (Taken last.0, (taken.0, taken.1, (sound.time.inside taken.0 taken.1.0 taken.1.1).1, last.1))
  go false e = (Open, λ x takes. absurd (true≢false (sym (taken_from_at t.steps x s.no takes) ∙ e)))

-- where a message is in the list
pub record IsListed (t : Recorded) (sent : List Message) (s : ℕ) : Type 0 where
  pub place : ℕ
  pub message : Message
  pub at : slice_get sent place ≡ Some message
  pub no : message.sent.no ≡ s
  pub tick : message.sent.tick ≡ tick_of t s

pub IsListed-message : (set : ℕ) (t : Recorded) → IsTrace t
    → (s : Summary) → IsSummary set t 0 t.last s → (x b : ℕ) → IsMessage set t.steps x b → IsListed t s.sent x
IsListed-message set t sound s a x b m =
    let place : Place = record { no = x; tick = tick_of t x } in
    let fate = fate_exists set t sound place b in
    let own : Message = record { sent = place; to = b; fate = fate.0 } in
    let inside = sound.time.inside x _ m.sent in
    let at = slice-Contains s.sent own
    (a.sent.complete own (record { message = m; place = refl; after = omega (arith, inside.0); until = inside.1; fate = fate.1 })) in
    record { place = at.0; message = own; at = at.1; no = refl; tick = refl }

-- numbers rise as the places do
numbers_rise : (set : ℕ) (t : Recorded) → IsTrace t → (s : Summary) → Suffices set t s → (i j : ℕ) (x y : Message)
    → slice_get s.sent i ≡ Some x → slice_get s.sent j ≡ Some y → i < j → x.sent.no < y.sent.no
numbers_rise set t sound s a i j x y h k l = elim (Rises-slices SentBefore s.sent i j x y a.sent_rising h k l) [
  | inr e ↦ e.1
  | inl e ↦ (
      let u = a.sent_sound x (Contains-slice_get s.sent i x h) in
      let v = a.sent_sound y (Contains-slice_get s.sent j y k) in
      number_below t sound.time x.sent.no y.sent.no _ _ u.message.sent v.message.sent (omega (arith, e, u.place, v.place)))
]

-- the messages from place n on have greater numbers than those before
number_after : (set : ℕ) (t : Recorded) → IsTrace t
    → (s : Summary) → Suffices set t s → (n j : ℕ) (y : Message) → slice_get s.sent j ≡ Some y → n ≤ j → number_at s.sent n < y.sent.no
number_after set t sound s a zero j y h l =
    (step_at_within t.steps y.sent.no _ (a.sent_sound y (Contains-slice_get s.sent j y h)).message.sent).0
number_after set t sound s a (suc n) j y h l = go (slice_get s.sent n) refl where
  go : (o : Option Message) → slice_get s.sent n ≡ o → number_of o < y.sent.no
  go None e = (step_at_within t.steps y.sent.no _ (a.sent_sound y (Contains-slice_get s.sent j y h)).message.sent).0
  go (Some x) e = numbers_rise set t sound s a n j x y e h (omega (arith, l))

number_until : (set : ℕ) (t : Recorded) → IsTrace t → (s : Summary) → Suffices set t s → (n j : ℕ) (y : Message)
    → slice_get s.sent j ≡ Some y → n ≤ length s.sent → j < n → y.sent.no ≤ number_at s.sent n
number_until set t sound s a zero j y h long l = absurd (omega (arith, l))
number_until set t sound s a (suc n) j y h long l =
    let at = slice_get-get_or s.sent n y (omega (arith, long)) in
    subst (λ o. y.sent.no ≤ number_of o) (sym at) (elim (cases_lt j n) [
      | inl below ↦ (let rise = numbers_rise set t sound s a j n y _ h at below in omega (arith, rise))
      | inr above ↦ (let e : j ≡ n = omega (arith, above, l) in
          let same = same_Some _ _ (sym h ∙ ap (slice_get s.sent) e ∙ at) in
          let no = ap (λ (x : Message). x.sent.no) same in
          omega (arith, no))
    ])

-- The level takes the last miss of a message.

up_to-inside : (end x : ℕ) → x ≤ end → up_to end x ≡ x
up_to-inside end x l = grind (arith, l)

with_missed-lowered : (set : ℕ) (t : Recorded) (end : ℕ) (m : Message) (level : Level) (o : Option Place) → end ≡ t.last
    → tick_of t m.sent.no ≡ m.sent.tick → 1 ≤ m.sent.no → KnowsMissesAfter set t m.sent.no level.delta level.miss
    → IsLastMissed set t m o → KnowsMissesAfter set t (m.sent.no - 1) (with_missed end level m o).delta
    (with_missed end level m o).miss
with_missed-lowered set t end m level None last place low known is =
    let miss : Miss = record { sent = m.sent.no; missed = 0 } in
    let positive = after_positive set t m.sent.no level.delta level.miss known.named in
    let none : tick_of t 0 - tick_of t m.sent.no ≡ 0 = (let e : 0 - tick_of t m.sent.no ≡ 0 = omega arith in e) in
    subst (λ (l : Level). KnowsMissesAfter set t (m.sent.no - 1) l.delta l.miss)
    (ap (λ n. with_miss level miss n) none ∙ with_miss-none level miss positive)
    (MissesLowered-with_miss set t m.sent.no 0 level low known is.last).misses
with_missed-lowered set t end m level (Some r) last place low known is =
    let miss : Miss = record { sent = m.sent.no; missed = r.no } in
    let inside = is.inside r refl in
    let same = up_to-inside end r.tick (omega (arith, inside.1, last)) in
    let long : tick_of t r.no - tick_of t m.sent.no ≡ up_to end r.tick - m.sent.tick = omega (arith, inside.0, place, same) in
    subst (λ n. KnowsMissesAfter set t (m.sent.no - 1) (with_miss level miss n).delta (with_miss level miss n).miss) long
    (MissesLowered-with_miss set t m.sent.no r.no level low known is.last).misses

pub HasMissesFrom-back : (part : Summary) (j : ℕ) (m : Message) (level : Level) → slice_get part.sent j ≡ Some m
    → HasMissesFrom part (suc j) level → HasMissesFrom part j (with_missed part.to level m (missed part.last m))
HasMissesFrom-back part j m level at h = λ set t sound a.
    (let sent = a.sent_sound m (Contains-slice_get part.sent j m at) in
    let known = subst (λ o. KnowsMissesAfter set t (number_of o) level.delta level.miss) at (h set t sound a) in
    let last = IsLastMissed-summary set t sound part a.last m sent in
    let low = (step_at_within t.steps m.sent.no _ sent.message.sent).0 in
    let lowered = with_missed-lowered set t part.to m level (missed part.last m) a.to sent.place (omega (arith, low)) known last in
    let before = number_after set t sound part a j j m at (omega arith) in
    KnowsMissesAfter-moved set t (m.sent.no - 1) (number_at part.sent j) _ _ (omega (arith, before)) (cover set t sound a) lowered) where
      cover : (set : ℕ) (t : Recorded) → IsTrace t → Suffices set t part → (n : Miss) → IsMiss set t n → number_at part.sent j < n.sent
          → (u : Miss) × IsMiss set t u × (m.sent.no - 1 < u.sent)
          × (tick_of t n.missed + tick_of t u.sent ≤ tick_of t u.missed + tick_of t n.sent)
      cover set t sound a n i l =
          let c = a.missed n i in
          let place = slice-Contains part.sent c.message c.listed in
          let long = slice_get_within part.sent j m at in (
            c.miss,
            c.is,
            elim (cases_lt place.0 j) [
              | inl below ↦ absurd (let until = number_until set t sound part a j place.0 c.message place.1 (omega (arith, long)) below in
                  omega (arith, until, c.sent_in, c.later, l))
              | inr above ↦ elim (cases_lt j place.0) [
                | inl after ↦ (let rise = numbers_rise set t sound part a j place.0 m c.message at place.1 after in
                    omega (arith, rise, c.sent_in))
                | inr b ↦ (let e : place.0 ≡ j = omega (arith, above, b) in
                    let same = ap (λ (x : Message). x.sent.no) (same_Some _ _ (sym place.1 ∙ ap (slice_get part.sent) e ∙ at)) in
                    let own = (step_at_within t.steps m.sent.no _ (a.sent_sound m (Contains-slice_get part.sent j m at)).message.sent).0 in
                    omega (arith, same, c.sent_in, own))
              ]
            ],
            c.long,
          )

-- Before any message is scanned there is no miss.
pub HasMissesFrom-all : (part : Summary) (level : Level) → level.delta ≡ 1 → level.miss ≡ None → HasMissesFrom part (length part.sent) level
HasMissesFrom-all part level d o set t sound a = rw (d, o) (record {
  shorter = λ m i l. absurd (let c = a.missed m i in
      let place = slice-Contains part.sent c.message c.listed in
      let inside = slice_get_within part.sent place.0 c.message place.1 in
      let until = number_until set t sound part a (length part.sent) place.0 c.message place.1 (omega arith) inside in
      omega (arith, until, c.sent_in, c.later, l));
  named = refl;
})

-- If the messages that are left are those before a tick, the misses are those from the tick on.
pub KnowsMisses-from_left : (part : Summary) (g left : ℕ) (level : Level) → left ≤ length part.sent
    → SentFrom part.sent g left → ((x : Message) → last_at part.sent left ≡ Some x → x.sent.tick < g)
    → HasMissesFrom part left level → (set : ℕ) (t : Recorded) → IsTrace t → Suffices set t part
    → KnowsMisses set t g level.delta level.miss
KnowsMisses-from_left part g left level long sent_later earlier h set t sound a =
    KnowsMisses-from_number set t (number_at part.sent left) g level.delta level.miss to from
    (λ m n i j l. ticks_rise t sound.time m.sent n.sent _ _ i.message.sent j.message.sent l) (h set t sound a) where
      known : KnowsMissesAfter set t (number_at part.sent left) level.delta level.miss
      known = h set t sound a

      to : (m : Miss) → IsNamedAfter set t (number_at part.sent left) level.delta m → g ≤ tick_of t m.sent
      to m named =
          let c = a.missed m named.miss in
          let short = known.shorter c.miss c.is (omega (arith, c.later, named.after)) in
          let first = named.greatest c.miss c.is (omega (arith, c.later, named.after)) (omega (arith, c.long, named.long, short)) in
          let same : c.message.sent.no ≡ m.sent = omega (arith, c.sent_in, c.later, first) in
          let tick = (a.sent_sound c.message c.listed).place in
          let place = slice-Contains part.sent c.message c.listed in
          elim (cases_lt place.0 left) [
            | inl below ↦ absurd (let until = number_until set t sound part a left place.0 c.message place.1 long below in
                omega (arith, until, same, named.after))
            | inr above ↦ (let at = sent_later place.0 c.message (omega (arith, above)) place.1 in
                omega (arith, at, tick, ap (tick_of t) same))
          ]

      from : (m : Miss) → IsMiss set t m → g ≤ tick_of t m.sent → number_at part.sent left < m.sent
      from m i l = go (last_at part.sent left) refl where
        go : (o : Option Message) → last_at part.sent left ≡ o → number_of o < m.sent
        go None e = (step_at_within t.steps m.sent _ i.message.sent).0
        go (Some x) e = elim (cases_lt x.sent.no m.sent) [
          | inl late ↦ late
          | inr early ↦ absurd (
              let sent = a.sent_sound x (last_at-Contains part.sent left x e) in
              let rise = ticks_rise t sound.time m.sent x.sent.no _ _ i.message.sent sent.message.sent early in
              omega (arith, rise, sent.place, earlier x e, l))
        ]
