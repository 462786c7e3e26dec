-- The messages that a block of ticks sends, and the last Receives in it, step by step.
use Rattle.std.proofs.Common.{ℕ, ◌≡◌, ◌≢◌, ◌+◌, ◌-◌, ◌<◌, ◌≤◌, ◌⊎◌, ◌++◌, inl, inr, List, [], ◌∷◌, length, replicate, Option, Some, None, IsTrue, refl, sym, ap, subst, ◌∙◌, arith, ap₂, get_or}
use Rattle.std.proofs.Common.{set as set_at}
use Rattle.std.proofs.lemmas.Bool.{cases_eq, cases_lt}
use Rattle.std.proofs.lemmas.List.{length-replicate, length-set, map-append}
use Rattle.step_trace.specs.declared.processors.TheConstants.{MAX_MEMBER}
use Rattle.step_trace.specs.declared.steps.Act.TheVariants.{Send}
use Rattle.step_trace.specs.declared.steps.Step.{Step}
use Rattle.step_trace.specs.Processors.{has_proc}
use Rattle.step_trace.specs.Traces.{Recorded, step_at, IsReceiveOf}
use Rattle.step_trace.specs.Ticks.{tick_of, IsTimed}
use Rattle.step_trace.specs.Bounds.{IsMessage}
use Rattle.step_trace.proofs.StepPositions.{step_at_within, same_step}
use Rattle.step_trace.proofs.TickOrder.{ticks_rise, number_below, own_ticks_rise}
use Rattle.step_trace.specs.TickSteps.{AreStepsBefore}
use Rattle.chunk_join.specs.declared.summaries.Place.{Place}
use Rattle.chunk_join.specs.declared.summaries.Fate.{Fate}
use Rattle.chunk_join.specs.declared.summaries.Fate.TheVariants.{Open}
use Rattle.chunk_join.specs.declared.summaries.Message.{Message}
use Rattle.chunk_join.specs.Summaries.{IsLastReceive, AreLastReceives, SentBefore, last_of}
use Rattle.chunk_join.specs.BlockSteps.{IsOpenBy, AreFated, fated, IsLastBy, AreLastBy, AreOpenBy}
use Rattle.chunk_join.proofs.ListingGrowth.{IsListing-same, IsListing-push}
use Rattle.suffix_staircase.proofs.LongestGaps.{member_range}
use Rattle.chunk_join.proofs.LastEntries.{last_of-replicate, last_of-set}

-- a step of the first ones is in an early tick, and one that isn't, isn't
pub step_early : (t : Recorded) (x a k : ℕ) (s : Step) → AreStepsBefore t x a → step_at t.steps k ≡ Some s → k ≤ a → tick_of t k < x
step_early t x a k s o e l = o.before k (omega (arith, (step_at_within t.steps k s e).0)) l

pub step_first : (t : Recorded) (x a k : ℕ) (s : Step) → AreStepsBefore t x a → step_at t.steps k ≡ Some s → tick_of t k < x → k ≤ a
step_first t x a k s o e l = elim (cases_lt a k) [
  | inl later ↦ absurd (omega (arith, o.rest k later (step_at_within t.steps k s e).1, l))
  | inr n ↦ n
]

-- the next step of a block is after its first cut
pub step_after : (t : Recorded) (from a k : ℕ) → 1 ≤ from
    → AreStepsBefore t from a → a ≤ k → k < length t.steps → from - 1 < tick_of t (k + 1)
step_after t from a k low o l h = let r = o.rest (k + 1) (omega (arith, l)) (omega (arith, h)) in omega (arith, r, low)

-- a Send between members adds its message
pub opens_more : (t : Recorded) → IsTimed t → (set i k b : ℕ) (sent : List Message)
    → i < tick_of t (k + 1) → IsMessage set t.steps (k + 1) b → AreOpenBy set t i k sent
    → AreOpenBy set t i (k + 1) (sent ++ record { sent = record { no = k + 1; tick = tick_of t (k + 1) }; to = b; fate = Open } ∷ [])
opens_more t time set i k b sent low message l =
    IsListing-push SentBefore (IsOpenBy set t i k) (IsOpenBy set t i (k + 1)) sent next l above
    (λ y o. record { message = o.message; place = o.place; after = o.after; until = omega (arith, o.until); open_yet = o.open_yet })
    (record { message = message; place = refl; after = low; until = omega arith; open_yet = refl })
    cases
  where
    next : Message
    next = record { sent = record { no = k + 1; tick = tick_of t (k + 1) }; to = b; fate = Open }

    above : (y : Message) → IsOpenBy set t i k y → SentBefore y next
    above y o =
        let rise = ticks_rise t time y.sent.no (k + 1) _ _ o.message.sent message.sent (omega (arith, o.until)) in
        elim (cases_lt y.sent.tick (tick_of t (k + 1))) [
          | inl earlier ↦ inl earlier
          | inr n ↦ inr (omega (arith, n, rise, o.place), omega (arith, o.until))
        ]

    same : (y : Message) → IsOpenBy set t i (k + 1) y → y.sent.no ≡ k + 1 → next ≡ y
    same y o e =
        let act = ap (λ (z : Step). z.act) (same_step t.steps (k + 1) _ _ message.sent
        (subst (λ n. step_at t.steps n ≡ Some (record { proc = o.message.from; act = Send y.to })) e o.message.sent)) in
        let to : b ≡ y.to = cc in
        alike (λ no tick to fate. record { sent = record { no = no; tick = tick }; to = to; fate = fate })
        (sym e) (ap (tick_of t) (sym e) ∙ o.place) to (sym o.open_yet)
      where
        alike : (make : ℕ → ℕ → ℕ → Fate → Message) → k + 1 ≡ y.sent.no → tick_of t (k + 1) ≡ y.sent.tick → b ≡ y.to
            → Open ≡ y.fate → make (k + 1) (tick_of t (k + 1)) b Open ≡ make y.sent.no y.sent.tick y.to y.fate
        alike make p q r s = cc

    cases : (y : Message) → IsOpenBy set t i (k + 1) y → IsOpenBy set t i k y ⊎ (next ≡ y)
    cases y o = elim (cases_eq y.sent.no (k + 1)) [
      | inl e ↦ inr (same y o e)
      | inr n ↦ inl
          (record { message = o.message; place = o.place; after = o.after; until = omega (arith, o.until, n); open_yet = o.open_yet })
    ]

-- another step adds none
pub opens_same : (t : Recorded) (set i k : ℕ) (sent : List Message)
    → ((b : ℕ) → IsMessage set t.steps (k + 1) b → ⊥) → AreOpenBy set t i k sent → AreOpenBy set t i (k + 1) sent
opens_same t set i k sent none l = IsListing-same SentBefore (IsOpenBy set t i k) (IsOpenBy set t i (k + 1)) sent
    (λ y o. record { message = o.message; place = o.place; after = o.after; until = omega (arith, o.until); open_yet = o.open_yet })
    (λ y o. elim (cases_eq y.sent.no (k + 1)) [
      | inl e ↦ absurd (none y.to (subst (λ n. IsMessage set t.steps n y.to) e o.message))
      | inr n ↦ record { message = o.message; place = o.place; after = o.after; until = omega (arith, o.until, n); open_yet = o.open_yet }
    ]) l

-- the last Receive up to a number, where the numbers are those before a tick
last_before : (t : Recorded) → IsTimed t → (p i k high : ℕ) (o : Option Place)
    → ((y : ℕ) → IsReceiveOf t.steps y p → tick_of t y < high → y ≤ k)
    → ((y : ℕ) → IsReceiveOf t.steps y p → y ≤ k → tick_of t y < high) → IsLastBy t p i k o → IsLastReceive t p i high o
last_before t time p i k high None f g h = λ y r u v. h y r u (f y r v)
last_before t time p i k high (Some r) f g h = record {
  receive = h.receive;
  place = h.place;
  after = h.after;
  until = omega (arith, g r.no h.receive h.until, h.place);
  latest = λ y q v. (let l = ticks_rise t time y r.no _ _ q.step h.receive.step (h.latest y q (f y q v)) in omega (arith, l, h.place));
}

-- before a step of p it is the last one in earlier ticks
pub last_at_step : (t : Recorded) → IsTimed t → (p i k : ℕ) (o : Option Place)
    → IsReceiveOf t.steps (k + 1) p → IsLastBy t p i k o → IsLastReceive t p i (tick_of t (k + 1)) o
last_at_step t time p i k o r h = last_before t time p i k (tick_of t (k + 1)) o
    (λ y q l. (let n = number_below t time y (k + 1) _ _ q.step r.step l in omega (arith, n)))
    (λ y q l. own_ticks_rise t time y (k + 1) _ _ q.step r.step refl (omega (arith, l)))
    h

-- after the block's last step all are
pub last_all : (set : ℕ) (t : Recorded) → IsTimed t
    → (i j b : ℕ) (last : List (Option Place)) → AreStepsBefore t (j + 1) b → AreLastBy set t i b last → AreLastReceives set t i j last
last_all set t time i j b last o a = record {
  long = a.long;
  members = λ p m. last_before t time p i b (j + 1)
      (last_of last p) (λ y q l. step_first t (j + 1) b y _ o q.step l) (λ y q l. step_early t (j + 1) b y _ o q.step l) (a.members p m);
  others = a.others;
}

-- before the first step none is known
pub last_none : (set : ℕ) (t : Recorded) (from a : ℕ) (last : List (Option Place))
    → 1 ≤ from → AreStepsBefore t from a → last ≡ replicate (MAX_MEMBER + 1) None → AreLastBy set t (from - 1) a last
last_none set t from a last low s e = record {
  long = ap length e ∙ length-replicate {A = Option Place} (MAX_MEMBER + 1) None;
  members = λ p m. subst (λ o. IsLastBy t p (from - 1) a o)
      (sym (none p)) (λ y r u v. (let l = step_early t from a y _ s r.step v in omega (arith, l, u)));
  others = λ p m. none p;
} where
  none : (p : ℕ) → last_of last p ≡ None
  none p = ap (λ xs. last_of xs p) e ∙ last_of-replicate (MAX_MEMBER + 1) p

-- a step that isn't a Receive of this processor changes nothing for it
last_kept : (t : Recorded) (p i k : ℕ) (o : Option Place)
    → (IsReceiveOf t.steps (k + 1) p → ⊥) → IsLastBy t p i k o → IsLastBy t p i (k + 1) o
last_kept t p i k None none h = λ y r u v. elim (cases_eq y (k + 1)) [
  | inl f ↦ none (subst (λ n. IsReceiveOf t.steps n p) f r)
  | inr n ↦ h y r u (omega (arith, v, n))
]
last_kept t p i k (Some r) none h = record {
  receive = h.receive;
  place = h.place;
  after = h.after;
  until = omega (arith, h.until);
  latest = λ y q v. elim (cases_eq y (k + 1)) [
    | inl f ↦ absurd (none (subst (λ n. IsReceiveOf t.steps n p) f q))
    | inr n ↦ h.latest y q (omega (arith, v, n))
  ];
}

-- a Receive of a member is in the list for it
pub last_more : (set : ℕ) (t : Recorded) (i k q : ℕ) (last : List (Option Place))
    → IsTrue (has_proc set q) → IsReceiveOf t.steps (k + 1) q → i < tick_of t (k + 1) → AreLastBy set t i k last
    → AreLastBy set t i (k + 1) (set_at last q (Some (record { no = k + 1; tick = tick_of t (k + 1) })))
last_more set t i k q last m r low a = record {
  long = length-set last q _ ∙ a.long;
  members = λ p h. elim (cases p) [
    | inl same ↦ subst (λ o. IsLastBy t p i (k + 1) o) (sym same.1) (record {
      receive = subst (λ v. IsReceiveOf t.steps (k + 1) v) (sym same.0) r;
      place = refl;
      after = low;
      until = omega arith;
      latest = λ y u v. v;
    })
    | inr other ↦ subst (λ o. IsLastBy t p i (k + 1) o) (sym other.1) (last_kept t p i k
        (last_of last p) (λ u. other.0 (ap (λ (z : Step). z.proc) (same_step t.steps (k + 1) _ _ u.step r.step))) (a.members p h))
  ];
  others = λ p h. elim (cases p) [
    | inl same ↦ absurd (let f = ap (has_proc set) same.0 in cc)
    | inr other ↦ other.1 ∙ a.others p h
  ];
} where
  cases : (p : ℕ)
      → ((p ≡ q)
      × (last_of (set_at last q (Some (record { no = k + 1; tick = tick_of t (k + 1) }))) p ≡ Some
      (record { no = k + 1; tick = tick_of t (k + 1) })))
      ⊎ ((p ≢ q)
      × (last_of (set_at last q (Some (record { no = k + 1; tick = tick_of t (k + 1) }))) p ≡ last_of last p))
  cases p = last_of-set last q p _ (omega (arith, (member_range set q m).1, a.long))

-- another step changes nothing
pub last_same : (set : ℕ) (t : Recorded) (i k : ℕ) (last : List (Option Place))
    → ((p : ℕ) → IsTrue (has_proc set p) → IsReceiveOf t.steps (k + 1) p → ⊥) → AreLastBy set t i k last
    → AreLastBy set t i (k + 1) last
last_same set t i k last none a =
    record { long = a.long; members = λ p m. last_kept t p i k (last_of last p) (none p m) (a.members p m); others = a.others }

-- the same with fates from a list
pub fated_more : (t : Recorded) → IsTimed t
    → (set i before k b tick : ℕ) (fate : Fate) (fates : List Fate) (sent : List Message) → before ≤ k
    → i < tick_of t (k + 1) → IsMessage set t.steps (k + 1) b → tick ≡ tick_of t (k + 1)
    → fate ≡ get_or fates (k - before) Open → AreFated set t i before k fates sent
    → AreFated set t i before (k + 1) fates
    (sent ++ record { sent = record { no = k + 1; tick = tick }; to = b; fate = fate } ∷ [])
fated_more t time set i before k b tick fate fates sent order low message e f a = record {
  opens = a.opens ++ next ∷ [];
  listing = opens_more t time set i k b a.opens low message a.listing;
  same = ap₂ (λ xs m. xs ++ m ∷ []) a.same one ∙ sym (map-append (fated before fates) a.opens (next ∷ []));
} where
  next : Message
  next = record { sent = record { no = k + 1; tick = tick_of t (k + 1) }; to = b; fate = Open }

  index : k - before ≡ k + 1 - before - 1
  index = omega (arith, order)

  one : (let m : Message = record { sent = record { no = k + 1; tick = tick }; to = b; fate = fate } in m) ≡ fated before fates next
  one = ap₂ (λ (x : ℕ) (g : Fate). let m : Message = record { sent = record { no = k + 1; tick = x }; to = b; fate = g } in m) e
      (f ∙ ap (λ n. get_or fates n Open) index)

pub fated_same : (t : Recorded) (set i before k : ℕ) (fates : List Fate) (sent : List Message)
    → ((b : ℕ) → IsMessage set t.steps (k + 1) b → ⊥) → AreFated set t i before k fates sent
    → AreFated set t i before (k + 1) fates sent
fated_same t set i before k fates sent none a =
    record { opens = a.opens; listing = opens_same t set i k a.opens none a.listing; same = a.same }
