-- The messages of a block with their fates, and the older ones that it takes, from all that its Receives take.
use Rattle.std.proofs.Common.{ℕ, ◌≡◌, ◌+◌, ◌-◌, ◌<◌, ◌≤◌, List, [], inl, inr, Option, Some, None, map, filter, find, Contains, refl, sym, ap, subst, ◌∙◌, arith, ap₂, ◌∷◌, Bool, length, cond}
use Rattle.std.proofs.lemmas.Bool.{cases_lt, ltb-true}
use Rattle.step_trace.specs.Traces.{Recorded}
use Rattle.step_trace.specs.Ticks.{tick_of, IsTrace}
use Rattle.step_trace.proofs.ListMembers.{Contains-nil, Contains-map, Contains-from_map, Contains-filter, Contains-from_filter, Contains-head, Contains-rest}
use Rattle.step_trace.specs.TickSteps.{AreStepsBefore}
use Rattle.chunk_join.specs.declared.summaries.Place.{Place}
use Rattle.chunk_join.specs.declared.summaries.Fate.{Fate}
use Rattle.chunk_join.specs.declared.summaries.Fate.TheVariants.{Open, Taken}
use Rattle.chunk_join.specs.declared.summaries.Message.{Message}
use Rattle.chunk_join.specs.declared.summaries.Take.{Take}
use Rattle.chunk_join.specs.Summaries.{IsListing, Rises, IsSent, IsFate, IsAnyTake, IsTake, IsPlace, IsLastReceive, SentBefore, TakenBefore}
use Rattle.chunk_join.specs.Parts.{later_of, after, settle, settled_by, takes_of, is_older}
use Rattle.chunk_join.specs.BlockSteps.{IsOpenBy, AreFates, fated, fate_by, takes_no, AreTakesBy, AreOpenBy}
use Rattle.chunk_join.specs.Laws.Listings.{Contains-found, Rises-map, Rises-filter}
use Rattle.chunk_join.specs.Laws.Thinned.{map-alike}
use Rattle.chunk_join.specs.Laws.TakenIds.{is_older-true}
use Rattle.chunk_join.specs.Laws.SettledFates.{KnowsTakes, IsKnown, takes_of-same, with_fate, settle-fate, IsSent-settled}
use Rattle.chunk_join.specs.Laws.SentMessages.{settle_keeps_order}
use Rattle.chunk_join.proofs.BlockMessages.{step_early, step_first}

-- all that members take in the ticks after i up to j, whenever it was sent
pub record AreCatches (set : ℕ) (t : Recorded) (i j : ℕ) (all : List Take) : Type 0 where
  pub rising : Rises TakenBefore all
  pub sound : (x : Take) → Contains all x → IsAnyTake set t i x × (x.at.tick ≤ j)
  pub complete : (x : Take) → IsAnyTake set t i x → x.at.tick ≤ j → Contains all x

pub any_takes_all : (set : ℕ) (t : Recorded) (i j b : ℕ) (all : List Take)
    → AreStepsBefore t (j + 1) b → AreTakesBy set t i b [] all → AreCatches set t i j all
any_takes_all set t i j b all o l = record {
  rising = l.rising;
  sound = λ x k. (let h = l.sound x k in (
    h.own,
    elim h.until [
      | inl before ↦ (let early = step_early t (j + 1) b x.at.no _ o h.own.receive.step before in omega (arith, early, h.own.at_place))
      | inr here ↦ absurd (Contains-nil x.sent.no here.1)
    ],
  ));
  complete = λ x h u.
      l.complete x (record { own = h; until = inl (step_first t (j + 1) b x.at.no _ o h.receive.step (omega (arith, h.at_place, u))) });
}

-- of these the older ones
pub block_taken : (set : ℕ) (t : Recorded) (from j : ℕ) (all : List Take) → 1 ≤ from → AreCatches set t (from - 1) j all
    → IsListing TakenBefore (IsTake set t (from - 1) j) (filter (is_older from) all)
block_taken set t from j all low a = record {
  rising = Rises-filter TakenBefore (is_older from) all a.rising;
  sound = λ x k.
      let y = Contains-from_filter (is_older from) all x k in
      let h = a.sound x y.0 in
      record { own = h.0; until = h.1; earlier = omega (arith, ltb-true x.sent.tick from y.1) };
  complete = λ x h. Contains-filter (is_older from) all x
      (a.complete x h.own h.until) (is_older-true from x (omega (arith, h.earlier, low)));
}

later_of-none : (o : Option Place) → later_of None o ≡ o
later_of-none None = refl
later_of-none (Some r) = refl

-- the messages of the block, from all its open ones
pub block_sent : (set : ℕ) (t : Recorded) → IsTrace t → (i j : ℕ) (all : List Take) → AreCatches set t i j all → (b : ℕ) (opens : List
    Message) → AreStepsBefore t (j + 1) b → AreOpenBy set t i b opens → IsListing SentBefore (IsSent set t i j) (map (settle all []) opens)
block_sent set t sound i j all a b opens o l = record {
  rising = Rises-map SentBefore (settle all []) opens (λ x y p q h. settle_keeps_order all [] x y h) l.rising;
  sound = λ m k.
      let y = Contains-from_map (settle all []) opens m k in
      let h = l.sound y.0 y.1 in
      subst (IsSent set t i j) y.2 (IsSent-settled set t sound i i j all [] y.0 (order y.0 h) (knows y.0 h) (known y.0 h));
  complete = λ m h.
      let own : IsOpenBy set t i b (with_fate m Open) = record {
        message = h.message;
        place = h.place;
        after = h.after;
        until = step_first t (j + 1) b m.sent.no _ o h.message.sent (omega (arith, h.place, h.until));
        open_yet = refl;
      } in
      let same = settle-fate set t sound i i j all [] (with_fate m Open) (order _ own) (knows _ own) (known _ own) m.fate h.fate in
      subst (Contains (map (settle all []) opens)) same
      (Contains-map (settle all []) opens (with_fate m Open) (l.complete (with_fate m Open) own));
} where
  knows : (m : Message) → IsOpenBy set t i b m → KnowsTakes set t i j all [] m
  knows m h = record {
    sound = a.sound;
    complete = λ y own until same. a.complete y own until;
    before = λ y own. (i, omega (arith, h.after), subst (IsLastReceive t y.by i y.at.tick) (sym (later_of-none y.before)) own.before);
  }

  -- before the block nothing takes it
  known : (m : Message) → IsOpenBy set t i b m → IsKnown set t i i j m
  known m h = let place = h.place in let low = h.after in record {
    message = h.message;
    place = place;
    after = low;
    until = let early = step_early t (j + 1) b m.sent.no _ o h.message.sent h.until in omega (arith, early, place);
    fate = subst (IsFate t m.sent m.to i) (sym h.open_yet) (λ x takes. omega (arith, sound.time.later x m.sent.no takes, place, low));
  }

  order : (m : Message) → IsOpenBy set t i b m → i ≤ j
  order m h = let k = known m h in omega (arith, k.after, k.until)

-- searches that are alike
find_alike : {X : Type 0} (p q : X → Bool) (xs : List X) → ((x : X) → Contains xs x → p x ≡ q x) → find p xs ≡ find q xs
find_alike p q [] h = refl
find_alike p q (x ∷ xs) h = ap₂ (λ b rest. cond b (Some x) rest)
    (h x (Contains-head x xs)) (find_alike p q xs (λ y k. h y (Contains-rest x y xs k)))

-- a take of the message's number is one of the message
takes_alike : (t : Recorded) (m : Message) (x : Take) → IsPlace t m.sent → IsPlace t x.sent → takes_no m.sent.no x ≡ takes_of m x
takes_alike t m x p q = grind (arith, p, q)

-- the fate by a message's number is that by the message
settled_as : (m : Message) (o : Option Take) → m.fate ≡ Open
    → ((x : Take) → o ≡ Some x → x.sent ≡ m.sent) → with_fate m (fate_by o) ≡ settled_by [] m o
settled_as m None e h = ap (λ f. with_fate m f) (sym e)
settled_as m (Some x) e h = ap₂ (λ (s : Place) (o : Option Place). with_fate m (Taken (after s o)))
    (h x refl) (sym (later_of-none x.before))

-- the messages with their fates from a list by number are those that settle
pub fated_settled : (set : ℕ) (t : Recorded) (from j before b : ℕ) (all : List Take) (fates : List Fate)
    (opens : List Message) → 1 ≤ from → AreStepsBefore t from before → length fates ≡ b - before
    → AreFates before all fates → AreCatches set t (from - 1) j all → AreOpenBy set t (from - 1) b opens
    → map (fated before fates) opens ≡ map (settle all []) opens
fated_settled set t from j before b all fates opens low first long f a l = map-alike (fated before fates) (settle all []) opens one where
  one : (m : Message) → Contains opens m → fated before fates m ≡ settle all [] m
  one m k =
      let h = l.sound m k in
      let above : before < m.sent.no = elim (cases_lt before m.sent.no) [
        | inl n ↦ n
        | inr n ↦ absurd (let early = step_early t from before m.sent.no _ first h.message.sent n in
            omega (arith, early, h.place, h.after, low))
      ] in
      let found = find_alike (takes_no m.sent.no) (takes_of m) all (λ x c. takes_alike t m x h.place (a.sound x c).0.sent_place) in
      let value = f.each m.sent.no above (omega (arith, above, h.until, long)) ∙ ap fate_by found in
      ap (λ (g : Fate). with_fate m g) value ∙ settled_as m (find (takes_of m) all) h.open_yet (λ x e.
      let c = Contains-found (takes_of m) all x e in
      let same = takes_of-same m x c.1 in
      ap₂ (λ (n y : ℕ). let p : Place = record { no = n; tick = y } in p) same
      (sym (a.sound x c.0).0.sent_place ∙ ap (tick_of t) same ∙ h.place))
