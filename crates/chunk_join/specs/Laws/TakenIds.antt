-- What members take in a part that was sent before it, joined.
use Rattle.std.proofs.Common.{ℕ, ◌≡◌, ◌<◌, ◌≤◌, ◌++◌, List, inl, inr, true, Option}
use Rattle.std.proofs.Common.{map, filter, Contains, ap, subst, arith}
use Rattle.std.proofs.lemmas.Bool.{cases_lt, ltb-true}
use Rattle.std.proofs.lemmas.List.Elements.{Contains-append_left, Contains-append_right, Contains-append_cases}
use Rattle.step_trace.specs.Traces.{Recorded}
use Rattle.step_trace.specs.Ticks.{IsTrace}
use Rattle.step_trace.proofs.TickOrder.{number_below}
use Rattle.step_trace.proofs.ListMembers.{Contains-map, Contains-from_map, Contains-filter, Contains-from_filter}
use Rattle.chunk_join.specs.declared.summaries.Place.{Place}
use Rattle.chunk_join.specs.declared.summaries.Take.{Take}
use Rattle.chunk_join.specs.Summaries.{Summary, IsSummary, IsListing, IsAnyTake, IsTake}
use Rattle.chunk_join.specs.Summaries.{TakenBefore, IsLastReceive, last_of}
use Rattle.chunk_join.specs.Parts.{later_of, is_older, reach_take}
use Rattle.chunk_join.specs.Laws.Listings.{Rises-append, Rises-map, Rises-filter}
use Rattle.chunk_join.specs.Laws.LastReceives.{IsLastReceive-join, IsLastReceive-one, IsLastReceive-some}

-- before a take after the seam its member last receives after it, or in the left part
pub before_take : (set : ℕ) (t : Recorded) (i m : ℕ) (l : Summary) (x : Take) → i ≤ m → IsSummary set t i m l
    → IsAnyTake set t m x → IsLastReceive t x.by i x.at.tick (later_of (last_of l.last x.by) x.before)
before_take set t i m l x low a k = IsLastReceive-join t x.by i m x.at.tick (last_of l.last x.by) x.before low k.after
    (a.last.members x.by k.member) k.before

-- the same take, with what is known from an earlier or a later cut on of the Receive before it
any_take-from : (set : ℕ) (t : Recorded) (i m : ℕ) (x : Take) (o : Option Place) → IsAnyTake set t i x → m < x.at.tick
    → IsLastReceive t x.by m x.at.tick o
    → IsAnyTake set t m (record { at = x.at; by = x.by; sent = x.sent; before = o })
any_take-from set t i m x o k after before = record {
  member = k.member;
  receive = k.receive;
  takes = k.takes;
  at_place = k.at_place;
  sent_place = k.sent_place;
  after = after;
  before = before;
}

pub is_older-true : (from : ℕ) (x : Take) → x.sent.tick < from → is_older from x ≡ true
is_older-true from x h = grind arith

-- the takes of both parts together
pub joined_taken : (set : ℕ) (t : Recorded) → IsTrace t → (i m j : ℕ) (l r : Summary) → i ≤ m → m ≤ j
    → IsSummary set t i m l → IsSummary set t m j r
    → IsListing TakenBefore (IsTake set t i j) (l.taken ++ map (reach_take l.last) (filter (is_older l.from) r.taken))
joined_taken set t sound i m j l r low high a b = record {
  rising = Rises-append TakenBefore l.taken more a.taken.rising
      (Rises-map TakenBefore (reach_take l.last) older (λ x y p q h. h)
      (Rises-filter TakenBefore (is_older l.from) r.taken b.taken.rising)) across;
  sound = λ x k. elim (Contains-append_cases l.taken more x k) [
    | inl p ↦ (let h = a.taken.sound x p in let until = h.until in
        record { own = h.own; until = omega (arith, until, high); earlier = h.earlier })
    | inr p ↦ (let y = Contains-from_map (reach_take l.last) older x p in
        subst (λ v. IsTake set t i j v) y.2 (reached y.0 y.1))
  ];
  complete = λ x k. elim (cases_lt m x.at.tick) [
    | inr early ↦ Contains-append_left l.taken more x
        (a.taken.complete x (record { own = k.own; until = early; earlier = k.earlier }))
    | inl late ↦ Contains-append_right l.taken more x (after_seam x k late)
  ];
} where
  older : List Take
  older = filter (is_older l.from) r.taken

  more : List Take
  more = map (reach_take l.last) older

  right : (x : Take) → Contains older x → IsTake set t m j x × (x.sent.tick ≤ i)
  right x k =
      let y = Contains-from_filter (is_older l.from) r.taken x k in
      let early : x.sent.tick < l.from = ltb-true x.sent.tick l.from y.1 in
      (b.taken.sound x y.0, omega (arith, a.from, early))

  reached : (x : Take) → Contains older x → IsTake set t i j (reach_take l.last x)
  reached x k =
      let y = right x k in
      let own = y.0.own in
      record {
        own = any_take-from set t m i x _ own (omega (arith, own.after, low))
            (before_take set t i m l x low a own);
        until = y.0.until;
        earlier = y.1;
      }

  across : (x y : Take) → Contains l.taken x → Contains more y → TakenBefore x y
  across x y p q =
      let z = Contains-from_map (reach_take l.last) older y q in
      let u = a.taken.sound x p in
      let v = (right z.0 z.1).0.own in
      subst (λ w. TakenBefore x w) z.2
      (inl (number_below t sound.time x.at.no z.0.at.no _ _ u.own.receive.step v.receive.step
      (omega (arith, u.until, v.after, u.own.at_place, v.at_place))))

  after_seam : (x : Take) → IsTake set t i j x → m < x.at.tick → Contains more x
  after_seam x k late =
      let last = IsLastReceive-some t sound.time x.by m x.at.tick in
      let y : Take = record { at = x.at; by = x.by; sent = x.sent; before = last.0 } in
      let own : IsAnyTake set t m y = any_take-from set t i m x last.0 k.own late last.1 in
      let earlier = k.earlier in
      let listed = b.taken.complete y (record { own = own; until = k.until; earlier = omega (arith, earlier, low) }) in
      let test = is_older-true l.from y (omega (arith, a.from, earlier)) in
      let place = Contains-map (reach_take l.last) older y (Contains-filter (is_older l.from) r.taken y listed test) in
      let same = IsLastReceive-one t sound.time x.by i x.at.tick _ _
      (before_take set t i m l y low a own) k.own.before in
      subst (λ v. Contains more v)
      (ap (λ (o : Option Place). let z : Take = record { at = x.at; by = x.by; sent = x.sent; before = o } in
      z) same) place
