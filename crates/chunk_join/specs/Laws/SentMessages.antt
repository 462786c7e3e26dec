-- The messages of a part and what becomes of them, joined.
use Rattle.std.proofs.Common.{ℕ, ◌≡◌, ◌<◌, ◌≤◌, ◌++◌, List, inl, inr, Option, Some, None, map}
use Rattle.std.proofs.Common.{find, Contains, refl, sym, ap, subst, subst₂, ◌⊎◌, arith}
use Rattle.std.proofs.lemmas.Bool.{cases_lt}
use Rattle.std.proofs.lemmas.List.Elements.{Contains-append_left, Contains-append_right, Contains-append_cases}
use Rattle.step_trace.specs.Traces.{Recorded}
use Rattle.step_trace.specs.Ticks.{IsTrace}
use Rattle.step_trace.proofs.ListMembers.{Contains-map, Contains-from_map}
use Rattle.chunk_join.specs.declared.summaries.Place.{Place}
use Rattle.chunk_join.specs.declared.summaries.Message.{Message}
use Rattle.chunk_join.specs.declared.summaries.Take.{Take}
use Rattle.chunk_join.specs.Summaries.{Summary, IsSummary, IsListing, IsSent, SentBefore}
use Rattle.chunk_join.specs.Parts.{settle, settled_by, takes_of}
use Rattle.chunk_join.specs.Laws.Listings.{Rises-append, Rises-map}
use Rattle.chunk_join.specs.Laws.TakenIds.{before_take}
use Rattle.chunk_join.specs.Laws.SettledFates.{KnowsTakes, IsKnown, earlier_fate, with_fate}
use Rattle.chunk_join.specs.Laws.SettledFates.{settle-fate, IsSent-settled}

-- the right part's list has all that takes a message of the left part after the seam
pub KnowsTakes-right : (set : ℕ) (t : Recorded) (i s j : ℕ) (l r : Summary) (m : Message) → i ≤ s
    → IsSummary set t i s l → IsSummary set t s j r → IsSent set t i s m → KnowsTakes set t s j r.taken l.last m
KnowsTakes-right set t i s j l r m low a b sent = record {
  sound = λ y c. (let k = b.taken.sound y c in (k.own, k.until));
  complete = λ y own until same.
      (b.taken.complete y (record { own = own; until = until; earlier = omega (arith, sent.until, same) }));
  before = λ y own. ((i, omega (arith, sent.after), before_take set t i s l y low a own));
}

pub IsKnown-left : (set : ℕ) (t : Recorded) (i s j : ℕ) (m : Message) → s ≤ j → IsSent set t i s m
    → IsKnown set t i s j m
IsKnown-left set t i s j m high k =
    record {
      message = k.message;
      place = k.place;
      after = k.after;
      until = omega (arith, k.until, high);
      fate = k.fate;
    }

-- what is sent after the seam is a message of the right part, and the other way
IsSent-right : (set : ℕ) (t : Recorded) (i s j : ℕ) (m : Message) → s < m.sent.tick → IsSent set t i j m
    → IsSent set t s j m
IsSent-right set t i s j m late k =
    record { message = k.message; place = k.place; after = late; until = k.until; fate = k.fate }

IsSent-whole : (set : ℕ) (t : Recorded) (i s j : ℕ) (m : Message) → i ≤ s → IsSent set t s j m → IsSent set t i j m
IsSent-whole set t i s j m low k =
    record { message = k.message; place = k.place; after = omega (arith, k.after, low); until = k.until; fate = k.fate }

-- a message keeps its Send
pub settled_sent : (last : List (Option Place)) (m : Message) (o : Option Take) → (settled_by last m o).sent ≡ m.sent
settled_sent last m None = refl
settled_sent last m (Some x) = refl

pub settle_keeps_order : (taken : List Take) (last : List (Option Place)) (x y : Message) → SentBefore x y
    → SentBefore (settle taken last x) (settle taken last y)
settle_keeps_order taken last x y h =
    subst₂ (λ (p q : Place). (p.tick < q.tick) ⊎ ((p.tick ≡ q.tick) × (p.no < q.no)))
    (sym (settled_sent last x (find (takes_of x) taken))) (sym (settled_sent last y (find (takes_of y) taken))) h

-- the messages of both parts together
pub joined_sent : (set : ℕ) (t : Recorded) → IsTrace t → (i s j : ℕ) (l r : Summary) → i ≤ s → s ≤ j
    → IsSummary set t i s l → IsSummary set t s j r
    → IsListing SentBefore (IsSent set t i j) (map (settle r.taken l.last) l.sent ++ r.sent)
joined_sent set t sound i s j l r low high a b = record {
  rising = Rises-append SentBefore settled r.sent
      (Rises-map SentBefore (settle r.taken l.last) l.sent (λ x y p q h. settle_keeps_order r.taken l.last x y h)
      a.sent.rising) b.sent.rising across;
  sound = λ x k. elim (Contains-append_cases settled r.sent x k) [
    | inl p ↦ (let y = Contains-from_map (settle r.taken l.last) l.sent x p in
        let sent = a.sent.sound y.0 y.1 in
        let z = IsSent-settled set t sound i s j r.taken l.last y.0 high
        (KnowsTakes-right set t i s j l r y.0 low a b sent) (IsKnown-left set t i s j y.0 high sent) in
        subst (λ v. IsSent set t i j v) y.2 z)
    | inr p ↦ IsSent-whole set t i s j x low (b.sent.sound x p)
  ];
  complete = λ x k. elim (cases_lt s x.sent.tick) [
    | inl late ↦ Contains-append_right settled r.sent x (b.sent.complete x (IsSent-right set t i s j x late k))
    | inr early ↦ Contains-append_left settled r.sent x (left_listed x k early)
  ];
} where
  settled : List Message
  settled = map (settle r.taken l.last) l.sent

  -- a message up to the seam is one of the left part's, after what the right part takes
  left_listed : (x : Message) → IsSent set t i j x → x.sent.tick ≤ s → Contains settled x
  left_listed x k early =
      let f = earlier_fate t sound x.sent x.to s j x.fate high k.fate in
      let m = with_fate x f.0 in
      let own : IsSent set t i s m =
      record { message = k.message; place = k.place; after = k.after; until = early; fate = f.1 } in
      let same = settle-fate set t sound i s j r.taken l.last m high (KnowsTakes-right set t i s j l r m low a b own)
      (IsKnown-left set t i s j m high own) x.fate k.fate in
      subst (Contains settled) same (Contains-map (settle r.taken l.last) l.sent m (a.sent.complete m own))

  across : (x y : Message) → Contains settled x → Contains r.sent y → SentBefore x y
  across x y p q =
      let z = Contains-from_map (settle r.taken l.last) l.sent x p in
      let e = ap (λ (w : Place). w.tick) (settled_sent l.last z.0 (find (takes_of z.0) r.taken)) in
      subst (λ w. SentBefore w y) z.2 (inl (omega (arith, (a.sent.sound z.0 z.1).until, (b.sent.sound y q).after, e)))
