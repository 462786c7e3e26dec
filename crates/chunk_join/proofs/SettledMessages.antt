-- Messages that get their fates, take by take.
use Rattle.std.proofs.Common.{ℕ, ◌≡◌, ◌-◌, ◌<◌, ◌≤◌, ◌⊎◌, inl, inr, List, [], ◌∷◌, length, get_or, set, drop, drop-cons}
use Rattle.std.proofs.Common.{map, find, Bool, true, false, cond, Option, Some, None, suc, refl, sym, ap, ap₂, subst}
use Rattle.std.proofs.Common.{◌∙◌, arith}
use Rattle.std.specs.List.Sorted.{IsPartitionedBy, IsPartitionPoint}
use Rattle.std.proofs.lemmas.Bool.{cases_lt, cases_eq}
use Rattle.chunk_join.specs.declared.summaries.Place.{Place}
use Rattle.chunk_join.specs.declared.summaries.Message.{Message}
use Rattle.chunk_join.specs.declared.summaries.Take.{Take}
use Rattle.chunk_join.specs.Summaries.{Rises, SentBefore}
use Rattle.chunk_join.specs.Parts.{comes_before, settle, settle_with, settled_by, takes_of}
use Rattle.chunk_join.specs.Laws.Listings.{Rises-map}
use Rattle.chunk_join.specs.Laws.SentMessages.{settle_keeps_order}
use Rattle.chunk_join.proofs.Places.{Rises-at, map_kept, map_at}

-- the order of places, as a test and as a statement
abbrev Earlier : Place → Place → Type 0
Earlier a b = (a.tick < b.tick) ⊎ ((a.tick ≡ b.tick) × (a.no < b.no))

comes_before-says : (a b : Place) → comes_before a b ≡ true → Earlier a b
comes_before-says a b h = grind (arith, h)

comes_before-true : (a b : Place) → Earlier a b → comes_before a b ≡ true
comes_before-true a b p = grind (arith, p)

earlier_trans : (a b c : Place) → Earlier a b → Earlier b c → Earlier a c
earlier_trans a b c p q = grind (arith, p, q)

-- messages in order are parted by a place
pub parted_by_place : (sent : List Message) (at : Place) → Rises SentBefore sent → IsPartitionedBy (λ m. comes_before m.sent at) sent
parted_by_place sent at r i j d l h e = elim (cases_eq i j) [
  | inl same ↦ subst (λ k. comes_before (get_or sent k d).sent at ≡ true) (sym same) e
  | inr other ↦ comes_before-true _ at
      (earlier_trans _ _ at (Rises-at SentBefore sent i j d r (omega (arith, l, other)) h) (comes_before-says _ at e))
]

-- a message that isn't the one of a take is unchanged
kept : (last : List (Option Place)) (t : Take) (m : Message)
    → ((t.sent.no ≡ m.sent.no) × (t.sent.tick ≡ m.sent.tick) → ⊥) → settle_with last t m ≡ m
kept last t m other = grind (arith, other)

earlier_other : (a b : Place) → Earlier a b → (b.no ≡ a.no) × (b.tick ≡ a.tick) → ⊥
earlier_other a b p e = grind (arith, p, e.0, e.1)

later_other : (a b c : Place) → comes_before a b ≡ false → Earlier a c → (b.no ≡ c.no) × (b.tick ≡ c.tick) → ⊥
later_other a b c n l e = grind (arith, n, l, e.0, e.1)

-- what comes before the place is another message
module _ (last : List (Option Place)) (t : Take) (sent : List Message) (at : ℕ) (rises : Rises SentBefore sent)
    (point : IsPartitionPoint (λ m. comes_before m.sent t.sent ≡ true) (λ m. comes_before m.sent t.sent ≡ false) sent at) where
  before_kept : (i : ℕ) (d : Message) → i < at → settle_with last t (get_or sent i d) ≡ get_or sent i d
  before_kept i d l = kept last t (get_or sent i d) (earlier_other _ t.sent (comes_before-says _ t.sent (point.0 i d (omega arith) l)))

  after_kept : (i : ℕ) (d : Message) → at < i → i < length sent → settle_with last t (get_or sent i d) ≡ get_or sent i d
  after_kept i d l h = kept last t (get_or sent i d) (later_other (get_or sent at d).sent t.sent
      (get_or sent i d).sent (point.1 at d (omega arith) (omega (arith, l, h))) (Rises-at SentBefore sent at i d rises l h))

  pub settled_at : (v : Message) → at < length sent
      → ((d : Message) → v ≡ settle_with last t (get_or sent at d)) → set sent at v ≡ map (settle_with last t) sent
  settled_at v l e = map_at (settle_with last t) sent at v l e (λ i d h ne. elim (cases_lt i at) [
    | inl early ↦ before_kept i d early
    | inr late ↦ after_kept i d (omega (arith, late, ne)) h
  ])

  pub settled_none : length sent ≤ at → sent ≡ map (settle_with last t) sent
  settled_none l = map_kept (settle_with last t) sent (λ i d h. before_kept i d (omega (arith, l, h)))

-- one take more, before those so far
settle-more : (t : Take) (taken : List Take) (last : List (Option Place)) (m : Message)
    → settle_with last t (settle taken last m) ≡ settle (t ∷ taken) last m
settle-more t taken last m = go (find (takes_of m) taken) where
  same : (o : Option Take) → takes_of (settled_by last m o) t ≡ takes_of m t
  same None = refl
  same (Some x) = refl

  fate : (o : Option Take) → settled_by last (settled_by last m o) (Some t) ≡ settled_by last m (Some t)
  fate None = refl
  fate (Some x) = refl

  pick : (b : Bool) (o : Option Take) → cond b (settled_by last (settled_by last m o) (Some t)) (settled_by last m o)
      ≡ settled_by last m (cond b (Some t) o)
  pick true o = fate o
  pick false o = refl

  go : (o : Option Take) → settle_with last t (settled_by last m o) ≡ settled_by last m (cond (takes_of m t) (Some t) o)
  go o = ap (λ (b : Bool). cond b (settled_by last (settled_by last m o) (Some t)) (settled_by last m o)) (same o) ∙ pick (takes_of m t) o

pub map-settle_more : (t : Take) (taken : List Take) (last : List (Option Place)) (sent : List Message)
    → map (settle_with last t) (map (settle taken last) sent) ≡ map (settle (t ∷ taken) last) sent
map-settle_more t taken last [] = refl
map-settle_more t taken last (m ∷ sent) = ap₂ (λ y ys. y ∷ ys) (settle-more t taken last m) (map-settle_more t taken last sent)

pub map-settle_none : (last : List (Option Place)) (sent : List Message) → sent ≡ map (settle [] last) sent
map-settle_none last [] = refl
map-settle_none last (m ∷ sent) = ap (λ ys. m ∷ ys) (map-settle_none last sent)

pub settled_rise : (taken : List Take) (last : List (Option Place)) (sent : List Message)
    → Rises SentBefore sent → Rises SentBefore (map (settle taken last) sent)
settled_rise taken last sent r = Rises-map SentBefore (settle taken last) sent (λ x y a b h. settle_keeps_order taken last x y h) r

-- going back over one take more
pub settled_back : (taken : List Take) (last : List (Option Place)) (sent old now : List Message) (k : ℕ) (d : Take)
    → 0 < k → k ≤ length taken → old ≡ map (settle (drop k taken) last) sent
    → now ≡ map (settle_with last (get_or taken (k - 1) d)) old → now ≡ map (settle (drop (k - 1) taken) last) sent
settled_back taken last sent old now k d low high e f =
    let next : suc (k - 1) ≡ k = omega arith in
    let own : drop (k - 1) taken ≡ get_or taken (k - 1) d ∷ drop k taken = drop-cons taken (k - 1) d (omega arith)
    ∙ ap (λ n. get_or taken (k - 1) d ∷ drop n taken) next in
    f ∙ ap (λ xs. map (settle_with last (get_or taken (k - 1) d)) xs) e
    ∙ map-settle_more (get_or taken (k - 1) d) (drop k taken) last sent ∙ ap (λ ts. map (settle ts last) sent) (sym own)
