-- The summaries of two parts that follow one another make up that of both together.
use Rattle.std.proofs.Common.{ℕ, ◌≡◌, ◌+◌, ◌<◌, ◌≤◌, List, [], ◌∷◌, length, ◌⊎◌, inl, inr, Bool, true, false}
use Rattle.std.proofs.Common.{Option, None, zero, suc, refl, sym, ap, subst, ◌∙◌, ◌++◌, map, filter, arith}
use Rattle.std.proofs.lemmas.List.{ext_get_or}
use Rattle.step_trace.specs.declared.rows.Gap.{Gap}
use Rattle.step_trace.specs.Processors.{has_proc}
use Rattle.step_trace.specs.Traces.{Recorded}
use Rattle.step_trace.specs.Ticks.{IsTrace}
use Rattle.chunk_join.specs.declared.summaries.Place.{Place}
use Rattle.chunk_join.specs.declared.summaries.Message.{Message}
use Rattle.chunk_join.specs.declared.summaries.Take.{Take}
use Rattle.chunk_join.specs.Joins.{JoinedLaws}
use Rattle.chunk_join.specs.Summaries.{Summary, IsSummary, IsListing, AreLastReceives, IsLastReceive, last_of, IsPiece}
use Rattle.chunk_join.specs.Summaries.{SentBefore, TakenBefore, EndsBefore, IsSent, IsTake, IsLongest}
use Rattle.chunk_join.specs.Parts.{later_of, later_each, stops, reach_back, joined_parts, joined, refusal}
use Rattle.chunk_join.specs.Laws.Listings.{IsListing-one}
use Rattle.chunk_join.specs.Laws.PartsJoined.{parts_join}
use Rattle.chunk_join.specs.Laws.LastReceives.{IsLastReceive-join, IsLastReceive-one}
use Rattle.chunk_join.specs.Laws.TakenIds.{joined_taken}
use Rattle.chunk_join.specs.Laws.SentMessages.{joined_sent}
use Rattle.chunk_join.specs.Laws.SilencesJoined.{silences_joined}

-- The last Receives, place by place.

pub length-later_each : (l r : List (Option Place)) → length (later_each l r) ≡ length l
length-later_each [] r = refl
length-later_each (x ∷ l) [] = refl
length-later_each (x ∷ l) (y ∷ r) = ap suc (length-later_each l r)

last_of-later_each : (l r : List (Option Place)) (p : ℕ) → length l ≡ length r
    → last_of (later_each l r) p ≡ later_of (last_of l p) (last_of r p)
last_of-later_each [] [] p e = refl
last_of-later_each [] (y ∷ r) p e = absurd (let n : 0 ≡ suc (length r) = e in omega (arith, n))
last_of-later_each (x ∷ l) [] p e = absurd (let n : suc (length l) ≡ 0 = e in omega (arith, n))
last_of-later_each (x ∷ l) (y ∷ r) zero e = refl
last_of-later_each (x ∷ l) (y ∷ r) (suc p) e =
    last_of-later_each l r p (let n : suc (length l) ≡ suc (length r) = e in omega (arith, n))

joined_last : (set : ℕ) (t : Recorded) (i m j : ℕ) (l r : List (Option Place)) → i ≤ m → m ≤ j
    → AreLastReceives set t i m l → AreLastReceives set t m j r → AreLastReceives set t i j (later_each l r)
joined_last set t i m j l r low high a b = record {
  long = length-later_each l r ∙ a.long;
  members = λ p k. subst (IsLastReceive t p i (j + 1)) (sym (each p))
      (IsLastReceive-join t p i m (j + 1) (last_of l p) (last_of r p) low (omega (arith, high)) (a.members p k)
      (b.members p k));
  others = λ p k. each p ∙ ap (λ x. later_of x (last_of r p)) (a.others p k) ∙ ap (λ x. later_of None x) (b.others p k);
} where
  each : (p : ℕ) → last_of (later_each l r) p ≡ later_of (last_of l p) (last_of r p)
  each p = last_of-later_each l r p (a.long ∙ sym b.long)

-- The summary of both together.
pub IsSummary-joined : (set : ℕ) (t : Recorded) → IsTrace t → (i m j : ℕ) (l r : Summary) → i < m → m < j → j ≤ t.last
    → IsSummary set t i m l → IsSummary set t m j r → IsSummary set t i j (joined_parts l r)
IsSummary-joined set t sound i m j l r low high inside a b = record {
  members = a.members;
  from = a.from;
  to = b.to;
  sent = joined_sent set t sound i m j l r (omega arith) (omega arith) a b;
  taken = joined_taken set t sound i m j l r (omega arith) (omega arith) a b;
  last = joined_last set t i m j l.last r.last (omega arith) (omega arith) a.last b.last;
  silent = subst (λ s. IsListing EndsBefore (IsLongest set t i j)
      (filter (stops s r.silent) l.silent ++ map (reach_back s l.silent) r.silent)) (sym a.to)
      (silences_joined set t i m j low high inside l.silent r.silent a.silent b.silent);
}

-- A part has one summary.

-- an order by two numbers is strict
strict_by_two : (a b c d : ℕ) → (a < b) ⊎ ((a ≡ b) × (c < d)) → (b < a) ⊎ ((b ≡ a) × (d < c)) → ⊥
strict_by_two a b c d (inl h) (inl k) = omega (arith, h, k)
strict_by_two a b c d (inl h) (inr k) = omega (arith, h, k.0)
strict_by_two a b c d (inr h) (inl k) = omega (arith, h.0, k)
strict_by_two a b c d (inr h) (inr k) = omega (arith, h.1, k.1)

pub sent_strict : (a b : Message) → SentBefore a b → SentBefore b a → ⊥
sent_strict a b = strict_by_two a.sent.tick b.sent.tick a.sent.no b.sent.no

taken_strict : (a b : Take) → TakenBefore a b → TakenBefore b a → ⊥
taken_strict a b = strict_by_two a.at.no b.at.no a.sent.no b.sent.no

pub ends_strict : (a b : Gap) → EndsBefore a b → EndsBefore b a → ⊥
ends_strict a b = strict_by_two a.to b.to b.proc a.proc

AreLastReceives-one : (set : ℕ) (t : Recorded) → IsTrace t → (i j : ℕ) (x y : List (Option Place))
    → AreLastReceives set t i j x → AreLastReceives set t i j y → x ≡ y
AreLastReceives-one set t sound i j x y a b =
    ext_get_or None x y (a.long ∙ sym b.long) (λ p l. each p (has_proc set p) refl) where
      each : (p : ℕ) (own : Bool) → has_proc set p ≡ own → last_of x p ≡ last_of y p
      each p true e = IsLastReceive-one t sound.time p i (j + 1) (last_of x p) (last_of y p) (a.members p e)
          (b.members p e)
      each p false e = a.others p e ∙ sym (b.others p e)

pub same_summary : (a b : Summary) → a.set ≡ b.set → a.from ≡ b.from → a.to ≡ b.to → a.sent ≡ b.sent → a.taken ≡ b.taken
    → a.last ≡ b.last → a.silent ≡ b.silent → a ≡ b
same_summary a b e f g h i j k = alike (λ set from to sent taken last silent.
    record { set = set; from = from; to = to; sent = sent; taken = taken; last = last; silent = silent }) e f
    g h i j k where
      alike : (make : ℕ → ℕ → ℕ → List Message → List Take → List (Option Place) → List Gap → Summary) → a.set ≡ b.set
          → a.from ≡ b.from → a.to ≡ b.to → a.sent ≡ b.sent → a.taken ≡ b.taken → a.last ≡ b.last → a.silent ≡ b.silent
          → make a.set a.from a.to a.sent a.taken a.last a.silent ≡ make b.set b.from b.to b.sent b.taken
          b.last b.silent
      alike make e f g h i j k = cc

pub IsSummary-one : (set : ℕ) (t : Recorded) → IsTrace t → (i j : ℕ) (x y : Summary) → IsSummary set t i j x
    → IsSummary set t i j y → x ≡ y
IsSummary-one set t sound i j x y a b = same_summary x y (a.members ∙ sym b.members) (a.from ∙ sym b.from)
    (a.to ∙ sym b.to)
    (IsListing-one SentBefore (IsSent set t i j) sent_strict x.sent y.sent a.sent b.sent)
    (IsListing-one TakenBefore (IsTake set t i j) taken_strict x.taken y.taken a.taken b.taken)
    (AreLastReceives-one set t sound i j x.last y.last a.last b.last)
    (IsListing-one EndsBefore (IsLongest set t i j) ends_strict x.silent y.silent a.silent b.silent)

-- Pieces of one trace join, and give the piece of both together.
pub pieces_join : JoinedLaws IsPiece None refusal joined
pieces_join = parts_join IsSummary joined_parts (record {
  members = λ set t i j x a. a.members;
  from = λ set t i j x a. a.from;
  to = λ set t i j x a. a.to;
  one = λ whole. IsSummary-one whole.set whole.trace whole.sound;
  part = λ whole. IsSummary-joined whole.set whole.trace whole.sound;
})
