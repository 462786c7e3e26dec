-- Which receives are merged: what the tests say, and that each event is merged into one at most.
use Rattle.std.proofs.Common.{ℕ, zero, suc, ◌≡◌, ◌∙◌, ◌<◌, ◌≤◌, ◌⊎◌, inl, inr, Bool, true, false, not, ◌&&◌, ◌||◌, List, length, refl, sym, subst, arith}
use Rattle.std.specs.Prelude.{◌==◌, slice_index, int_lt, nat_lt}
use Rattle.std.proofs.lemmas.Bool.{and_from, and_parts, cases_eq, cases_lt, eq-eqb, eqb-true, false_from_ne_true, not_from_false, or_cases, or_left, or_parts, or_right, true≢false}
use Rattle.std.proofs.lemmas.Int.{ints}
use Rattle.timed_events.specs.declared.events.Event.{Event}
use Rattle.timed_events.specs.Causes.{is_earlier}
use Rattle.timed_events.specs.Checks.{processor_at, time_at, sends_at}
use Rattle.timed_events.specs.Firsts.{any_below}
use Rattle.timed_events.proofs.EarlierEvents.{earlier-other}
use Rattle.merged_receives.specs.Merges.{is_joined, is_merged, is_part, is_send_between, receives_at}
use Rattle.merged_receives.specs.MergeWalks.{IsHead}

-- no test below a number passes
pub none-below : (p : ℕ → Bool) (n : ℕ) → ((k : ℕ) → k < n → p k ≡ false) → any_below p n ≡ false
none-below p zero h = refl
none-below p (suc n) h = go (any_below p n) (none-below p n (λ k l. h k (omega (arith, l)))) (p n) (h n (omega arith)) where
  go : (a : Bool) → a ≡ false → (b : Bool) → b ≡ false → (a || b) ≡ false
  go true e b f = absurd (cc e)
  go false e b f = f

pub each-none : (p : ℕ → Bool) (n k : ℕ) → any_below p n ≡ false → k < n → p k ≡ false
each-none p zero k h l = absurd (omega (arith, l))
each-none p (suc n) k h l = go (cases_lt k n) (λ b. each-none p n k (or_parts (any_below p n) (p n) h).0 b) where
  go : (k < n) ⊎ (n ≤ k) → (k < n → p k ≡ false) → p k ≡ false
  go (inl b) rest = rest b
  go (inr b) rest = let e : n ≡ k = omega (arith, l, b) in subst (λ i. p i ≡ false) e (or_parts (any_below p n) (p n) h).1

-- the parts of a test of six
module _ (a b c d e f : Bool) where
  six-parts : (a && (b && (c && (d && (e && f))))) ≡ true → (a ≡ true) × (b ≡ true) × (c ≡ true) × (d ≡ true) × (e ≡ true) × (f ≡ true)
  six-parts h =
      let r = and_parts a (b && (c && (d && (e && f)))) h in
      let s = and_parts b (c && (d && (e && f))) r.1 in
      let t = and_parts c (d && (e && f)) s.1 in
      let u = and_parts d (e && f) t.1 in
      let v = and_parts e f u.1 in
      (r.0, s.0, t.0, u.0, v.0, v.1)

  six-from : a ≡ true → b ≡ true → c ≡ true → d ≡ true → e ≡ true → f ≡ true → (a && (b && (c && (d && (e && f))))) ≡ true
  six-from p q r s t u = and_from a _ p (and_from b _ q (and_from c _ r (and_from d _ s (and_from e f t u))))

-- what it means that event i is merged into event j
pub record IsJoined (events : List Event) (ticks : List ℕ) (j i : ℕ) : Type 0 where
  pub first : receives_at events j ≡ true
  pub second : receives_at events i ≡ true
  pub own : processor_at events j ≡ processor_at events i
  pub tick : slice_index ticks j ≡ slice_index ticks i
  pub earlier : is_earlier events j i ≡ true
  pub quiet : (s : ℕ) → s < length events → is_send_between events j i s ≡ false

pub joined-is : (events : List Event) (ticks : List ℕ) (j i : ℕ) → is_joined events ticks j i ≡ true → IsJoined events ticks j i
unfolding is_joined
joined-is events ticks j i h = record {
  first = p.0;
  second = p.1;
  own = eqb-true (processor_at events j) (processor_at events i) p.2;
  tick = eqb-true (slice_index ticks j) (slice_index ticks i) p.3;
  earlier = p.4;
  quiet = λ s l. each-none (is_send_between events j i)
      (length events) s (none (any_below (is_send_between events j i) (length events)) p.5) l;
} where
  none : (t : Bool) → not t ≡ true → t ≡ false
  none true e = absurd (cc e)
  none false e = refl

  p : (receives_at events j ≡ true) × (receives_at events i ≡ true)
      × ((processor_at events j == processor_at events i) ≡ true)
      × ((slice_index ticks j == slice_index ticks i) ≡ true) × (is_earlier events j i ≡ true)
      × (not (any_below (is_send_between events j i) (length events)) ≡ true)
  p = six-parts _ _ _ _ _ _ h

pub is-joined : (events : List Event) (ticks : List ℕ) (j i : ℕ) → IsJoined events ticks j i → is_joined events ticks j i ≡ true
unfolding is_joined
is-joined events ticks j i h = six-from _ _ _ _ _ _ h.first h.second (eq-eqb (processor_at events j) (processor_at events i) h.own)
    (eq-eqb (slice_index ticks j) (slice_index ticks i) h.tick) h.earlier (not_from_false
    (any_below (is_send_between events j i) (length events)) (none-below (is_send_between events j i) (length events) h.quiet))

-- what it means that a send is between two events
pub between-is : (events : List Event) (j i s : ℕ) → is_send_between events j i s ≡ true → (sends_at events s ≡ true)
    × (processor_at events s ≡ processor_at events i) × (is_earlier events j s ≡ true) × (is_earlier events s i ≡ true)
unfolding is_send_between
between-is events j i s h =
    let a = and_parts (sends_at events s) _ h in
    let b = and_parts (processor_at events s == processor_at events i) _ a.1 in
    let c = and_parts (is_earlier events j s) (is_earlier events s i) b.1 in
    (a.0, eqb-true (processor_at events s) (processor_at events i) b.0, c.0, c.1)

pub is-between : (events : List Event) (j i s : ℕ) → sends_at events s ≡ true
    → processor_at events s ≡ processor_at events i → is_earlier events j s ≡ true → is_earlier events s i ≡ true
    → is_send_between events j i s ≡ true
unfolding is_send_between
is-between events j i s a b c d = and_from (sends_at events s) _ a
    (and_from (processor_at events s == processor_at events i) _
    (eq-eqb (processor_at events s) (processor_at events i) b)
    (and_from (is_earlier events j s) (is_earlier events s i) c d))

-- an event that isn't merged is merged into none
pub unmerged-none : (events : List Event) (ticks : List ℕ) (i j : ℕ)
    → is_merged events ticks i ≡ false → j < length events → is_joined events ticks j i ≡ false
unfolding is_merged
unmerged-none events ticks i j h l = each-none (λ j. is_joined events ticks j i) (length events) j h l

pub none-unmerged : (events : List Event) (ticks : List ℕ) (i : ℕ)
    → ((j : ℕ) → j < length events → is_joined events ticks j i ≡ false) → is_merged events ticks i ≡ false
unfolding is_merged
none-unmerged events ticks i h = none-below (λ j. is_joined events ticks j i) (length events) h

-- an event is a part of itself, and of the one into which it is merged
pub part-self : (events : List Event) (ticks : List ℕ) (i : ℕ) → is_part events ticks i i ≡ true
unfolding is_part
part-self events ticks i = or_left (i == i) (is_joined events ticks i i) (eq-eqb i i refl)

pub part-joined : (events : List Event) (ticks : List ℕ) (h i : ℕ) → is_joined events ticks h i ≡ true → is_part events ticks h i ≡ true
unfolding is_part
part-joined events ticks h i e = or_right (h == i) (is_joined events ticks h i) e

pub part-is : (events : List Event) (ticks : List ℕ) (h i : ℕ)
    → is_part events ticks h i ≡ true → (h ≡ i) ⊎ (is_joined events ticks h i ≡ true)
unfolding is_part
part-is events ticks h i e = go (or_cases (h == i) (is_joined events ticks h i) e) where
  go : ((h == i) ≡ true) ⊎ (is_joined events ticks h i ≡ true) → (h ≡ i) ⊎ (is_joined events ticks h i ≡ true)
  go (inl q) = inl (eqb-true h i q)
  go (inr q) = inr q

-- what comes before an event that comes before another comes before this one
earlier-times : (events : List Event) (a b c : ℕ) → is_earlier events a b ≡ true
    → is_earlier events b c ≡ true → is_earlier events a c ≡ true
earlier-times events a b c h k =
    go (int_lt (time_at events a) (time_at events b)) refl (int_lt (time_at events b) (time_at events a)) refl (nat_lt a b) refl
    (int_lt (time_at events b) (time_at events c)) refl (int_lt (time_at events c) (time_at events b)) refl (nat_lt b c) refl
    (int_lt (time_at events a) (time_at events c)) refl (int_lt (time_at events c) (time_at events a)) refl (nat_lt a c) refl h k where
      go : (ab : Bool) → int_lt (time_at events a) (time_at events b) ≡ ab → (ba : Bool) → int_lt (time_at events b) (time_at events a) ≡ ba
          → (p : Bool) → nat_lt a b ≡ p → (bc : Bool) → int_lt (time_at events b) (time_at events c) ≡ bc
          → (cb : Bool) → int_lt (time_at events c) (time_at events b) ≡ cb → (q : Bool) → nat_lt b c ≡ q
          → (ac : Bool) → int_lt (time_at events a) (time_at events c) ≡ ac → (ca : Bool) → int_lt (time_at events c) (time_at events a)
          ≡ ca → (r : Bool) → nat_lt a c ≡ r → (ab || (not ba && p)) ≡ true → (bc || (not cb && q)) ≡ true → (ac || (not ca && r)) ≡ true
      go ab e1 ba e2 p e3 bc e4 cb e5 q e6 true e7 ca e8 r e9 u v = refl
      go true e1 ba e2 p e3 true e4 cb e5 q e6 false e7 ca e8 r e9 u v = absurd (grind (arith, ints))
      go true e1 ba e2 p e3 false e4 true e5 q e6 false e7 ca e8 r e9 u v = absurd (cc v)
      go true e1 ba e2 p e3 false e4 false e5 q e6 false e7 ca e8 r e9 u v = absurd (grind (arith, ints))
      go false e1 true e2 p e3 bc e4 cb e5 q e6 false e7 ca e8 r e9 u v = absurd (cc u)
      go false e1 false e2 p e3 true e4 cb e5 q e6 false e7 ca e8 r e9 u v = absurd (grind (arith, ints))
      go false e1 false e2 p e3 false e4 true e5 q e6 false e7 ca e8 r e9 u v = absurd (cc v)
      go false e1 false e2 p e3 false e4 false e5 q e6 false e7 true e8 r e9 u v = absurd (grind (arith, ints))
      go false e1 false e2 true e3 false e4 false e5 true e6 false e7 false e8 true e9 u v = refl
      go false e1 false e2 true e3 false e4 false e5 true e6 false e7 false e8 false e9 u v = absurd (grind arith)
      go false e1 false e2 false e3 false e4 false e5 q e6 false e7 false e8 r e9 u v = absurd (cc u)
      go false e1 false e2 true e3 false e4 false e5 false e6 false e7 false e8 r e9 u v = absurd (cc v)

-- of two events into which an event is merged the later one is merged into the earlier one
later-joined : (events : List Event) (ticks : List ℕ) (g h i : ℕ)
    → IsJoined events ticks g i → IsJoined events ticks h i → is_earlier events g h ≡ true → IsJoined events ticks g h
later-joined events ticks g h i a b e = record {
  first = a.first;
  second = b.first;
  own = a.own ∙ sym b.own;
  tick = a.tick ∙ sym b.tick;
  earlier = e;
  quiet = λ s l. false_from_ne_true (is_send_between events g h s) (λ t.
      let p = between-is events g h s t in
      let q = is-between events g i s p.0 (p.1 ∙ b.own) p.2 (earlier-times events s h i p.3 b.earlier) in
      true≢false (sym q ∙ a.quiet s l));
}

-- an event has one head
pub head-once : (events : List Event) (ticks : List ℕ) (g h i : ℕ) → IsHead events ticks g i → IsHead events ticks h i → g ≡ h
head-once events ticks g h i a b = go (cases_eq g h) where
  stays-not : (x y : ℕ) → IsHead events ticks y i → x < length events → IsJoined events ticks x y → ⊥
  stays-not x y s l j = true≢false (sym (is-joined events ticks x y j) ∙ unmerged-none events ticks y x s.stays l)

  both : IsJoined events ticks g i → IsJoined events ticks h i → (is_earlier events g h ≡ true) ⊎ (is_earlier events h g ≡ true) → ⊥
  both p q (inl e) = stays-not g h b a.inside (later-joined events ticks g h i p q e)
  both p q (inr e) = stays-not h g a b.inside (later-joined events ticks h g i q p e)

  differ : ¬ (g ≡ h) → (g ≡ i) ⊎ (is_joined events ticks g i ≡ true) → (h ≡ i) ⊎ (is_joined events ticks h i ≡ true) → ⊥
  differ n (inl p) (inl q) = n (p ∙ sym q)
  differ n (inl p) (inr q) = stays-not h g a b.inside (subst (λ x. IsJoined events ticks h x) (sym p) (joined-is events ticks h i q))
  differ n (inr p) (inl q) = stays-not g h b a.inside (subst (λ x. IsJoined events ticks g x) (sym q) (joined-is events ticks g i p))
  differ n (inr p) (inr q) = both (joined-is events ticks g i p) (joined-is events ticks h i q) (earlier-other events g h n)

  go : (g ≡ h) ⊎ ¬ (g ≡ h) → g ≡ h
  go (inl e) = e
  go (inr n) = absurd (differ n (part-is events ticks g i a.part) (part-is events ticks h i b.part))
