-- The walk that notes the short silences before events.
use Rattle.std.proofs.Common.{ℕ, ◌≡◌, ◌+◌, ◌-◌, ◌<◌, ◌≤◌, ◌⊎◌, inl, inr, List, [], length, set, replicate, sym, ap, ap₂, ◌∙◌, subst, arith}
use Rattle.std.specs.Prelude.{slice_index}
use Rattle.std.specs.List.{All, Contains}
use Rattle.std.proofs.lemmas.Bool.{cases_lt, cases_eq}
use Rattle.std.proofs.lemmas.List.{get_or-set_same, get_or-set_other, length-set, length-replicate}
use Rattle.std.proofs.lemmas.List.Elements.{All-nil, All-weaker}
use Rattle.step_trace.specs.declared.configurations.TheConstants.{MAX_PROCESSORS}
use Rattle.timed_events.specs.declared.events.Event.{Event}
use Rattle.timed_events.specs.declared.idle_ticks.IdleTick.{IdleTick}
use Rattle.timed_events.specs.CausalWalks.{index_at}
use Rattle.timed_events.specs.Checks.{processor_at, moment_of, AreOfProcessors}
use Rattle.timed_events.specs.IdleTicks.{HasEventIn, IsShortSilence, AreRising}
use Rattle.timed_events.specs.IdleWalks.{noted, IsLatestBefore, IsLastAmong, IsNoted, IsWalkedTo}
use Rattle.timed_events.specs.Orders.{IsOrder}
use Rattle.timed_events.proofs.IdleSilences.{latest-short, short-latest, noted-all, noted-kept, noted-new, noted-rising}
use Rattle.timed_events.proofs.SortedEvents.{place-found, places-inside}
use Rattle.timed_events.proofs.CausalWalks.{zero-each}

-- events in the order of their moments, in ticks from 1 on
pub record AreInOrder (events : List Event) (ticks order : List ℕ) : Type 0 where
  pub processors : AreOfProcessors events
  pub first : (i : ℕ) → i < length events → 1 ≤ slice_index ticks i
  pub ordered : IsOrder events ticks order

module _ (events : List Event) (ticks order : List ℕ) (o : AreInOrder events ticks order) where
  inside : (m : ℕ) → m < length order → slice_index order m < length events
  inside m l = (places-inside (length events) order o.ordered.places).1 m l

  -- of two events of one processor the one that comes first is in an earlier tick
  earlier : (m k p : ℕ) → m < k → k < length order → processor_at events (slice_index order m) ≡ p
      → processor_at events (slice_index order k) ≡ p
      → slice_index ticks (slice_index order m) < slice_index ticks (slice_index order k)
  earlier m k p b l e f = let r = o.ordered.rising m k b l in omega arith

  -- the processor whose last tick this is
  last-own : (k index last : ℕ) → k ≤ length order
      → (r : IsLastAmong events ticks order k index last) → processor_at events (slice_index order r.m) ≡ index + 1
  last-own k index last l r =
      let b = r.before in
      let i = inside r.m (omega arith) in
      let p = o.processors (slice_index order r.m) i in
      let p0 = p.0 in
      let e = r.own in
      omega arith

  last-has : (k index last : ℕ) → k ≤ length order → IsLastAmong events ticks order k index last → HasEventIn events ticks (index + 1) last
  last-has k index last l r =
      let b = r.before in
      record { place = slice_index order r.m; inside = inside r.m (omega arith); own = last-own k index last l r; at = sym r.is }

  module _ (limit k : ℕ) (lasts : List ℕ) (idles : List IdleTick) (h : IsWalkedTo events ticks order limit k lasts idles) where
    from-last : (index : ℕ) → k ≤ length order → (slice_index lasts index ≡ 0)
        ⊎ HasEventIn events ticks (index + 1) (slice_index lasts index)
    from-last index l = go (h.source index) where
      go : (slice_index lasts index ≡ 0) ⊎ IsLastAmong events ticks order k index (slice_index lasts index)
          → (slice_index lasts index ≡ 0) ⊎ HasEventIn events ticks (index + 1) (slice_index lasts index)
      go (inl z) = inl z
      go (inr r) = inr (last-has k index (slice_index lasts index) l r)

    -- an event of the first k is no later than the last tick of its processor
    no-later : (m index : ℕ) → m < k → processor_at events (slice_index order m) ≡ index + 1
        → slice_index ticks (slice_index order m) ≤ slice_index lasts index
    no-later m index b e =
        let a = h.after m b in
        let s : index_at events (slice_index order m) ≡ index = omega arith in
        let t = ap (slice_index lasts) s in
        omega arith

    -- the last tick of the processor of the event at k, before it
    latest-at : (index : ℕ) → k < length order → processor_at events (slice_index order k) ≡ index + 1
        → IsLatestBefore events ticks (index + 1) (slice_index ticks (slice_index order k)) (slice_index lasts index)
    latest-at index l e = record {
      from = from-last index (omega arith);
      below = under (h.source index);
      silent = λ z a b has. (let f = place-found (length events) order has.place o.ordered.places has.inside in
          quiet z f.0 a b f.1 (ap (processor_at events) f.2 ∙ has.own) (ap (slice_index ticks) f.2 ∙ has.at)
          (cases_lt f.0 k) (cases_lt k f.0));
    } where
      under : (slice_index lasts index ≡ 0) ⊎ IsLastAmong events ticks order k index (slice_index lasts index)
          → slice_index lasts index < slice_index ticks (slice_index order k)
      under (inl z) = let f = o.first (slice_index order k) (inside k l) in omega arith
      under (inr r) =
          let c = earlier r.m k (index + 1) r.before l (last-own k index (slice_index lasts index) (omega arith) r) e in
          let d = r.is in
          omega arith

      quiet : (z m : ℕ) → slice_index lasts index < z → z < slice_index ticks (slice_index order k) → m < length order
          → processor_at events (slice_index order m) ≡ index + 1 → slice_index ticks (slice_index order m) ≡ z
          → (m < k) ⊎ (k ≤ m) → (k < m) ⊎ (m ≤ k) → ⊥
      quiet z m a b c p t (inl below) d = let n = no-later m index below p in omega arith
      quiet z m a b c p t (inr above) (inl more) = let n = earlier k m (index + 1) more c e p in omega arith
      quiet z m a b c p t (inr above) (inr least) =
          let s : m ≡ k = omega arith in
          let n = ap (λ j. slice_index ticks (slice_index order j)) s in
          omega arith

    -- the last tick of a processor, if all events come before
    pub latest-end : (index last : ℕ) → length order ≡ k → ((i : ℕ) → i < length events → slice_index ticks i ≤ last)
        → IsLatestBefore events ticks (index + 1) (last + 1) (slice_index lasts index)
    latest-end index last l within = record {
      from = from-last index (omega arith);
      below = under (h.source index);
      silent = λ z a b has. (
          let f = place-found (length events) order has.place o.ordered.places has.inside in
          let c = f.1 in
          let n = no-later f.0 index (omega arith) (ap (processor_at events) f.2 ∙ has.own) in
          let t = ap (slice_index ticks) f.2 ∙ has.at in
          omega arith);
    } where
      under : (slice_index lasts index ≡ 0) ⊎ IsLastAmong events ticks order k index (slice_index lasts index)
          → slice_index lasts index < last + 1
      under (inl z) = omega arith
      under (inr r) =
          let b = r.before in
          let w = within (slice_index order r.m) (inside r.m (omega arith)) in
          let d = r.is in
          omega arith

    module _ (index since tick : ℕ) (l : k < length order) (p : processor_at events (slice_index order k) ≡ index + 1)
        (s : since ≡ slice_index lasts index) (t : tick ≡ slice_index ticks (slice_index order k)) where
      latest : IsLatestBefore events ticks (index + 1) tick since
      latest = subst (λ u. IsLatestBefore events ticks (index + 1) tick u)
          (sym s) (subst (λ v. IsLatestBefore events ticks (index + 1) v (slice_index lasts index)) (sym t) (latest-at index l p))

      from-one : 1 ≤ tick
      from-one = let f = o.first (slice_index order k) (inside k l) in omega arith

      low : index < MAX_PROCESSORS
      low = let q = (o.processors (slice_index order k) (inside k l)).1 in omega arith

      more-noted : (x : IdleTick) → IsNoted events ticks order limit k x → IsNoted events ticks order limit (k + 1) x
      more-noted x n = record { m = n.m; before = (let b = n.before in omega arith); own = n.own; next = n.next; silence = n.silence }

      new-noted : since < tick - 1 → tick - 1 ≤ since + limit
          → IsNoted events ticks order limit (k + 1) (record { processor = index + 1; tick = tick - 1 })
      new-noted a b = record {
        m = k;
        before = omega arith;
        own = sym p;
        next = (let f = from-one in omega arith);
        silence = latest-short events ticks limit (index + 1) tick since (tick - 1) latest (let f = from-one in omega arith) a b;
      }

      above : (x : IdleTick) → IsNoted events ticks order limit k x → moment_of x.tick x.processor < moment_of (tick - 1) (index + 1)
      above x n =
          let r = o.ordered.rising n.m k n.before l in
          let a = n.own in
          let b = n.next in
          let f = from-one in
          omega arith

      all-noted : (m y : ℕ) → (m < k) ⊎ (k ≤ m) → m < k + 1 → slice_index ticks (slice_index order m) ≡ y + 1
          → IsShortSilence events ticks limit (processor_at events (slice_index order m)) y
          → Contains (noted idles index since (tick - 1) limit)
          (record { processor = processor_at events (slice_index order m); tick = y })
      all-noted m y (inl below) b e q = noted-kept idles index since (tick - 1) limit _ (h.all m y below e q)
      all-noted m y (inr beyond) b e q =
          let same : m ≡ k = omega arith in
          let pm : processor_at events (slice_index order m) ≡ index + 1 = ap (λ j. processor_at events (slice_index order j)) same ∙ p in
          let tm = ap (λ j. slice_index ticks (slice_index order j)) same in
          let ty : tick ≡ y + 1 = omega arith in
          let yt : tick - 1 ≡ y = omega arith in
          let c = short-latest events ticks limit (index + 1) tick since y latest ty
          (subst (λ v. IsShortSilence events ticks limit v y) pm q) in
          let c0 = c.0 in
          let c1 = c.1 in
          let n = noted-new idles index since (tick - 1) limit (omega arith) (omega arith) in
          subst (λ (x : IdleTick). Contains (noted idles index since (tick - 1) limit) x)
          (ap₂ (λ (v w : ℕ). let x : IdleTick = record { processor = v; tick = w } in x) (sym pm) yt) n

      after-next : (m : ℕ) → (m < k) ⊎ (k ≤ m) → (index_at events (slice_index order m) ≡ index)
          ⊎ ¬ (index_at events (slice_index order m) ≡ index) → m < k + 1
          → slice_index ticks (slice_index order m) ≤ slice_index (set lasts index tick)
          (index_at events (slice_index order m))
      after-next m (inl below) (inl e) b =
          let v = ap (slice_index (set lasts index tick)) e in
          let w = get_or-set_same lasts index tick 0 (let x = low in let y = h.wide in omega arith) in
          let i = inside m (omega arith) in
          let q = o.processors (slice_index order m) i in
          let q0 = q.0 in
          let c = earlier m k (index + 1) below l (omega arith) p in
          omega arith
      after-next m (inl below) (inr n) b = let v = get_or-set_other lasts index (index_at events (slice_index order m)) tick 0 n in
          let a = h.after m below in omega arith
      after-next m (inr beyond) c b =
          let same : m ≡ k = omega arith in
          let tm = ap (λ j. slice_index ticks (slice_index order j)) same in
          let pm = ap (λ j. processor_at events (slice_index order j)) same in
          let e : index_at events (slice_index order m) ≡ index = omega arith in
          let v = ap (slice_index (set lasts index tick)) e in
          let w = get_or-set_same lasts index tick 0 (let x = low in let y = h.wide in omega arith) in
          omega arith

      source-next : (i : ℕ) → (i ≡ index) ⊎ ¬ (i ≡ index) → (slice_index lasts i ≡ 0)
          ⊎ IsLastAmong events ticks order k i (slice_index lasts i) → (slice_index (set lasts index tick) i ≡ 0)
          ⊎ IsLastAmong events ticks order (k + 1) i (slice_index (set lasts index tick) i)
      source-next i (inl e) c =
          let v = ap (slice_index (set lasts index tick)) e in
          let w = get_or-set_same lasts index tick 0 (let x = low in let y = h.wide in omega arith) in
          inr (record { m = k; before = omega arith; own = (let q = p in omega arith); is = v ∙ w ∙ t })
      source-next i (inr n) (inl z) = inl (get_or-set_other lasts index i tick 0 n ∙ z)
      source-next i (inr n) (inr r) = inr
          (record { m = r.m; before = (let b = r.before in omega arith); own = r.own; is = get_or-set_other lasts index i tick 0 n ∙ r.is })

      -- one event more
      pub walked-next : IsWalkedTo events ticks order limit (k + 1) (set lasts index tick) (noted idles index since (tick - 1) limit)
      walked-next = record {
        wide = length-set lasts index tick ∙ h.wide;
        after = λ m b. after-next m (cases_lt m k) (cases_eq (index_at events (slice_index order m)) index) b;
        source = λ i. source-next i (cases_eq i index) (h.source i);
        each = noted-all idles index since (tick - 1) limit (IsNoted events ticks order limit (k + 1))
            (All-weaker (IsNoted events ticks order limit k) (IsNoted events ticks order limit (k + 1)) more-noted idles
            h.each) new-noted;
        all = λ m y b e q. all-noted m y (cases_lt m k) b e q;
        rising = noted-rising idles index since (tick - 1) limit h.rising
            (λ a b. All-weaker (IsNoted events ticks order limit k)
            (λ x. moment_of x.tick x.processor < moment_of (tick - 1) (index + 1)) above idles h.each);
      }

-- before the first event
pub walked-start : (events : List Event) (ticks order : List ℕ) (limit : ℕ) (lasts : List ℕ) (idles : List IdleTick)
    → lasts ≡ replicate MAX_PROCESSORS 0 → idles ≡ [] → IsWalkedTo events ticks order limit 0 lasts idles
walked-start events ticks order limit lasts idles e f = record {
  wide = ap length e ∙ length-replicate {A = ℕ} MAX_PROCESSORS 0;
  after = λ m b. absurd (omega arith);
  source = λ s. inl (ap (λ xs. slice_index xs s) e ∙ zero-each MAX_PROCESSORS s);
  each = subst (λ xs. All (IsNoted events ticks order limit 0) xs) (sym f) (All-nil (IsNoted events ticks order limit 0));
  all = λ m y b. absurd (omega arith);
  rising = subst AreRising (sym f) (λ j k b l. absurd (omega arith));
}
