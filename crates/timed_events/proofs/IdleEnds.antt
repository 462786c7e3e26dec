-- The short silences that end in the last tick, after those that end before an event.
use Rattle.std.proofs.Common.{ℕ, ◌≡◌, ◌+◌, ◌-◌, ◌<◌, ◌≤◌, ◌⊎◌, inl, inr, List, length, refl, sym, ap, ap₂, ◌∙◌, subst, arith}
use Rattle.std.specs.Prelude.{slice_index}
use Rattle.std.specs.List.{Contains}
use Rattle.std.proofs.lemmas.Bool.{cases_lt}
use Rattle.std.proofs.lemmas.List.Elements.{All-weaker}
use Rattle.step_trace.specs.declared.configurations.TheConstants.{MAX_PROCESSORS}
use Rattle.timed_events.specs.declared.events.Event.{Event}
use Rattle.timed_events.specs.declared.idle_ticks.IdleTick.{IdleTick}
use Rattle.timed_events.specs.Checks.{processor_at, moment_of, AreMeant}
use Rattle.timed_events.specs.IdleTicks.{HasEventIn, IsShortSilence, IsIdleTick, AreIdle}
use Rattle.timed_events.specs.IdleWalks.{noted, IsLatestBefore, IsNoted, IsWalkedTo, HaveEnded}
use Rattle.timed_events.proofs.IdleSilences.{latest-short, short-latest, noted-all, noted-kept, noted-new, noted-rising}
use Rattle.timed_events.proofs.IdleWalks.{AreInOrder, latest-end}
use Rattle.timed_events.proofs.SortedEvents.{place-found, places-inside}

module _ (n : ℕ) (events : List Event) (ticks order : List ℕ) (limit last : ℕ) (lasts : List ℕ) (idles : List IdleTick)
    (o : AreInOrder events ticks order) (meant : AreMeant events n) (most : n ≤ MAX_PROCESSORS)
    (within : (i : ℕ) → i < length events → slice_index ticks i ≤ last)
    (h : IsWalkedTo events ticks order limit (length order) lasts idles) where
  inside : (m : ℕ) → m < length order → slice_index order m < length events
  inside m l = (places-inside (length events) order o.ordered.places).1 m l

  idle-noted : (x : IdleTick) → IsNoted events ticks order limit (length order) x → IsIdleTick n events ticks last limit x
  idle-noted x r = record {
    least = (let p = o.processors (slice_index order r.m) (inside r.m r.before) in let p0 = p.0 in let e = r.own in omega arith);
    most = (let p = (meant (slice_index order r.m) (inside r.m r.before)).most in let e = r.own in omega arith);
    end = record {
      silence = r.silence;
      ends = inr (record { place = slice_index order r.m; inside = inside r.m r.before; own = sym r.own; at = sym r.next });
    };
  }

  before-event : (p y : ℕ) → IsShortSilence events ticks limit p y
      → HasEventIn events ticks p (y + 1) → Contains idles (record { processor = p; tick = y })
  before-event p y s has =
      let f = place-found (length events) order has.place o.ordered.places has.inside in
      let own = ap (processor_at events) f.2 ∙ has.own in
      let c = h.all f.0 y f.1 (ap (slice_index ticks) f.2 ∙ has.at) (subst (λ q. IsShortSilence events ticks limit q y) (sym own) s) in
      subst (λ (q : ℕ). let x : IdleTick = record { processor = q; tick = y } in Contains idles x) own c

  under : (x : IdleTick) → IsNoted events ticks order limit (length order) x → moment_of x.tick x.processor < moment_of last (0 + 1)
  under x r =
      let i = inside r.m r.before in
      let p = o.processors (slice_index order r.m) i in
      let p0 = p.0 in
      let p1 = p.1 in
      let w = within (slice_index order r.m) i in
      let a = r.own in
      let b = r.next in
      omega arith

  -- after the walk, before the last tick
  pub ended-start : HaveEnded n events ticks lasts last limit 0 idles
  ended-start = record {
    latest = λ p l. latest-end events ticks order o limit (length order) lasts idles h p last refl within;
    each = All-weaker (IsNoted events ticks order limit (length order)) (IsIdleTick n events ticks last limit) idle-noted idles h.each;
    before = before-event;
    at_end = λ p l s. absurd (omega arith);
    below = All-weaker (IsNoted events ticks order limit (length order))
        (λ x. moment_of x.tick x.processor < moment_of last (0 + 1)) under idles h.each;
    rising = h.rising;
  }

module _ (n : ℕ) (events : List Event) (ticks lasts : List ℕ) (last limit ended since : ℕ) (idles : List IdleTick)
    (l : ended < n) (s : since ≡ slice_index lasts ended)
    (h : HaveEnded n events ticks lasts last limit ended idles) where
  latest : IsLatestBefore events ticks (ended + 1) (last + 1) since
  latest = subst (λ u. IsLatestBefore events ticks (ended + 1) (last + 1) u) (sym s) (h.latest ended l)

  new-idle : since < last → last ≤ since + limit → IsIdleTick n events ticks last limit (record { processor = ended + 1; tick = last })
  new-idle a b = record {
    least = omega arith;
    most = omega arith;
    end = record { silence = latest-short events ticks limit (ended + 1) (last + 1) since last latest refl a b; ends = inl refl };
  }

  at-end : (p : ℕ) → (p < ended) ⊎ (ended ≤ p) → p < ended + 1 → IsShortSilence events ticks limit (p + 1) last
      → Contains (noted idles ended since last limit) (record { processor = p + 1; tick = last })
  at-end p (inl below) b q = noted-kept idles ended since last limit _ (h.at_end p below q)
  at-end p (inr above) b q =
      let e : ended + 1 ≡ p + 1 = omega arith in
      let f : p + 1 ≡ ended + 1 = omega arith in
      let c = short-latest events ticks limit (ended + 1)
      (last + 1) since last latest refl (subst (λ v. IsShortSilence events ticks limit v last) f q) in
      subst (λ (v : ℕ). let x : IdleTick = record { processor = v; tick = last } in Contains (noted idles ended since last limit) x) e
      (noted-new idles ended since last limit c.0 c.1)

  lower : (x : IdleTick) → moment_of x.tick x.processor < moment_of last (ended + 1)
      → moment_of x.tick x.processor < moment_of last (ended + 1 + 1)
  lower x b = omega arith

  -- one processor more
  pub ended-next : HaveEnded n events ticks lasts last limit (ended + 1) (noted idles ended since last limit)
  ended-next = record {
    latest = h.latest;
    each = noted-all idles ended since last limit (IsIdleTick n events ticks last limit) h.each new-idle;
    before = λ p y q f. noted-kept idles ended since last limit _ (h.before p y q f);
    at_end = λ p b q. at-end p (cases_lt p ended) b q;
    below = noted-all idles ended since last limit (λ x. moment_of x.tick x.processor < moment_of last (ended + 1 + 1))
        (All-weaker (λ x. moment_of x.tick x.processor < moment_of last (ended + 1))
        (λ x. moment_of x.tick x.processor < moment_of last (ended + 1 + 1)) lower idles h.below)
        (λ a b. omega arith);
    rising = noted-rising idles ended since last limit h.rising (λ a b. h.below);
  }

-- after the last processor
pub ended-all : (n : ℕ) (events : List Event) (ticks lasts : List ℕ) (last limit : ℕ) (idles : List IdleTick)
    → HaveEnded n events ticks lasts last limit n idles → AreIdle n events ticks last limit idles
ended-all n events ticks lasts last limit idles h =
    record { each = h.each; all = λ p y a b e. go p y a b e.silence e.ends; rising = h.rising } where
      go : (p y : ℕ) → 1 ≤ p → p ≤ n → IsShortSilence events ticks limit p y
          → (y ≡ last) ⊎ HasEventIn events ticks p (y + 1) → Contains idles (record { processor = p; tick = y })
      go p y a b s (inr has) = h.before p y s has
      go p y a b s (inl e) =
          let q : p ≡ (p - 1) + 1 = omega arith in
          let c = h.at_end (p - 1) (omega arith)
          (subst (λ v. IsShortSilence events ticks limit v last) q (subst (λ v. IsShortSilence events ticks limit p v) e s)) in
          subst (λ (x : IdleTick). Contains idles x)
          (ap₂ (λ (v w : ℕ). let x : IdleTick = record { processor = v; tick = w } in x) (sym q) (sym e)) c
