-- Traces with the same steps up to a tick have the same summary of the ticks up to it.
use Rattle.std.proofs.Common.{ℕ, ◌≡◌, ◌≢◌, ◌+◌, ◌-◌, ◌<◌, ◌≤◌, inl, inr, [], ◌∷◌, ◌++◌, length, length-append, append-nil, Option, Some, None, zero, suc, refl, sym, subst, ◌∙◌, arith}
use Rattle.std.specs.Prelude.{Result, Ok, Err, OnOk, OnErr}
use Rattle.std.proofs.lemmas.Bool.{cases_lt}
use Rattle.step_trace.specs.declared.steps.Step.{Step}
use Rattle.step_trace.specs.declared.rows.Gap.{Gap}
use Rattle.step_trace.specs.declared.traces.TheConstants.{MAX_TICKS}
use Rattle.step_trace.specs.Traces.{Recorded, step_at, TakesAt, IsReceiveOf}
use Rattle.step_trace.specs.Ticks.{tick_of, StepsIn, IsTimed, IsTrace, with_step, with_last}
use Rattle.step_trace.specs.TickRefusals.{refusal_in}
use Rattle.step_trace.specs.Extensions.{Extends}
use Rattle.step_trace.specs.Cuts.{IsCutAt}
use Rattle.step_trace.proofs.StepPositions.{step_at_within}
use Rattle.step_trace.proofs.TickPositions.{tick_at-push_last}
use Rattle.step_trace.proofs.TickReasons.{CanAppend-from_none}
use Rattle.step_trace.proofs.StepPrefixes.{step_kept, tick_kept}
use Rattle.chunk_join.specs.declared.summaries.Place.{Place}
use Rattle.chunk_join.specs.declared.summaries.Fate.{Fate}
use Rattle.chunk_join.specs.declared.summaries.Fate.TheVariants.{Open, Taken}
use Rattle.chunk_join.specs.declared.summaries.Message.{Message}
use Rattle.chunk_join.specs.declared.summaries.Take.{Take}
use Rattle.chunk_join.specs.Summaries.{IsLastReceive, IsFate, IsSent, IsTake, IsLongest, SentBefore, TakenBefore, EndsBefore, Summary, IsSummary, last_of}
use Rattle.chunk_join.specs.Digests.{IsDigestOf, joined_digests}
use Rattle.chunk_join.specs.Laws.DigestsJoined.{digests_join}
use Rattle.chunk_join.specs.Analysts.{IsDigestUpTo}
use Rattle.chunk_join.proofs.ListingGrowth.{IsListing-same}

-- each step of one trace up to tick k is one of the other, in the same tick
pub record ShareTicks (t p : Recorded) (k : ℕ) : Type 0 where
  pub forth : (s : ℕ) (x : Step) → step_at t.steps s ≡ Some x → tick_of t s ≤ k → (step_at p.steps s ≡ Some x) × (tick_of p s ≡ tick_of t s)
  pub back : (s : ℕ) (x : Step) → step_at p.steps s ≡ Some x → tick_of p s ≤ k → (step_at t.steps s ≡ Some x) × (tick_of t s ≡ tick_of p s)

back : (t p : Recorded) (k : ℕ) → ShareTicks t p k → ShareTicks p t k
back t p k a = record { forth = a.back; back = a.forth }

-- What holds for the steps of one holds for the other.

takes : (t p : Recorded) (k : ℕ) → ShareTicks t p k
    → (x s : ℕ) → TakesAt t.steps x s → tick_of t x ≤ k → TakesAt p.steps x s × (tick_of p x ≡ tick_of t x)
takes t p k a x s h l = let f = a.forth x h.0 h.1 l in ((h.0, f.0, h.2), f.1)

receives : (t p : Recorded) (k : ℕ) → ShareTicks t p k
    → (r q : ℕ) → IsReceiveOf t.steps r q → tick_of t r ≤ k → IsReceiveOf p.steps r q × (tick_of p r ≡ tick_of t r)
receives t p k a r q h l = let f = a.forth r _ h.step l in (record { ids = h.ids; ends = h.ends; step = f.0 }, f.1)

steps_in : (t p : Recorded) (k : ℕ) → ShareTicks t p k → (x q : ℕ) → x ≤ k → StepsIn t x q → StepsIn p x q
steps_in t p k a x q l h =
    let tick = h.tick in
    let f = a.forth h.place _ h.step.1 (omega (arith, tick, l)) in
    record { place = h.place; step = (h.step.0, f.0); tick = f.1 ∙ tick }

last_receive : (t p : Recorded) (k : ℕ) → ShareTicks t p k
    → (q low high : ℕ) (o : Option Place) → high ≤ k + 1 → IsLastReceive t q low high o → IsLastReceive p q low high o
last_receive t p k a q low high None l h = λ y r u v. (
    let own = receives p t k (back t p k a) y q r (omega (arith, v, l)) in
    h y own.0 (omega (arith, own.1, u)) (omega (arith, own.1, v)))
last_receive t p k a q low high (Some r) l h =
    let place = h.place in
    let until = h.until in
    let own = receives t p k a r.no q h.receive (omega (arith, place, until, l)) in
    record {
      receive = own.0;
      place = own.1 ∙ place;
      after = h.after;
      until = until;
      latest = λ y g v. (
          let other = receives p t k (back t p k a) y q g (omega (arith, v, l)) in
          let low = h.latest y other.0 (omega (arith, other.1, v)) in
          omega (arith, low, other.1));
    }

-- a fate up to tick k
fate : (t p : Recorded) (k : ℕ) → ShareTicks t p k → (s : Place) (q : ℕ) (f : Fate) → IsFate t s q k f → IsFate p s q k f
fate t p k a s q Open h = λ x g. elim (cases_lt k (tick_of p x)) [
  | inl late ↦ late
  | inr early ↦ (
      let own = takes p t k (back t p k a) x s.no g (omega (arith, early)) in
      omega (arith, h x own.0, own.1))
]
fate t p k a s q (Taken missed) h =
    let until = h.2 in
    let own = takes t p k a h.0 s.no h.1 until in
    let same = own.1 in
    (h.0, own.0, omega (arith, until, same), rw same (last_receive t p k a q s.tick (tick_of t h.0) missed (omega (arith, until)) h.3))

sent : (t p : Recorded) (k : ℕ) → ShareTicks t p k → (set : ℕ) (m : Message) → IsSent set t 0 k m → IsSent set p 0 k m
sent t p k a set m h =
    let place = h.place in
    let until = h.until in
    let own = a.forth m.sent.no _ h.message.sent (omega (arith, place, until)) in
    record {
      message = record { from = h.message.from; sent = own.0; sender = h.message.sender; receiver = h.message.receiver };
      place = own.1 ∙ place;
      after = h.after;
      until = until;
      fate = fate t p k a m.sent m.to m.fate h.fate;
    }

-- nothing is sent before the first tick
no_take : (t : Recorded) → IsTrace t → (set k : ℕ) (x : Take) → IsTake set t 0 k x → ⊥
no_take t sound set k x h =
    let sent = (sound.steps.earlier x.at.no x.sent.no h.own.takes.0 h.own.takes.1 h.own.takes.2).1 in
    let low = (sound.time.inside x.sent.no _ sent.1).0 in
    omega (arith, low, h.own.sent_place, h.earlier)

longest : (t p : Recorded) (k : ℕ) → ShareTicks t p k → k ≤ p.last → (set : ℕ) (w : Gap) → IsLongest set t 0 k w → IsLongest set p 0 k w
longest t p k a inside set w h =
    let order = h.gap.order in
    let until = h.until in
    record {
      gap = record {
        member = h.gap.member;
        start = h.gap.start;
        order = order;
        inside = omega (arith, until, inside);
        silent = λ x u v s. h.gap.silent x u v (steps_in p t k (back t p k a) x w.proc (omega (arith, v, until)) s);
      };
      after = h.after;
      until = until;
      left = elim h.left [ inl e ↦ inl e | inr s ↦ inr (steps_in t p k a (w.from - 1) w.proc (omega (arith, order, until)) s) ];
      right = elim (cases_lt w.to k) [
        | inl below ↦ elim h.right [ inl e ↦ inl e | inr s ↦ inr (steps_in t p k a (w.to + 1) w.proc (omega (arith, below)) s) ]
        | inr end ↦ inl (omega (arith, end, until))
      ];
    }

-- So they have one summary.
pub IsSummary-shared : (t p : Recorded) (k : ℕ) → ShareTicks t p k
    → IsTrace t → IsTrace p → k ≤ t.last → k ≤ p.last → (set : ℕ) (s : Summary) → IsSummary set t 0 k s → IsSummary set p 0 k s
IsSummary-shared t p k a sound is low high set s h = record {
  members = h.members;
  from = h.from;
  to = h.to;
  sent = IsListing-same SentBefore (IsSent set t 0 k) (IsSent set p 0 k) s.sent (sent t p k a set) (sent p t k (back t p k a) set) h.sent;
  taken = IsListing-same TakenBefore (IsTake set t 0 k)
      (IsTake set p 0 k) s.taken (λ x g. absurd (no_take t sound set k x g)) (λ x g. absurd (no_take p is set k x g)) h.taken;
  last = record {
    long = h.last.long;
    members = λ q m.
        last_receive t p k a q 0 (k + 1) (last_of s.last q) (omega arith) (h.last.members q m);
    others = h.last.others;
  };
  silent = IsListing-same EndsBefore (IsLongest set t 0 k)
      (IsLongest set p 0 k) s.silent (longest t p k a high set) (longest p t k (back t p k a) low set) h.silent;
}

-- A trace that goes on shares the ticks before its further steps.

ShareTicks-extended : (t seen : Recorded) (k : ℕ) → Extends t seen
    → IsTimed seen → ((s : ℕ) (x : Step) → length seen.steps < s → step_at t.steps s ≡ Some x → k < tick_of t s) → ShareTicks seen t k
ShareTicks-extended t seen k e time later = record {
  forth = λ s x h l. kept s x h;
  back = λ s x h l. elim (cases_lt (length seen.steps) s) [
    | inl past ↦ absurd (omega (arith, later s x past h, l))
    | inr within ↦ (let own = sym (step_kept t.steps seen.steps e.steps s (omega (arith, within))) ∙ h in (own, sym (kept s x own).1))
  ];
} where
  kept : (s : ℕ) (x : Step) → step_at seen.steps s ≡ Some x → (step_at t.steps s ≡ Some x) × (tick_of t s ≡ tick_of seen s)
  kept s x h =
      let inside = (step_at_within seen.steps s x h).1 in
      (step_kept t.steps seen.steps e.steps s inside ∙ h, tick_kept t.ticks seen.ticks e.ticks s (omega (arith, inside, time.each)))

-- the summary up to tick k is that of the trace cut there
pub IsSummary-cut : (set : ℕ) (t cut : Recorded) (k : ℕ) (s : Summary)
    → IsTrace t → IsTrace cut → IsCutAt t k cut → k ≤ t.last → IsSummary set t 0 k s → IsSummary set cut 0 cut.last s
IsSummary-cut set t cut k s sound is at low h = subst (λ n. IsSummary set cut 0 n s) (sym at.last) (IsSummary-shared t cut k
    (back cut t k (ShareTicks-extended t cut k at.extends is.time at.after)) sound is low (omega (arith, at.last)) set s h)

-- and so is the digest
pub IsDigestUpTo-cut : (set : ℕ) (t cut : Recorded) (k : ℕ) (digest : Option Summary)
    → IsTrace t → IsTrace cut → IsCutAt t k cut → IsDigestUpTo set t k digest → IsDigestUpTo set cut cut.last digest
IsDigestUpTo-cut set t cut k None sound is at h = λ w. h sound ∙ sym at.last
IsDigestUpTo-cut set t cut k (Some d) sound is at h = λ w. (
    let own = h sound in
    (omega (arith, at.last, own.0), omega arith, (own.2.0, IsSummary-cut set t cut k own.2.0 sound is at own.1 own.2.1, own.2.2)))

-- the digest of ticks before the one that was last
pub IsDigestUpTo-extended : (set : ℕ) (t seen : Recorded) (k : ℕ) (digest : Option Summary) → IsTrace seen
    → Extends t seen → k ≤ seen.last - 1 → IsDigestUpTo set seen k digest → IsDigestUpTo set t k digest
IsDigestUpTo-extended set t seen k None w e l h = λ sound. h w
IsDigestUpTo-extended set t seen k (Some d) w e l h = λ sound. extended sound (h w) where
  extended : (sound : IsTrace t) → IsDigestOf (record { set = set; trace = seen; sound = w }) 0 k (Some d)
      → IsDigestOf (record { set = set; trace = t; sound = sound }) 0 k (Some d)
  extended sound (some, high, (s, is, same)) =
      let inside : k ≤ t.last = omega (arith, e.last, high) in
      let shared = ShareTicks-extended t seen k e w.time (λ n x past at. omega (arith, e.later n x past at, some, l)) in
      (some, inside, (s, IsSummary-shared seen t k shared w sound high inside set s is, same))

-- Steps that are pushed and ticks that pass make a trace that goes on.

Extends-with_step : (seen : Recorded) (tick : ℕ) (x : Step) → IsTimed seen → seen.last ≤ tick → Extends (with_step seen tick x) seen
Extends-with_step seen tick x time forward = record {
  config = refl;
  steps = record { more = x ∷ []; whole = refl };
  ticks = record { more = tick ∷ []; whole = refl };
  last = forward;
  later = λ k y past at. (
      let end = (step_at_within (seen.steps ++ x ∷ []) k y at).1 in
      let place : k ≡ suc (length seen.ticks) = omega (arith, rw (length-append seen.steps (x ∷ [])) at end, past, time.each) in
      rw (place, tick_at-push_last seen.ticks tick) forward);
}

Extends-with_last : (seen : Recorded) (tick : ℕ) → seen.last ≤ tick → Extends (with_last seen tick) seen
Extends-with_last seen tick forward = record {
  config = refl;
  steps = record { more = []; whole = sym (append-nil seen.steps) };
  ticks = record { more = []; whole = sym (append-nil seen.ticks) };
  last = forward;
  later = λ k y past at. (let end = (step_at_within seen.steps k y at).1 in absurd (omega (arith, end, past)));
}

closed_by : (set : ℕ) (t seen : Recorded) (k : ℕ) (digest : Option Summary) → IsTrace seen → Extends t seen
    → k ≤ seen.last - 1 → IsDigestUpTo set seen k digest → (k ≤ t.last - 1) × IsDigestUpTo set t k digest
closed_by set t seen k digest w e l h = (omega (arith, e.last, l), IsDigestUpTo-extended set t seen k digest w e l h)

-- what is known of a digest of closed ticks, once a step was pushed, or refused
pub closed-pushed : {A E : Type 0} (set : ℕ) (seen new : Recorded) (k tick : ℕ) (x : Step) (digest : Option Summary)
    (r : Result A E) → IsTrace seen → OnOk r (new ≡ with_step seen tick x) → OnOk r (refusal_in seen tick x ≡ None)
    → OnErr r (new ≡ seen) → k ≤ seen.last - 1 → IsDigestUpTo set seen k digest
    → (k ≤ new.last - 1) × IsDigestUpTo set new k digest
closed-pushed set seen new k tick x digest (Ok a) w pushed none err l h =
    rw pushed (closed_by set (with_step seen tick x) seen k digest w
    (Extends-with_step seen tick x w.time (CanAppend-from_none seen tick x w none).forward) l h)
closed-pushed set seen new k tick x digest (Err e) w pushed none err l h = rw err (l, h)

-- and once ticks passed, or not
pub closed-passed : {A E : Type 0} (set : ℕ) (seen new : Recorded) (k tick : ℕ) (digest : Option Summary)
    (r : Result A E) → IsTrace seen → OnOk r (new ≡ with_last seen tick)
    → OnOk r ((seen.last ≤ tick) × (tick ≤ MAX_TICKS)) → OnErr r (new ≡ seen) → k ≤ seen.last - 1
    → IsDigestUpTo set seen k digest → (k ≤ new.last - 1) × IsDigestUpTo set new k digest
closed-passed set seen new k tick digest (Ok a) w passed ok err l h =
    rw passed (closed_by set (with_last seen tick) seen k digest w (Extends-with_last seen tick ok.0) l h)
closed-passed set seen new k tick digest (Err e) w passed ok err l h = rw err (l, h)

-- the digests of ticks and of those that follow make one
pub IsDigestUpTo-joined : (set : ℕ) (t : Recorded) (k l : ℕ) (left right : Option Summary) → IsDigestUpTo set t k left
    → ((sound : IsTrace t) → IsDigestOf (record { set = set; trace = t; sound = sound }) k l right)
    → IsDigestUpTo set t l (joined_digests left right)
IsDigestUpTo-joined set t k l left right h more = λ sound.
    digests_join.part (record { set = set; trace = t; sound = sound }) 0 k l left right (h sound) (more sound)

-- what has a part is of some ticks
pub IsDigestUpTo-some : (set : ℕ) (trace : Recorded) (k : ℕ) (d : Option Summary)
    → IsTrace trace → IsDigestUpTo set trace k d → d ≢ None → 0 < k
IsDigestUpTo-some set trace zero d sound h some =
    absurd (some (digests_join.empty_part (record { set = set; trace = trace; sound = sound }) 0 d (h sound)))
IsDigestUpTo-some set trace (suc k) d sound h some = omega arith
