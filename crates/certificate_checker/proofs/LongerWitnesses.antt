-- The longest miss from one message more on.
use Rattle.std.proofs.Common.{ℕ, ◌≡◌, ◌+◌, ◌-◌, ◌<◌, ◌≤◌, inl, inr, Option, Some, None, Bool, true, false, cond, refl, ap, sym, ◌∙◌, arith}
use Rattle.std.specs.Prelude.{MatchOption, nat_lt, IfSome}
use Rattle.std.proofs.lemmas.Bool.{cases_eq, ltb-true, ltb-false}
use Rattle.certificate_checker.proofs.Common.{Miss, Recorded, tick_of, IsMiss, step_at_within, HasNoMiss, IsLastMiss}
use Rattle.certificate_checker.proofs.Common.{HasNoMissAfter, IsLongestMissAfter, KnowsMissesAfter, HasSpan, span_of}
use Rattle.certificate_checker.proofs.Common.{longer_miss}

-- a miss has a length
pub HasSpan-of_miss : (set : ℕ) (t : Recorded) (m : Miss) → IsMiss set t m → HasSpan t m
HasSpan-of_miss set t m i =
    let sent = step_at_within t.steps m.sent _ i.message.sent in
    let missed = step_at_within t.steps m.missed _ i.receive.step in
    record {
      sent_low = omega (arith, sent);
      sent_high = sent.1;
      missed_low = omega (arith, missed);
      missed_high = missed.1;
      order = omega (arith, i.late);
    }

-- none after s and none of s
misses_none : (set : ℕ) (t : Recorded) (s : ℕ) → HasNoMiss set t s → HasNoMissAfter set t s → HasNoMissAfter set t (s - 1)
misses_none set t s here later o i f = elim (cases_eq o.sent s) [ inl e ↦ here o i e | inr e ↦ later o i (omega (arith, e, f)) ]

misses_kept : (set : ℕ) (t : Recorded) (s : ℕ) (w : Miss)
    → ((o : Miss) → IsMiss set t o → o.sent ≡ s
    → tick_of t o.missed + tick_of t w.sent ≤ tick_of t w.missed + tick_of t o.sent) → IsLongestMissAfter set t s w
    → IsLongestMissAfter set t (s - 1) w
misses_kept set t s w here l = let after = l.after in record {
  miss = l.miss;
  after = omega (arith, after);
  longest = λ o i f. elim (cases_eq o.sent s) [ inl e ↦ here o i e | inr e ↦ l.longest o i (omega (arith, e, f)) ];
  greatest = λ o i f same. elim (cases_eq o.sent s) [ inl e ↦ omega (arith, e, after) | inr e ↦ l.greatest o i (omega (arith, e, f)) same ];
}

misses_new : (set : ℕ) (t : Recorded) (s : ℕ) (v : Miss) → 1 ≤ s
    → ((o : Miss) → IsMiss set t o → s < o.sent
    → tick_of t o.missed + tick_of t v.sent < tick_of t v.missed + tick_of t o.sent) → IsLastMiss set t s v
    → IsLongestMissAfter set t (s - 1) v
misses_new set t s v low later l = let at = l.sent in record {
  miss = l.miss;
  after = omega (arith, at, low);
  longest = λ o i f. elim (cases_eq o.sent s) [
    | inl e ↦ (let most = l.last o i e in let same = ap (tick_of t) (e ∙ sym at) in omega (arith, most, same))
    | inr e ↦ (let short = later o i (omega (arith, e, f)) in omega (arith, short))
  ];
  greatest = λ o i f same. elim (cases_eq o.sent s) [
    | inl e ↦ omega (arith, e, at)
    | inr e ↦ absurd (let short = later o i (omega (arith, e, f)) in omega (arith, short, same))
  ];
}

-- the longer of the last miss of s and the longest after s
pub KnowsMissesAfter-earlier : (set : ℕ) (t : Recorded) (s : ℕ) (v w : Option Miss) → 1 ≤ s
    → MatchOption v (HasNoMiss set t s) (IsLastMiss set t s) → KnowsMissesAfter set t s w
    → KnowsMissesAfter set t (s - 1) (longer_miss t v w)
KnowsMissesAfter-earlier set t s None None low here later = misses_none set t s here later
KnowsMissesAfter-earlier set t s None (Some w) low here later = misses_kept set t s w (λ o i e. absurd (here o i e)) later
KnowsMissesAfter-earlier set t s (Some v) None low here later = misses_new set t s v low (λ o i l. absurd (later o i l)) here
KnowsMissesAfter-earlier set t s (Some v) (Some w) low here later = go (nat_lt (span_of t w) (span_of t v)) refl where
  go : (b : Bool) → nat_lt (span_of t w) (span_of t v) ≡ b → KnowsMissesAfter set t (s - 1) (cond b (Some v) (Some w))
  go true e = misses_new set t s v low (λ o i l.
      omega (arith, ltb-true _ _ e, later.longest o i l, i.late, later.miss.late, here.miss.late)) here
  go false e = misses_kept set t s w (λ o i q.
      let at = ap (tick_of t) here.sent in
      let same = ap (tick_of t) q in
      omega (arith, ltb-false _ _ e, here.last o i q, at, same, i.late, later.miss.late, here.miss.late)) later

-- the misses that are found have a length
pub span_of_last : (set : ℕ) (t : Recorded) (s : ℕ) (o : Option Miss)
    → MatchOption o (HasNoMiss set t s) (IsLastMiss set t s) → IfSome o (HasSpan t)
span_of_last set t s None h = tt
span_of_last set t s (Some m) h = HasSpan-of_miss set t m h.miss

pub span_of_longest : (set : ℕ) (t : Recorded) (s : ℕ) (o : Option Miss) → KnowsMissesAfter set t s o → IfSome o (HasSpan t)
span_of_longest set t s None h = tt
span_of_longest set t s (Some m) h = HasSpan-of_miss set t m h.miss
