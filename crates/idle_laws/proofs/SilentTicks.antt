-- The ticks of short silences can be listed.
use Rattle.std.proofs.Common.{ℕ, ◌≡◌, ◌+◌, ◌*◌, ◌/◌, ◌%◌, ◌<◌, ◌≤◌, ◌⊎◌, inl, inr, List, [], ◌∷◌, length, Contains, zero, suc, sym, ap₂, ◌∙◌, subst, arith}
use Rattle.std.specs.Prelude.{slice_index, slice_index_or}
use Rattle.std.specs.List.{All}
use Rattle.std.proofs.lemmas.Bool.{cases_eq, cases_lt}
use Rattle.std.proofs.lemmas.List.Elements.{All-cons, All-nil, All-weaker}
use Rattle.idle_laws.proofs.Common.{MAX_PROCESSORS, Contains-head, Contains-rest, Event, IdleTick, moment_of, processor_at, HasEventIn, moment-parts, AreSilent, IsInShortSilence, IsSilentTick}
use Rattle.idle_laws.proofs.AddedEvents.{poll_of}

-- what can be decided
abbrev Decided : Type 0 → Type 0
Decided A = A ⊎ (¬ A)

both : (A B : Type 0) → Decided A → Decided B → Decided (A × B)
both A B (inl a) (inl b) = inl (a, b)
both A B (inl a) (inr n) = inr (λ h. n h.1)
both A B (inr n) b = inr (λ h. n h.0)

either : (A B : Type 0) → Decided A → Decided B → Decided (A ⊎ B)
either A B (inl a) b = inl (inl a)
either A B (inr n) (inl b) = inl (inr b)
either A B (inr n) (inr m) = inr neither where
  neither : A ⊎ B → ⊥
  neither (inl a) = n a
  neither (inr b) = m b

below : (a b : ℕ) → Decided (a < b)
below a b = elim (cases_lt a b) [ inl l ↦ inl l | inr l ↦ inr (λ m. absurd (omega arith)) ]

most : (a b : ℕ) → Decided (a ≤ b)
most a b = elim (cases_lt b a) [ inl l ↦ inr (λ m. absurd (omega arith)) | inr l ↦ inl l ]

-- some number up to n passes, or none
some_upto : (P : ℕ → Type 0) → ((k : ℕ) → Decided (P k)) → (n : ℕ) → ((k : ℕ) × P k) ⊎ ((k : ℕ) → k ≤ n → ¬ P k)
some_upto P decide zero = elim (decide 0) [ inl h ↦ inl (0, h) | inr q ↦ inr (λ k l p. (let e : k ≡ 0 = omega arith in q (subst P e p))) ]
some_upto P decide (suc n) = elim (some_upto P decide n) [
  | inl h ↦ inl h
  | inr q ↦ elim (decide (suc n)) [
    | inl h ↦ inl (suc n, h)
    | inr r ↦ inr (λ k l p. elim (cases_eq k (suc n)) [ inl e ↦ r (subst P e p) | inr d ↦ q k (omega (arith, d, l)) p ])
  ]
]

module _ (n : ℕ) (events : List Event) (ticks : List ℕ)
    (last limit : ℕ) (within : (i : ℕ) → i < length events → slice_index ticks i ≤ last) where
  has-event : (p y : ℕ) → Decided (HasEventIn events ticks p y)
  has-event p y = elim (some_upto (λ k. (k < length events) × ((processor_at events k ≡ p) × (slice_index ticks k ≡ y))) (λ k. both _ _
      (below k (length events)) (both _ _ (cases_eq (processor_at events k) p) (cases_eq (slice_index ticks k) y))) (length events)) [
        | inl h ↦ inl (let z = h.1 in let v = z.1 in record { place = h.0; inside = z.0; own = v.0; at = v.1 })
        | inr q ↦ inr (λ e. (let i = e.inside in q e.place (omega arith) (i, (e.own, e.at))))
      ]

  abbrev Silent : ℕ → ℕ → ℕ → Type 0
  Silent p since end = (z : ℕ) → since < z → z ≤ end → ¬ HasEventIn events ticks p z

  is-silent : (p since end : ℕ) → Decided (Silent p since end)
  is-silent p since end = elim (some_upto (λ z. (since < z) × ((z ≤ end) × HasEventIn events ticks p z))
      (λ z. both _ _ (below since z) (both _ _ (most z end) (has-event p z))) end) [
        | inl h ↦ inr (λ s. (let a = h.1 in let b = a.1 in s h.0 a.0 b.0 b.1))
        | inr q ↦ inl (λ z l m e. q z m (l, (m, e)))
      ]

  -- a short silence from `since` to `end` has tick y
  abbrev Spans : ℕ → ℕ → ℕ → ℕ → Type 0
  Spans p y end since = (since < y) × ((y ≤ end) × ((end ≤ since + limit)
      × (((since ≡ 0) ⊎ HasEventIn events ticks p since) × (((end ≡ last) ⊎ HasEventIn events ticks p (end + 1)) × Silent p since end))))

  spans : (p y end since : ℕ) → Decided (Spans p y end since)
  spans p y end since =
      both _ _ (below since y)
      (both _ _ (most y end) (both _ _ (most end (since + limit))
      (both _ _ (either _ _ (cases_eq since 0) (has-event p since))
      (both _ _ (either _ _ (cases_eq end last) (has-event p (end + 1))) (is-silent p since end)))))

  spans-some : (p y end : ℕ) → Decided ((since : ℕ) × Spans p y end since)
  spans-some p y end = elim (some_upto (Spans p y end) (spans p y end) y) [
    | inl h ↦ inl h
    | inr q ↦ inr (λ h. (let s = h.1 in let l = s.0 in q h.0 (omega arith) s))
  ]

  end-within : (p end : ℕ) → (end ≡ last) ⊎ HasEventIn events ticks p (end + 1) → end ≤ last
  end-within p end (inl e) = omega arith
  end-within p end (inr h) = let w = within h.place h.inside in let e = h.at in omega arith

  in-silence : (p y : ℕ) → Decided (IsInShortSilence events ticks last limit p y)
  in-silence p y = elim (some_upto (λ end. (since : ℕ) × Spans p y end since) (spans-some p y) last) [
    | inl h ↦ inl (found h.0 (let b = h.1 in b.0) (let b = h.1 in b.1))
    | inr q ↦ inr (λ s. q s.end (end-within p s.end s.is.ends)
        (s.is.silence.since, (s.after, (s.until, (s.is.silence.short, (s.is.silence.from, (s.is.ends, s.is.silence.silent)))))))
  ] where
    found : (end since : ℕ) → Spans p y end since → IsInShortSilence events ticks last limit p y
    found end since s =
        let a = s.0 in
        let b = s.1 in
        let c = b.1 in
        let d = c.1 in
        record {
          end = end;
          is = record {
            silence = record { since = since; from = d.0; some = omega (arith, b.0); silent = d.1.1; short = c.0 };
            ends = d.1.0;
          };
          after = a;
          until = b.0;
        }

  silent-tick : (x : IdleTick) → Decided (IsSilentTick n events ticks last limit x)
  silent-tick x = elim (both _ _ (most 1 x.processor) (both _ _ (most x.processor n) (in-silence x.processor x.tick))) [
    | inl h ↦ inl (let b = h.1 in record { least = h.0; most = b.0; inside = b.1 })
    | inr q ↦ inr (λ s. q (s.least, (s.most, s.inside)))
  ]

  -- the list has the silent ticks at moments below k, each once
  record Listed (k : ℕ) : Type 0 where
    polls : List IdleTick
    each : All (IsSilentTick n events ticks last limit) polls
    below : All (λ x. moment_of x.tick x.processor < k) polls
    all : (p y : ℕ) → IsSilentTick n events ticks last limit (poll_of p y) → moment_of y p < k → Contains polls (poll_of p y)
    apart : (i j : ℕ) (d : IdleTick) → i < j → j < length polls
        → ¬ (moment_of (slice_index_or polls i d).tick (slice_index_or polls i d).processor ≡ moment_of
        (slice_index_or polls j d).tick (slice_index_or polls j d).processor)

  abbrev poll_at : ℕ → IdleTick
  poll_at k = poll_of (k % MAX_PROCESSORS + 1) (k / MAX_PROCESSORS)

  poll-moment : (k : ℕ) → moment_of (k / MAX_PROCESSORS) (k % MAX_PROCESSORS + 1) ≡ k
  poll-moment k = omega arith

  poll-within : (k : ℕ) → k % MAX_PROCESSORS + 1 ≤ MAX_PROCESSORS
  poll-within k = omega arith

  one-more : n ≤ MAX_PROCESSORS → (k : ℕ) → Listed k → IsSilentTick n events ticks last limit (poll_at k) → Listed (suc k)
  one-more few k r s = record {
    polls = poll_at k ∷ r.polls;
    each = All-cons (IsSilentTick n events ticks last limit) (poll_at k) r.polls s r.each;
    below = All-cons (λ x. moment_of x.tick x.processor < suc k) (poll_at k) r.polls
        (let e = poll-moment k in omega arith)
        (All-weaker (λ x. moment_of x.tick x.processor < k) (λ x. moment_of x.tick x.processor < suc k)
        (λ x l. omega arith) r.polls r.below);
    all = all;
    apart = apart;
  } where
    all : (p y : ℕ) → IsSilentTick n events ticks last limit (poll_of p y)
        → moment_of y p < suc k → Contains (poll_at k ∷ r.polls) (poll_of p y)
    all p y h l = elim (cases_eq (moment_of y p) k) [
      | inl e ↦ (
          let m = h.most in
          let parts = moment-parts (k / MAX_PROCESSORS) y
          (k % MAX_PROCESSORS + 1) p (omega arith, poll-within k) (h.least, omega arith) (poll-moment k ∙ sym e) in
          subst (Contains (poll_at k ∷ r.polls)) (ap₂ poll_of parts.1 parts.0) (Contains-head (poll_at k) r.polls))
      | inr d ↦ Contains-rest (poll_at k) (poll_of p y) r.polls (r.all p y h (omega (arith, d, l)))
    ]

    apart : (i j : ℕ) (d : IdleTick) → i < j → j < length (poll_at k ∷ r.polls)
        → ¬ (moment_of (slice_index_or (poll_at k ∷ r.polls) i d).tick
        (slice_index_or (poll_at k ∷ r.polls) i d).processor ≡ moment_of
        (slice_index_or (poll_at k ∷ r.polls) j d).tick (slice_index_or (poll_at k ∷ r.polls) j d).processor)
    apart i zero d l m e = absurd (omega arith)
    apart zero (suc j) d l m e = let b = r.below j d (omega arith) in let c = poll-moment k in omega arith
    apart (suc i) (suc j) d l m e = r.apart i j d (omega arith) (omega arith) e

  none-more : n ≤ MAX_PROCESSORS → (k : ℕ) → Listed k → ¬ IsSilentTick n events ticks last limit (poll_at k) → Listed (suc k)
  none-more few k r q = record {
    polls = r.polls;
    each = r.each;
    below = All-weaker (λ x. moment_of x.tick x.processor < k)
        (λ x. moment_of x.tick x.processor < suc k) (λ x l. omega arith) r.polls r.below;
    all = all;
    apart = r.apart;
  } where
    all : (p y : ℕ) → IsSilentTick n events ticks last limit (poll_of p y) → moment_of y p < suc k → Contains r.polls (poll_of p y)
    all p y h l = elim (cases_eq (moment_of y p) k) [
      | inl e ↦ (
          let m = h.most in
          let parts = moment-parts y (k / MAX_PROCESSORS) p
          (k % MAX_PROCESSORS + 1) (h.least, omega arith) (omega arith, poll-within k) (e ∙ sym (poll-moment k)) in
          absurd (q (subst (IsSilentTick n events ticks last limit) (ap₂ poll_of parts.1 parts.0) h)))
      | inr d ↦ r.all p y h (omega (arith, d, l))
    ]

  listed : n ≤ MAX_PROCESSORS → (k : ℕ) → Listed k
  listed few zero = record {
    polls = [];
    each = All-nil (IsSilentTick n events ticks last limit);
    below = All-nil (λ x. moment_of x.tick x.processor < 0);
    all = λ p y h l. absurd (omega arith);
    apart = λ i j d l m e. absurd (omega arith);
  }
  listed few (suc k) = elim (silent-tick (poll_at k)) [ inl s ↦ one-more few k (listed few k) s | inr q ↦ none-more few k (listed few k) q ]

  -- no two of them are at one moment
  pub record AllSilent : Type 0 where
    pub polls : List IdleTick
    pub silent : AreSilent n events ticks last limit polls
    pub apart : (i j : ℕ) (d : IdleTick) → i < j → j < length polls
        → ¬ (moment_of (slice_index_or polls i d).tick (slice_index_or polls i d).processor ≡ moment_of
        (slice_index_or polls j d).tick (slice_index_or polls j d).processor)

  pub all-silent : n ≤ MAX_PROCESSORS → AllSilent
  all-silent few =
      let r = listed few ((last + 1) * MAX_PROCESSORS) in
      record {
        polls = r.polls;
        silent = record {
          each = r.each;
          all = λ p y one upto s. r.all p y (record { least = one; most = upto; inside = s })
              (let a = s.until in let b = end-within p s.end s.is.ends in omega arith);
        };
        apart = r.apart;
      }
