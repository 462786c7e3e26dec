-- The communication bound is kept by one step more.
use Rattle.std.proofs.Common.{ℕ, suc, ◌≡◌, ◌≢◌, ◌+◌, ◌<◌, ◌≤◌, ◌⊎◌, inl, inr, List, [], ◌∷◌, ◌++◌, Bool, true, false}
use Rattle.std.proofs.Common.{not, ◌==◌, Option, Some, None, length, max, Contains, filter, eq-eqb, refl, sym, ap}
use Rattle.std.proofs.Common.{subst, arith}
use Rattle.std.specs.List.{list_any}
use Rattle.std.proofs.lemmas.Bool.{cases_eq, and_from, le-leb}
use Rattle.std.proofs.lemmas.List.Elements.{Contains-append_left, Contains-append_right, Contains-append_cases}
use Rattle.simulated_runs.proofs.Common.{Receive, Step, Setup, IsReceiveOf, IsSentTo, IsWellFormed, step_at}
use Rattle.simulated_runs.proofs.Common.{Contains-head, Contains-cons_cases, Contains-nil, Contains-map}
use Rattle.simulated_runs.proofs.Common.{Contains-filter, Contains-from_filter, list_any-at, step_at-push_cases}
use Rattle.simulated_runs.proofs.Common.{step_at-push_old, step_at_last, step_at_within, taken_at-from_is_taken, buffer}
use Rattle.simulated_runs.proofs.Common.{waits_for, sending, receiving, buffer-sent_to, buffer-sent_elsewhere}
use Rattle.simulated_runs.proofs.Common.{buffer-received, Posted, due_ids, is_due, not_due, StatedBounds, IsPosted}
use Rattle.simulated_runs.proofs.Common.{tray_of, with_tray, DeltaGoesOn, IsTakenBy, KeepsDelta}
use Rattle.step_trace.specs.PushRefusals.{is_sent_to, is_taken}
use Rattle.step_buffers.specs.HeardTables.{numbers}
use Rattle.step_buffers.proofs.HeardSenders.{Contains-numbers}
use Rattle.simulated_runs.proofs.UnderWay.{tray-other, tray-same}

taken-old : (steps : List Step) (x : Step) (s r : ℕ) → IsTakenBy steps s r → IsTakenBy (steps ++ x ∷ []) s r
taken-old steps x s r w = record {
  place = w.place;
  after = w.after;
  until = w.until;
  takes = (w.takes.0, step_at-push_old steps x _ w.place w.takes.1, w.takes.2);
}

-- what was sent before the last step was sent in the steps so far
sent-old : (steps : List Step) (x : Step) (s p : ℕ) → s ≤ length steps → IsSentTo (steps ++ x ∷ []) s p → IsSentTo steps s p
sent-old steps x s p early h = elim (step_at-push_cases steps x _ s h.1) [
  | inl old ↦ (h.0, old)
  | inr last ↦ absurd (let e = last.0 in omega arith)
]

-- what was sent is taken, or waits
taken-or-waits : (c : Setup) (steps : List Step) (s p : ℕ)
    → IsWellFormed c steps → IsSentTo steps s p → IsTakenBy steps s (length steps) ⊎ Contains (buffer steps p) s
taken-or-waits c steps s p w h = of (is_taken steps s) refl
  where
    within : (0 < s) × (s ≤ length steps)
    within = step_at_within steps s _ h.1

    sent : is_sent_to steps s p ≡ true
    sent = rw h.1 (eq-eqb p p refl)

    of : (b : Bool) → is_taken steps s ≡ b → IsTakenBy steps s (length steps) ⊎ Contains (buffer steps p) s
    of true e =
        let t = taken_at-from_is_taken steps s e in
        let early = w.earlier t.0 s t.1.0 t.1.1 t.1.2 in
        let inside = step_at_within steps t.0 _ t.1.1 in
        inl (record { place = t.0; after = early.0; until = inside.1; takes = t.1 })
    of false e = inr (Contains-filter (waits_for steps p) (numbers steps) s (Contains-numbers steps s
        (let l = within.0 in omega arith) within.1) (and_from (is_sent_to steps s p) (not (is_taken steps s)) sent (ap not e)))

-- the bound is still kept for Receives before the last step
kept-old : (gst delta : ℕ) (steps : List Step) (x : Step) (s p r : ℕ)
    → 1 ≤ delta → ((s p r : ℕ) → gst < s → IsSentTo steps s p → IsReceiveOf steps r p → s + delta ≤ r → IsTakenBy steps s r)
    → gst < s → IsSentTo (steps ++ x ∷ []) s p → s + delta ≤ r → IsReceiveOf steps r p → IsTakenBy (steps ++ x ∷ []) s r
kept-old gst delta steps x s p r some kept late sent by received =
    let inside = (step_at_within steps r _ received.step).1 in
    taken-old steps x s r (kept s p r late (sent-old steps x s p (omega arith) sent) received by)

-- a Send keeps it, if its message is due in time
pub KeepsDelta-sent : (c : Setup) (gst delta p to due x : ℕ) (steps : List Step) (old new : List (List Posted)) → IsWellFormed c steps
    → 1 ≤ delta → 1 ≤ to → to ≤ length old → length new ≡ length old → x ≡ length steps + 1 → ((x ≤ gst) × (new ≡ old))
    ⊎ ((due ≤ max x gst + delta) × (new ≡ with_tray old to (tray_of old to ++ record { id = x; due = due } ∷ [])))
    → KeepsDelta gst delta steps old → KeepsDelta gst delta (steps ++ sending p to ∷ []) new
KeepsDelta-sent c gst delta p to due x steps old new w some low high long e posted k = record {
  on_time = λ q s low2 high2 late waits. on_time q s low2 (omega arith) late waits (cases_eq to q);
  kept = λ s q r late sent received by. elim (step_at-push_cases steps (sending p to) _ r received.step) [
    | inl before ↦ kept-old gst delta steps (sending p to) s q r some k.kept late sent by
        (record { ids = received.ids; ends = received.ends; step = before })
    | inr last ↦ absurd (send-no-receive q received.ends received.ids last.1)
  ];
}
  where
    added : Posted
    added = record { id = x; due = due }

    send-no-receive : (q : ℕ) (ends : Bool) (ids : List ℕ) → sending p to ≡ record { proc = q; act = Receive ends ids } → ⊥
    send-no-receive q ends ids same = let a = ap (λ (z : Step). z.act) same in cc

    -- a message that was under way is so still
    still : (q s : ℕ) → 1 ≤ q → q ≤ length old → (m : Posted) × Contains (tray_of old q) m × (m.id ≡ s) × (m.due ≤ s + delta)
        → (to ≡ q) ⊎ (to ≢ q) → (m : Posted) × Contains (tray_of new q) m × (m.id ≡ s) × (m.due ≤ s + delta)
    still q s low2 high2 m o = elim posted [
      | inl lost ↦ (m.0, subst (λ (all : List (List Posted)). Contains (tray_of all q) m.0) (sym lost.1) m.1, m.2, m.3)
      | inr made ↦ (m.0, subst (λ (all : List (List Posted)). Contains (tray_of all q) m.0) (sym made.1) (in_tray o), m.2, m.3)
    ]
      where
        in_tray : (to ≡ q) ⊎ (to ≢ q) → Contains (tray_of (with_tray old to (tray_of old to ++ added ∷ [])) q) m.0
        in_tray (inl same) = subst (λ (r : ℕ). Contains (tray_of (with_tray old to (tray_of old to ++ added ∷ [])) r) m.0) same
            (subst (λ (xs : List Posted). Contains xs m.0) (sym (tray-same old to (tray_of old to ++ added ∷ []) low high))
            (Contains-append_left (tray_of old to) (added ∷ []) m.0 (subst (λ (r : ℕ). Contains (tray_of old r) m.0) (sym same) m.1)))
        in_tray (inr other) = subst (λ (xs : List Posted). Contains xs m.0)
            (sym (tray-other old to q (tray_of old to ++ added ∷ []) low low2 other)) m.1

    -- the message that is sent is on time
    fresh : (s : ℕ) → x ≡ s → gst < s → (m : Posted) × Contains (tray_of new to) m × (m.id ≡ s) × (m.due ≤ s + delta)
    fresh s is late = elim posted [
      | inl lost ↦ absurd (let l = lost.0 in omega arith)
      | inr made ↦ (
        added,
        subst (λ (all : List (List Posted)). Contains (tray_of all to) added) (sym made.1)
            (subst (λ (xs : List Posted). Contains xs added) (sym (tray-same old to (tray_of old to ++ added ∷ []) low high))
            (Contains-append_right (tray_of old to) (added ∷ []) added (Contains-head added []))),
        is,
        (let l = made.0 in omega arith),
      )
    ]

    on_time : (q s : ℕ) → 1 ≤ q → q ≤ length old → gst < s → Contains (buffer (steps ++ sending p to ∷ []) q) s → (to ≡ q) ⊎ (to ≢ q)
        → (m : Posted) × Contains (tray_of new q) m × (m.id ≡ s) × (m.due ≤ s + delta)
    on_time q s low2 high2 late waits (inr other) =
        let before : Contains (buffer steps q) s =
        subst (λ (xs : List ℕ). Contains xs s) (buffer-sent_elsewhere c steps p to q w other) waits in
        still q s low2 high2 (k.on_time q s low2 high2 late before) (inr other)
    on_time q s low2 high2 late waits (inl same) =
        let mine : Contains (buffer (steps ++ sending p to ∷ []) to) s =
        subst (λ (r : ℕ). Contains (buffer (steps ++ sending p to ∷ []) r) s) (sym same) waits in
        elim (Contains-append_cases (buffer steps to)
        (suc (length steps) ∷ []) s (subst (λ (xs : List ℕ). Contains xs s) (buffer-sent_to c steps p to w) mine)) [
          | inl before ↦ still q s low2 high2
              (k.on_time q s low2 high2 late (subst (λ (r : ℕ). Contains (buffer steps r) s) same before)) (inl same)
          | inr last ↦ elim (Contains-cons_cases (suc (length steps)) s [] last) [
            | inl is ↦ subst (λ (r : ℕ). (m : Posted) × Contains (tray_of new r) m × (m.id ≡ s) × (m.due ≤ s + delta)) same
                (fresh s (let f : suc (length steps) ≡ s = is in omega arith) late)
            | inr none ↦ absurd (Contains-nil s none)
          ]
        ]

-- a Receive of what is due keeps it
pub KeepsDelta-received : (c : Setup) (gst delta p x : ℕ) (ends : Bool) (steps : List Step) (old new : List (List Posted))
    → IsWellFormed c steps → 1 ≤ delta → 1 ≤ p → p ≤ length old
    → length new ≡ length old → x ≡ length steps + 1 → new ≡ with_tray old p (not_due x (tray_of old p))
    → KeepsDelta gst delta steps old → KeepsDelta gst delta (steps ++ receiving p ends (due_ids x (tray_of old p)) ∷ []) new
KeepsDelta-received c gst delta p x ends steps old new w some low high long e made k = record {
  on_time = λ q s low2 high2 late waits. on_time q s low2 (omega arith) late (split q s waits) (cases_eq p q);
  kept = λ s q r late sent received by. elim (step_at-push_cases steps step _ r received.step) [
    | inl before ↦ kept-old gst delta steps step s q r some k.kept late sent by
        (record { ids = received.ids; ends = received.ends; step = before })
    | inr last ↦ now s q r late sent by last.0 (ap (λ (z : Step). z.proc) last.1)
  ];
}
  where
    taken : List Posted
    taken = tray_of old p

    step : Step
    step = receiving p ends (due_ids x taken)

    all : List Step
    all = steps ++ step ∷ []

    split : (q s : ℕ) → Contains (buffer all q) s → Contains (buffer steps q) s × (not (list_any (λ i. i == s) (due_ids x taken)) ≡ true)
    split q s waits = Contains-from_filter (λ i. not (list_any (λ j. j == i) (due_ids x taken))) (buffer steps q) s
        (subst (λ (xs : List ℕ). Contains xs s) (buffer-received c steps p q ends (due_ids x taken) w) waits)

    due-id : (m : Posted) → Contains taken m → is_due x m ≡ true → Contains (due_ids x taken) m.id
    due-id m d due = Contains-map (λ (z : Posted). z.id) (filter (is_due x) taken) m (Contains-filter (is_due x) taken m d due)

    left : (m : Posted) (s : ℕ) → m.id ≡ s → Contains taken m
        → not (list_any (λ i. i == s) (due_ids x taken)) ≡ true → (b : Bool) → is_due x m ≡ b → Contains (not_due x taken) m
    left m s is d none true due =
        let in_ids : Contains (due_ids x taken) s = subst (λ (i : ℕ). Contains (due_ids x taken) i) is (due-id m d due) in
        let found : list_any (λ i. i == s) (due_ids x taken)
        ≡ true = list_any-at (λ i. i == s) (due_ids x taken) s in_ids (eq-eqb s s refl) in
        cc
    left m s is d none false due = Contains-filter (λ (z : Posted). not (is_due x z)) taken m d (ap not due)

    on_time : (q s : ℕ) → 1 ≤ q → q ≤ length old → gst < s → Contains (buffer steps q) s × (not (list_any (λ i. i == s) (due_ids x taken))
        ≡ true) → (p ≡ q) ⊎ (p ≢ q) → (m : Posted) × Contains (tray_of new q) m × (m.id ≡ s) × (m.due ≤ s + delta)
    on_time q s low2 high2 late waits (inr other) =
        let m = k.on_time q s low2 high2 late waits.0 in (
          m.0,
          subst (λ (t : List (List Posted)). Contains (tray_of t q) m.0) (sym made)
              (subst (λ (xs : List Posted). Contains xs m.0) (sym (tray-other old p q (not_due x taken) low low2 other)) m.1),
          m.2,
          m.3,
        )
    on_time q s low2 high2 late waits (inl same) =
        let m = k.on_time p s low high late (subst (λ (r : ℕ). Contains (buffer steps r) s) (sym same) waits.0) in
        let kept_m : Contains (not_due x taken) m.0 = left m.0 s m.2 m.1 waits.1 (is_due x m.0) refl in (
          m.0,
          subst (λ (t : List (List Posted)). Contains (tray_of t q) m.0) (sym made)
              (subst (λ (r : ℕ). Contains (tray_of (with_tray old p (not_due x taken)) r) m.0) same
              (subst (λ (xs : List Posted). Contains xs m.0) (sym (tray-same old p (not_due x taken) low high)) kept_m)),
          m.2,
          m.3,
        )

    now : (s q r : ℕ) → gst < s → IsSentTo all s q → s + delta ≤ r → r ≡ length steps + 1 → p ≡ q → IsTakenBy all s r
    now s q r late sent by at same = elim
        (taken-or-waits c steps s p w (subst (λ (i : ℕ). IsSentTo steps s i) (sym same) (sent-old steps step s q (omega arith) sent))) [
          | inl t ↦
              let o = taken-old steps step s (length steps) t in
              record { place = o.place; after = o.after; until = (let u = o.until in omega arith); takes = o.takes }
          | inr waits ↦
              let m = k.on_time p s low high late waits in
              let due : is_due x m.0 ≡ true = le-leb m.0.due x (let d = m.3 in omega arith) in
              let takes : Contains (due_ids x taken) s = subst (λ (i : ℕ). Contains (due_ids x taken) i) m.2 (due-id m.0 m.1 due) in
              let last : step_at all (length steps + 1) ≡ Some step = let f : suc (length steps) ≡ length steps + 1 = omega arith in
              subst (λ (i : ℕ). step_at all i ≡ Some step) f (step_at_last steps step) in
              record { place = length steps + 1; after = omega arith; until = omega arith; takes = (step, last, takes) }
        ]

-- if bounds are stated
pub goes-on-sent : (c : Setup) (bounds : Option StatedBounds) (p to x : ℕ) (steps : List Step) (old new : List (List Posted))
    → IsWellFormed c steps → 1 ≤ to → to ≤ length old → length new ≡ length old
    → x ≡ length steps + 1 → IsPosted bounds old new to x → DeltaGoesOn bounds steps old (steps ++ sending p to ∷ []) new
goes-on-sent c None p to x steps old new w low high long e posted = tt
goes-on-sent c (Some b) p to x steps old new w low high long e (inl lost) =
    λ k. KeepsDelta-sent c b.gst b.delta p to 0 x steps old new w b.some low high long e (inl lost) k
goes-on-sent c (Some b) p to x steps old new w low high long e (inr made) =
    λ k. KeepsDelta-sent c b.gst b.delta p to made.0 x steps old new w b.some low high long e (inr (made.1.within, made.2)) k

pub goes-on-received : (c : Setup) (bounds : Option StatedBounds) (p x : ℕ) (ends : Bool) (steps : List Step) (old new : List (List Posted))
    → IsWellFormed c steps → 1 ≤ p → p ≤ length old → length new ≡ length old → x ≡ length steps + 1 → new ≡ with_tray old p
    (not_due x (tray_of old p)) → DeltaGoesOn bounds steps old (steps ++ receiving p ends (due_ids x (tray_of old p)) ∷ []) new
goes-on-received c None p x ends steps old new w low high long e made = tt
goes-on-received c (Some b) p x ends steps old new w low high long e made =
    λ k. KeepsDelta-received c b.gst b.delta p x ends steps old new w b.some low high long e made k

-- before the first step
pub KeepsDelta-opening : (gst delta : ℕ) (trays : List (List Posted)) → KeepsDelta gst delta [] trays
KeepsDelta-opening gst delta trays = record {
  on_time = λ p s low high late waits. absurd (Contains-nil s waits);
  kept = λ s p r late sent received by. absurd (let l = step_at_within [] s _ sent.1 in let n = l.0 in let m = l.1 in omega arith);
}
