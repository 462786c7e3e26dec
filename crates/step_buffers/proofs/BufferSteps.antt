-- A buffer with one step more: without the messages that the step takes, and with the one that it sends there.
use Rattle.std.proofs.Common.{ℕ, suc, ◌≡◌, ◌≢◌, ◌+◌, ◌<◌, ◌≤◌, List, [], ◌∷◌, ◌++◌, length, filter, Bool, true, false, cond, not, ◌&&◌, ◌||◌, ◌==◌, refl, sym, ap, ◌∙◌, subst, arith, eq-eqb}
use Rattle.std.specs.Prelude.{Contains}
use Rattle.std.specs.List.{list_any, range_with_len}
use Rattle.std.specs.List.Sorted.{IsStrictlyIncreasing}
use Rattle.std.proofs.Math.Bool.{and-true, or-false}
use Rattle.std.proofs.lemmas.Bool.{ne_eqb, false_from_ne_true}
use Rattle.std.proofs.lemmas.Option.{same_Some}
use Rattle.std.proofs.lemmas.List.{length-append, append-nil}
use Rattle.std.proofs.lemmas.List.Elements.{filter-append}
use Rattle.std.proofs.lemmas.List.Folds.{list_any-append}
use Rattle.std.proofs.lemmas.List.Kept.{IsStrictlyIncreasing-filter}
use Rattle.step_trace.specs.declared.steps.Act.{Act}
use Rattle.step_trace.proofs.StepPrefixes.{step_at-prefix, IsWellFormed-prefix}
use Rattle.step_buffers.proofs.Common.{Send, Receive, Step, Setup, act_dest, act_takes, act_sends_to, step_at}
use Rattle.step_buffers.proofs.Common.{IsWellFormed, is_sent_to, is_taken, step_at_within, step_at_last}
use Rattle.step_buffers.proofs.Common.{taken_at-from_is_taken, Contains-from_filter, range_with_len-more}
use Rattle.step_buffers.proofs.Common.{IsStrictlyIncreasing-range_with_len, All-range_with_len, numbers, waits_for}
use Rattle.step_buffers.proofs.Common.{buffer, IsSend, sending, receiving, Fits-from_well_formed, sent_from}
use Rattle.step_buffers.proofs.RemovedIds.{filter-agree, filter-all, Contains-from_is_in}

-- two filters one after the other
filter-twice : (f g : ℕ → Bool) (xs : List ℕ) → filter (λ x. f x && g x) xs ≡ filter g (filter f xs)
filter-twice f g [] = refl
filter-twice f g (x ∷ xs) = go (f x) (g x) refl (filter-twice f g xs)
  where
    go : (a b : Bool) → g x ≡ b → filter (λ y. f y && g y) xs ≡ filter g (filter f xs)
        → cond (a && b) (x ∷ filter (λ y. f y && g y) xs) (filter (λ y. f y && g y) xs) ≡ filter g (cond a (x ∷ filter f xs) (filter f xs))
    go true true e rest = rw e (ap (λ ys. x ∷ ys) rest)
    go true false e rest = rw e rest
    go false b e rest = rest

-- the numbers of the steps, from 1 on
pub Contains-from_numbers : (steps : List Step) (s : ℕ) → Contains (numbers steps) s → (1 ≤ s) × (s ≤ length steps)
Contains-from_numbers steps s d =
    let r = All-range_with_len 1 (length steps) d.0 s d.1 in
    let e : _ ≡ s = d.2 in
    let low : 1 ≤ s = subst (λ n. 1 ≤ n) e r.0 in
    let high : s < 1 + length steps = subst (λ n. n < 1 + length steps) e r.1 in
    (low, omega arith)

numbers-push : (steps : List Step) (x : Step) → numbers (steps ++ x ∷ []) ≡ numbers steps ++ suc (length steps) ∷ []
numbers-push steps x =
    let long : length (steps ++ x ∷ []) ≡ length steps + 1 = length-append steps (x ∷ []) in
    ap (range_with_len 1) long ∙ range_with_len-more 1 (length steps) (suc (length steps)) (omega arith)

-- a message is taken by the steps so far or by the next one
pub is_taken-push : (steps : List Step) (x : Step) (s : ℕ) → is_taken (steps ++ x ∷ []) s ≡ (is_taken steps s || act_takes x.act s)
is_taken-push steps x s = list_any-append (λ y. act_takes y.act s) steps (x ∷ [])
    ∙ ap (λ b. is_taken steps s || b) (or-false (act_takes x.act s))

-- no later number is taken
not_taken-later : (c : Setup) (steps : List Step) (s : ℕ) → IsWellFormed c steps → length steps < s → is_taken steps s ≡ false
not_taken-later c steps s w late = false_from_ne_true (is_taken steps s) (λ e.
    let t = taken_at-from_is_taken steps s e in
    let within = step_at_within steps t.0 t.1.0 t.1.1 in
    let earlier = w.earlier t.0 s t.1.0 t.1.1 t.1.2 in
    omega (arith, within.1, earlier.0))

waits_for-old : (steps : List Step) (x : Step) (p s : ℕ)
    → s ≤ length steps → waits_for (steps ++ x ∷ []) p s ≡ (waits_for steps p s && not (act_takes x.act s))
waits_for-old steps x p s l =
    rw (step_at-prefix steps (x ∷ []) s l, is_taken-push steps x s) (go (is_sent_to steps s p) (is_taken steps s) (act_takes x.act s))
  where
    go : (a b d : Bool) → (a && not (b || d)) ≡ (a && not b && not d)
    go true true d = refl
    go true false d = refl
    go false b d = refl

waits_for-new : (c : Setup) (steps : List Step) (x : Step) (p : ℕ)
    → IsWellFormed c steps → waits_for (steps ++ x ∷ []) p (suc (length steps)) ≡ act_sends_to x.act p
waits_for-new c steps x p w = rw (
  step_at_last steps x,
  is_taken-push steps x (suc (length steps)),
  not_taken-later c steps (suc (length steps)) w (omega arith),
) (go x.act)
  where
    go : (a : Act) → (act_sends_to a p && not (act_takes a (suc (length steps)))) ≡ act_sends_to a p
    go (Send to) = and-true (to == p)
    go (Receive ends ids) = refl

-- what a buffer becomes
pub buffer-push : (c : Setup) (steps : List Step) (x : Step) (p : ℕ) → IsWellFormed c steps → buffer (steps ++ x ∷ []) p
    ≡ filter (λ s. not (act_takes x.act s)) (buffer steps p) ++ cond (act_sends_to x.act p) (suc (length steps) ∷ []) []
buffer-push c steps x p w =
    ap (filter (λ s. waits_for (steps ++ x ∷ []) p s)) (numbers-push steps x)
    ∙ filter-append (λ s. waits_for (steps ++ x ∷ []) p s) (numbers steps) (suc (length steps) ∷ [])
    ∙ rw (
      filter-agree (λ s. waits_for (steps ++ x ∷ []) p s) (λ s. waits_for steps p s && not (act_takes x.act s)) (numbers steps)
          (λ s d. let within = Contains-from_numbers steps s d in waits_for-old steps x p s within.1),
      filter-twice (λ s. waits_for steps p s) (λ s. not (act_takes x.act s)) (numbers steps),
      waits_for-new c steps x p w,
    ) refl

-- a message to p
pub buffer-sent_to : (c : Setup) (steps : List Step) (p to : ℕ) → IsWellFormed c steps
    → buffer (steps ++ sending p to ∷ []) to ≡ buffer steps to ++ suc (length steps) ∷ []
buffer-sent_to c steps p to w =
    buffer-push c steps (sending p to) to w
    ∙ rw (eq-eqb to to refl, filter-all (λ s. not false) (buffer steps to) (λ s d. refl)) refl

-- a message to another
pub buffer-sent_elsewhere : (c : Setup) (steps : List Step) (p to q : ℕ) → IsWellFormed c steps → to ≢ q
    → buffer (steps ++ sending p to ∷ []) q ≡ buffer steps q
buffer-sent_elsewhere c steps p to q w other =
    buffer-push c steps (sending p to) q w
    ∙ rw (ne_eqb to q other, filter-all (λ s. not false) (buffer steps q) (λ s d. refl)) (append-nil (buffer steps q))

-- a Receive
pub buffer-received : (c : Setup) (steps : List Step) (p q : ℕ) (ends : Bool) (ids : List ℕ) → IsWellFormed c steps
    → buffer (steps ++ receiving p ends ids ∷ []) q ≡ filter (λ s. not (list_any (λ i. i == s) ids)) (buffer steps q)
buffer-received c steps p q ends ids w = buffer-push c steps (receiving p ends ids) q w
    ∙ append-nil (filter (λ s. not (list_any (λ i. i == s) ids)) (buffer steps q))

-- what waits was sent to its processor and was not taken
pub record IsWaiting (steps : List Step) (p s : ℕ) : Type 0 where
  pub sender : ℕ
  pub sent : IsSend steps sender p s
  pub fresh : is_taken steps s ≡ false

pub IsWaiting-from_buffer : (steps : List Step) (p s : ℕ) → Contains (buffer steps p) s → IsWaiting steps p s
IsWaiting-from_buffer steps p s d = go (is_sent_to steps s p)
    (is_taken steps s) refl refl (Contains-from_filter (λ i. waits_for steps p i) (numbers steps) s d).1 where
      go : (a b : Bool) → is_sent_to steps s p ≡ a → is_taken steps s ≡ b → (a && not b) ≡ true → IsWaiting steps p s
      go true false e f h = let sent = sent_from (step_at steps s) p e in record { sender = sent.0; sent = sent.1; fresh = f }
      go true true e f h = cc
      go false b e f h = cc

-- what a Receive of another takes doesn't wait for p
pub buffer-received_elsewhere : (c : Setup) (steps : List Step) (p q : ℕ) (ends : Bool) (ids : List ℕ)
    → IsWellFormed c (steps ++ receiving p ends ids ∷ []) → p ≢ q → buffer (steps ++ receiving p ends ids ∷ []) q ≡ buffer steps q
buffer-received_elsewhere c steps p q ends ids w other =
    buffer-received c steps p q ends ids (IsWellFormed-prefix c steps (receiving p ends ids ∷ []) w)
    ∙ filter-all (λ s. not (list_any (λ i. i == s) ids)) (buffer steps q)
    (λ s d. ap not (false_from_ne_true (list_any (λ i. i == s) ids) (no_other s d)))
  where
    no_other : (s : ℕ) → Contains (buffer steps q) s → list_any (λ i. i == s) ids ≡ true → ⊥
    no_other s d e =
        let waits = IsWaiting-from_buffer steps q s d in
        let sent = (Fits-from_well_formed c steps (receiving p ends ids) w).sent s (Contains-from_is_in ids s e) in
        let one : Step = record { proc = sent.0; act = Send p } in
        let two : Step = record { proc = waits.sender; act = Send q } in
        other (same_Some p q (ap (λ (z : Step). act_dest z.act) (same_Some one two (sym sent.1 ∙ waits.sent))))

-- a buffer rises
pub buffer-rises : (steps : List Step) (p : ℕ) → IsStrictlyIncreasing (buffer steps p)
buffer-rises steps p = IsStrictlyIncreasing-filter
    (λ s. waits_for steps p s) (numbers steps) (IsStrictlyIncreasing-range_with_len 1 (length steps))
