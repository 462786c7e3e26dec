-- A cycle of causes, begun at another of its hops.
use Rattle.std.proofs.Common.{ℕ, ◌≡◌, ◌+◌, ◌-◌, ◌<◌, ◌≤◌, ◌⊎◌, inl, inr, List, ◌++◌, length, get_or, drop, take, refl, sym, ap, ◌∙◌, subst, arith, length-append, length-drop}
use Rattle.std.proofs.Math.Seq.{take-length}
use Rattle.std.proofs.lemmas.Bool.{cases_lt, cases_eq}
use Rattle.std.proofs.lemmas.List.{get_or_append_left, get_or-append_right, get_or-drop, get_or-take, length-take-le}
use Rattle.timed_events.specs.declared.cause_cycles.Hop.{Hop}
use Rattle.timed_events.specs.declared.events.Event.{Event}
use Rattle.timed_events.specs.Causes.{IsFrom, IsSentTo}
use Rattle.timed_events.specs.CauseCycles.{BeginsAtLeast, IsCauseCycle}

-- the hops from the one at a place on, and then those before it
abbrev pub turned : ℕ → List Hop → List Hop
turned at hops = drop at hops ++ take at hops

module _ (at : ℕ) (hops : List Hop) (inside : at ≤ length hops) where
  dropped-long : length (drop at hops) ≡ length hops - at
  dropped-long = length-drop at hops

  pub turned-long : length (turned at hops) ≡ length hops
  turned-long = let a = length-append (drop at hops) (take at hops) in
      let b = dropped-long in let c = length-take-le at hops inside in omega arith

  turned-left : (k i : ℕ) (d : Hop) → at + k ≡ i → i < length hops → get_or (turned at hops) k d ≡ get_or hops i d
  turned-left k i d e l =
      get_or_append_left (drop at hops) (take at hops) d k (let b = dropped-long in omega arith)
      ∙ get_or-drop at hops k d ∙ ap (λ m. get_or hops m d) e

  turned-right : (k i : ℕ) (d : Hop) → at + k ≡ length hops + i → i < at → get_or (turned at hops) k d ≡ get_or hops i d
  turned-right k i d e l =
      let b = dropped-long in
      let m : k - (length hops - at) ≡ i = omega arith in
      get_or-append_right (drop at hops) (take at hops) (length hops - at) k d b (omega arith)
      ∙ ap (λ j. get_or (take at hops) j d) m ∙ get_or-take at hops i d l

  -- each hop of the turned list is one of the others
  pub turned-some : (k : ℕ) → k < length hops → (i : ℕ) × (i < length hops) × ((d : Hop) → get_or (turned at hops) k d ≡ get_or hops i d)
  turned-some k l = go (cases_lt (at + k) (length hops)) where
    go : (at + k < length hops) ⊎ (length hops ≤ at + k)
        → (i : ℕ) × (i < length hops) × ((d : Hop) → get_or (turned at hops) k d ≡ get_or hops i d)
    go (inl b) = (at + k, b, λ d. turned-left k (at + k) d refl b)
    go (inr b) = (at + k - length hops, omega arith, λ d. turned-right k (at + k - length hops) d (omega arith) (omega arith))

  module _ (events : List Event) (c : IsCauseCycle events hops) where
    taken : (k : ℕ) (d : Hop) → k < length (turned at hops)
        → IsSentTo events (get_or (turned at hops) k d).event (get_or (turned at hops) k d).message
    taken k d l =
        let s = turned-some k (let n = turned-long in omega arith) in
        subst (λ h. IsSentTo events h.event h.message) (sym (s.2 d)) (c.taken s.0 d s.1)

    from-to : (j k i m : ℕ) (d : Hop) → get_or (turned at hops) j d ≡ get_or hops i d
        → get_or (turned at hops) k d ≡ get_or hops m d
        → IsFrom events (get_or hops i d).event (get_or hops m d).message
        → IsFrom events (get_or (turned at hops) j d).event (get_or (turned at hops) k d).message
    from-to j k i m d e f h = subst (λ x. IsFrom events x.event (get_or (turned at hops) k d).message)
        (sym e) (subst (λ y. IsFrom events (get_or hops i d).event y.message) (sym f) h)

    next-by : (k : ℕ) (d : Hop) → k + 1 < length hops → (at + k + 1 < length hops) ⊎ (length hops ≤ at + k + 1)
        → (at + k + 1 ≡ length hops) ⊎ ¬ (at + k + 1 ≡ length hops)
        → IsFrom events (get_or (turned at hops) (k + 1) d).event (get_or (turned at hops) k d).message
    next-by k d l (inl b) e = from-to (k + 1) k (at + k + 1)
        (at + k) d (turned-left (k + 1) (at + k + 1) d (omega arith) b) (turned-left k (at + k) d refl (omega arith)) (c.next (at + k) d b)
    next-by k d l (inr b) (inl e) = from-to (k + 1) k 0 (length hops - 1) d
        (turned-right (k + 1) 0 d (omega arith) (omega arith)) (turned-left k (length hops - 1) d (omega arith) (omega arith)) (c.closed d)
    next-by k d l (inr b) (inr n) =
        let i = at + k - length hops in
        from-to (k + 1) k (i + 1) i d (turned-right (k + 1) (i + 1) d (omega arith) (omega arith))
        (turned-right k i d (omega arith) (omega arith)) (c.next i d (omega arith))

    closed-by : (d : Hop) → (at < length hops) ⊎ (length hops ≤ at)
        → (at ≡ 0) ⊎ ¬ (at ≡ 0) → IsFrom events (get_or (turned at hops) 0 d).event (get_or (turned at hops) (length hops - 1) d).message
    closed-by d (inr b) z = let s = c.some in
        from-to 0 (length hops - 1) 0 (length hops - 1) d (turned-right 0 0 d (omega arith) (omega arith))
        (turned-right (length hops - 1) (length hops - 1) d (omega arith) (omega arith)) (c.closed d)
    closed-by d (inl b) (inl z) = let s = c.some in
        from-to 0 (length hops - 1) 0 (length hops - 1) d (turned-left 0 0 d (omega arith) (omega arith))
        (turned-left (length hops - 1) (length hops - 1) d (omega arith) (omega arith)) (c.closed d)
    closed-by d (inl b) (inr z) =
        let i : at - 1 + 1 ≡ at = omega arith in
        from-to 0 (length hops - 1) at (at - 1) d (turned-left 0 at d (omega arith) b)
        (turned-right (length hops - 1) (at - 1) d (omega arith) (omega arith))
        (subst (λ j. IsFrom events (get_or hops j d).event (get_or hops (at - 1) d).message) i
        (c.next (at - 1) d (omega arith)))

    turned-is : IsCauseCycle events (turned at hops)
    turned-is = record {
      some = (let n = turned-long in let s = c.some in omega arith);
      taken = taken;
      next = λ k d l.
          (let n = turned-long in next-by k d (omega arith) (cases_lt (at + k + 1) (length hops)) (cases_eq (at + k + 1) (length hops)));
      closed = λ d. subst (λ n. IsFrom events (get_or (turned at hops) 0 d).event (get_or (turned at hops) (n - 1) d).message)
          (sym turned-long) (closed-by d (cases_lt at (length hops)) (cases_eq at 0));
    }

-- what the code takes of the hops from a place on are all of them
pub rest-whole : (at : ℕ) (hops : List Hop) → take (length hops - at) (drop at hops) ≡ drop at hops
rest-whole at hops = ap (λ n. take n (drop at hops)) (sym (length-drop at hops)) ∙ take-length (drop at hops)

-- hops that are those of a cycle, turned
abbrev pub AreTurned : List Hop → List Hop → Type 0
AreTurned hops now = (at : ℕ) × (at ≤ length hops) × (now ≡ turned at hops)

turned-count : (hops now : List Hop) → AreTurned hops now → length now ≡ length hops
turned-count hops now t = ap length t.2 ∙ turned-long t.0 hops t.1

-- a cycle that is turned is a cycle
pub turned-cycle : (events : List Event) (cycle hops now : List Hop)
    → hops ≡ cycle → (0 < length cycle → IsCauseCycle events cycle) → AreTurned hops now → 0 < length now → IsCauseCycle events now
turned-cycle events cycle hops now e c t l =
    let n = turned-count hops now t in
    let m = ap length e in
    subst (λ xs. IsCauseCycle events xs) (sym t.2)
    (turned-is t.0 hops t.1 events (subst (λ xs. IsCauseCycle events xs) (sym e) (c (omega arith))))

-- no hops are none before
pub turned-none : (A : Type 0) (cycle hops now : List Hop) → hops ≡ cycle → (length cycle ≡ 0 → A) → AreTurned hops now → length now ≡ 0 → A
turned-none A cycle hops now e f t l = let n = turned-count hops now t in let m = ap length e in f (omega arith)

-- turned to its least hop, it begins there
pub turned-least : (hops now : List Hop) (at : ℕ) → at ≤ length hops → now ≡ turned at hops
    → ((k : ℕ) (d : Hop) → k < length hops → (at < length hops) × ((get_or hops at d).event ≤ (get_or hops k d).event))
    → BeginsAtLeast now
turned-least hops now at l e least = subst (λ xs. BeginsAtLeast xs) (sym e) (λ k d b. (
    let n = turned-long at hops l in
    let s = turned-some at hops l k (omega arith) in
    let m = least s.0 d s.1 in
    let first = ap (λ h. h.event) (turned-left at hops l 0 at d (omega arith) m.0) in
    let this = ap (λ h. h.event) (s.2 d) in
    let below = m.1 in
    omega arith))

-- the least of the first k hops, or 0 if there are none
abbrev pub IsLeastOf : List Hop → ℕ → ℕ → Type 0
IsLeastOf hops k least = (least ≤ k)
    × ((j : ℕ) (d : Hop) → j < k → (least < length hops) × ((get_or hops least d).event ≤ (get_or hops j d).event))
