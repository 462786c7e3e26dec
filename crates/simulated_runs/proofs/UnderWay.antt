-- What is under way, after a Send and after a Receive.
use Rattle.std.proofs.Common.{ℕ, suc, ◌≡◌, ◌≢◌, ◌+◌, ◌-◌, ◌<◌, ◌≤◌, ◌⊎◌, inl, inr, List, [], ◌∷◌, ◌++◌, length}
use Rattle.std.proofs.Common.{Contains, filter, Bool, true, not, ◌==◌, sym, ap, ◌∙◌, subst, arith, get_or-set_same}
use Rattle.std.proofs.Common.{get_or-set_other, Option}
use Rattle.std.specs.List.{list_any}
use Rattle.std.proofs.lemmas.Bool.{cases_eq, false_from_ne_true}
use Rattle.std.proofs.lemmas.Option.{same_Some}
use Rattle.std.proofs.lemmas.List.Elements.{Contains-append_left, Contains-append_right, Contains-append_cases}
use Rattle.simulated_runs.proofs.Common.{Send, Step, Setup, IsWellFormed, Contains-head, Contains-cons_cases}
use Rattle.simulated_runs.proofs.Common.{Contains-nil, Contains-from_map, Contains-filter, Contains-from_filter}
use Rattle.simulated_runs.proofs.Common.{step_at_within, buffer, sending, receiving, buffer-sent_to}
use Rattle.simulated_runs.proofs.Common.{buffer-sent_elsewhere, buffer-received, IsWaiting-from_buffer, StatedBounds}
use Rattle.simulated_runs.proofs.Common.{Posted, due_ids, is_due, not_due, IsPosted, tray_of, with_tray, AreUnderWay}
use Rattle.simulated_runs.proofs.Common.{IsUnderWay}
use Rattle.step_trace.specs.Steps.{act_dest}
use Rattle.step_buffers.proofs.RemovedIds.{Contains-from_is_in}

-- a tray that was put in its place, and the others
pub tray-same : (trays : List (List Posted)) (p : ℕ) (tray : List Posted)
    → 1 ≤ p → p ≤ length trays → tray_of (with_tray trays p tray) p ≡ tray
tray-same trays p tray low high = get_or-set_same trays (p - 1) tray [] (omega arith)

pub tray-other : (trays : List (List Posted)) (p q : ℕ) (tray : List Posted)
    → 1 ≤ p → 1 ≤ q → p ≢ q → tray_of (with_tray trays p tray) q ≡ tray_of trays q
tray-other trays p q tray low low2 other = get_or-set_other trays (p - 1) (q - 1) tray [] (λ e. other (omega arith))

-- what waits was sent before
waits-old : (steps : List Step) (p s : ℕ) → Contains (buffer steps p) s → s ≤ length steps
waits-old steps p s c = let w = IsWaiting-from_buffer steps p s c in (step_at_within steps s _ w.sent).1

-- for any receiver of a message, what waits goes on waiting
buffer-grows : (c : Setup) (steps : List Step) (p to q s : ℕ) → IsWellFormed c steps → Contains (buffer steps q) s
    → Contains (buffer (steps ++ sending p to ∷ []) q) s
buffer-grows c steps p to q s w waits = go (cases_eq to q)
  where
    go : (to ≡ q) ⊎ (to ≢ q) → Contains (buffer (steps ++ sending p to ∷ []) q) s
    go (inl e) = subst (λ (r : ℕ). Contains (buffer (steps ++ sending p to ∷ []) r) s) e
        (subst (λ (xs : List ℕ). Contains xs s) (sym (buffer-sent_to c steps p to w))
        (Contains-append_left (buffer steps to) (suc (length steps) ∷ []) s (subst (λ (r : ℕ). Contains (buffer steps r) s) (sym e) waits)))
    go (inr other) = subst (λ (xs : List ℕ). Contains xs s) (sym (buffer-sent_elsewhere c steps p to q w other)) waits

IsUnderWay-sent : (c : Setup) (steps : List Step) (p to q : ℕ) (posted : List Posted) → IsWellFormed c steps → IsUnderWay steps q posted
    → IsUnderWay (steps ++ sending p to ∷ []) q posted
IsUnderWay-sent c steps p to q posted w u = record {
  waits = λ m d. buffer-grows c steps p to q m.id w (u.waits m d);
  distinct = u.distinct;
}

-- with the message that is sent
IsUnderWay-added : (c : Setup) (steps : List Step) (p to due : ℕ) (posted : List Posted) (x : ℕ) → IsWellFormed c steps → x ≡
    length steps + 1 → IsUnderWay steps to posted → IsUnderWay (steps ++ sending p to ∷ []) to (posted ++ record { id = x; due = due } ∷ [])
IsUnderWay-added c steps p to due posted x w e u = record {
  waits = λ m d. waits m (Contains-append_cases posted (added ∷ []) m d);
  distinct = λ m other d f. distinct m other (Contains-append_cases posted (added ∷ []) m d)
      (Contains-append_cases posted (added ∷ []) other f);
}
  where
    added : Posted
    added = record { id = x; due = due }

    one : (m : Posted) → Contains (added ∷ []) m → added ≡ m
    one m d = elim (Contains-cons_cases added m [] d) [ inl same ↦ same | inr none ↦ absurd (Contains-nil m none) ]

    waits : (m : Posted) → Contains posted m ⊎ Contains (added ∷ []) m → Contains (buffer (steps ++ sending p to ∷ []) to) m.id
    waits m (inl d) = buffer-grows c steps p to to m.id w (u.waits m d)
    waits m (inr d) =
        let last : suc (length steps) ≡ m.id = let f : x ≡ m.id = ap (λ (z : Posted). z.id) (one m d) in omega arith in
        subst (λ (xs : List ℕ). Contains xs m.id) (sym (buffer-sent_to c steps p to w))
        (Contains-append_right (buffer steps to) (suc (length steps) ∷ []) m.id
        (subst (λ (s : ℕ). Contains (s ∷ []) m.id) (sym last) (Contains-head m.id [])))

    old : (m : Posted) → Contains posted m → m.id < x
    old m d = let l = waits-old steps to m.id (u.waits m d) in omega arith

    distinct : (m other : Posted) → Contains posted m ⊎ Contains (added ∷ []) m
        → Contains posted other ⊎ Contains (added ∷ []) other → m.id ≡ other.id → m ≡ other
    distinct m other (inl d) (inl f) same = u.distinct m other d f same
    distinct m other (inl d) (inr f) same = let l = old m d in
        let k : x ≡ other.id = ap (λ (z : Posted). z.id) (one other f) in absurd (omega arith)
    distinct m other (inr d) (inl f) same = let l = old other f in
        let k : x ≡ m.id = ap (λ (z : Posted). z.id) (one m d) in absurd (omega arith)
    distinct m other (inr d) (inr f) same = sym (one m d) ∙ one other f

-- all that is under way, after a Send
pub AreUnderWay-sent : (c : Setup) (steps : List Step) (p to x : ℕ) (bounds : Option StatedBounds) (old new : List (List Posted))
    → IsWellFormed c steps → x ≡ length steps + 1 → 1 ≤ to → to ≤ length old
    → length new ≡ length old → IsPosted bounds old new to x → AreUnderWay steps old → AreUnderWay (steps ++ sending p to ∷ []) new
AreUnderWay-sent c steps p to x bounds old new w e low high long (inl lost) u q low2 high2 =
    subst (λ (trays : List (List Posted)). IsUnderWay (steps ++ sending p to ∷ []) q (tray_of trays q)) (sym lost.1)
    (IsUnderWay-sent c steps p to q (tray_of old q) w (u q low2 (omega arith)))
AreUnderWay-sent c steps p to x bounds old new w e low high long (inr made) u q low2 high2 =
    subst (λ (trays : List (List Posted)). IsUnderWay (steps ++ sending p to ∷ []) q (tray_of trays q)) (sym made.2) (go (cases_eq to q))
  where
    tray : List Posted
    tray = tray_of old to ++ record { id = x; due = made.0 } ∷ []

    go : (to ≡ q) ⊎ (to ≢ q) → IsUnderWay (steps ++ sending p to ∷ []) q (tray_of (with_tray old to tray) q)
    go (inl same) = subst (λ (r : ℕ). IsUnderWay (steps ++ sending p to ∷ []) r (tray_of (with_tray old to tray) r)) same
        (subst (λ (xs : List Posted). IsUnderWay (steps ++ sending p to ∷ []) to xs) (sym (tray-same old to tray low high))
        (IsUnderWay-added c steps p to made.0 (tray_of old to) x w e (u to low high)))
    go (inr other) = subst (λ (xs : List Posted). IsUnderWay (steps ++ sending p to ∷ []) q xs)
        (sym (tray-other old to q tray low low2 other)) (IsUnderWay-sent c steps p to q (tray_of old q) w (u q low2 (omega arith)))

-- the ids that are due are of messages under way that are
pub due-found : (x s : ℕ) (posted : List Posted) → Contains (due_ids x posted) s
    → (m : Posted) × Contains posted m × (is_due x m ≡ true) × (m.id ≡ s)
due-found x s posted d =
    let w = Contains-from_map (λ (m : Posted). m.id) (filter (is_due x) posted) s d in
    let f = Contains-from_filter (is_due x) posted w.0 w.1 in
    (w.0, f.0, f.1, w.2)

-- what isn't taken goes on waiting
IsUnderWay-left : (c : Setup) (steps : List Step) (p q x : ℕ) (ends : Bool) (taken posted : List Posted) → IsWellFormed c steps
    → IsUnderWay steps p taken → IsUnderWay steps q posted
    → ((m : Posted) → Contains posted m → Contains (due_ids x taken) m.id → ⊥)
    → IsUnderWay (steps ++ receiving p ends (due_ids x taken) ∷ []) q posted
IsUnderWay-left c steps p q x ends taken posted w t u none = record {
  waits = λ m d. subst (λ (xs : List ℕ). Contains xs m.id) (sym (buffer-received c steps p q ends (due_ids x taken) w))
      (Contains-filter (λ s. not (list_any (λ i. i == s) (due_ids x taken))) (buffer steps q) m.id (u.waits m d) (ap not
      (false_from_ne_true (list_any (λ i. i == m.id) (due_ids x taken)) (λ e. none m d (Contains-from_is_in (due_ids x taken) m.id e)))));
  distinct = u.distinct;
}

-- what is due for one doesn't wait for another
not-elsewhere : (steps : List Step) (p q s : ℕ) → p ≢ q → Contains (buffer steps p) s → Contains (buffer steps q) s → ⊥
not-elsewhere steps p q s other a b =
    let one = IsWaiting-from_buffer steps p s a in
    let two = IsWaiting-from_buffer steps q s b in
    let first : Step = record { proc = one.sender; act = Send p } in
    let second : Step = record { proc = two.sender; act = Send q } in
    other (same_Some p q (ap (λ (z : Step). act_dest z.act) (same_Some first second (sym one.sent ∙ two.sent))))

-- all that is under way, after a Receive of what is due
pub AreUnderWay-received : (c : Setup) (steps : List Step) (p x : ℕ) (ends : Bool) (old new : List (List Posted))
    → IsWellFormed c steps → 1 ≤ p → p ≤ length old → length new ≡ length old → new ≡ with_tray old p (not_due x (tray_of old p))
    → AreUnderWay steps old → AreUnderWay (steps ++ receiving p ends (due_ids x (tray_of old p)) ∷ []) new
AreUnderWay-received c steps p x ends old new w low high long made u q low2 high2 = subst (λ (trays : List (List Posted)).
    IsUnderWay (steps ++ receiving p ends (due_ids x taken) ∷ []) q (tray_of trays q)) (sym made) (go (cases_eq p q))
  where
    taken : List Posted
    taken = tray_of old p

    own : IsUnderWay steps p taken
    own = u p low high

    left : (m : Posted) → Contains (not_due x taken) m → Contains taken m × (not (is_due x m) ≡ true)
    left m d = Contains-from_filter (λ (z : Posted). not (is_due x z)) taken m d

    kept : IsUnderWay steps p (not_due x taken)
    kept = record {
      waits = λ m d. own.waits m (left m d).0;
      distinct = λ m other d f same. own.distinct m other (left m d).0 (left other f).0 same;
    }

    clash : (m : Posted) → Contains (not_due x taken) m → Contains (due_ids x taken) m.id → ⊥
    clash m d f =
        let found = due-found x m.id taken f in
        let same : found.0 ≡ m = own.distinct found.0 m found.1 (left m d).0 found.3 in
        let due : is_due x m ≡ true = subst (λ (z : Posted). is_due x z ≡ true) same found.2 in
        let late : not (is_due x m) ≡ true = (left m d).1 in
        cc

    elsewhere : p ≢ q → (m : Posted) → Contains (tray_of old q) m → Contains (due_ids x taken) m.id → ⊥
    elsewhere other m d f =
        let found = due-found x m.id taken f in
        not-elsewhere steps p q m.id other (subst (λ (s : ℕ). Contains (buffer steps p) s) found.3 (own.waits found.0 found.1))
        ((u q low2 (omega arith)).waits m d)

    go : (p ≡ q) ⊎ (p ≢ q) → IsUnderWay (steps ++ receiving p ends (due_ids x taken) ∷ []) q (tray_of (with_tray old p (not_due x taken)) q)
    go (inl same) = subst (λ (r : ℕ). IsUnderWay (steps ++ receiving p ends (due_ids x taken) ∷ []) r (tray_of (with_tray old p
        (not_due x taken)) r)) same (subst (λ (xs : List Posted). IsUnderWay (steps ++ receiving p ends (due_ids x taken) ∷ []) p xs)
        (sym (tray-same old p (not_due x taken) low high)) (IsUnderWay-left c steps p p x ends taken (not_due x taken) w own kept clash))
    go (inr other) = subst (λ (xs : List Posted). IsUnderWay (steps ++ receiving p ends (due_ids x taken) ∷ []) q xs)
        (sym (tray-other old p q (not_due x taken) low low2 other))
        (IsUnderWay-left c steps p q x ends taken (tray_of old q) w own (u q low2 (omega arith)) (elsewhere other))

-- what is due waits
pub due-waits : (steps : List Step) (p x : ℕ) (posted : List Posted)
    → IsUnderWay steps p posted → (s : ℕ) → Contains (due_ids x posted) s → Contains (buffer steps p) s
due-waits steps p x posted u s d =
    let found = due-found x s posted d in
    subst (λ (k : ℕ). Contains (buffer steps p) k) found.3 (u.waits found.0 found.1)
