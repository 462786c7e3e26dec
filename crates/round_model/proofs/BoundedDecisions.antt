-- The bounded decision: each processor of a set of at least N - t that hear one another owns one of
-- any N phases in a row, and decides in it.
use Rattle.std.proofs.Common.{ℕ, zero, suc, ◌≡◌, ◌+◌, ◌-◌, ◌*◌, ◌/◌, ◌%◌, ◌<◌, ◌≤◌, ◌⊎◌, inl, inr, Bool, true, Option, Some, None, is_some, refl, sym, ap, subst, ◌∙◌, arith}
use Rattle.std.proofs.lemmas.Bool.{cases_lt}
use Rattle.std.proofs.lemmas.Nat.{div-add-mod', mod-mul-add, mod_below}
use Rattle.round_model.proofs.Common.{Setup, IsSetup, has_proc, IsWithin, phase_of, part_of, owner, HearsAllOf, IsInTouch, settling_phase, deciding_round, HaveDecided, HoldOneValue, LocksAreProper}
use Rattle.lock_phases.specs.Hearing.{number_of}
use Rattle.round_model.specs.RoundStates.{Table, initial_value, state_after}
use Rattle.round_model.proofs.AgreedDecisions.{decision-stays_later}
use Rattle.round_model.proofs.ProperNodes.{KeepsProper-state_after, initial_value-proper}
use Rattle.round_model.proofs.OneLock.{HearOneAnother, held-one_value, held-proper}
use Rattle.round_model.proofs.DecidingPhases.{phase-decides}
use Rattle.round_model.proofs.CommonValues.{common-value}

-- a phase that this processor owns, among n in a row
pub record IsOwnPhase (n p from phase : ℕ) : Type 0 where
  pub later : from < phase
  pub soon : phase ≤ from + n
  pub owns : p ≡ owner n phase

-- there is one
own-phase : (n p from : ℕ) → 1 ≤ p → p ≤ n → (phase : ℕ) × IsOwnPhase n p from phase
own-phase n p from low high = go (cases_lt (p - 1) (from % n))
  where
    split : from / n * n + from % n ≡ from
    split = div-add-mod' from n

    below : from % n < n
    below = mod_below from n (omega arith)

    owned : (times k : ℕ) → k ≡ times * n + (p - 1) → p ≡ owner n (k + 1)
    owned times k e =
        let e' : k + 1 - 1 ≡ times * n + (p - 1) = omega arith in
        let m : (k + 1 - 1) % n ≡ p - 1 = ap (λ x. x % n) e' ∙ mod-mul-add times n (p - 1) (omega arith) in
        omega arith

    go : (p - 1 < from % n) ⊎ (from % n ≤ p - 1) → (phase : ℕ) × IsOwnPhase n p from phase
    go (inl l) =
        let k = (from / n + 1) * n + (p - 1) in
        let more : (from / n + 1) * n ≡ from / n * n + n = omega arith in
        (k + 1, record { later = omega (arith, split, below); soon = omega (arith, split, below); owns = owned (from / n + 1) k refl })
    go (inr l) =
        let k = from / n * n + (p - 1) in
        (k + 1, record { later = omega (arith, split, below); soon = omega (arith, split, below); owns = owned (from / n) k refl })

-- A phase after the first decides, from the nodes before the last round of the phase before it. In that round the
-- members hear one another, and so they all list one value when the phase begins.
phase_after-decides : (c : Setup) (member : ℕ → Bool) (table : Table) (rounds o : ℕ) → IsSetup c → part_of (suc rounds) ≡ 4
    → o ≡ owner c.n (phase_of (suc (suc rounds))) → member o ≡ true → c.n - c.t ≤ number_of c.n member
    → ((more : ℕ) → more ≤ 3 → HearOneAnother c member table (suc rounds + more))
    → is_some (state_after c table (suc (suc (suc (suc rounds)))) o).decision ≡ true
unfolding state_after
phase_after-decides c member table rounds o setup e owns mo many hear =
    let listed = common-value c member table (state_after c table rounds)
    (suc rounds) o (initial_value c o) e (at 0 (suc rounds) (omega arith) (omega arith))
    (KeepsProper-state_after c table rounds) mo (initial_value-proper c table rounds o) in
    phase-decides c member table (state_after c table (suc rounds))
    (suc (suc rounds)) o listed.0 setup (omega arith) (omega arith) owns mo many
    (at 1 (suc (suc rounds)) (omega arith) (omega arith)) (at 2 (suc (suc (suc rounds))) (omega arith) (omega arith))
    (at 3 (suc (suc (suc (suc rounds)))) (omega arith) (omega arith)) listed.1
  where
    at : (more round : ℕ) → more ≤ 3 → suc rounds + more ≡ round → HearOneAnother c member table round
    at more round h is = subst (HearOneAnother c member table) is (hear more h)

-- a member of a set has a positive number
pub member-positive : (set p : ℕ) → has_proc set p ≡ true → 1 ≤ p
member-positive set zero m = cc
member-positive set (suc p) m = omega arith

-- members of a set within the processors that hear all of it hear one another
HearOneAnother-from : (c : Setup) (set : ℕ) (table : Table) (round : ℕ)
    → IsWithin set c.n → HearsAllOf set table round → HearOneAnother c (has_proc set) table round
HearOneAnother-from c set table round within hears = record { processors = λ p m. (member-positive set p m, within p m); hears = hears }

-- The bounded decision: each member decides by the third round of its own phase among the N after
-- the settling phase, and the decision stays.
pub HaveDecided-state_after : (c : Setup) (set : ℕ) (table : Table) (first rounds : ℕ) → IsSetup c
    → IsInTouch c set table first (deciding_round c first) → deciding_round c first ≤ rounds → HaveDecided set (state_after c table rounds)
HaveDecided-state_after c set table first rounds setup touch late p m = stays (state_after c table decided p).decision refl decides
  where
    own : (phase : ℕ) × IsOwnPhase c.n p (settling_phase first) phase
    own = own-phase c.n p (settling_phase first) (member-positive set p m) (touch.within p m)

    -- the rounds before the last round of the phase before its own
    before : ℕ
    before = 4 * (own.0 - 1) - 1

    decided : ℕ
    decided = suc (suc (suc (suc before)))

    hear : (more : ℕ) → more ≤ 3 → HearOneAnother c (has_proc set) table (suc before + more)
    hear more h = HearOneAnother-from c set table (suc before + more) touch.within (touch.hears (suc before + more)
        (omega (arith, touch.numbered, own.1.later)) (omega (arith, touch.numbered, own.1.later, own.1.soon)))

    decides : is_some (state_after c table decided p).decision ≡ true
    decides =
        let same : own.0 ≡ phase_of (suc (suc before)) = omega (arith, touch.numbered, own.1.later) in
        phase_after-decides c (has_proc set) table before p setup
        (omega (arith, touch.numbered, own.1.later)) (own.1.owns ∙ ap (owner c.n) same) m touch.size hear

    stays : (o : Option ℕ) → (state_after c table decided p).decision ≡ o → is_some (state_after c table decided p).decision ≡ true
        → is_some (state_after c table rounds p).decision ≡ true
    stays None e d = let clash = sym d ∙ ap is_some e in cc
    stays (Some v) e d =
        let same : decided + (rounds - decided) ≡ rounds = omega (arith, touch.numbered, own.1.later, own.1.soon, late) in
        ap is_some
        (subst (λ n. (state_after c table n p).decision ≡ Some v) same (decision-stays_later c table decided (rounds - decided) p v e))

-- one lock value after one more round, a lock-release round
HoldOneValue-next : (c : Setup) (set : ℕ) (table : Table) (rounds : ℕ)
    → part_of (suc rounds) ≡ 4 → IsWithin set c.n → HearsAllOf set table (suc rounds) → HoldOneValue set (state_after c table (suc rounds))
unfolding state_after
HoldOneValue-next c set table rounds e within hears = held-one_value c
    (has_proc set) table (state_after c table rounds) (suc rounds) e (HearOneAnother-from c set table (suc rounds) within hears)

-- which is proper
LocksAreProper-next : (c : Setup) (set : ℕ) (table : Table) (rounds : ℕ) → part_of (suc rounds) ≡ 4
    → IsWithin set c.n → HearsAllOf set table (suc rounds) → LocksAreProper set (state_after c table (suc rounds))
unfolding state_after
LocksAreProper-next c set table rounds e within hears = held-proper c (has_proc set) table (state_after c table rounds)
    (suc rounds) e (HearOneAnother-from c set table (suc rounds) within hears) (KeepsProper-state_after c table rounds)

-- one lock value after the last round of a phase
pub HoldOneValue-state_after : (c : Setup) (set : ℕ) (table : Table) (phase : ℕ)
    → IsWithin set c.n → 1 ≤ phase → HearsAllOf set table (4 * phase) → HoldOneValue set (state_after c table (4 * phase))
HoldOneValue-state_after c set table phase within low hears =
    let is : suc (4 * phase - 1) ≡ 4 * phase = omega arith in
    subst (λ n. HoldOneValue set (state_after c table n)) is
    (HoldOneValue-next c set table (4 * phase - 1) (omega arith) within (subst (HearsAllOf set table) (sym is) hears))

-- which is proper
pub LocksAreProper-state_after : (c : Setup) (set : ℕ) (table : Table) (phase : ℕ)
    → IsWithin set c.n → 1 ≤ phase → HearsAllOf set table (4 * phase) → LocksAreProper set (state_after c table (4 * phase))
LocksAreProper-state_after c set table phase within low hears =
    let is : suc (4 * phase - 1) ≡ 4 * phase = omega arith in
    subst (λ n. LocksAreProper set (state_after c table n)) is
    (LocksAreProper-next c set table (4 * phase - 1) (omega arith) within (subst (HearsAllOf set table) (sym is) hears))
