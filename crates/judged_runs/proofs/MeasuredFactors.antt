-- Factors with which the deadlines of prefixes are kept.
use Rattle.std.proofs.Common.{ℕ, ◌≡◌, ◌+◌, ◌<◌, ◌≤◌, List, Option, Some, None, max, sym, ap, subst, arith}
use Rattle.std.proofs.Math.Nat.{mul-le-mul_right}
use Rattle.step_trace.specs.declared.rows.Row.{Row}
use Rattle.step_trace.specs.Configurations.{Setup}
use Rattle.step_trace.specs.Traces.{Recorded}
use Rattle.step_trace.specs.Ticks.{IsTrace}
use Rattle.step_trace.specs.Cuts.{IsCutAt}
use Rattle.step_trace.specs.Fronts.{Triple, IsReport, triple_of}
use Rattle.decision_claims.specs.declared.decisions.Decision.{Decision}
use Rattle.decision_claims.specs.Claims.{IsLater, KeepsClaim, KeepsClaimInTime, IsLeastFactor, deadline_times}
use Rattle.decision_claims.specs.Decisions.{HaveDecidedBy, IsFrom}
use Rattle.decision_claims.specs.Formulas.{IsTimes, Terms, deadline, value_of, words_of}
use Rattle.decision_claims.proofs.FrontClaims.{HasDecidedBy-later, deadline_times-monotone}
use Rattle.decision_claims.proofs.PrefixClaims.{has_cut, IsCutAt-twice, IsFeasible-cut, KeepsClaimInTime-prefixes}
use Rattle.judged_runs.specs.declared.prefixes.Ahead.{Ahead}
use Rattle.judged_runs.specs.Factors.{IsNeeded}
use Rattle.judged_runs.specs.LateInTime.{AreNoneDue, AreOldLater, IsAhead, IsGlance, IsNextLook, KeepsBefore, begun_after}
use Rattle.judged_runs.proofs.EarlierPrefixes.{ahead_of_look, before_all, before_sight}

-- so many times a formula after the stabilization time
pub deadline_times-later : (config : Setup) (start : ℕ) (terms : Terms) (c : ℕ) → IsLater (deadline_times config start terms c)
deadline_times-later config start terms c = record { each = λ t. omega arith }

deadline_times-rises : (config : Setup) (start : ℕ) (terms : Terms) (b c : ℕ) (t : Triple)
    → b ≤ c → deadline_times config start terms b t ≤ deadline_times config start terms c t
deadline_times-rises config start terms b c t l = let m = mul-le-mul_right (value_of (words_of config t) terms) l in omega (arith, m)

-- what is kept stays so with later deadlines
before_rises : (set : ℕ) (trace : Recorded) (decisions : List Decision) (due more : Triple → ℕ) (x : ℕ)
    → IsLater due → ((t : Triple) → due t ≤ more t) → KeepsBefore set trace decisions due x → KeepsBefore set trace decisions more x
before_rises set trace decisions due more x later rises before = record {
  each = λ t cut l sound at feasible.
      let up = rises t in
      let d = has_cut cut (due t) sound (let last = at.last in omega (arith, last, up)) in
      let decided = before.each t d.cut (omega (arith, up, l)) d.sound
      (IsCutAt-twice trace cut (more t) sound.time at (due t) d.cut d.sound.time up d.at)
      (IsFeasible-cut cut d.cut (due t) d.sound.time d.at set t (later.each t) feasible) in
      record { each = λ p member. HasDecidedBy-later decisions p (due t) (more t) up (decided.each p member) };
}

-- a formula times a factor sets the deadlines of that factor
same_times : (config : Setup) (start : ℕ) (terms product : Terms) (c : ℕ)
    → IsTimes c terms product → (t : Triple) → deadline config start product t ≡ deadline_times config start terms c t
same_times config start terms product c times t = ap (λ v. max t.gst start + v) (times.each (words_of config t))

next_look_times : (config : Setup) (start : ℕ) (terms product : Terms) (c x : ℕ) (a : Ahead) (rows : List Row) → IsTimes c terms product
    → IsNextLook rows (deadline config start product) x a → IsNextLook rows (deadline_times config start terms c) x a
next_look_times config start terms product c x a rows times look =
    let same = same_times config start terms product c times in
    record {
      tick = record {
        later = look.tick.later;
        of_rows = λ l k r at begun. subst (λ y. a.tick ≤ y) (same (triple_of r)) (look.tick.of_rows l k r at begun);
        of_others = λ l. subst (λ y. a.tick ≤ y) (same (begun_after x)) (look.tick.of_others l);
      };
      order = look.order;
      old = record { each = λ k r at begun. subst (λ y. a.old ≤ y) (same (triple_of r)) (look.old.each k r at begun) };
    }

-- old bounds and what is due, by deadlines that are the same
old_same : (set : ℕ) (trace : Recorded) (due other : Triple → ℕ) (x after y : ℕ)
    → ((t : Triple) → due t ≡ other t) → AreOldLater set trace due x after y → AreOldLater set trace other x after y
old_same set trace due other x after y same old =
    record { each = λ t z cut l sound at feasible aged. subst (λ d. y ≤ d) (same t) (old.each t z cut l sound at feasible aged) }

none_same : (set : ℕ) (trace : Recorded) (due other : Triple → ℕ) (x y : ℕ)
    → ((t : Triple) → due t ≡ other t) → AreNoneDue set trace due x y → AreNoneDue set trace other x y
none_same set trace due other x y same none = record {
  each = λ t cut low high sound at. none.each t cut (subst (λ d. x ≤ d) (sym (same t)) low)
      (subst (λ d. d < y) (sym (same t)) high) sound (subst (λ d. IsCutAt trace d cut) (sym (same t)) at);
}

-- So old bounds are known of the formula times the factor, too.
pub old_times : (set : ℕ) (trace : Recorded) (config : Setup) (start : ℕ) (terms product : Terms) (c x after y : ℕ)
    → IsTimes c terms product → AreOldLater set trace (deadline_times config start terms c) x after y
    → AreOldLater set trace (deadline config start product) x after y
old_times set trace config start terms product c x after y times =
    old_same set trace _ _ x after y (λ t. sym (same_times config start terms product c times t))

-- The search goes on after a glance by the formula times the factor.
pub glanced : (set : ℕ) (trace : Recorded) (decisions : List Decision) (start : ℕ) (terms product : Terms) (c x : ℕ)
    (a : Ahead) → IsTimes c terms product
    → KeepsBefore set trace decisions (deadline_times trace.config start terms c) x
    → IsGlance set trace (deadline trace.config start product) x a
    → IsAhead set trace decisions (deadline_times trace.config start terms c) a
glanced set trace decisions start terms product c x a times before glance =
    let same = same_times trace.config start terms product c times in
    record {
      before = before_sight set trace decisions (deadline_times trace.config start terms c) x a.tick
          (none_same set trace _ _ x a.tick same glance.none) before;
      order = glance.order;
      old = old_same set trace _ _ a.tick a.after a.old same glance.old;
    }

-- And after a whole look, with a factor that is enough for the prefix and for those before.
pub looked : (set : ℕ) (trace cut : Recorded) (rows : List Row) (decisions : List Decision) (start : ℕ) (terms product : Terms)
    (before own both x : ℕ) (a : Ahead) → IsTrace cut → IsCutAt trace x cut → IsReport set cut rows → both ≡ max own before
    → IsTimes both terms product → KeepsBefore set trace decisions (deadline_times trace.config start terms before) x
    → IsFrom (λ c. KeepsClaim set cut decisions (deadline_times trace.config start terms c)) (Some own) → IsNextLook rows
    (deadline trace.config start product) x a → IsAhead set trace decisions (deadline_times trace.config start terms both) a
looked set trace cut rows decisions start terms product before own both x a sound at report greater times earlier here look =
    let due = deadline_times trace.config start terms in
    ahead_of_look set trace cut rows decisions (due both) x a
    (deadline_times-monotone trace.config start terms both) sound at report ((here both).1 (omega (arith, greater)))
    (next_look_times trace.config start terms product both x a rows times look)
    (before_rises set trace decisions (due before) (due both) x (deadline_times-later trace.config start terms before)
    (λ t. deadline_times-rises trace.config start terms before both t (omega (arith, greater))) earlier)

-- what a prefix needs is needed in time
pub prefix_needs : (set : ℕ) (trace cut : Recorded) (decisions : List Decision) (start x : ℕ) (terms : Terms) (own : Option ℕ)
    → IsTrace cut → IsCutAt trace x cut → IsFrom (λ c. KeepsClaim set cut decisions (deadline_times trace.config start terms c)) own
    → IsNeeded set trace decisions (deadline_times trace.config start terms) own
prefix_needs set trace cut decisions start x terms None sound at none = λ c kept. none c (((KeepsClaimInTime-prefixes set trace decisions
    (deadline_times trace.config start terms c) (deadline_times-later trace.config start terms c)).0 kept).each x cut sound at)
prefix_needs set trace cut decisions start x terms (Some own) sound at least = λ c kept. (least c).0 (((KeepsClaimInTime-prefixes set trace
    decisions (deadline_times trace.config start terms c) (deadline_times-later trace.config start terms c)).0 kept).each x cut sound at)

-- what two prefixes need
pub needs_both : (set : ℕ) (trace : Recorded) (decisions : List Decision) (due : ℕ → Triple → ℕ) (a b both : ℕ) → both ≡ max a b
    → IsNeeded set trace decisions due (Some a) → IsNeeded set trace decisions due (Some b) → IsNeeded set trace decisions due (Some both)
needs_both set trace decisions due a b both greater one other =
    λ c kept. (let m = one c kept in let n = other c kept in omega (arith, greater, m, n))

-- if all members have decided from the tick on at which a search goes on, its factor is the least
pub factor_in_time : (set : ℕ) (trace : Recorded) (decisions : List Decision) (start : ℕ) (terms : Terms) (x factor : ℕ) → ((y : ℕ) → x ≤ y
    → y ≤ trace.last → HaveDecidedBy set decisions y) → IsNeeded set trace decisions (deadline_times trace.config start terms) (Some factor)
    → KeepsBefore set trace decisions (deadline_times trace.config start terms factor) x
    → IsFrom (λ c. KeepsClaimInTime set trace decisions (deadline_times trace.config start terms c)) (Some factor)
factor_in_time set trace decisions start terms x factor decided needed before = λ c. (
  needed c,
  λ l. before_all set trace decisions (deadline_times trace.config start terms c) x decided
      (before_rises set trace decisions (deadline_times trace.config start terms factor) (deadline_times trace.config start terms c) x
      (deadline_times-later trace.config start terms factor) (λ t. deadline_times-rises trace.config start terms factor c t l) before),
)

-- a least factor is the one from which on the claim is kept
pub factor_from : (set : ℕ) (trace : Recorded) (decisions : List Decision) (start : ℕ) (terms : Terms) (r : Option ℕ) → IsLeastFactor
    set trace decisions start terms r → IsFrom (λ c. KeepsClaim set trace decisions (deadline_times trace.config start terms c)) r
factor_from set trace decisions start terms None f = f
factor_from set trace decisions start terms (Some c) f = f
