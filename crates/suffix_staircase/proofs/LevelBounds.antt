-- The level of a tick from that of the next tick, and the levels of all ticks.
use Rattle.std.proofs.Common.{ℕ, ◌≡◌, ◌+◌, ◌-◌, ◌<◌, ◌≤◌, List, [], ◌∷◌, length, get_or, Some, None, refl, sym, subst, ◌∙◌, suc, zero, arith}
use Rattle.std.specs.Prelude.{slice_get}
use Rattle.std.proofs.lemmas.Option.{same_Some, none-some}
use Rattle.suffix_staircase.proofs.Common.{IsWithin, tick_of, IsTimed, Recorded, step_at_within, Level, StandsBefore}
use Rattle.suffix_staircase.proofs.Common.{CanStandBefore, KnowsMisses, KnowsMissesAfter, KnowsGaps, IsLevelAt}
use Rattle.suffix_staircase.proofs.Common.{AreLevels, AreLevelsFrom, KnowsStepsAfter, KnowsTicksFrom, AreIdleUpTo}
use Rattle.suffix_staircase.proofs.Common.{with_gap}
use Rattle.suffix_staircase.specs.declared.backward_pass.Pass.{Pass}
use Rattle.suffix_staircase.proofs.MissBounds.{IsDelta-from_misses}
use Rattle.suffix_staircase.proofs.GapBounds.{GapsLowered, GapsLowered-with_gap, IsPhi-from_gaps}
use Rattle.suffix_staircase.proofs.TickBorders.{IsBorder-between, KnowsMisses-at_border, AreNextSteps-at_border}

-- after the last step there is no message
pub KnowsMissesAfter-after_all : (set : ℕ) (t : Recorded) → KnowsMissesAfter set t (length t.steps) 1 None
KnowsMissesAfter-after_all set t = record {
  shorter = λ m i l. absurd (let inside = step_at_within t.steps m.sent _ i.message.sent in omega (arith, inside, l));
  named = refl;
}

-- after the last tick there is no gap
pub KnowsGaps-after_all : (set : ℕ) (t : Recorded) → KnowsGaps set t (t.last + 1) 1 None
KnowsGaps-after_all set t = record {
  shorter = λ w i l. absurd (omega (arith, i.order, i.inside, l));
  named = refl;
}

-- what is known of misses and gaps makes a level the least bounds with their named witnesses
pub IsLevelAt-from_known : (set : ℕ) (t : Recorded) (g : ℕ) (level : Level)
    → 1 ≤ g → KnowsMisses set t g level.delta level.miss → KnowsGaps set t g level.phi level.gap → IsLevelAt set t g level
IsLevelAt-from_known set t g level start misses gaps = record {
  delta = IsDelta-from_misses set t g level.delta level.miss misses;
  miss = misses.named;
  phi = IsPhi-from_gaps set t g level.phi level.gap start gaps;
  gap = gaps.named;
}

-- after the last tick there is no level
pub AreLevelsFrom-after_all : (set : ℕ) (t : Recorded) → AreLevelsFrom set t (t.last + 1) []
AreLevelsFrom-after_all set t = record {
  count = let e : 0 + (t.last + 1) ≡ t.last + 1 = omega arith in e;
  each = λ k level h. absurd (none-some level h);
}

-- one level more, of the tick before
pub AreLevelsFrom-before : (set : ℕ) (t : Recorded) (x : ℕ) (level : Level) (levels : List Level)
    → IsLevelAt set t x level → AreLevelsFrom set t (x + 1) levels → AreLevelsFrom set t x (level ∷ levels)
AreLevelsFrom-before set t x level levels here a = record {
  count = let count = a.count in omega arith;
  each = each;
} where
  each : (k : ℕ) (l : Level) → slice_get (level ∷ levels) k ≡ Some l → IsLevelAt set t (x + k) l
  each zero l h = let e : x + 0 ≡ x = omega arith in rw e (subst (λ (m : Level). IsLevelAt set t x m) (same_Some level l h) here)
  each (suc k) l h = let e : x + suc k ≡ x + 1 + k = omega arith in rw e (a.each k l h)

-- from the first tick on they are all levels
pub AreLevels-from_first : (set : ℕ) (t : Recorded) (levels : List Level) → AreLevelsFrom set t 1 levels → AreLevels set t levels
AreLevels-from_first set t levels a = record {
  count = let count = a.count in omega arith;
  each = λ g level start h. (let e : 1 + (g - 1) ≡ g = omega arith in rw e at (a.each (g - 1) level h));
}

-- a level may come before itself
pub StandsBefore-itself : (level : Level) → StandsBefore level level
StandsBefore-itself level = record { delta = omega arith; phi = omega arith; miss = λ e. refl; gap = λ e. refl }

-- a level that may come before one that may come before others may come before them
pub CanStandBefore-through : (a b : Level) (levels : List Level) → StandsBefore a b → CanStandBefore b levels → CanStandBefore a levels
CanStandBefore-through a b [] h k = tt
CanStandBefore-through a b (c ∷ rest) h k =
    record {
      delta = omega (arith, k.delta, h.delta);
      phi = omega (arith, k.phi, h.phi);
      miss = λ e. h.miss (omega (arith, e)) ∙ k.miss (omega (arith, e));
      gap = λ e. h.gap (omega (arith, e)) ∙ k.gap (omega (arith, e));
    }

-- the level of a tick may come before that of the next
lowered_stands : (set : ℕ) (t : Recorded) (g : ℕ) (old new : Level) → GapsLowered set t g old new → StandsBefore new old
lowered_stands set t g old new l = record {
  delta = let e = l.delta in omega arith;
  phi = l.phi;
  miss = λ e. l.miss;
  gap = l.gap;
}

-- One tick back: the level that a pass has then may come before those so far, and is the tick's.
pub record TickLowered (set : ℕ) (trace : Recorded) (done g : ℕ) (pass : Pass) (levels : List Level) : Type 0 where
  pub falling : CanStandBefore pass.level levels
  pub known : KnowsTicksFrom set trace done g pass (pass.level ∷ levels)

-- a pass that differs from another in its level alone
pub record IsSameButLevel (old new : Pass) : Type 0 where
  pub set : new.set ≡ old.set
  pub receives : new.receives ≡ old.receives
  pub next_steps : new.next_steps ≡ old.next_steps

-- one tick back by the longest gap that begins there
pub TickLowered-with_gap : (set : ℕ) (t : Recorded) (done high g : ℕ) (old new : Pass) (levels : List Level)
    → IsTimed t → IsWithin set t.config.n → done ≤ length t.steps → AreIdleUpTo t done high
    → tick_of t done < g → g ≤ high → KnowsTicksFrom set t done (g + 1) old levels → IsSameButLevel old new → new.level ≡ with_gap old.level
    old.next_steps.latest g (get_or old.next_steps.by_processor.items old.next_steps.latest 0) → TickLowered set t done g new levels
TickLowered-with_gap set t done high g old new levels time within inside idle low up known same is =
    let border = IsBorder-between t time done high g inside idle low up in
    let steps = known.steps in
    let next = steps.next_steps in
    let start : 1 ≤ g = omega (arith, low) in
    let lowered = subst (λ (l : Level). GapsLowered set t g old.level l) (sym is)
    (GapsLowered-with_gap set t g old.next_steps.latest old.next_steps.by_processor.items old.level start within
    (AreNextSteps-at_border set t done g old.next_steps.by_processor.items border next.next) next.latest
    known.gaps) in
    let misses : KnowsMissesAfter set t done new.level.delta new.level.miss = rw (lowered.delta, lowered.miss) steps.misses in
    record {
      falling = CanStandBefore-through new.level old.level levels (lowered_stands set t g old.level new.level lowered) known.falling;
      known = record {
        steps = record {
          members = same.set ∙ steps.members;
          receives = rw same.receives steps.receives;
          next_steps = rw same.next_steps steps.next_steps;
          misses = misses;
        };
        gaps = lowered.gaps;
        each = AreLevelsFrom-before set t g new.level levels (IsLevelAt-from_known set t g new.level start
            (KnowsMisses-at_border set t time done g _ _ border misses) lowered.gaps) known.each;
        falling = StandsBefore-itself new.level;
      };
    }

-- one step back the ticks that are known stay known
pub KnowsTicksFrom-step : (set : ℕ) (t : Recorded) (k g : ℕ) (old new : Pass) (levels : List Level)
    → KnowsTicksFrom set t k g old levels → KnowsStepsAfter set t (k - 1) new → StandsBefore new.level old.level
    → new.level.phi ≡ old.level.phi → new.level.gap ≡ old.level.gap → KnowsTicksFrom set t (k - 1) g new levels
KnowsTicksFrom-step set t k g old new levels known steps falling phi gap = record {
  steps = steps;
  gaps = rw (phi, gap) known.gaps;
  each = known.each;
  falling = CanStandBefore-through new.level old.level levels falling known.falling;
}
