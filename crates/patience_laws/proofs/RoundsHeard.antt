-- What is taken in time, and which rounds it ends.
use Rattle.std.proofs.Common.{ℕ, zero, suc, ◌≡◌, ◌+◌, ◌-◌, ◌*◌, ◌≤◌, inl, inr, length, Bool, true, false, refl, sym, ap, subst, ◌∙◌, arith}
use Rattle.std.proofs.lemmas.Bool.{cases_lt}
use Rattle.std.proofs.lemmas.Option.{none-some, same_Some}
use Rattle.deciding_runs.proofs.OrderedTakes.{taken-at}
use Rattle.patience_laws.proofs.Common.{Receive, Step, IsProc, act_dest, has_proc, IsWithin}
use Rattle.patience_laws.proofs.Common.{Recorded, IsReceiveOf, tick_of, IsTimed, IsTrace, DeltaHolds, PhiHolds}
use Rattle.patience_laws.proofs.Common.{own_ticks_rise, passed, before, IsRun, IsSend, node_before, may_hear}
use Rattle.patience_laws.proofs.Common.{HasHeardOf, IsTakenBefore, StepsByPace, IsInRoundFrom, sends_to}
use Rattle.patience_laws.proofs.Common.{EachEnds, HasHeardFrom, HearsMembers, may_hear_of}
use Rattle.lock_phases.specs.Hearing.{number_of}
use Rattle.patience_laws.proofs.PacedSteps.{rounds_after, round-here}
use Rattle.patience_laws.proofs.RoundSends.{round-ends, round-grows}
use Rattle.patience_laws.proofs.EndedReceives.{ends-behind, ends-complete}

-- By the communication bound, what was sent to p is taken by each Receive of p so many ticks later.
pub taken-by : (trace : Recorded) (set g d p q s k : ℕ)
    → IsTrace trace → DeltaHolds set trace g d → has_proc set p ≡ true → has_proc set q ≡ true → IsSend trace.steps q p s
    → g ≤ tick_of trace s → IsReceiveOf trace.steps k p → tick_of trace s + d ≤ tick_of trace k → IsTakenBefore trace.steps p k s
taken-by trace set g d p q s k is delta mp mq sent since receive late =
    let found = (delta.each s since).on_time k p (record { from = q; sent = sent; sender = mq; receiver = mp }) receive late in
    let x = found.takes.0 in
    let stands = found.takes.1 in
    let from = (is.steps.earlier found.place s x stands found.takes.2).1 in
    let to : x.proc ≡ p = same_Some x.proc p (ap (λ (y : Step). act_dest y.act) (same_Some _ _ (sym from.1 ∙ sent))) in
    let until = found.until in
    record {
      place = found.place;
      take = taken-at trace.steps p found.place s x stands to found.takes.2;
      by = elim (cases_lt k found.place) [
        | inl l ↦ absurd (let rise = own_ticks_rise trace is.time k found.place
            (record { proc = p; act = Receive receive.ends receive.ids }) x receive.step stands (sym to) l in omega arith)
        | inr l ↦ l
      ];
    }

module _ (trace : Recorded) (patience set g f p : ℕ) (run : IsRun trace.config trace.steps) (time : IsTimed trace)
    (paced : StepsByPace trace.config patience trace.steps p) (member : has_proc set p ≡ true) (phi : PhiHolds set trace g f)
    (round x : ℕ) (since : g ≤ x) (there : IsInRoundFrom trace p round x) where
  -- who is left behind ends its round once all is sent
  pub behind-ends : (most : ℕ) → length (sends_to trace.config trace.steps p round) ≤ most → (q : ℕ) → IsProc trace.config q
      → HasHeardFrom trace p q (round + 5) (x + most * f) → IsInRoundFrom trace p (round + 1) (x + most * f + f)
  behind-ends most few q is heard = round-ends trace patience set g f p run time paced member phi round x since there most
      (x + most * f) few (omega arith) each where
        each : EachEnds trace p round (x + most * f)
        each zero ids ends at here late = absurd (none-some _ at)
        each (suc k) ids ends at here late =
            let e = round-here trace.steps p k in
            let grows = round-grows trace.config patience trace.steps p k in
            ends-behind trace.config patience trace.steps p run.well_formed k ids ends at paced q (round + 5) is (omega arith)
            (heard (suc k) (record { ids = ids; ends = ends; step = at }) late) (omega arith)

  -- and so does who has heard of all members that it may hear, and suspects the others
  pub hears-ends : (most z : ℕ) → length (sends_to trace.config trace.steps p round) ≤ most → x + most * f ≤ z → IsWithin set trace.config.n
      → trace.config.n - trace.config.t ≤ number_of trace.config.n (has_proc set)
      → HearsMembers patience set trace p round z → IsInRoundFrom trace p (round + 1) (z + f)
  hears-ends most z few by within size hears =
      round-ends trace patience set g f p run time paced member phi round x since there most z few by each where
        each : EachEnds trace p round z
        each zero ids ends at here late = absurd (none-some _ at)
        each (suc k) ids ends at here late = go ends refl
          where
            e : rounds_after trace.steps p k + 1 ≡ round
            e = sym (round-here trace.steps p k) ∙ here

            this : IsReceiveOf trace.steps (suc k) p
            this = record { ids = ids; ends = ends; step = at }

            may : (q : ℕ) → may_hear trace.config (node_before trace.config trace.steps p (suc k)) (rounds_after trace.steps p k + 1) p q
                ≡ true → may_hear_of trace.config trace.steps p round q ≡ true
            may q h =
                let low : passed (before trace.steps (suc k)) p ≡ round - 1 = omega arith in
                rw (e, low) at h

            go : (b : Bool) → ends ≡ b → ends ≡ true
            go true is = is
            go false is =
                ends-complete trace.config patience trace.steps p run.well_formed k ids ends at paced set within size is
                (λ q m h. subst (λ n. HasHeardOf trace.steps p q n (suc k)) (sym e) (hears.members q m (may q h) (suc k) this late))
                (λ q proc m h. hears.others q proc m (may q h) (suc k) this late)
