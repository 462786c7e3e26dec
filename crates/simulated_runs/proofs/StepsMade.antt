-- What is kept of a run, after one step more.
use Rattle.std.proofs.Common.{ℕ, ◌≡◌, ◌+◌, ◌<◌, inl, inr, List, [], ◌∷◌, Option, Some, None, IfSome, length, sym, ap, subst, ◌∙◌, arith, length-append}
use Rattle.simulated_runs.proofs.Common.{Step, Setup, Crash, StatedBounds, Turn, Simulation, ArePassed, IsTurnIn}
use Rattle.simulated_runs.proofs.Common.{IsSomeUp, IsUpIn, StepBeforeCrashes, lasts_of, DeltaGoesOn, IsLive, KeepsDelta}
use Rattle.simulated_runs.proofs.Common.{KeepsPhi, HasRun, IsReady, IsStepped}
use Rattle.simulated_runs.proofs.LastTicks.{IsUpIn-live, StepBeforeCrashes-stepped}
use Rattle.simulated_runs.proofs.KeptDeadlines.{KeepsPhi-stepped}

-- each turn is of one who may step in the next tick
pub turns-up : (c : Setup) (crashes : List Crash) (bounds : Option StatedBounds) (s : Simulation) (ticks : ℕ) → HasRun c crashes bounds
    s ticks → ticks < 1000000 → (t : Turn) → IsTurnIn s.turns.queue.items t → IsUpIn s.lasts.items t.proc (length s.world.trace.steps + 1)
turns-up c crashes bounds s ticks r early t h =
    let n = r.count in
    subst (λ (lasts : List ℕ). IsUpIn lasts t.proc (length s.world.trace.steps + 1))
    (sym r.lasts) (IsUpIn-live c crashes t.proc (length s.world.trace.steps + 1) (omega arith) (r.turns t h))

-- somebody may
pub some-up : (c : Setup) (crashes : List Crash) (bounds : Option StatedBounds) (s : Simulation) (ticks : ℕ) → HasRun
    c crashes bounds s ticks → ticks < 1000000 → (p : ℕ) × IsLive c crashes p → IsSomeUp s.lasts.items (length s.world.trace.steps + 1)
some-up c crashes bounds s ticks r early p =
    let n = r.count in (
      p.0,
      subst (λ (lasts : List ℕ). IsUpIn lasts p.0 (length s.world.trace.steps + 1))
          (sym r.lasts) (IsUpIn-live c crashes p.0 (length s.world.trace.steps + 1) (omega arith) p.1),
    )

pub HasRun-stepped : (c : Setup) (crashes : List Crash) (bounds : Option StatedBounds) (old new : Simulation) (ticks : ℕ)
    → HasRun c crashes bounds old ticks → IsStepped old new → IsReady new → new.lasts ≡ old.lasts
    → new.turns.gst ≡ old.turns.gst → new.turns.phi ≡ old.turns.phi → new.post.bounds ≡ old.post.bounds → DeltaGoesOn old.post.bounds
    old.world.trace.steps old.post.trays.items new.world.trace.steps new.post.trays.items → HasRun c crashes bounds new (ticks + 1)
HasRun-stepped c crashes bounds old new ticks r stepped ready lasts gst phi same goes_on = record {
  ready = ready;
  config = stepped.made.config ∙ r.config;
  count = ap length stepped.made.steps ∙ length-append old.world.trace.steps (step ∷ []) ∙ ap (λ n. n + 1) r.count;
  lasts = ap (λ v. v.items) lasts ∙ r.lasts;
  bounds_are = same ∙ r.bounds_are;
  turns = turns;
  crashed = subst (λ (xs : List Step). StepBeforeCrashes crashes xs) (sym stepped.made.steps)
      (StepBeforeCrashes-stepped c.n crashes old.world.trace.steps step up r.crashed);
  phi = kept bounds r.phi r.gst_is r.phi_is;
  delta = delta_of bounds r.delta (subst (λ (b : Option StatedBounds).
      DeltaGoesOn b old.world.trace.steps old.post.trays.items new.world.trace.steps new.post.trays.items) r.bounds_are goes_on);
  gst_is = gst_of bounds r.gst_is;
  phi_is = phi_of bounds r.phi_is;
}
  where
    step : Step
    step = stepped.made.step

    up : IsUpIn (lasts_of c.n crashes) step.proc (length old.world.trace.steps + 1)
    up = subst (λ (q : ℕ). IsUpIn (lasts_of c.n crashes) q (length old.world.trace.steps + 1)) (sym stepped.made.own)
        (subst (λ (table : List ℕ). IsUpIn table stepped.proc (length old.world.trace.steps + 1)) r.lasts stepped.up)

    turns : (t : Turn) → IsTurnIn new.turns.queue.items t → IsLive c crashes t.proc
    turns t h = elim (stepped.passed.each t h) [
      | inl before ↦ r.turns t before
      | inr moved ↦
          let own = moved.0 in
          subst (λ (q : ℕ). IsLive c crashes q) (own.2 ∙ sym (ap (λ (z : Turn). z.proc) moved.1)) (r.turns own.0 own.1)
    ]

    delta_of : (b : Option StatedBounds) → IfSome b (λ b. KeepsDelta b.gst b.delta old.world.trace.steps old.post.trays.items)
        → DeltaGoesOn b old.world.trace.steps old.post.trays.items new.world.trace.steps new.post.trays.items
        → IfSome b (λ b. KeepsDelta b.gst b.delta new.world.trace.steps new.post.trays.items)
    delta_of None k f = k
    delta_of (Some b) k f = f k

    gst_of : (b : Option StatedBounds) → IfSome b (λ b. old.turns.gst ≡ b.gst) → IfSome b (λ b. new.turns.gst ≡ b.gst)
    gst_of (Some b) e = gst ∙ e
    gst_of None e = e

    phi_of : (b : Option StatedBounds) → IfSome b (λ b. old.turns.phi ≡ b.phi) → IfSome b (λ b. new.turns.phi ≡ b.phi)
    phi_of (Some b) e = phi ∙ e
    phi_of None e = e

    kept : (b : Option StatedBounds)
        → IfSome b (λ b. KeepsPhi c crashes b.gst b.phi old.turns.queue.items old.world.trace.steps) → IfSome b (λ b. old.turns.gst ≡ b.gst)
        → IfSome b (λ b. old.turns.phi ≡ b.phi) → IfSome b (λ b. KeepsPhi c crashes b.gst b.phi new.turns.queue.items new.world.trace.steps)
    kept None k g f = k
    kept (Some b) k g f =
        let passed : ArePassed b.gst b.phi old.turns.queue.items new.turns.queue.items (length old.world.trace.steps + 1) stepped.proc =
        subst (λ (x : ℕ). ArePassed x b.phi old.turns.queue.items new.turns.queue.items (length old.world.trace.steps + 1) stepped.proc) g
        (subst (λ (x : ℕ). ArePassed old.turns.gst x old.turns.queue.items new.turns.queue.items
        (length old.world.trace.steps + 1) stepped.proc) f stepped.passed) in
        subst (λ (xs : List Step). KeepsPhi c crashes b.gst b.phi new.turns.queue.items xs) (sym stepped.made.steps)
        (KeepsPhi-stepped c crashes b.gst b.phi old.turns.queue.items
        new.turns.queue.items old.world.trace.steps step stepped.proc stepped.made.own stepped.may passed k)
