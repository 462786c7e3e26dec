-- A run before its first step.
use Rattle.std.proofs.Common.{ℕ, suc, zero, ◌≡◌, ◌+◌, ◌*◌, ◌-◌, ◌<◌, ◌≤◌, List, [], ◌∷◌, Option, Some, None, IfSome}
use Rattle.std.proofs.Common.{IfOk, Result, Ok, Err, All, Contains, length, map, replicate, slice_get, refl, sym, ap}
use Rattle.std.proofs.Common.{subst, ◌∙◌, arith, inl}
use Rattle.std.specs.List.{range_with_len}
use Rattle.std.proofs.lemmas.Option.{same_Some, none-some, slice_get_within, slice_get-get_or}
use Rattle.std.proofs.lemmas.List.{length-replicate, get_or-replicate, length-map}
use Rattle.simulated_runs.proofs.Common.{Step, Setup, IsSetup, step_at, Contains-nil, Contains-slice_get}
use Rattle.simulated_runs.proofs.Common.{Contains-filter, Contains-from_filter, IsProc-from_processors, Crash}
use Rattle.simulated_runs.proofs.Common.{StatedBounds, is_live, live, Posted, Turn, Simulation, last_tick, lasts_of}
use Rattle.simulated_runs.proofs.Common.{IsLive, KeepsDelta, KeepsPhi, tray_of, IsTurnIn, AreUnderWay, IsUnderWay}
use Rattle.simulated_runs.proofs.Common.{AreOpeningTurns, HasRun}
use Rattle.std.proofs.lemmas.List.FromFn.{length-map-range_with_len}
use Rattle.round_model.proofs.HeardLists.{Contains-processors}
use Rattle.deciding_runs.specs.Paces.{Paced, opening_pace}
use Rattle.command_options.specs.declared.simulations.TheConstants.{MAX_BOUND}
use Rattle.simulated_runs.specs.declared.turns.Turns.{Turns}
use Rattle.simulated_runs.specs.Nominations.{IsNominating}
use Rattle.simulated_runs.proofs.KeptDues.{KeepsDelta-opening}

-- what was mapped
mapped-at : {X Y : Type 0} (f : X → Y) (xs : List X) (k : ℕ) (y : Y)
    → slice_get (map f xs) k ≡ Some y → (x : X) × (slice_get xs k ≡ Some x) × (f x ≡ y)
mapped-at f [] k y h = absurd (none-some y h)
mapped-at f (x ∷ xs) zero y h = (x, refl, same_Some (f x) y h)
mapped-at f (x ∷ xs) (suc k) y h = mapped-at f xs k y h

mapped : {X Y : Type 0} (f : X → Y) (xs : List X) (k : ℕ) (x : X) → slice_get xs k ≡ Some x → slice_get (map f xs) k ≡ Some (f x)
mapped f [] k x h = absurd (none-some x h)
mapped f (y ∷ ys) zero x h = ap (λ z. Some (f z)) (same_Some y x h)
mapped f (y ∷ ys) (suc k) x h = mapped f ys k x h

within : {X : Type 0} (xs : List X) (k : ℕ) (x : X) → slice_get xs k ≡ Some x → k < length xs
within xs k x h = slice_get_within xs k x h

-- an opening turn
abbrev turn_of : ℕ → ℕ → Turn
turn_of deadline p = record { proc = p; deadline = deadline }

live-in : (c : Setup) (crashes : List Crash) (p : ℕ) → Contains (live c.n crashes) p → IsLive c crashes p
live-in c crashes p d = let w = Contains-from_filter (is_live crashes) (range_with_len 1 c.n) p d in (IsProc-from_processors c p w.0, w.1)

in-live : (c : Setup) (crashes : List Crash) (p : ℕ) → IsLive c crashes p → Contains (live c.n crashes) p
in-live c crashes p w = Contains-filter (is_live crashes) (range_with_len 1 c.n) p (Contains-processors c p w.0) w.1

-- the turns before the first tick keep the bound
KeepsPhi-opening : (c : Setup) (crashes : List Crash) (gst phi : ℕ) → length (live c.n crashes) ≤ phi
    → KeepsPhi c crashes gst phi (map (turn_of (gst + phi)) (live c.n crashes)) []
KeepsPhi-opening c crashes gst phi few = record {
  few = let a = length-map (live c.n crashes) (turn_of (gst + phi)) in omega arith;
  in_time = λ k t h.
      let w = mapped-at (turn_of (gst + phi)) (live c.n crashes) k t h in
      let due : gst + phi ≡ t.deadline = ap (λ (z : Turn). z.deadline) w.2 in
      omega (arith, within (live c.n crashes) k w.0 w.1);
  since = λ t h.
      let w = mapped-at (turn_of (gst + phi)) (live c.n crashes) h.0 t h.1 in
      let due : gst + phi ≡ t.deadline = ap (λ (z : Turn). z.deadline) w.2 in
      inl (omega arith);
  each = λ p live_p.
      let d = in-live c crashes p live_p in (
        turn_of (gst + phi) p,
        (
          d.0,
          mapped (turn_of (gst + phi))
              (live c.n crashes) d.0 p (slice_get-get_or (live c.n crashes) d.0 p d.1 ∙ ap (λ y. Some y) d.2),
        ),
        refl,
      );
  kept = λ x low high p live_p. let d = in-live c crashes p live_p in let l = d.1 in absurd (omega arith);
}

-- nothing is under way
under-none : (steps : List Step) (p : ℕ) → IsUnderWay steps p []
under-none steps p = record {
  waits = λ m d. absurd (Contains-nil m d);
  distinct = λ m other d f e. absurd (Contains-nil m d);
}

tray-none : (n p : ℕ) → 1 ≤ p → p ≤ n → tray_of (replicate n []) p ≡ []
tray-none n p low high = get_or-replicate n (p - 1) [] [] (omega arith)

under-all : (steps : List Step) (n : ℕ) (trays : List (List Posted)) → trays ≡ replicate n [] → AreUnderWay steps trays
under-all steps n trays e p low high =
    let long : length trays ≡ n = ap length e ∙ length-replicate n [] in
    subst (λ (xs : List Posted). IsUnderWay steps p xs)
    (sym (ap (λ (all : List (List Posted)). tray_of all p) e ∙ tray-none n p low (omega arith))) (under-none steps p)

live-turn : (c : Setup) (crashes : List Crash) (deadline : ℕ) (t : Turn)
    → IsTurnIn (map (turn_of deadline) (live c.n crashes)) t → IsLive c crashes t.proc
live-turn c crashes deadline t h =
    let w = mapped-at (turn_of deadline) (live c.n crashes) h.0 t h.1 in
    subst (λ (q : ℕ). IsLive c crashes q) (ap (λ (z : Turn). z.proc) w.2)
    (live-in c crashes w.0 (Contains-slice_get (live c.n crashes) h.0 w.0 w.1))

-- what the turns are
record AreFit (c : Setup) (crashes : List Crash) (bounds : Option StatedBounds) (s : Turns) : Type 0 where
  count : length s.queue.items ≤ MAX_BOUND
  small : s.gst + s.phi ≤ 2 * MAX_BOUND
  live_ones : (t : Turn) → IsTurnIn s.queue.items t → IsLive c crashes t.proc
  phi_kept : IfSome bounds (λ b. KeepsPhi c crashes b.gst b.phi s.queue.items [])
  gst_same : IfSome bounds (λ b. s.gst ≡ b.gst)
  phi_same : IfSome bounds (λ b. s.phi ≡ b.phi)

AreFit-opening : (c : Setup) (crashes : List Crash) (bounds : Option StatedBounds) (s : Turns)
    → IfSome bounds (λ b. length (live c.n crashes) ≤ b.phi)
    → IfSome bounds (λ b. (b.gst ≤ MAX_BOUND) × (b.phi ≤ MAX_BOUND)) → AreOpeningTurns c.n crashes bounds s → AreFit c crashes bounds s
AreFit-opening c crashes None s few low w = record {
  count = let e : length s.queue.items ≡ 0 = ap length w.0 in omega arith;
  small = let e = w.1 in let f = w.2 in omega arith;
  live_ones = λ t h. absurd (none-some t (subst (λ (xs : List Turn). slice_get xs h.0 ≡ Some t) w.0 h.1));
  phi_kept = tt;
  gst_same = tt;
  phi_same = tt;
}
AreFit-opening c crashes (Some b) s few low w = record {
  count = let e : length s.queue.items ≡ length (live c.n crashes) = ap length w.0
      ∙ length-map (live c.n crashes) (turn_of (b.gst + b.phi)) in let f = low.1 in omega arith;
  small = let e = w.1 in let f = w.2 in let g = low.0 in let h = low.1 in omega arith;
  live_ones = λ t h. live-turn c crashes (b.gst + b.phi) t (h.0, subst (λ (xs : List Turn). slice_get xs h.0 ≡ Some t) w.0 h.1);
  phi_kept = subst (λ (xs : List Turn). KeepsPhi c crashes b.gst b.phi xs []) (sym w.0) (KeepsPhi-opening c crashes b.gst b.phi few);
  gst_same = w.1;
  phi_same = w.2;
}

pub HasRun-opening : (c : Setup) (crashes : List Crash) (bounds : Option StatedBounds) (s : Simulation) (patience : ℕ)
    → IsSetup c → s.world.trace.config ≡ c → s.world.trace.steps ≡ []
    → s.paces.items ≡ replicate c.n (opening_pace c patience) → s.lasts.items ≡ lasts_of c.n crashes → s.post.trays.items ≡ replicate c.n []
    → s.post.bounds ≡ bounds → IsNominating 0 s.nominator → AreOpeningTurns c.n crashes bounds s.turns → IfSome bounds
    (λ b. length (live c.n crashes) ≤ b.phi) → IfSome bounds (λ b. (b.gst ≤ MAX_BOUND) × (b.phi ≤ MAX_BOUND)) → HasRun c crashes bounds s 0
HasRun-opening c crashes bounds s patience setup config none paces lasts trays stated nominating turns few low = record {
  ready = record {
    setup = subst (λ (d : Setup). IsSetup d) (sym config) setup;
    paces = ap length paces ∙ length-replicate c.n (opening_pace c patience) ∙ sym size;
    peers = subst (λ (xs : List Paced). All (λ pace. length pace.peers ≡ s.world.trace.config.n) xs) (sym paces)
        (λ k d l. ap (λ (x : Paced). length x.peers) (get_or-replicate c.n k (opening_pace c patience) d
        (let e = length-replicate c.n (opening_pace c patience) in omega arith)) ∙ length-replicate c.n _ ∙ sym size);
    lasts = ap length lasts ∙ lasts-long ∙ sym size;
    trays = ap length trays ∙ length-replicate c.n [] ∙ sym size;
    under_way = under-all s.world.trace.steps c.n s.post.trays.items trays;
    nominating = record { high = let h = nominating.high in omega arith; low = nominating.low };
    turns = fit.count;
    small = fit.small;
  };
  config = config;
  count = ap length none;
  lasts = lasts;
  bounds_are = stated;
  turns = fit.live_ones;
  crashed = λ k x h. absurd (step-none k x (subst (λ (xs : List Step). step_at xs k ≡ Some x) none h));
  phi = kept bounds fit.phi_kept;
  delta = on_time bounds;
  gst_is = fit.gst_same;
  phi_is = fit.phi_same;
}
  where
    size : s.world.trace.config.n ≡ c.n
    size = ap (λ (d : Setup). d.n) config

    fit : AreFit c crashes bounds s.turns
    fit = AreFit-opening c crashes bounds s.turns few low turns

    on_time : (b : Option StatedBounds) → IfSome b (λ b. KeepsDelta b.gst b.delta s.world.trace.steps s.post.trays.items)
    on_time None = tt
    on_time (Some b) = subst (λ (xs : List Step). KeepsDelta b.gst b.delta xs s.post.trays.items)
        (sym none) (KeepsDelta-opening b.gst b.delta s.post.trays.items)

    lasts-long : length (lasts_of c.n crashes) ≡ c.n
    lasts-long = length-map-range_with_len (last_tick crashes) 1 c.n

    step-none : (k : ℕ) (x : Step) → step_at [] k ≡ Some x → ⊥
    step-none zero x h = none-some x h
    step-none (suc k) x h = none-some x h

    kept : (b : Option StatedBounds) → IfSome b (λ b. KeepsPhi c crashes b.gst b.phi s.turns.queue.items [])
        → IfSome b (λ b. KeepsPhi c crashes b.gst b.phi s.turns.queue.items s.world.trace.steps)
    kept None w = w
    kept (Some b) w = subst (λ (xs : List Step). KeepsPhi c crashes b.gst b.phi s.turns.queue.items xs) (sym none) w

pub opened : {E : Type 0} (n : ℕ) (crashes : List Crash) (b : StatedBounds) (ps : List ℕ) (r : Result Turns E) → ps ≡ live n crashes
    → IfOk r (λ t. t.queue.items ≡ map (turn_of (b.gst + b.phi)) ps) → IfOk r (λ t. t.gst ≡ b.gst) → IfOk r (λ t. t.phi ≡ b.phi)
    → IfOk r (λ t. AreOpeningTurns n crashes (Some b) t)
opened n crashes b ps (Ok t) e q g f = (q ∙ ap (map (turn_of (b.gst + b.phi))) e, g, f)
opened n crashes b ps (Err x) e q g f = tt

-- what holds of the bounds that are stated, if any
pub for-stated : (P : StatedBounds → Type 0) (bounds : Option StatedBounds) → ((b : StatedBounds) → bounds ≡ Some b → P b) → IfSome bounds P
for-stated P None f = tt
for-stated P (Some b) f = f b refl

pub small-bounds : (bounds : Option StatedBounds) → IfSome bounds (λ b. (b.gst ≤ MAX_BOUND) × (b.phi ≤ MAX_BOUND))
small-bounds bounds = for-stated (λ b. (b.gst ≤ MAX_BOUND) × (b.phi ≤ MAX_BOUND)) bounds (λ b e. (b.early, b.often))
