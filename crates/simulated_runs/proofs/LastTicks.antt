-- Until when processors may step.
use Rattle.std.proofs.Common.{ℕ, ◌≡◌, ◌+◌, ◌-◌, ◌≤◌, inl, inr, ◌^◌, List, [], ◌∷◌, ◌++◌, Bool, true, false, not, ◌||◌}
use Rattle.std.proofs.Common.{if◌then◌else◌, fold, min, length, Contains, slice_index, get_or, ◌==◌, refl, sym, ap}
use Rattle.std.proofs.Common.{subst, ◌∙◌, arith, eq-eqb}
use Rattle.std.specs.List.{list_any, range_with_len}
use Rattle.std.proofs.lemmas.List.Elements.{All-contains_itself}
use Rattle.std.proofs.lemmas.List.FromFn.{length-map-range_with_len, get_or-map-range_with_len}
use Rattle.simulated_runs.proofs.Common.{Step, Setup, IsSetup, step_at-push_cases, Contains-head, Contains-nil}
use Rattle.simulated_runs.proofs.Common.{Contains-cons_cases, Contains-from_filter, IsProc-from_processors, Crash, IsUp}
use Rattle.simulated_runs.proofs.Common.{is_crash_of, is_live, live, IsUpIn, StepBeforeCrashes, last_tick, lasts_of}
use Rattle.simulated_runs.proofs.Common.{IsLive}

abbrev lasting : ℕ → ℕ → Crash → ℕ
lasting p last crash = if crash.proc == p then min last crash.tick else last

-- the last tick is none after the first bound on it, nor after a crash
fold-up : (p x last : ℕ) (crashes : List Crash) → x ≤ fold (lasting p) last crashes
    → (x ≤ last) × ((crash : Crash) → Contains crashes crash → crash.proc ≡ p → x ≤ crash.tick)
fold-up p x last [] h = (h, λ crash d e. absurd (Contains-nil crash d))
fold-up p x last (c ∷ cs) h = of (c.proc == p) refl (fold-up p x (lasting p last c) cs h)
  where
    of : (b : Bool) → (c.proc == p) ≡ b → (x ≤ lasting p last c) × ((crash : Crash) → Contains cs crash → crash.proc ≡ p → x ≤ crash.tick)
        → (x ≤ last) × ((crash : Crash) → Contains (c ∷ cs) crash → crash.proc ≡ p → x ≤ crash.tick)
    of true e w =
        let low : x ≤ min last c.tick = rw e at w.0 in (
          omega arith,
          λ crash d f. elim (Contains-cons_cases c crash cs d) [
            | inl same ↦ let t : c.tick ≡ crash.tick = ap (λ (z : Crash). z.tick) same in omega arith
            | inr rest ↦ w.1 crash rest f
          ],
        )
    of false e w =
        let low : x ≤ last = rw e at w.0 in (
          low,
          λ crash d f. elim (Contains-cons_cases c crash cs d) [
            | inl same ↦ let t : c.proc ≡ p = ap (λ (z : Crash). z.proc) same ∙ f in let g : (c.proc == p) ≡ true = eq-eqb c.proc p t in cc
            | inr rest ↦ w.1 crash rest f
          ],
        )

-- of a live processor it is the greatest number
fold-live : (p last : ℕ) (crashes : List Crash) → list_any (is_crash_of p) crashes ≡ false → fold (lasting p) last crashes ≡ last
fold-live p last [] h = refl
fold-live p last (c ∷ cs) h = of (c.proc == p) refl h (λ acc f. fold-live p acc cs f)
  where
    of : (b : Bool) → (c.proc == p) ≡ b → ((c.proc == p) || list_any (is_crash_of p) cs) ≡ false
        → ((acc : ℕ) → list_any (is_crash_of p) cs ≡ false → fold (lasting p) acc cs ≡ acc) → fold (lasting p) (lasting p last c) cs ≡ last
    of true e f rest = let g : true ≡ false = rw e at f in cc
    of false e f rest =
        let none : list_any (is_crash_of p) cs ≡ false = rw e at f in
        let same : lasting p last c ≡ last = rw e refl in
        rest (lasting p last c) none ∙ same

last-at : (n : ℕ) (crashes : List Crash) (p : ℕ) → 1 ≤ p → p ≤ n → slice_index (lasts_of n crashes) (p - 1) ≡ last_tick crashes p
last-at n crashes p low high = get_or-map-range_with_len (last_tick crashes) 1 n (p - 1) p 0 (omega arith) (omega arith)

-- who is up by the table hasn't crashed
pub IsUp-in : (n : ℕ) (crashes : List Crash) (p x : ℕ) → IsUpIn (lasts_of n crashes) p x → IsUp crashes p x
IsUp-in n crashes p x u =
    let long : length (lasts_of n crashes) ≡ n = length-map-range_with_len (last_tick crashes) 1 n in
    let high : p ≤ n = let a = u.high in omega arith in
    let up : x ≤ last_tick crashes p = subst (λ (k : ℕ). x ≤ k) (last-at n crashes p u.low high) u.up in
    let w = fold-up p x (2 ^ 64 - 1) crashes up in
    λ k d l. w.1 (get_or crashes k d) (All-contains_itself crashes k d l)

-- a live processor always is
pub IsUpIn-live : (c : Setup) (crashes : List Crash) (p x : ℕ) → x ≤ 1000000 → IsLive c crashes p → IsUpIn (lasts_of c.n crashes) p x
IsUpIn-live c crashes p x early w = record {
  low = w.0.0;
  high = let long : length (lasts_of c.n crashes) ≡ c.n = length-map-range_with_len (last_tick crashes) 1 c.n in
      let h = w.0.1 in omega arith;
  up = subst (λ (k : ℕ). x ≤ k) (sym (last-at c.n crashes p w.0.0 w.0.1
      ∙ fold-live p (2 ^ 64 - 1) crashes (no (list_any (is_crash_of p) crashes) w.1))) (omega arith);
}
  where
    no : (b : Bool) → not b ≡ true → b ≡ false
    no true e = cc
    no false e = refl

-- somebody is live
pub live-some : (c : Setup) (crashes : List Crash) → IsSetup c → c.n ≤ length (live c.n crashes) + c.t → (p : ℕ) × IsLive c crashes p
live-some c crashes setup most = first (live c.n crashes) refl
  where
    first : (ps : List ℕ) → live c.n crashes ≡ ps → (p : ℕ) × IsLive c crashes p
    first [] e = let none : length (live c.n crashes) ≡ 0 = ap length e in
        let f = setup.faults in let l = setup.least in absurd (omega arith)
    first (p ∷ ps) e =
        let d : Contains (live c.n crashes) p = subst (λ (xs : List ℕ). Contains xs p) (sym e) (Contains-head p ps) in
        let w = Contains-from_filter (is_live crashes) (range_with_len 1 c.n) p d in
        (p, (IsProc-from_processors c p w.0, w.1))

-- one step more of one that is up
pub StepBeforeCrashes-stepped : (n : ℕ) (crashes : List Crash) (steps : List Step) (x : Step)
    → IsUpIn (lasts_of n crashes) x.proc (length steps + 1) → StepBeforeCrashes crashes steps → StepBeforeCrashes crashes (steps ++ x ∷ [])
StepBeforeCrashes-stepped n crashes steps x up before k y h = elim (step_at-push_cases steps x y k h) [
  | inl old ↦ before k y old
  | inr last ↦
      let u : IsUp crashes x.proc (length steps + 1) = IsUp-in n crashes x.proc (length steps + 1) up in
      let one : IsUp crashes y.proc (length steps + 1) = subst (λ (z : Step). IsUp crashes z.proc (length steps + 1)) last.1 u in
      subst (λ (j : ℕ). IsUp crashes y.proc j) (sym last.0) one
]
