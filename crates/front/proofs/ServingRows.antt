-- The rows of a report apply to every tick of the trace.
use Rattle.std.proofs.Common.{ℕ, ◌≡◌, ◌+◌, ◌<◌, ◌≤◌, inl, inr, List, [], ◌∷◌, map, Contains, Option, Some, None, Bool, true, false, refl, sym, subst, ap, arith}
use Rattle.std.specs.Prelude.{IsSomeAnd, nat_le, cond}
use Rattle.std.specs.List.Sorted.{IsStrictlyIncreasing}
use Rattle.std.proofs.lemmas.Bool.{cases_lt}
use Rattle.std.proofs.lemmas.Bool.Decides.{nat_tests}
use Rattle.std.proofs.lemmas.Option.{same_Some, none-some}
use Rattle.step_trace.specs.Traces.{Recorded}
use Rattle.step_trace.specs.declared.rows.Row.{Row}
use Rattle.step_trace.specs.Ticks.{IsTimed}
use Rattle.step_trace.specs.Bounds.{DeltaHolds, PhiHolds, IsDelta, IsPhi}
use Rattle.step_trace.specs.Fronts.{Triple, IsFeasible, IsOnFront, IsReport, triple_of}
use Rattle.front.specs.Reports.{Reported, Serves, first_of, last_begun, row_at}
use Rattle.step_trace.proofs.BoundLaws.{DeltaHolds-later, PhiHolds-later, DeltaHolds-past_end, PhiHolds-past_end}
use Rattle.step_trace.proofs.FrontCriterion.{IsDelta-on_front, IsPhi-on_front, front-below}
use Rattle.front.proofs.Stretches.{miss-refutes, gap-refutes}
use Rattle.step_trace.proofs.ListMembers.{Contains-nil, Contains-head, Contains-rest, Contains-map, Contains-cons_cases, Contains-from_map, rising-tail, rising-first}

-- bounds past the last tick hold from each tick
IsFeasible-greatest : (set : ℕ) (trace : Recorded) (g : ℕ)
    → IsTimed trace → 1 ≤ g → g ≤ trace.last → IsFeasible set trace (record { gst = g; delta = trace.last + 1; phi = trace.last + 1 })
IsFeasible-greatest set trace g time start end = record {
  start = start;
  end = end;
  delta_positive = omega arith;
  phi_positive = omega arith;
  delta = DeltaHolds-past_end set trace g (trace.last + 1) time (omega arith);
  phi = PhiHolds-past_end set trace g (trace.last + 1) start (omega arith);
}

-- a row of the report that begins at g or before, after which none does, applies to g
pub Serves-from_row : (set : ℕ) (trace : Recorded) (rows : List Row) (g : ℕ) (r : Row) → IsReport set trace rows → Contains rows r
    → r.gst ≤ g → g ≤ trace.last → ((o : Row) → Contains rows o → o.gst ≤ g → o.gst ≤ r.gst) → Serves set trace g r
Serves-from_row set trace rows g r report member begun end latest =
    let row = report.sound r member in
    let start : 1 ≤ r.gst = row.front.feasible.start in
    let delta = IsDelta-on_front set trace (triple_of r) row.front in
    let phi = IsPhi-on_front set trace (triple_of r) row.front in
    let delta_here : DeltaHolds set trace g r.delta = DeltaHolds-later set trace r.gst g r.delta begun delta.holds in
    let phi_here : PhiHolds set trace g r.phi = PhiHolds-later set trace r.gst g r.phi begun phi.holds in
    let delta_positive : 1 ≤ r.delta = delta.positive in
    let phi_positive : 1 ≤ r.phi = phi.positive in
    let at_most = λ (o : Triple) (front : IsOnFront set trace o) (l : o.gst ≤ g).
    let m = Contains-from_map triple_of rows o (report.complete o front) in
    let same : (m.0).gst ≡ o.gst = ap (λ (x : Triple). x.gst) m.2 in
    let most : (m.0).gst ≤ r.gst = latest m.0 m.1 (omega arith) in
    let below : o.gst ≤ r.gst = omega arith in
    below in
    let least_delta : IsDelta set trace g r.delta = record {
      positive = delta_positive;
      holds = delta_here;
      least = λ e positive holds. elim (cases_lt e r.delta) [
        | inr m ↦ m
        | inl l ↦ absurd (front-below set trace (g + e + r.phi) (record { gst = g; delta = e; phi = r.phi }) (omega arith) (record
            { start = omega arith; end = end; delta_positive = positive; phi_positive = phi_positive; delta = holds; phi = phi_here })
            (λ o front a b c. row.front.undominated o front.feasible
            (record { gst = at_most o front a; delta = omega arith; phi = c; smaller = inr (inl (omega arith)) })))
      ];
    } in
    let least_phi : IsPhi set trace g r.phi = record {
      positive = phi_positive;
      holds = phi_here;
      least = λ e positive holds. elim (cases_lt e r.phi) [
        | inr m ↦ m
        | inl l ↦ absurd (front-below set trace (g + r.delta + e) (record { gst = g; delta = r.delta; phi = e }) (omega arith) (record
            { start = omega arith; end = end; delta_positive = delta_positive; phi_positive = positive; delta = delta_here; phi = holds })
            (λ o front a b c. row.front.undominated o front.feasible
            (record { gst = at_most o front a; delta = b; phi = omega arith; smaller = inr (inr (omega arith)) })))
      ];
    } in
    record {
      delta = least_delta;
      phi = least_phi;
      miss = λ d low high. miss-refutes set trace r.gst g r.delta r.miss begun delta.holds least_delta row.miss d low high;
      gap = λ f low high. gap-refutes set trace r.gst g r.phi r.gap start begun least_phi row.gap f low high;
    }

-- if no row has begun, each begins after g
last_begun-none : (rows : List Row) (g : ℕ) → last_begun rows g ≡ None → (r : Row) → Contains rows r → g < r.gst
last_begun-none [] g none r c = absurd (Contains-nil r c)
last_begun-none (x ∷ rest) g none r c = go (last_begun rest g) refl
    (nat_le x.gst g) refl (λ e later. last_begun-none rest g e r later) none where
      go : (o : Option Row) → last_begun rest g ≡ o → (b : Bool) → nat_le x.gst g ≡ b
          → (last_begun rest g ≡ None → Contains rest r → g < r.gst) → first_of o (cond b (Some x) None) ≡ None → g < r.gst
      go (Some y) e b t more f = absurd (none-some y (sym f))
      go None e true t more f = absurd (none-some x (sym f))
      go None e false t more f = elim (Contains-cons_cases x r rest c) [
        | inl same ↦ (let l : g < x.gst = grind (arith, nat_tests) in subst (λ (z : Row). g < z.gst) same l)
        | inr later ↦ more e later
      ]

-- the last row that has begun is one of the rows that have, and none of these begins after it
record IsLastBegun (rows : List Row) (g : ℕ) (r : Row) : Type 0 where
  pub member : Contains rows r
  pub begun : r.gst ≤ g
  pub latest : (o : Row) → Contains rows o → o.gst ≤ g → o.gst ≤ r.gst

last_begun-some : (rows : List Row) (g : ℕ) (r : Row)
    → IsStrictlyIncreasing (map (λ x. x.gst) rows) → last_begun rows g ≡ Some r → IsLastBegun rows g r
last_begun-some [] g r rising some = absurd (none-some r some)
last_begun-some (x ∷ rest) g r rising some = go (last_begun rest g) refl
    (nat_le x.gst g) refl (λ s. last_begun-some rest g s (rising-tail x.gst (map (λ x. x.gst) rest) rising)) some where
      go : (o : Option Row) → last_begun rest g ≡ o → (b : Bool) → nat_le x.gst g ≡ b → ((s : Row)
          → last_begun rest g ≡ Some s → IsLastBegun rest g s) → first_of o (cond b (Some x) None) ≡ Some r → IsLastBegun (x ∷ rest) g r
      go (Some y) e b t more f = subst (IsLastBegun (x ∷ rest) g) (same_Some y r f) (
          let m = more y e in
          record {
            member = Contains-rest x y rest m.member;
            begun = m.begun;
            latest = λ o c l. elim (Contains-cons_cases x o rest c) [
              | inl same ↦ (
                  let after : x.gst < y.gst = rising-first x.gst
                  (map (λ x. x.gst) rest) rising y.gst (Contains-map (λ (z : Row). z.gst) rest y m.member) in
                  let gst : x.gst ≡ o.gst = ap (λ (z : Row). z.gst) same in
                  omega arith)
              | inr later ↦ m.latest o later l
            ];
          })
      go None e true t more f = subst (IsLastBegun (x ∷ rest) g) (same_Some x r f) (record {
        member = Contains-head x rest;
        begun = grind (arith, nat_tests);
        latest = λ o c l. elim (Contains-cons_cases x o rest c) [
          | inl same ↦ (let gst : x.gst ≡ o.gst = ap (λ (z : Row). z.gst) same in omega arith)
          | inr later ↦ absurd (let after = last_begun-none rest g e o later in omega arith)
        ];
      })
      go None e false t more f = absurd (none-some r f)

-- the row at each tick of the trace applies to it
pub row_at-serves : (report : Reported) (g set : ℕ) (trace : Recorded) → IsTimed trace
    → IsReport set trace report.rows → report.len ≡ trace.last → 1 ≤ g → g ≤ report.len → IsSomeAnd (row_at report g) (Serves set trace g)
row_at-serves report g set trace time is_report len start end =
    let low : nat_le 1 g ≡ true = grind (arith, nat_tests) in
    let high : nat_le g report.len ≡ true = grind (arith, nat_tests) in
    rw (low, high) (go (last_begun report.rows g) refl)
  where
    go : (o : Option Row) → last_begun report.rows g ≡ o → IsSomeAnd o (Serves set trace g)
    go (Some r) e =
        let last = last_begun-some report.rows g r is_report.rising e in
        Serves-from_row set trace report.rows g r is_report last.member last.begun (omega arith) last.latest
    go None e = absurd (front-below set trace (g + (trace.last + 1) + (trace.last + 1)) _
        (omega arith) (IsFeasible-greatest set trace g time start (omega arith)) (λ o front a b c.
        let m = Contains-from_map triple_of report.rows o (is_report.complete o front) in
        let same : (m.0).gst ≡ o.gst = ap (λ (x : Triple). x.gst) m.2 in
        let after = last_begun-none report.rows g e m.0 m.1 in
        omega arith))
