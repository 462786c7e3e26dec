-- A trace and a set have one report.
use Rattle.std.proofs.Common.{ℕ, ◌≡◌, List, [], ◌∷◌, map, Contains, refl, sym, subst, ap, inl, inr, arith}
use Rattle.std.specs.List.Sorted.{IsStrictlyIncreasing}
use Rattle.step_trace.proofs.BoundLaws.{NamesMiss-steady, NamesGap-steady}
use Rattle.step_trace.specs.Traces.{Recorded}
use Rattle.step_trace.specs.Ticks.{IsTimed}
use Rattle.step_trace.specs.declared.rows.Row.{Row}
use Rattle.step_trace.specs.Fronts.{Triple, IsReport, IsReportRow, triple_of}
use Rattle.step_trace.proofs.ListMembers.{Contains-nil, Contains-head, Contains-rest, Contains-map, Contains-cons_cases, Contains-from_map, rising-tail, rising-first}

-- what rises and has the same members is the same
rising-same : (xs ys : List Row) → IsStrictlyIncreasing (map (λ r. r.gst) xs) → IsStrictlyIncreasing (map (λ r. r.gst) ys)
    → ((r : Row) → Contains xs r → Contains ys r) → ((r : Row) → Contains ys r → Contains xs r) → xs ≡ ys
rising-same [] [] a b into back = refl
rising-same [] (y ∷ ys) a b into back = absurd (Contains-nil y (back y (Contains-head y ys)))
rising-same (x ∷ xs) [] a b into back = absurd (Contains-nil x (into x (Contains-head x xs)))
rising-same (x ∷ xs) (y ∷ ys) a b into back =
    let above_x = λ (r : Row) (c : Contains xs r).
    rising-first x.gst (map (λ z. z.gst) xs) a r.gst (Contains-map (λ (z : Row). z.gst) xs r c) in
    let above_y = λ (r : Row) (c : Contains ys r).
    rising-first y.gst (map (λ z. z.gst) ys) b r.gst (Contains-map (λ (z : Row). z.gst) ys r c) in
    let first : x ≡ y = elim (Contains-cons_cases y x ys (into x (Contains-head x xs))) [
      | inl e ↦ sym e
      | inr later ↦ elim (Contains-cons_cases x y xs (back y (Contains-head y ys))) [
        | inl e ↦ e
        | inr other ↦ absurd (let l = above_y x later in let m = above_x y other in omega arith)
      ]
    ] in
    let gst : x.gst ≡ y.gst = ap (λ (z : Row). z.gst) first in
    let rest = rising-same xs ys (rising-tail x.gst (map (λ z. z.gst) xs) a) (rising-tail y.gst (map (λ z. z.gst) ys) b)
    (λ r c. elim (Contains-cons_cases y r ys (into r (Contains-rest x r xs c))) [
      | inl e ↦ absurd (let l = above_x r c in let same : y.gst ≡ r.gst = ap (λ (z : Row). z.gst) e in omega arith)
      | inr later ↦ later
    ])
    (λ r c. elim (Contains-cons_cases x r xs (back r (Contains-rest y r ys c))) [
      | inl e ↦ absurd (let l = above_y r c in let same : x.gst ≡ r.gst = ap (λ (z : Row). z.gst) e in omega arith)
      | inr later ↦ later
    ]) in
    rw (first, rest) refl

-- rows of one triple, with its named witnesses, are one
row-same : (set : ℕ) (trace : Recorded) (a b : Row) → IsTimed trace → IsReportRow set trace a → IsReportRow set trace b
    → triple_of a ≡ triple_of b → a ≡ b
row-same set trace a b time x y e =
    let gst : a.gst ≡ b.gst = ap (λ (t : Triple). t.gst) e in
    let delta : a.delta ≡ b.delta = ap (λ (t : Triple). t.delta) e in
    let phi : a.phi ≡ b.phi = ap (λ (t : Triple). t.phi) e in
    let miss =
    NamesMiss-steady set trace b.gst b.gst b.delta b.miss a.miss time (omega arith) y.miss
    (rw (gst, delta) at x.miss) in
    let gap = NamesGap-steady set trace b.gst b.gst b.phi b.gap a.gap (omega arith) y.gap (rw (gst, phi) at x.gap) in
    let same : record { gst = a.gst; delta = a.delta; phi = a.phi; miss = a.miss; gap = a.gap } ≡ b =
    rw (gst, delta, phi, miss, gap) refl in
    same

report-has : (set : ℕ) (trace : Recorded) (xs ys : List Row)
    → IsTimed trace → IsReport set trace xs → IsReport set trace ys → (r : Row) → Contains xs r → Contains ys r
report-has set trace xs ys time a b r c =
    let row = a.sound r c in
    let m = Contains-from_map triple_of ys (triple_of r) (b.complete (triple_of r) row.front) in
    subst (Contains ys) (row-same set trace m.0 r time (b.sound m.0 m.1) row m.2) m.1

-- two reports of a trace and a set are the same
pub IsReport-unique : (set : ℕ) (trace : Recorded) (xs ys : List Row)
    → IsTimed trace → IsReport set trace xs → IsReport set trace ys → xs ≡ ys
IsReport-unique set trace xs ys time a b = rising-same xs ys a.rising b.rising
    (report-has set trace xs ys time a b) (report-has set trace ys xs time b a)
