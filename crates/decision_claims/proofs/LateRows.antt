-- Rows that keep a claim, and rows that refute it.
use Rattle.std.proofs.Common.{ℕ, ◌≡◌, ◌+◌, ◌<◌, ◌≤◌, inl, inr, List, length, get_or, min, Option, Some, None, sym, subst, ◌∙◌, arith}
use Rattle.std.specs.Prelude.{slice_get, MatchOption}
use Rattle.std.proofs.lemmas.Bool.{cases_eq, cases_lt}
use Rattle.std.proofs.lemmas.Option.{slice_get-get_or, slice_get_within, same_Some}
use Rattle.step_trace.specs.declared.rows.Row.{Row}
use Rattle.step_trace.specs.Traces.{Recorded}
use Rattle.step_trace.specs.Fronts.{Triple, triple_of}
use Rattle.decision_claims.specs.declared.decisions.Decision.{Decision}
use Rattle.decision_claims.specs.declared.lateness.Late.{Late}
use Rattle.decision_claims.specs.Decisions.{HaveDecidedBy}
use Rattle.decision_claims.specs.Claims.{IsKept}
use Rattle.decision_claims.specs.LateRows.{IsLeastUndecided, IsFirstLate, AllKept, AreAllLater, IsLeastDue}

-- what is read if there is no row
abbrev pub no_row : Row
no_row = record { gst = 0; delta = 0; phi = 0; miss = None; gap = None }

-- a deadline that isn't due, or by which all have decided, is kept
pub IsKept-later : (set : ℕ) (trace : Recorded) (decisions : List Decision) (y : ℕ) → trace.last < y → IsKept set trace decisions y
IsKept-later set trace decisions y l = record { when_due = λ m. absurd (omega (arith, l, m)) }

pub IsKept-decided : (set : ℕ) (trace : Recorded) (decisions : List Decision) (x y : ℕ)
    → x ≡ y → HaveDecidedBy set decisions x → IsKept set trace decisions y
IsKept-decided set trace decisions x y e h = record { when_due = λ m. subst (HaveDecidedBy set decisions) e h }

-- one that is due, by which a member hadn't decided, isn't
pub IsKept-refuted : (set : ℕ) (trace : Recorded) (decisions : List Decision) (y p : ℕ)
    → y ≤ trace.last → IsLeastUndecided set decisions y p → IsKept set trace decisions y → ⊥
IsKept-refuted set trace decisions y p l u k = u.undecided ((k.when_due l).each p u.member)

-- the rows before place k keep the claim
abbrev pub KeptBefore : ℕ → Recorded → List Row → List Decision → (Triple → ℕ) → ℕ → Type 0
KeptBefore set trace rows decisions due k = (j : ℕ) (r : Row)
    → j < k → slice_get rows j ≡ Some r → IsKept set trace decisions (due (triple_of r))

pub kept_next : (set : ℕ) (trace : Recorded) (rows : List Row) (decisions : List Decision) (due : Triple → ℕ) (k : ℕ) → k < length rows
    → IsKept set trace decisions (due (triple_of (get_or rows k no_row)))
    → KeptBefore set trace rows decisions due k → KeptBefore set trace rows decisions due (k + 1)
kept_next set trace rows decisions due k inside here before = λ j r l e. elim (cases_eq j k) [
  | inl same ↦ (
      let there = subst (λ i. slice_get rows i ≡ Some r) same e in
      let row = same_Some _ _ (sym (slice_get-get_or rows k no_row inside) ∙ there) in
      subst (λ (x : Row). IsKept set trace decisions (due (triple_of x))) row here)
  | inr other ↦ before j r (omega (arith, l, other)) e
]

pub kept_all : (set : ℕ) (trace : Recorded) (rows : List Row) (decisions : List Decision) (due : Triple → ℕ) (k : ℕ) → length rows ≤ k
    → KeptBefore set trace rows decisions due k → AllKept set trace rows decisions due
kept_all set trace rows decisions due k past before =
    record { each = λ j r e. before j r (let l = slice_get_within rows j r e in omega (arith, l, past)) e }

-- a row that was found late refutes the claim of all rows
pub AllKept-refuted : (set : ℕ) (trace : Recorded) (rows : List Row) (decisions : List Decision) (due : Triple → ℕ) (w : Late)
    → IsFirstLate set trace rows decisions due w → AllKept set trace rows decisions due → ⊥
AllKept-refuted set trace rows decisions due w late all = IsKept-refuted set trace decisions w.deadline w.proc late.due late.proc
    (subst (IsKept set trace decisions) (sym late.by) (all.each late.place w.row late.row))

-- the row at place k is the first one, if a member hadn't decided by its deadline
pub late_at : (set : ℕ) (run : Recorded) (rows : List Row) (decisions : List Decision) (due : Triple → ℕ) (k y p end : ℕ) → k < length rows
    → run.last ≡ end → (y ≡ due (triple_of (get_or rows k no_row))) × (y ≤ end) → IsLeastUndecided set decisions y p → KeptBefore
    set run rows decisions due k → IsFirstLate set run rows decisions due (record { row = get_or rows k no_row; deadline = y; proc = p })
late_at set run rows decisions due k y p end inside ends of_row undecided before = record {
  place = k;
  row = slice_get-get_or rows k no_row inside;
  by = of_row.0;
  due = (let l = of_row.1 in omega (arith, l, ends));
  proc = undecided;
  before = before;
}

-- the rows before place k have their deadlines after the last tick
pub record AreLaterBefore (trace : Recorded) (rows : List Row) (due : Triple → ℕ) (k : ℕ) : Type 0 where
  pub each : (j : ℕ) (r : Row) → j < k → slice_get rows j ≡ Some r → trace.last < due (triple_of r)

-- the least deadline of the rows before place k
pub record IsLeastBefore (trace : Recorded) (rows : List Row) (due : Triple → ℕ) (k y : ℕ) : Type 0 where
  pub place : ℕ
  pub row : Row
  pub there : slice_get rows place ≡ Some row
  pub of_row : y ≡ due (triple_of row)
  pub in_time : y ≤ trace.last
  pub least : (j : ℕ) (r : Row) → j < k → slice_get rows j ≡ Some r → y ≤ due (triple_of r)

abbrev pub DueBefore : Recorded → List Row → (Triple → ℕ) → ℕ → Option ℕ → Type 0
DueBefore trace rows due k None = AreLaterBefore trace rows due k
DueBefore trace rows due k (Some y) = IsLeastBefore trace rows due k y

-- what is so of the rows before place k and of the row there is so of those before the next place
one_more : (P : Row → Type 0) (rows : List Row) (k : ℕ) → k < length rows → P (get_or rows k no_row)
    → ((j : ℕ) (r : Row) → j < k → slice_get rows j ≡ Some r → P r) → (j : ℕ) (r : Row) → j < k + 1 → slice_get rows j ≡ Some r → P r
one_more P rows k inside here before j r l e = elim (cases_eq j k) [
  | inl same ↦ (
      let there = subst (λ i. slice_get rows i ≡ Some r) same e in
      subst P (same_Some _ _ (sym (slice_get-get_or rows k no_row inside) ∙ there)) here)
  | inr other ↦ before j r (omega (arith, l, other)) e
]

-- a row that is later changes nothing
pub due_later : (trace : Recorded) (rows : List Row) (due : Triple → ℕ) (k : ℕ) (least : Option ℕ) → k < length rows
    → trace.last < due (triple_of (get_or rows k no_row)) → DueBefore trace rows due k least → DueBefore trace rows due (k + 1) least
due_later trace rows due k None inside later b =
    record { each = one_more (λ (r : Row). trace.last < due (triple_of r)) rows k inside later b.each }
due_later trace rows due k (Some y) inside later b = record {
  place = b.place;
  row = b.row;
  there = b.there;
  of_row = b.of_row;
  in_time = b.in_time;
  least = one_more (λ (r : Row). y ≤ due (triple_of r)) rows k inside (let l = b.in_time in omega (arith, l, later)) b.least;
}

-- one that is due may be the least
pub due_here : (trace : Recorded) (rows : List Row) (due : Triple → ℕ) (k y z : ℕ) (least : Option ℕ)
    → k < length rows → y ≡ due (triple_of (get_or rows k no_row)) → y ≤ trace.last
    → MatchOption least (z ≡ y) (λ before. z ≡ min before y) → DueBefore trace rows due k least → DueBefore trace rows due (k + 1) (Some z)
due_here trace rows due k y z None inside of_row in_time e b = record {
  place = k;
  row = get_or rows k no_row;
  there = slice_get-get_or rows k no_row inside;
  of_row = e ∙ of_row;
  in_time = omega (arith, e, in_time);
  least = one_more (λ (r : Row). z ≤ due (triple_of r)) rows k inside
      (omega (arith, e, of_row)) (λ j r l there. (let m = b.each j r l there in omega (arith, m, e, in_time)));
}
due_here trace rows due k y z (Some before) inside of_row in_time e b = elim (cases_lt before y) [
  | inl l ↦ (let same : before ≡ z = omega (arith, e, l) in record {
    place = b.place;
    row = b.row;
    there = b.there;
    of_row = sym same ∙ b.of_row;
    in_time = (let m = b.in_time in omega (arith, m, same));
    least = one_more (λ (r : Row). z ≤ due (triple_of r)) rows k inside
        (omega (arith, e, of_row)) (λ j r m there. (let n = b.least j r m there in omega (arith, n, same)));
  })
  | inr l ↦ (let same : z ≡ y = omega (arith, e, l) in record {
    place = k;
    row = get_or rows k no_row;
    there = slice_get-get_or rows k no_row inside;
    of_row = same ∙ of_row;
    in_time = omega (arith, same, in_time);
    least = one_more (λ (r : Row). z ≤ due (triple_of r)) rows k inside
        (omega (arith, e, of_row)) (λ j r m there. (let n = b.least j r m there in omega (arith, n, e)));
  })
]

pub due_all : (trace : Recorded) (rows : List Row) (due : Triple → ℕ) (k : ℕ) (least : Option ℕ)
    → length rows ≤ k → DueBefore trace rows due k least → MatchOption least (AreAllLater trace rows due) (IsLeastDue trace rows due)
due_all trace rows due k None past b =
    record { each = λ j r e. b.each j r (let l = slice_get_within rows j r e in omega (arith, l, past)) e }
due_all trace rows due k (Some y) past b = record {
  place = b.place;
  row = b.row;
  there = b.there;
  of_row = b.of_row;
  due = b.in_time;
  least = λ j r e. b.least j r (let l = slice_get_within rows j r e in omega (arith, l, past)) e;
}

-- if the rows are kept, all had decided by the least deadline that is due
pub decided_by_least : (set : ℕ) (trace : Recorded) (rows : List Row) (decisions : List Decision) (due : Triple → ℕ) (y : ℕ)
    → AllKept set trace rows decisions due → IsLeastDue trace rows due y → HaveDecidedBy set decisions y
decided_by_least set trace rows decisions due y kept least = subst (HaveDecidedBy set decisions) (sym least.of_row)
    ((kept.each least.place least.row least.there).when_due (let e = least.of_row in let l = least.due in omega (arith, e, l)))
