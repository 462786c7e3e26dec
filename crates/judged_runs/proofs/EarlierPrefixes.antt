-- Prefixes that were looked at.
use Rattle.std.proofs.Common.{ℕ, ◌≡◌, ◌+◌, ◌<◌, ◌≤◌, inl, inr, List, Some, sym, ap, subst, ◌∙◌, arith}
use Rattle.std.specs.Prelude.{slice_get}
use Rattle.std.proofs.lemmas.Bool.{cases_lt, cases_eq}
use Rattle.std.proofs.lemmas.Option.{slice_get-get_or}
use Rattle.step_trace.specs.declared.rows.Row.{Row}
use Rattle.step_trace.specs.Traces.{Recorded}
use Rattle.step_trace.specs.Ticks.{IsTrace}
use Rattle.step_trace.specs.Cuts.{IsCutAt}
use Rattle.step_trace.specs.Fronts.{Triple, IsFeasible, IsReport, triple_of}
use Rattle.step_trace.proofs.ListMembers.{Contains-slice_get, Contains-from_map}
use Rattle.step_trace.proofs.TraceFronts.{one_cut}
use Rattle.step_trace.proofs.FrontCriterion.{front-below}
use Rattle.decision_claims.specs.declared.decisions.Decision.{Decision}
use Rattle.decision_claims.specs.declared.lateness.Late.{Late}
use Rattle.decision_claims.specs.Claims.{IsLater, IsMonotone, KeepsClaim, KeepsClaimInTime}
use Rattle.decision_claims.specs.Decisions.{HaveDecidedBy}
use Rattle.decision_claims.specs.LateRows.{IsFirstLate}
use Rattle.decision_claims.proofs.FrontClaims.{KeepsClaim-rows}
use Rattle.decision_claims.proofs.PrefixClaims.{has_cut, IsCutAt-twice, IsFeasible-cut}
use Rattle.judged_runs.specs.declared.prefixes.Ahead.{Ahead}
use Rattle.judged_runs.specs.LateInTime.{AreNoEarlier, AreNoneDue, AreOldLater, IsAhead, IsGlance, IsLateByReport, IsLateInTime, IsNextLook, IsNextTick, KeepsBefore, begun_after}
use Rattle.judged_runs.specs.LaterRows.{AreRowsAfter}

-- what is kept before a tick is kept before each earlier one
pub before_less : (set : ℕ) (trace : Recorded) (decisions : List Decision) (due : Triple → ℕ) (x y : ℕ)
    → y ≤ x → KeepsBefore set trace decisions due x → KeepsBefore set trace decisions due y
before_less set trace decisions due x y l before = record { each = λ t cut m. before.each t cut (omega (arith, l, m)) }

-- deadlines in x are kept if the prefix that ends there keeps the claim
before_next : (set : ℕ) (trace cut : Recorded) (decisions : List Decision) (due : Triple → ℕ) (x : ℕ) → IsTrace cut → IsCutAt trace x cut
    → KeepsClaim set cut decisions due → KeepsBefore set trace decisions due x → KeepsBefore set trace decisions due (x + 1)
before_next set trace cut decisions due x sound at kept before = record {
  each = λ t other l timed there feasible. elim (cases_eq (due t) x) [
    | inl e ↦ (
        let same = one_cut trace other cut x timed.time sound.time (subst (λ y. IsCutAt trace y other) e there) at in
        (kept.each t (subst (λ (c : Recorded). IsFeasible set c t) same feasible)).when_due (let last = at.last in omega (arith, last, e)))
    | inr e ↦ before.each t other (omega (arith, l, e)) timed there feasible
  ];
}

-- what is feasible in a prefix is feasible in each earlier one, from a tick of it on
feasible_before : (set : ℕ) (trace cut other : Recorded) (x y : ℕ) (t : Triple) → IsTrace cut
    → IsCutAt trace x cut → IsTrace other → IsCutAt trace y other → x ≤ y → t.gst ≤ x → IsFeasible set other t → IsFeasible set cut t
feasible_before set trace cut other x y t sound at timed there l begun feasible =
    let last = there.last in
    let d = has_cut other x timed (omega (arith, last, l)) in
    let same = one_cut trace d.cut cut x d.sound.time sound.time
    (IsCutAt-twice trace other y timed.time there x d.cut d.sound.time l d.at) at in
    subst (λ (c : Recorded). IsFeasible set c t) same (IsFeasible-cut other d.cut x d.sound.time d.at set t begun feasible)

-- no row of a report that begins by a tick has an earlier deadline, so no feasible triple has
none_earlier : (set : ℕ) (cut : Recorded) (rows : List Row) (due : Triple → ℕ) (until next : ℕ) (t : Triple)
    → IsMonotone due → IsReport set cut rows → ((k : ℕ) (r : Row) → slice_get rows k ≡ Some r → r.gst ≤ until → next ≤ due (triple_of r))
    → IsFeasible set cut t → t.gst ≤ until → due t < next → ⊥
none_earlier set cut rows due until next t monotone report none feasible begun early =
    front-below set cut (t.gst + t.delta + t.phi) t (omega arith) feasible (λ o on g d f.
    let m = Contains-from_map triple_of rows o (report.complete o on) in
    let c = m.1 in
    let gst : (m.0).gst ≡ o.gst = ap (λ (x : Triple). x.gst) m.2 in
    let above = none c.0 m.0 (slice_get-get_or rows c.0 m.0 c.1 ∙ ap (λ (x : Row). Some x) c.2) (omega (arith, gst, g, begun)) in
    let rises = monotone.rises o t g d f in
    let same : due (triple_of m.0) ≡ due o = ap due m.2 in
    omega (arith, above, rises, same, early))

-- a prefix none of whose rows is due keeps the claim
pub none_due : (set : ℕ) (cut : Recorded) (rows : List Row) (decisions : List Decision) (due : Triple → ℕ) (x next : ℕ)
    → IsMonotone due → IsReport set cut rows → cut.last ≡ x → x < next
    → ((k : ℕ) (r : Row) → slice_get rows k ≡ Some r → r.gst ≤ x → next ≤ due (triple_of r)) → KeepsClaim set cut decisions due
none_due set cut rows decisions due x next monotone report last beyond later =
    (KeepsClaim-rows set cut rows decisions due monotone report).1
    (record {
      each = λ k r at. record {
        when_due = λ l. absurd (
            let inside = (report.sound r (Contains-slice_get rows k r at)).front.feasible.end in
            let m = later k r at (omega (arith, inside, last)) in
            omega (arith, m, l, last, beyond));
      };
    })

-- So the search goes on at a tick before which each deadline is kept.
pub before_jump : (set : ℕ) (trace cut : Recorded) (rows : List Row) (decisions : List Decision) (due : Triple → ℕ) (x next : ℕ)
    → IsMonotone due → IsTrace cut → IsCutAt trace x cut → IsReport set cut rows → KeepsClaim set cut decisions due
    → IsNextTick rows due x next → KeepsBefore set trace decisions due x → KeepsBefore set trace decisions due next
before_jump set trace cut rows decisions due x next monotone sound at report kept look before = record {
  each = λ t other l timed there feasible. elim (cases_lt (due t) (x + 1)) [
    | inl m ↦ (before_next set trace cut decisions due x sound at kept before).each t other m timed there feasible
    | inr m ↦ (
        let beyond : x + 1 < next = omega (arith, l, m) in
        elim (cases_lt x t.gst) [
          | inl late ↦ (
              let delta = feasible.delta_positive in
              let phi = feasible.phi_positive in
              let rises = monotone.rises (begun_after x) t (omega (arith, late)) delta phi in
              let least = look.of_others beyond in
              absurd (omega (arith, rises, least, l)))
          | inr begun ↦ absurd (none_earlier set cut rows due x next t monotone report (look.of_rows beyond)
              (feasible_before set trace cut other x (due t) t sound at timed there (omega (arith, m)) begun feasible) begun l)
        ])
  ];
}

-- the rows that begin by a tick set the least deadline of old bounds
pub old_later : (set : ℕ) (trace cut : Recorded) (rows : List Row) (due : Triple → ℕ) (x next after y : ℕ)
    → IsMonotone due → IsTrace cut → IsCutAt trace x cut
    → IsReport set cut rows → AreNoEarlier rows due after y → after ≤ x → x ≤ next → AreOldLater set trace due next after y
old_later set trace cut rows due x next after y monotone sound at report none order later = record {
  each = λ t z other l timed there feasible old. elim (cases_lt (due t) y) [
    | inr m ↦ m
    | inl early ↦ absurd (none_earlier set cut rows due after y t monotone report none.each (feasible_before set
        trace cut other x z t sound at timed there (omega (arith, later, l)) (omega (arith, old, order)) feasible) old early)
  ];
}

-- So after a whole look at a prefix that keeps the claim a search goes on as its rows say.
pub ahead_of_look : (set : ℕ) (trace cut : Recorded) (rows : List Row) (decisions : List Decision) (due : Triple → ℕ) (x : ℕ) (a : Ahead)
    → IsMonotone due → IsTrace cut → IsCutAt trace x cut → IsReport set cut rows
    → KeepsClaim set cut decisions due → IsNextLook rows due x a → KeepsBefore set trace decisions due x → IsAhead set trace decisions due a
ahead_of_look set trace cut rows decisions due x a monotone sound at report kept look before =
    let later = look.tick.later in
    let order = look.order in
    record {
      before = before_jump set trace cut rows decisions due x a.tick monotone sound at report kept look.tick before;
      order = omega (arith, order, later);
      old = old_later set trace cut rows due x a.tick a.after a.old monotone sound at report look.old order (omega (arith, later));
    }

-- Rows of the last ticks set the least deadline of bounds that become old, too.
pub old_in_sight : (set : ℕ) (trace cut : Recorded) (rows : List Row) (due : Triple → ℕ)
    (x next after old since least : ℕ) → IsMonotone due → IsTrace cut → IsCutAt trace x cut
    → AreRowsAfter set cut after rows → (after < since → AreNoEarlier rows due since least) → since ≤ x → x ≤ next
    → least ≤ old → AreOldLater set trace due x after old → AreOldLater set trace due next since least
old_in_sight set trace cut rows due x next after old since least monotone sound at last none order later less earlier = record {
  each = λ t z other l timed there feasible aged. elim (cases_lt after t.gst) [
    | inr before ↦ (let m = earlier.each t z other (omega (arith, later, l)) timed there feasible before in omega (arith, m, less))
    | inl young ↦ (
        let row = last.served t (feasible_before set trace cut other x z t sound at timed there
        (omega (arith, later, l)) (omega (arith, aged, order)) feasible) young in
        let rises = monotone.rises (triple_of row.row) t row.gst row.delta row.phi in
        let gst = row.gst in
        let m = (none (omega (arith, young, aged))).each row.place row.row row.there (omega (arith, gst, aged)) in
        omega (arith, rises, m))
  ];
}

-- The rows of the last ticks, what begins later, and old bounds have no deadline before y.
pub none_in_sight : (set : ℕ) (trace cut : Recorded) (rows : List Row) (due : Triple → ℕ) (x after old of_rows of_others y : ℕ)
    → IsMonotone due → IsTrace cut → IsCutAt trace x cut → AreRowsAfter set cut after rows → AreNoEarlier rows due x of_rows → of_others
    ≤ due (begun_after x) → AreOldLater set trace due x after old → y ≤ of_rows → y ≤ of_others → y ≤ old → AreNoneDue set trace due x y
none_in_sight set trace cut rows due x after old of_rows of_others y monotone sound at last none others earlier a b c = record {
  each = λ t other low high timed there feasible. elim (cases_lt after t.gst) [
    | inr aged ↦ (let m = earlier.each t (due t) other low timed there feasible aged in omega (arith, m, c, high))
    | inl young ↦ elim (cases_lt x t.gst) [
      | inl late ↦ (
          let delta = feasible.delta_positive in
          let phi = feasible.phi_positive in
          let rises = monotone.rises (begun_after x) t (omega (arith, late)) delta phi in
          omega (arith, rises, others, b, high))
      | inr begun ↦ (
          let row = last.served t (feasible_before set trace cut other x (due t) t sound at timed there low begun feasible) young in
          let rises = monotone.rises (triple_of row.row) t row.gst row.delta row.phi in
          let gst = row.gst in
          let m = none.each row.place row.row row.there (omega (arith, gst, begun)) in
          omega (arith, rises, m, a, high))
    ]
  ];
}

-- a glance may stay where it is
pub glance_here : (set : ℕ) (trace : Recorded) (due : Triple → ℕ) (a : Ahead)
    → a.after ≤ a.tick → AreOldLater set trace due a.tick a.after a.old → IsGlance set trace due a.tick a
glance_here set trace due a order old = record {
  none = record { each = λ t cut low high. absurd (omega (arith, low, high)) };
  order = order;
  old = old;
}

-- so each deadline before y is kept
pub before_sight : (set : ℕ) (trace : Recorded) (decisions : List Decision) (due : Triple → ℕ) (x y : ℕ)
    → AreNoneDue set trace due x y → KeepsBefore set trace decisions due x → KeepsBefore set trace decisions due y
before_sight set trace decisions due x y none before = record {
  each = λ t cut l sound at feasible. elim (cases_lt (due t) x) [
    | inl m ↦ before.each t cut m sound at feasible
    | inr m ↦ absurd (none.each t cut m l sound at feasible)
  ];
}

-- all are, if from x on all members have decided
pub before_all : (set : ℕ) (trace : Recorded) (decisions : List Decision) (due : Triple → ℕ) (x : ℕ) → ((y : ℕ) → x ≤ y
    → y ≤ trace.last → HaveDecidedBy set decisions y) → KeepsBefore set trace decisions due x → KeepsClaimInTime set trace decisions due
before_all set trace decisions due x decided before = record {
  each = λ t cut sound at feasible. elim (cases_lt (due t) x) [
    | inl l ↦ before.each t cut l sound at feasible
    | inr l ↦ decided (due t) l (let last = at.last in let end = at.extends.last in omega (arith, last, end))
  ];
}

-- A row that refutes the claim in a prefix is late in time, if each earlier deadline was kept. So its deadline is the
-- tick in which the prefix ends.
pub late_in_time : (set : ℕ) (trace cut : Recorded) (rows : List Row) (decisions : List Decision) (due : Triple → ℕ)
    (x : ℕ) (w : Late) → IsTrace cut → IsCutAt trace x cut → IsLater due → IsReport set cut rows
    → KeepsBefore set trace decisions due x → IsFirstLate set cut rows decisions due w
    → IsLateInTime set trace decisions due w
late_in_time set trace cut rows decisions due x w sound at later report before late =
    let last = at.last in
    let end = at.extends.last in
    let in_cut = late.due in
    let by = late.by in
    let low : w.deadline ≤ x = omega (arith, in_cut, last) in
    let t = triple_of w.row in
    let d = has_cut cut w.deadline sound in_cut in
    let there = IsCutAt-twice trace cut x sound.time at w.deadline d.cut d.sound.time low d.at in
    let of_report = report.sound w.row (Contains-slice_get rows late.place w.row late.row) in
    let begun = later.each t in
    let holds = IsFeasible-cut cut d.cut w.deadline d.sound.time d.at set t (omega (arith, begun, by)) of_report.front.feasible in
    let here : x ≡ w.deadline = elim (cases_lt w.deadline x) [
      | inr l ↦ omega (arith, l, low)
      | inl l ↦ absurd (
          let decided = before.each t d.cut (omega (arith, l, by)) d.sound (subst (λ y. IsCutAt trace y d.cut) by there) holds in
          late.proc.undecided ((subst (HaveDecidedBy set decisions) (sym by) decided).each w.proc late.proc.member))
    ] in
    record {
      by = late.by;
      due = omega (arith, in_cut, end);
      proc = late.proc;
      feasible = λ other timed cut_there. subst (λ (c : Recorded). IsFeasible set c t)
          (one_cut trace d.cut other w.deadline d.sound.time timed.time there cut_there) holds;
      first = before_less set trace decisions due x w.deadline low before;
      row = λ other timed cut_there. subst (λ (c : Recorded). IsLateByReport set c decisions due w)
          (one_cut trace cut other w.deadline sound.time timed.time (subst (λ y. IsCutAt trace y cut) here at) cut_there)
          (record { rows = rows; report = report; first = late });
    }

-- what is late in time refutes the claim
pub late_refutes : (set : ℕ) (trace : Recorded) (decisions : List Decision) (due : Triple → ℕ) (w : Late)
    → IsTrace trace → IsLateInTime set trace decisions due w → KeepsClaimInTime set trace decisions due → ⊥
late_refutes set trace decisions due w sound late kept =
    let c = has_cut trace w.deadline sound late.due in
    let decided = kept.each (triple_of w.row) c.cut c.sound
    (subst (λ y. IsCutAt trace y c.cut) late.by c.at) (late.feasible c.cut c.sound c.at) in
    late.proc.undecided ((subst (HaveDecidedBy set decisions) (sym late.by) decided).each w.proc late.proc.member)
