-- The rows of a report: their bounds fit in the trace, and their stalls are whole silences.
use Rattle.std.proofs.Common.{ℕ, ◌≡◌, ◌+◌, ◌-◌, ◌<◌, ◌≤◌, inl, inr, List, [], ◌∷◌, length, map, get_or, All, Contains}
use Rattle.std.proofs.Common.{Option, None, Some, Bool, true, false, cond, ◌&&◌, refl, sym, subst, ap, ◌∙◌, suc, zero}
use Rattle.std.proofs.Common.{arith}
use Rattle.std.specs.Prelude.{IsSomeAnd, nat_le, slice_get}
use Rattle.std.specs.List.Sorted.{IsStrictlyIncreasing}
use Rattle.std.specs.Option.{option_and_then}
use Rattle.std.proofs.lemmas.Bool.{cases_lt}
use Rattle.std.proofs.lemmas.Bool.Decides.{nat_tests}
use Rattle.std.proofs.lemmas.List.{get_or-map, length-map}
use Rattle.std.proofs.lemmas.List.Elements.{Contains-get_or}
use Rattle.std.proofs.lemmas.Option.{same_Some, none-some, slice_get_cases, slice_get_read, slice_get_within, slice_get-get_or, get_or_from_slice_get}
use Rattle.step_trace.specs.declared.rows.Miss.{Miss}
use Rattle.step_trace.specs.declared.rows.Gap.{Gap}
use Rattle.step_trace.specs.declared.rows.Row.{Row}
use Rattle.step_trace.specs.Traces.{Recorded}
use Rattle.step_trace.specs.Ticks.{IsTimed, StepsIn}
use Rattle.step_trace.specs.Bounds.{PhiHolds}
use Rattle.step_trace.specs.Witnesses.{IsGap, GapRefutes, IsNamedGap, NamesMiss, NamesGap}
use Rattle.step_trace.specs.Fronts.{IsReport, triple_of}
use Rattle.step_trace.proofs.BoundLaws.{GapRefutes-sound}
use Rattle.step_trace.proofs.BoundDecisions.{steps_in_or_not}
use Rattle.step_trace.proofs.FrontCriterion.{IsPhi-on_front}
use Rattle.step_trace.proofs.ListMembers.{Contains-head, Contains-rest, Contains-slice_get}
use Rattle.front.specs.Reports.{Serves, first_of, last_begun, row_at}
use Rattle.front.proofs.ServingRows.{Serves-from_row, row_at-serves}
use Rattle.run_story.specs.CalmRows.{FitsIn}
use Rattle.run_story.specs.declared.stalls.Stall.{Stall}
use Rattle.run_story.specs.Stalls.{AreStalls, IsWholeSilence, gap_at}

module _ (members : ℕ) (trace : Recorded) where
  fits-miss : (g d : ℕ) (o : Option Miss) → IsTimed trace → 1 ≤ d → NamesMiss members trace g d o → d ≤ trace.last + 1
  fits-miss g d None time low named = omega (arith, named)
  fits-miss g d (Some m) time low named =
      let late = (time.inside m.missed _ named.1.miss.receive.step).1 in
      let long = named.1.long in
      omega (arith, late, long)

  fits-gap : (g f : ℕ) (o : Option Gap) → 1 ≤ f → NamesGap members trace g f o → f ≤ trace.last + 1
  fits-gap g f None low named = omega (arith, named)
  fits-gap g f (Some w) low named =
      let long = named.1.long in
      let inside = named.1.gap.inside in
      let start = named.1.gap.start in
      omega (arith, long, inside, start)

  -- the bounds of a report's rows are such as the trace may have
  pub fit_in : (rows : List Row) → IsTimed trace → IsReport members trace rows → All (FitsIn trace.last) rows
  fit_in rows time report = λ k d inside.
      let r = get_or rows k d in
      let row = report.sound r (Contains-get_or rows k d inside) in
      let delta : 1 ≤ r.delta = row.front.feasible.delta_positive in
      let phi : 1 ≤ r.phi = row.front.feasible.phi_positive in
      record {
        delta_low = delta;
        delta_high = fits-miss r.gst r.delta r.miss time delta row.miss;
        phi_low = phi;
        phi_high = fits-gap r.gst r.phi r.gap phi row.gap;
      }

  -- no gap from g on is as long as a processor bound that holds
  shorter : (g f : ℕ) (w : Gap) → PhiHolds members trace g f → IsGap members trace w → g ≤ w.from → w.to + 1 < w.from + f
  shorter g f w holds gap from = elim (cases_lt (w.to + 1) (w.from + f)) [
    | inl l ↦ l
    | inr m ↦ absurd (GapRefutes-sound members trace g f w (record { gap = gap; from = from; long = m }) holds)
  ]

  -- a gap with one more tick in which its processor takes no step
  with_before : (w : Gap) → IsGap members trace w → 1 < w.from
      → ¬ StepsIn trace (w.from - 1) w.proc → IsGap members trace (record { proc = w.proc; from = w.from - 1; to = w.to })
  with_before w gap low silent = record {
    member = gap.member;
    start = omega arith;
    order = (let order = gap.order in omega (arith, order));
    inside = gap.inside;
    silent = λ x from to. elim (cases_lt (w.from - 1) x) [
      | inl l ↦ gap.silent x (omega arith) to
      | inr m ↦ (let here : x ≡ w.from - 1 = omega arith in subst (λ (y : ℕ). ¬ StepsIn trace y w.proc) (sym here) silent)
    ];
  }

  with_after : (w : Gap) → IsGap members trace w → w.to < trace.last
      → ¬ StepsIn trace (w.to + 1) w.proc → IsGap members trace (record { proc = w.proc; from = w.from; to = w.to + 1 })
  with_after w gap high silent = record {
    member = gap.member;
    start = gap.start;
    order = (let order = gap.order in omega (arith, order));
    inside = omega arith;
    silent = λ x from to. elim (cases_lt w.to x) [
      | inr m ↦ gap.silent x from m
      | inl l ↦ (let here : x ≡ w.to + 1 = omega arith in subst (λ (y : ℕ). ¬ StepsIn trace y w.proc) (sym here) silent)
    ];
  }

  -- the rest of a gap from a later tick on
  later-gap : (w : Gap) (g : ℕ) → IsGap members trace w
      → w.from ≤ g → g ≤ w.to → IsGap members trace (record { proc = w.proc; from = g; to = w.to })
  later-gap w g gap low high = record {
    member = gap.member;
    start = (let start = gap.start in omega (arith, start));
    order = high;
    inside = gap.inside;
    silent = λ x from to. gap.silent x (omega arith) to;
  }

  -- what has begun by a tick is a row that begins at it or before
  begun-member : (rows : List Row) (g : ℕ) (q : Row) → last_begun rows g ≡ Some q → Contains rows q × (q.gst ≤ g)
  begun-member [] g q is = absurd (none-some q is)
  begun-member (r ∷ rest) g q is = go (last_begun rest g) refl (nat_le r.gst g) refl (λ y. begun-member rest g y) is where
    go : (o : Option Row) → last_begun rest g ≡ o → (b : Bool) → nat_le r.gst g ≡ b
        → ((y : Row) → last_begun rest g ≡ Some y → Contains rest y × (y.gst ≤ g))
        → first_of o (cond b (Some r) None) ≡ Some q → Contains (r ∷ rest) q × (q.gst ≤ g)
    go (Some y) e b t more f =
        let same : y ≡ q = same_Some y q f in
        let found = more q (e ∙ ap (λ (z : Row). Some z) same) in (Contains-rest r q rest found.0, found.1)
    go None e true t more f = subst (λ (z : Row). Contains (r ∷ rest) z × (z.gst ≤ g))
        (same_Some r q f) (Contains-head r rest, grind (arith, nat_tests))
    go None e false t more f = absurd (none-some q f)

  -- rows at later places begin later
  rising-far : (rows : List Row) (j k : ℕ) (a b : Row)
      → IsStrictlyIncreasing (map (λ (r : Row). r.gst) rows) → j < k → slice_get rows j ≡ Some a → slice_get rows k ≡ Some b → a.gst < b.gst
  rising-far rows j zero a b rising before at is = absurd (omega arith)
  rising-far rows j (suc k) a b rising before at is =
      let here = slice_get_within rows (suc k) b is in
      let size : length (map (λ (r : Row). r.gst) rows) ≡ length rows = length-map rows (λ (r : Row). r.gst) in
      let last = slice_get-get_or rows k a (omega arith) in
      let one = get_or-map (λ (r : Row). r.gst) rows k a 0 (omega arith) in
      let next : k + 1 ≡ suc k = omega arith in
      let two = get_or-map (λ (r : Row). r.gst) rows (suc k) a 0 here in
      let own = get_or_from_slice_get rows (suc k) b a is in
      let step = rw next at (rising k (omega (arith, size, here))) in
      let up : (get_or rows k a).gst < b.gst = subst (λ (r : Row). (get_or rows k a).gst < r.gst) own (rw (one, two) at step) in
      elim (cases_lt j k) [
        | inl l ↦ (let more = rising-far rows j k a (get_or rows k a) rising l at last in omega (arith, more, up))
        | inr m ↦ (let same : k ≡ j = omega arith in
            let first : get_or rows k a ≡ a = same_Some
            (get_or rows k a) a (sym last ∙ subst (λ (i : ℕ). slice_get rows i ≡ Some a) (sym same) at) in
            subst (λ (r : Row). r.gst < b.gst) first up)
      ]

-- the row of a gap
row_of_gap : (rows : List Row) (k : ℕ) (w : Gap) → gap_at rows k ≡ Some w → (r : Row) × (slice_get rows k ≡ Some r) × (r.gap ≡ Some w)
row_of_gap rows k w is = elim ((slice_get_cases rows k).1) [
  | inl found ↦ (found.0, found.2, sym (ap (option_and_then (λ r. r.gap)) found.2) ∙ is)
  | inr past ↦ absurd (none-some w (sym (ap (option_and_then (λ r. r.gap)) past.1) ∙ is))
]

module _ (members : ℕ) (trace : Recorded) (rows : List Row) (time : IsTimed trace) (report : IsReport members trace rows) where
  -- some row has begun at each tick
  some_begun : (h : ℕ) → 1 ≤ h → h ≤ trace.last → (q : Row) × (last_begun rows h ≡ Some q)
  some_begun h low high = go (last_begun rows h) refl
      (row_at-serves (record { len = trace.last; rows = rows }) h members trace time report refl low high) where
        either : (b : Bool) (n : Option Row) → cond b n n ≡ n
        either true n = refl
        either false n = refl

        go : (o : Option Row) → last_begun rows h ≡ o → IsSomeAnd
            (row_at (record { len = trace.last; rows = rows }) h) (Serves members trace h) → (q : Row) × (last_begun rows h ≡ Some q)
        go (Some q) e some = (q, e)
        go None e some =
            let none : row_at (record { len = trace.last; rows = rows }) h
            ≡ None = rw e (either (nat_le 1 h && nat_le h trace.last) None) in
            absurd (subst (λ (o : Option Row). IsSomeAnd o (Serves members trace h)) none some)

  -- the row before another applies to the tick before it
  serving-before : (k : ℕ) (r : Row) → slice_get rows k ≡ Some r
      → 1 < r.gst → (j : ℕ) × (q : Row) × (k ≡ j + 1) × (slice_get rows j ≡ Some q) × Serves members trace (r.gst - 1) q
  serving-before k r is low =
      let row = report.sound r (Contains-slice_get rows k r is) in
      let end : r.gst ≤ trace.last = row.front.feasible.end in
      let some = some_begun (r.gst - 1) (omega arith) (omega arith) in
      let begun = begun-member members trace rows (r.gst - 1) some.0 some.1 in
      let first = place begun.0.0 some.0 (slice_get_read rows (length rows) begun.0.0 some.0 refl begun.0.1 (sym begun.0.2)) begun.1 in
      let j = k - 1 in
      let inside = slice_get_within rows k r is in
      let q = get_or rows j r in
      let at = slice_get-get_or rows j r (omega arith) in
      let before = rising-far members trace rows j k q r report.rising (omega (arith, first)) at is in (
        j,
        q,
        omega (arith, first),
        at,
        Serves-from_row members trace rows (r.gst - 1) q report (Contains-slice_get rows j q at) (omega (arith, before)) (omega arith)
            (λ o c l.
            let i = c.0 in
            let here = slice_get_read rows (length rows) i o refl c.1 (sym c.2) in
            let below = place i o here l in
            elim (cases_lt i j) [
              | inl m ↦ (let up = rising-far members trace rows i j o q report.rising m here at in omega (arith, up))
              | inr m ↦ (let same : i ≡ j = omega (arith, below) in
                  let own : o ≡ q = same_Some o q (sym here ∙ subst (λ (x : ℕ). slice_get rows x ≡ Some q) (sym same) at) in
                  subst (λ (x : Row). o.gst ≤ x.gst) own (omega arith))
            ]),
      )
    where
      place : (i : ℕ) (o : Row) → slice_get rows i ≡ Some o → o.gst ≤ r.gst - 1 → i < k
      place i o here l = elim (cases_lt i k) [
        | inl m ↦ m
        | inr m ↦ elim (cases_lt k i) [
          | inl after ↦ absurd (let up = rising-far members trace rows k i r o report.rising after is here in omega (arith, up))
          | inr equal ↦ absurd (let same : i ≡ k = omega arith in
              let own : o ≡ r = same_Some o r (sym here ∙ subst (λ (x : ℕ). slice_get rows x ≡ Some r) (sym same) is) in
              let gst : o.gst ≡ r.gst = ap (λ (x : Row). x.gst) own in omega (arith, gst))
        ]
      ]

  -- a row names the same silence if it applies to the tick before the one from which a gap is named, and its processor
  -- takes no step from there either
  same_silence : (r q : Row) (w : Gap) → PhiHolds members trace r.gst r.phi → (1 < r.phi) × IsNamedGap members trace r.gst r.phi w
      → w.from ≡ r.gst → IsGap members trace (record { proc = w.proc; from = r.gst - 1; to = w.to })
      → Serves members trace (r.gst - 1) q → Contains rows q → IsSomeAnd q.gap (λ v. (v.proc ≡ w.proc) × (v.to ≡ w.to))
  same_silence r q w holds named here gap serves member =
      let g = r.gst in
      let o : Gap = record { proc = w.proc; from = g - 1; to = w.to } in
      let long = named.1.long in
      let some : 1 ≤ g - 1 = gap.start in
      let less : r.phi < q.phi = (let wide = shorter members trace (g - 1) q.phi o serves.phi.holds gap (omega arith) in
      omega (arith, wide, long, here, some)) in
      go q.gap refl (serves.gap r.phi (let two = named.0 in omega (arith, two)) less) (report.sound q member).gap
    where
      go : (e : Option Gap) → q.gap ≡ e → IsSomeAnd e (λ v. GapRefutes members trace (r.gst - 1) r.phi v)
          → NamesGap members trace q.gst q.phi e → IsSomeAnd e (λ v. (v.proc ≡ w.proc) × (v.to ≡ w.to))
      go (Some v) e refutes names =
          let g = r.gst in
          let two = named.0 in
          let some : 1 ≤ g - 1 = gap.start in
          let long = named.1.long in
          let from = refutes.from in
          let wide = refutes.long in
          let begins : v.from < g = elim (cases_lt v.from g) [
            | inl l ↦ l
            | inr m ↦ absurd (let short = shorter members trace g r.phi v holds refutes.gap m in omega (arith, short, wide))
          ] in
          let start : v.from ≡ g - 1 = omega (arith, begins, from) in
          let rest = later-gap members trace v g refutes.gap (omega (arith, begins)) (omega (arith, start, wide, two, some)) in
          let short = shorter members trace g r.phi (record { proc = v.proc; from = g; to = v.to }) holds rest (omega arith) in
          let ends : v.to ≡ w.to = omega (arith, short, wide, start, long, here, some) in
          let one = named.1.least (record { proc = v.proc; from = g; to = v.to }) rest (sym here) (omega (arith, ends, long, here)) in
          let own = names.1.long in
          let other = names.1.least (record { proc = w.proc; from = g - 1; to = w.to }) gap (sym start) (omega (arith, own, start, ends)) in
          (omega (arith, one, other), ends)
      go None e refutes names = refutes

  -- the gap of a stall is a whole silence
  pub whole-stall : (stalls : List Stall) → AreStalls rows stalls → (s : Stall) → Contains stalls s → IsWholeSilence trace s.gap
  whole-stall stalls are s c =
      let stall = are.right s c in
      let at = row_of_gap rows s.first s.gap stall.named.named in
      let r = at.0 in
      let row = report.sound r (Contains-slice_get rows s.first r at.1) in
      let holds : PhiHolds members trace r.gst r.phi = (IsPhi-on_front members trace (triple_of r) row.front).holds in
      let names : (1 < r.phi) × IsNamedGap members trace r.gst r.phi s.gap = subst (NamesGap members trace r.gst r.phi) at.2 row.gap in
      let long = names.1.long in
      let from = names.1.from in
      record {
        before = λ low. elim (steps_in_or_not trace (s.gap.from - 1) s.gap.proc) [
          | inl step ↦ step
          | inr silent ↦ (
              let wider = with_before members trace s.gap names.1.gap low silent in
              elim (cases_lt r.gst s.gap.from) [
                | inl l ↦ absurd (let short = shorter members trace r.gst r.phi
                    (record { proc = s.gap.proc; from = s.gap.from - 1; to = s.gap.to }) holds wider (omega arith) in
                    omega (arith, short, long, low))
                | inr m ↦ (
                    let here : s.gap.from ≡ r.gst = omega (arith, from) in
                    let before = serving-before s.first r at.1 (omega (arith, here, low)) in
                    let same = same_silence r before.1 s.gap holds names here
                    (subst (λ (n : ℕ). IsGap members trace (record { proc = s.gap.proc; from = n - 1; to = s.gap.to })) here wider)
                    before.4 (Contains-slice_get rows before.0 before.1 before.3) in
                    absurd (no_earlier stalls are s c before.0 before.1 before.2 before.3 same))
              ])
        ];
        after = λ high. elim (steps_in_or_not trace (s.gap.to + 1) s.gap.proc) [
          | inl step ↦ step
          | inr silent ↦ absurd (
              let wider = with_after members trace s.gap names.1.gap high silent in
              let short = shorter members trace r.gst r.phi
              (record { proc = s.gap.proc; from = s.gap.from; to = s.gap.to + 1 }) holds wider from in
              omega (arith, short, long))
        ];
      }
    where
      -- the row before a stall doesn't name its silence
      no_earlier : (stalls : List Stall) → AreStalls rows stalls → (s : Stall) → Contains stalls s → (j : ℕ) (q : Row)
          → s.first ≡ j + 1 → slice_get rows j ≡ Some q → IsSomeAnd q.gap (λ v. (v.proc ≡ s.gap.proc) × (v.to ≡ s.gap.to)) → ⊥
      no_earlier stalls are s c j q next at same = go q.gap refl same where
        own : (y : ℕ) (o : Stall) → y < length stalls → get_or stalls y o ≡ o → get_or stalls y s ≡ o
        own y o inside is = get_or_from_slice_get stalls y o s (slice_get_read stalls (length stalls) y o refl inside (sym is))

        apart : (o : Stall) → Contains stalls o → o.first ≤ j → o.last < s.first
        apart o d low =
            let stall = are.right s c in
            let order = stall.named.order in
            let x = c.0 in
            let y = d.0 in
            elim (cases_lt y x) [
              | inl l ↦ (let before = are.ordered y x s l c.1 in
                  subst (λ (z : Stall). o.last < z.first)
                  (c.2) (subst (λ (z : Stall). z.last < (get_or stalls x s).first) (own y o d.1 d.2) before))
              | inr m ↦ elim (cases_lt x y) [
                | inl l ↦ absurd (let after = are.ordered x y s l d.1 in
                    let after_ = subst (λ (z : Stall). s.last < z.first)
                    (own y o d.1 d.2) (subst (λ (z : Stall). z.last < (get_or stalls y s).first) c.2 after) in
                    omega (arith, after_, order, low, next))
                | inr n ↦ absurd (let same : y ≡ x = omega arith in
                    let equal : o ≡ s = sym (own y o d.1 d.2) ∙ subst (λ (i : ℕ). get_or stalls y s ≡ get_or stalls i s) same refl ∙ c.2 in
                    let begins : o.first ≡ s.first = ap (λ (z : Stall). z.first) equal in omega (arith, begins, low, next))
              ]
            ]

        go : (e : Option Gap) → q.gap ≡ e → IsSomeAnd e (λ v. (v.proc ≡ s.gap.proc) × (v.to ≡ s.gap.to)) → ⊥
        go None e none = none
        go (Some v) e alike =
            let here : gap_at rows j ≡ Some v = ap (option_and_then (λ r. r.gap)) at ∙ e in
            let stall = are.right s c in
            let inside = stall.named.inside in
            let order = stall.named.order in
            let found = are.complete j (omega (arith, inside, order, next)) (rw here refl) in
            let o = found.0 in
            let first = found.2 in
            let last = found.3 in
            let one = are.right o found.1 in
            let ends : o.last < s.first = apart o found.1 first in
            let names = subst (λ (x : Option Gap). IsSomeAnd x (λ z. (z.proc ≡ o.gap.proc) × (z.to ≡ o.gap.to))) here
            (one.named.each j first last) in
            let place : o.last + 1 ≡ s.first = omega (arith, ends, last, next) in
            one.ends (rw (place, stall.named.named) (sym alike.0 ∙ names.0, sym alike.1 ∙ names.1))
