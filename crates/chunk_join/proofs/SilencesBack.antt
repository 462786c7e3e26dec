-- The silences of a part that is a whole trace, scanned from the last one back: the longest gap from a tick on.
use Rattle.std.proofs.Common.{ℕ, ◌≡◌, ◌+◌, ◌-◌, ◌<◌, ◌≤◌, ◌⊎◌, inl, inr, length, Option, Some, None, zero, suc, refl, sym, ap, subst, ◌∙◌, arith}
use Rattle.std.specs.Prelude.{slice_get}
use Rattle.std.proofs.lemmas.Bool.{cases_lt}
use Rattle.std.proofs.lemmas.Option.{same_Some, none-some, slice_get-get_or}
use Rattle.step_trace.specs.declared.rows.Gap.{Gap}
use Rattle.step_trace.specs.Traces.{Recorded}
use Rattle.step_trace.specs.Ticks.{StepsIn}
use Rattle.step_trace.specs.Witnesses.{IsGap}
use Rattle.suffix_staircase.specs.declared.levels.Level.{Level}
use Rattle.suffix_staircase.specs.Levels.{StandsBefore}
use Rattle.suffix_staircase.specs.Analysis.{KnowsGaps, with_gap}
use Rattle.suffix_staircase.proofs.GapBounds.{GapsLowered, IsLongestOver, GapsLowered-with_over}
use Rattle.suffix_staircase.proofs.LevelBounds.{StandsBefore-itself}
use Rattle.chunk_join.specs.Summaries.{EndsBefore, IsLongest, Summary}
use Rattle.chunk_join.specs.Sufficient.{Suffices, IsGapCovered}
use Rattle.chunk_join.specs.Laws.SilencesJoined.{first_silent, last_silent}
use Rattle.chunk_join.specs.Finishes.{last_at, with_silence, BeginAfter}
use Rattle.chunk_join.proofs.MessagesBack.{slice-Contains, Rises-slices, last_at-Contains}

-- For any silence, the level with it may come before the one without.

StandsBefore-with_gap : (level : Level) (p g until : ℕ) → StandsBefore (with_gap level p g until) level
StandsBefore-with_gap level p g until =
    record { delta = grind arith; phi = grind arith; miss = λ same. grind arith; gap = λ same. grind (arith, same) }

pub StandsBefore-with_silence : (level : Level) (g : ℕ) (o : Option Gap) → StandsBefore (with_silence level g o) level
StandsBefore-with_silence level g None = StandsBefore-itself level
StandsBefore-with_silence level g (Some w) = StandsBefore-with_gap level w.proc g (w.to + 1)

-- An empty gap changes nothing.
with_gap-none : (level : Level) (p g : ℕ) → 1 ≤ level.phi → with_gap level p g g ≡ level
with_gap-none level p g l = grind (arith, l)

-- a longest silence with this gap in it
record IsAround (set : ℕ) (t : Recorded) (w v : Gap) : Type 0 where
  longest : IsLongest set t 0 t.last v
  proc : v.proc ≡ w.proc
  from : v.from ≤ w.from
  to : w.to ≤ v.to

-- each gap is in one
around : (set : ℕ) (t : Recorded) (w : Gap) → IsGap set t w → (v : Gap) × IsAround set t w v
around set t w gap =
    let start = gap.start in
    let order = gap.order in
    let inside = gap.inside in
    let first : 0 + 1 + (w.from - 1) ≡ w.from = omega (arith, start) in
    let end : w.to + (t.last - w.to) ≡ t.last = omega (arith, inside) in
    let b = first_silent t w.proc 0 (w.from - 1) (λ s. gap.silent w.from (omega arith) order (subst (λ x. StepsIn t x w.proc) first s)) in
    let e = last_silent t w.proc w.to (t.last - w.to) (λ s. gap.silent w.to order (omega arith) s) in
    let low = b.1 in
    let from = b.2 in
    let to = e.1 in
    let v : Gap = record { proc = w.proc; from = b.0; to = e.0 } in (
      v,
      record {
        longest = record {
          gap = record {
            member = gap.member;
            start = omega (arith, low);
            order = omega (arith, from, first, order, to);
            inside = omega (arith, e.2, end);
            silent = λ x l h s. elim (cases_lt x w.from) [
              | inl before ↦ b.3 x l (omega (arith, before, first)) s
              | inr c ↦ elim (cases_lt w.to x) [
                | inl later ↦ e.3 x (omega (arith, later)) h s
                | inr d ↦ gap.silent x (omega (arith, c)) (omega (arith, d)) s
              ]
            ];
          };
          after = low;
          until = omega (arith, e.2, end);
          left = elim b.4 [ inl f ↦ inl (omega (arith, f)) | inr s ↦ inr s ];
          right = elim e.4 [ inl f ↦ inl (omega (arith, f, end)) | inr s ↦ inr s ];
        };
        proc = refl;
        from = omega (arith, from, first);
        to = to;
      },
    )

-- Of a gap from tick g on and the last silence that begins by then: the gap doesn't end later. If it ends as late,
-- its processor isn't less.
record IsTopped (w u : Gap) : Type 0 where
  until : u.to ≤ w.to
  proc : u.to ≡ w.to → w.proc ≤ u.proc

-- what covers a silence ends no earlier, and at one end is of no greater processor
ends_later : (v w : Gap) → (v ≡ w) ⊎ EndsBefore v w → (v.to ≤ w.to) × (v.to ≡ w.to → w.proc ≤ v.proc)
ends_later v w (inl same) = let p = ap (λ (x : Gap). x.to) same in
    let q = ap (λ (x : Gap). x.proc) same in (omega (arith, p), λ e. omega (arith, q))
ends_later v w (inr (inl l)) = (omega (arith, l), λ e. absurd (omega (arith, e, l)))
ends_later v w (inr (inr e)) = (omega (arith, e.0), λ f. omega (arith, e.1))

-- A gap from tick g on is within the last silence that begins by then, or no longer than a later one.
topped : (set : ℕ) (t : Recorded) (s : Summary) → Suffices set t s → (n g f : ℕ) (o : Option Gap) → n ≤ length s.silent
    → BeginAfter s.silent g n → KnowsGaps set t (g + 1) f o → (u : Gap) → IsGap set t u → u.from ≡ g
    → ((w : Gap) × (last_at s.silent n ≡ Some w) × IsTopped w u) ⊎ (u.to + 1 < g + f)
topped set t s a n g f o long later known u gap from = elim (cases_lt g c.by.from) [
  | inl beyond ↦ inr (
      let v = a.silent_sound c.by c.listed in
      let short = known.shorter c.by v.gap (omega (arith, beyond)) in
      omega (arith, short, c.long, is.from, is.to, from, gap.order))
  | inr begun ↦ inl (go n long later begun)
] where
  is : IsAround set t u (around set t u gap).0
  is = (around set t u gap).1

  c : IsGapCovered s.silent (around set t u gap).0
  c = a.covered (around set t u gap).0 is.longest

  at : (k : ℕ) × (slice_get s.silent k ≡ Some c.by)
  at = slice-Contains s.silent c.by c.listed

  go : (n : ℕ) → n ≤ length s.silent → BeginAfter s.silent g n → c.by.from ≤ g → (w : Gap) × (last_at s.silent n ≡ Some w) × IsTopped w u
  go zero long later begun = absurd (let l = later at.0 c.by (omega arith) at.1 in omega (arith, l, begun))
  go (suc n) long later begun =
      let own = slice_get-get_or s.silent n c.by (omega (arith, long)) in
      let e = ends_later _ c.by c.later in
      let until = e.0 in
      let tie = e.1 in
      let proc = is.proc in
      let to = is.to in (
        _,
        own,
        elim (cases_lt n at.0) [
          | inl beyond ↦ absurd (let l = later at.0 c.by (omega (arith, beyond)) at.1 in omega (arith, l, begun))
          | inr inside ↦ elim (cases_lt at.0 n) [
            | inl below ↦ elim (Rises-slices EndsBefore s.silent at.0 n c.by _ a.silent_rising at.1 own below) [
              | inl e ↦ record { until = omega (arith, e, to, until); proc = λ same. absurd (omega (arith, e, to, until, same)) }
              | inr e ↦ (record {
                until = omega (arith, e.0, to, until);
                proc = λ f. (let p = tie (omega (arith, f, e.0, to, until)) in omega (arith, e.1, proc, p));
              })
            ]
            | inr above ↦ (let e : at.0 ≡ n = omega (arith, above, inside) in
                let same = same_Some _ _ (sym at.1 ∙ ap (slice_get s.silent) e ∙ own) in
                let p = ap (λ (x : Gap). x.proc) same in
                let q = ap (λ (x : Gap). x.to) same in
                record {
                  until = omega (arith, q, to, until);
                  proc = λ f. (let r = tie (omega (arith, f, q, to, until)) in omega (arith, p, proc, r));
                })
          ]
        ],
      )

-- The last silence that begins by tick g has the longest gap from g on, or that gap is no longer than a later one.
IsLongestOver-top : (set : ℕ) (t : Recorded) (s : Summary) → Suffices set t s → (n g f : ℕ) (o : Option Gap) (w : Gap)
    → 1 ≤ g → n ≤ length s.silent → BeginAfter s.silent g n → KnowsGaps set t (g + 1) f o → last_at s.silent n ≡ Some w
    → w.from ≤ g → IsLongestOver set t g f w.proc (w.to + 1)
IsLongestOver-top set t s a n g f o w start long later known top from = record {
  gap = λ l. record {
    member = own.gap.member;
    start = start;
    order = omega (arith, l);
    inside = omega (arith, own.gap.inside);
    silent = λ x b e s. own.gap.silent x (omega (arith, b, from)) (omega (arith, e)) s;
  };
  longest = λ u i e. elim (topped set t s a n g f o long later known u i e) [
    | inl h ↦ inl (omega (arith, (is u h).until))
    | inr short ↦ inr short
  ];
  least = λ u i e long_enough same. elim (topped set t s a n g f o long later known u i e) [
    | inl h ↦ (is u h).proc (omega (arith, same))
    | inr short ↦ absurd (omega (arith, short, long_enough))
  ];
} where
  own : IsLongest set t 0 t.last w
  own = a.silent_sound w (last_at-Contains s.silent n w top)

  is : (u : Gap) → (v : Gap) × (last_at s.silent n ≡ Some v) × IsTopped v u → IsTopped w u
  is u h = subst (λ v. IsTopped v u) (same_Some h.0 w (sym h.1 ∙ top)) h.2

-- If no silence begins by then, each gap from g on is shorter than that.
IsLongestOver-none : (set : ℕ) (t : Recorded) (s : Summary) → Suffices set t s → (n g f : ℕ) (o : Option Gap)
    → n ≤ length s.silent → BeginAfter s.silent g n → KnowsGaps set t (g + 1) f o → last_at s.silent n ≡ None
    → IsLongestOver set t g f 0 g
IsLongestOver-none set t s a n g f o long later known top = record {
  gap = λ l. absurd (omega (arith, l));
  longest = λ u i e. elim (topped set t s a n g f o long later known u i e) [
    | inl h ↦ absurd (none-some h.0 (sym top ∙ h.1))
    | inr short ↦ inr short
  ];
  least = λ u i e long_enough same. elim (topped set t s a n g f o long later known u i e) [
    | inl h ↦ absurd (none-some h.0 (sym top ∙ h.1))
    | inr short ↦ absurd (omega (arith, short, long_enough))
  ];
}

-- One tick back the level takes that gap.
pub GapsLowered-with_silence : (set : ℕ) (t : Recorded) (s : Summary) → Suffices set t s → (n g : ℕ) (level : Level)
    → 1 ≤ g → 1 ≤ level.phi → n ≤ length s.silent → BeginAfter s.silent g n → ((w : Gap) → last_at s.silent n ≡ Some w → w.from ≤ g)
    → KnowsGaps set t (g + 1) level.phi level.gap → GapsLowered set t g level (with_silence level g (last_at s.silent n))
GapsLowered-with_silence set t s a n g level start positive long later begun known = go (last_at s.silent n) refl where
  go : (o : Option Gap) → last_at s.silent n ≡ o → GapsLowered set t g level (with_silence level g o)
  go None e = subst (λ (l : Level). GapsLowered set t g level l) (with_gap-none level 0 g positive)
      (GapsLowered-with_over set t g 0 g level
      (IsLongestOver-none set t s a n g level.phi level.gap long later known e) known)
  go (Some w) e = GapsLowered-with_over set t g w.proc
      (w.to + 1) level (IsLongestOver-top set t s a n g level.phi level.gap w start long later known e (begun w e)) known
