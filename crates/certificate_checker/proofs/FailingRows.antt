-- Rows of which a bound doesn't hold, scanned from the last one back.
use Rattle.std.proofs.Common.{ℕ, ◌≡◌, ◌+◌, ◌<◌, ◌≤◌, inl, inr, List, length, get_or, Option, Some, None, ap, subst, arith}
use Rattle.std.proofs.lemmas.Bool.{cases_eq, cases_lt}
use Rattle.step_trace.proofs.ReportRows.{row_at_within}
use Rattle.certificate_checker.proofs.Common.{Miss, Row, IsMiss, Recorded, tick_of, DeltaHolds, MissRefutes-sound}
use Rattle.certificate_checker.proofs.Common.{DeltaHolds-unrefuted, DeltaFails, row_at, Stands, IsFirstWith, AreInOrder}
use Rattle.certificate_checker.proofs.Common.{HasNoMissAfter, IsLongestMissAfter, span_of, AreFrom, AreBefore}
use Rattle.certificate_checker.proofs.RowSearches.{no_row, row_at_next, row_at_same}

-- the first number after k of which this is so, with what it is so of
abbrev pub FoundAfter : {X : Type 0} → (ℕ → X → Type 0) → ℕ → Option (ℕ × X) → Type 0
FoundAfter P k None = (j : ℕ) (x : _) → k < j → ¬ P j x
FoundAfter P k (Some f) = (k < f.0) × P f.0 f.1 × ((j : ℕ) (x : _) → k < j → P j x → f.0 ≤ j)

-- it is so of the next number
pub found_here : {X : Type 0} (P : ℕ → X → Type 0) (k : ℕ) (x : X) → P (k + 1) x → FoundAfter P k (Some (k + 1, x))
found_here P k x p = (omega arith, p, λ j y l q. omega (arith, l))

-- or it isn't
pub found_passed : {X : Type 0} (P : ℕ → X → Type 0) (k : ℕ) (o : Option (ℕ × X))
    → ((x : X) → ¬ P (k + 1) x) → FoundAfter P (k + 1) o → FoundAfter P k o
found_passed P k None other h = λ j x l p. elim (cases_eq j (k + 1)) [
  | inl e ↦ other x (subst (λ (i : ℕ). P i x) e p)
  | inr e ↦ h j x (omega (arith, e, l)) p
]
found_passed P k (Some f) other h = (
  let a = h.0 in omega (arith, a),
  h.1,
  λ j x l p. elim (cases_eq j (k + 1)) [
    | inl e ↦ absurd (other x (subst (λ (i : ℕ). P i x) e p))
    | inr e ↦ h.2 j x (omega (arith, e, l)) p
  ],
)

-- it is so of no number 0
pub found_all : {X : Type 0} (P : ℕ → X → Type 0) (o : Option (ℕ × X))
    → ((j : ℕ) (x : X) → P j x → 0 < j) → FoundAfter P 0 o → IsFirstWith P o
found_all P None positive h = λ j x p. h j x (positive j x p) p
found_all P (Some f) positive h = (h.1, λ j x p. h.2 j x (positive j x p) p)

-- the steps after a number are from each earlier tick on
pub AreFrom-earlier : (t : Recorded) (done g h : ℕ) → g ≤ h → AreFrom t done h → AreFrom t done g
AreFrom-earlier t done g h l a k x e b = let c = a k x e b in omega (arith, c, l)

-- the stabilization time of a scanned row is at most the next one's
pub gst_below : (rows : List Row) (last i j : ℕ) (r : Row)
    → AreInOrder rows last → i < length rows → j ≤ i → row_at rows j ≡ Some r → r.gst ≤ (get_or rows i no_row).gst
gst_below rows last i j r order inside l e = let above =
    order.rising j (i + 1) r (get_or rows i no_row) (omega (arith, l)) e (row_at_next rows i no_row inside) in omega (arith, above)

-- so the steps that are from the one on are from the other on
pub from_below : (t : Recorded) (rows : List Row) (i after : ℕ) → AreInOrder rows t.last → i < length rows
    → AreFrom t after (get_or rows i no_row).gst → (j : ℕ) (r : Row) → j ≤ i → row_at rows j ≡ Some r → AreFrom t after r.gst
from_below t rows i after order inside from j r l e =
    AreFrom-earlier t after r.gst (get_or rows i no_row).gst (gst_below rows t.last i j r order inside l e) from

-- a reason of a row speaks of a row
pub delta_row_low : (set : ℕ) (t : Recorded) (rows : List Row) (j : ℕ) (m : Miss) → Stands set t rows (DeltaFails j m) → 0 < j
delta_row_low set t rows j m s = let w = row_at_within rows j s.0.row s.0.here in omega (arith, w)

-- a miss of a message sent from tick g on is of one after the steps that are before it
sent_after : (set : ℕ) (t : Recorded) (done g : ℕ) (o : Miss) → AreBefore t done g → IsMiss set t o
    → g ≤ tick_of t o.sent → done < o.sent
sent_after set t done g o below m from = elim (cases_lt done o.sent) [
  | inl h ↦ h
  | inr h ↦ absurd (omega (arith, below o.sent _ m.message.sent h, from))
]

-- the bound doesn't hold if the longest miss is as long
pub delta_fails : (set : ℕ) (t : Recorded) (rows : List Row) (i done : ℕ) (w : Miss) → i < length rows
    → IsLongestMissAfter set t done w → AreFrom t done (get_or rows i no_row).gst
    → AreBefore t done (get_or rows i no_row).gst → (get_or rows i no_row).delta ≤ span_of t w
    → Stands set t rows (DeltaFails (i + 1) w)
delta_fails set t rows i done w inside l above below long =
    let from = above w.sent _ l.miss.message.sent l.after in (
      record { row = get_or rows i no_row; here = row_at_next rows i no_row inside },
      MissRefutes-sound set t _ _ w (record { miss = l.miss; from = from; long = omega (arith, long, l.miss.late) }),
      record {
        miss = l.miss;
        from = from;
        longest = λ o m g. l.longest o m (sent_after set t done _ o below m g);
        greatest = λ o m g. l.greatest o m (sent_after set t done _ o below m g);
      },
    )

-- if there is no miss from there on, the row holds
pub delta_stands_none : (set : ℕ) (t : Recorded) (rows : List Row) (i done : ℕ) → HasNoMissAfter set t done
    → AreBefore t done (get_or rows i no_row).gst → (m : Miss) → ¬ Stands set t rows (DeltaFails (i + 1) m)
delta_stands_none set t rows i done none below m s =
    let same = ap (λ (r : Row). r.gst) (row_at_same rows i s.0.row no_row s.0.here) in
    none m s.2.miss (sent_after set t done _ m below s.2.miss (omega (arith, s.2.from, same)))

-- or if the longest is shorter than the bound
pub delta_stands_short : (set : ℕ) (t : Recorded) (rows : List Row) (i done : ℕ) (w : Miss)
    → IsLongestMissAfter set t done w → AreBefore t done (get_or rows i no_row).gst
    → span_of t w < (get_or rows i no_row).delta → (m : Miss) → ¬ Stands set t rows (DeltaFails (i + 1) m)
delta_stands_short set t rows i done w l below short m s =
    let fails = subst (λ (r : Row). ¬ DeltaHolds set t r.gst r.delta) (row_at_same rows i s.0.row no_row s.0.here) s.1 in
    fails (DeltaHolds-unrefuted set t _ _ (omega (arith, short)) (λ o r.
    let most = l.longest o r.miss (sent_after set t done _ o below r.miss r.from) in
    omega (arith, r.long, l.miss.late, most, short)))
