-- Rows have one verdict.
use Rattle.std.proofs.Common.{ℕ, ◌≡◌, inl, inr, List, refl, ap, sym, ◌∙◌, subst, arith}
use Rattle.std.proofs.lemmas.Option.{same_Some}
use Rattle.certificate_checker.proofs.Common.{Row, Miss, Gap, Recorded, IsTrace, IsTimed, Reason, NoRows, FirstNotOne}
use Rattle.certificate_checker.proofs.Common.{NotRising, BeyondEnd, NotNonIncreasing, SameAsBefore, BadMiss, BadGap}
use Rattle.certificate_checker.proofs.Common.{DeltaFails, PhiFails, Verdict, Yes, No, row_at, IsLongestMiss}
use Rattle.certificate_checker.proofs.Common.{IsLongestGap, HasRow, Stands, place_of, row_of, IsNotAfter, IsVerdict}
use Rattle.certificate_checker.proofs.LongestOrNone.{IsLongestMiss-unique, IsLongestGap-unique}

-- one row has a number
one_row : (rows : List Row) (j k : ℕ) (a : HasRow rows j) (b : HasRow rows k) → j ≡ k → a.row ≡ b.row
one_row rows j k a b e = same_Some a.row b.row (sym a.here ∙ ap (row_at rows) e ∙ b.here)

-- two reasons that hold against the same rows, with the same place in the list of reasons and the same row, are
-- one
one_reason : (set : ℕ) (trace : Recorded) (rows : List Row) (w v : Reason)
    → IsTimed trace → Stands set trace rows w → Stands set trace rows v → place_of w ≡ place_of v → row_of w ≡ row_of v → w ≡ v
one_reason set trace rows NoRows NoRows time a b p k = refl
one_reason set trace rows FirstNotOne FirstNotOne time a b p k = refl
one_reason set trace rows (NotRising i) (NotRising j) time a b p k = ap (λ (x : ℕ). NotRising x) k
one_reason set trace rows (BeyondEnd i) (BeyondEnd j) time a b p k = ap (λ (x : ℕ). BeyondEnd x) k
one_reason set trace rows (NotNonIncreasing i) (NotNonIncreasing j) time a b p k = ap (λ (x : ℕ). NotNonIncreasing x) k
one_reason set trace rows (SameAsBefore i) (SameAsBefore j) time a b p k = ap (λ (x : ℕ). SameAsBefore x) k
one_reason set trace rows (BadMiss i) (BadMiss j) time a b p k = ap (λ (x : ℕ). BadMiss x) k
one_reason set trace rows (BadGap i) (BadGap j) time a b p k = ap (λ (x : ℕ). BadGap x) k
one_reason set trace rows (DeltaFails i m) (DeltaFails j o) time a b p k =
    let g : (a.0).row.gst ≡ (b.0).row.gst = ap (λ (r : Row). r.gst) (one_row rows i j a.0 b.0 k) in
    let same = IsLongestMiss-unique set trace (b.0).row.gst m o time (subst (λ x. IsLongestMiss set trace x m) g a.2) b.2 in
    ap (λ (x : ℕ). DeltaFails x m) k ∙ ap (λ (x : Miss). DeltaFails j x) same
one_reason set trace rows (PhiFails i u) (PhiFails j w) time a b p k =
    let g : (a.0).row.gst ≡ (b.0).row.gst = ap (λ (r : Row). r.gst) (one_row rows i j a.0 b.0 k) in
    let same = IsLongestGap-unique set trace (b.0).row.gst u w (subst (λ x. IsLongestGap set trace x u) g a.2) b.2 in
    ap (λ (x : ℕ). PhiFails x u) k ∙ ap (λ (x : Gap). PhiFails j x) same
one_reason set trace rows _ _ time a b p k = absurd (omega (arith, p))

-- reasons of which each is not after the other are in the same place, and of the same row
same_place : (w v : Reason) → IsNotAfter w v → IsNotAfter v w → (place_of w ≡ place_of v) × (row_of w ≡ row_of v)
same_place w v (inl l) (inl m) = absurd (omega (arith, l, m))
same_place w v (inl l) (inr m) = absurd (let e = m.0 in omega (arith, l, e))
same_place w v (inr l) (inl m) = absurd (let e = l.0 in omega (arith, m, e))
same_place w v (inr l) (inr m) = (l.0, let x = l.1 in let y = m.1 in omega (arith, x, y))

-- rows have one verdict
pub IsVerdict-unique : (set : ℕ) (trace : Recorded) (rows : List Row) (a b : Verdict)
    → IsTrace trace → IsVerdict set trace rows a → IsVerdict set trace rows b → a ≡ b
IsVerdict-unique set trace rows Yes Yes t a b = refl
IsVerdict-unique set trace rows Yes (No v) t a b = absurd (a v b.0)
IsVerdict-unique set trace rows (No w) Yes t a b = absurd (b w a.0)
IsVerdict-unique set trace rows (No w) (No v) t a b =
    let same = same_place w v (a.1 v b.0) (b.1 w a.0) in
    ap (λ (x : Reason). No x) (one_reason set trace rows w v t.time a.0 b.0 same.0 same.1)
