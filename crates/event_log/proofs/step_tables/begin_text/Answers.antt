use Rattle.std.proofs.Common.{ℕ, ℤ, pos, negsuc, ◌≡◌, ◌∙◌, ◌+◌, ◌-◌, ◌*◌, ◌^◌, ◌<◌, ◌+ℤ◌, FitsSigned, IfOk, List, ap, sym, subst, refl, arith, rules, decimal, string_bytes, to_z}
use Rattle.std.specs.Int.{w128}
use Rattle.std.specs.Int.RustNames.{unsigned_abs}
use Rattle.std.specs.Fmt.{signed_decimal}
use Rattle.std.proofs.lemmas.Int.{ints, to_z-of_z, to_z_pos}
use Rattle.event_log.proofs.step_tables.begin_text.Goals as goal

-- if a sum with a number from 0 on is too great, the other number isn't below 0
too_late : (first : ℤ) (m : ℕ) → FitsSigned w128 first
    → m < 2 ^ 127 → ¬ FitsSigned w128 (first +ℤ pos m) → first +ℤ pos m ≡ pos (unsigned_abs first + m)
too_late (pos n) m f s h = refl
too_late (negsuc n) m f s h = absurd (h (omega (arith, ints)))

pub returns-in-None : goal.returns-in-None
returns-in-None c =
    let first = c.args.first in
    let m = c.from.result * c.args.width in
    let small : m < 2 ^ 127 = search rules in
    let own = to_z-of_z w128 first c.ranges.first in
    let add = to_z_pos w128 m small in
    let late : first +ℤ pos m ≡ pos (unsigned_abs first + m) =
    too_late first m c.ranges.first small (subst (λ (z : ℤ). ¬ FitsSigned w128 (first +ℤ z)) add
    (subst (λ (z : ℤ). ¬ FitsSigned w128 (z +ℤ to_z w128 m)) own c.in-None.ensures)) in
    let abs : c.unsigned_abs.result ≡ unsigned_abs first = c.unsigned_abs.ensures.value ∙ ap unsigned_abs own in
    let before : (c.args.tick - 1) * c.args.width ≡ m = ap (λ k. k * c.args.width) (sym (c.from.ensures ∙ c.saturating_sub.ensures)) in
    let same : decimal (c.unsigned_abs.result + m) ≡ signed_decimal (first +ℤ pos ((c.args.tick - 1) * c.args.width)) =
    ap (λ a. decimal (a + m)) abs ∙ sym (ap signed_decimal late) ∙ sym (ap (λ k. signed_decimal (first +ℤ pos k)) before) in
    subst (λ (x : List ℕ). IfOk c.to_string-in-None.result (λ text. string_bytes text ≡ x)) same c.to_string-in-None.ensures.ok
