-- The times by which two ticks begin give the only length of a tick, and the only time of tick 1.
use Rattle.std.proofs.Common.{ℕ, ◌≡◌, ◌+◌, ◌-◌, ◌*◌, ◌/◌, ◌^◌, ◌<◌, ◌≤◌, min, ap, ◌∙◌, arith}
use Rattle.std.proofs.Math.Nat.{add-mul, mul-div_cancel_left}
use Rattle.std.proofs.lemmas.Nat.{mul-le}

-- The later tick begins later, by the length of the ticks between both.
between : (width before later : ℕ) → before < later → later * width ≡ before * width + (later - before) * width
between width before later order =
    let whole : later ≡ before + (later - before) = omega (arith, order) in
    ap (λ n. n * width) whole ∙ add-mul before (later - before) width

pub between-width : (first width before later begin end : ℕ) → begin ≡ first + before * width → end ≡ first + later * width → before < later
    → (end - begin) / (later - before) ≡ width
between-width first width before later begin end b e order =
    let some : 0 < later - before = omega (arith, order) in
    let parts = between width before later order in
    let long : end - begin ≡ (later - before) * width = omega (arith, b, e, parts) in
    ap (λ n. n / (later - before)) long ∙ mul-div_cancel_left width some

pub between-order : (first width before later begin end : ℕ)
    → 1 ≤ width → begin ≡ first + before * width → end ≡ first + later * width → before < later → begin < end
between-order first width before later begin end positive b e order =
    let parts = between width before later order in
    let more : 1 * 1 ≤ (later - before) * width = mul-le 1 1 (later - before) width (omega (arith, order)) positive in
    omega (arith, b, e, parts, more)

-- the time of tick 1, with a product that is cut off at 64 bits
pub between-first : (first width before begin other : ℕ) → begin < 2 ^ 64 → begin ≡ first + before * width → other ≡ width
    → (min (before * other) (2 ^ 64 - 1) ≤ begin) × (begin - min (before * other) (2 ^ 64 - 1) ≡ first)
between-first first width before begin other small b same =
    let product : before * other ≡ before * width = ap (λ n. before * n) same in
    (omega (arith, small, b, product), omega (arith, small, b, product))
