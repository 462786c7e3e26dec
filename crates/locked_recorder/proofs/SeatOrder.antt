-- Seats in the order of their processors.
use Rattle.std.proofs.Common.{ℕ, suc, ◌≡◌, ◌+◌, ◌<◌, List, [], ◌∷◌, length, get_or, map, refl, sym, ap, ◌∙◌, arith}
use Rattle.std.specs.List.{range_with_len}
use Rattle.std.proofs.lemmas.List.FromFn.{length-range_with_len, get_or-range_with_len}
use Rattle.std.proofs.lemmas.List.{length-map, get_or-map}
use Rattle.step_trace.specs.Configurations.{Setup}
use Rattle.locked_recorder.specs.Seats.{Turns}
use Rattle.locked_recorder.specs.Audits.{AreInOrder}

-- each of the first k seats is that of its processor
abbrev pub AreFirst : ℕ → List Turns → Type 0
AreFirst k seats = (i : ℕ) (d : Turns) → i < k → (get_or seats i d).proc ≡ i + 1

places : (seats : List Turns) (a : ℕ) → ((i : ℕ) (d : Turns) → i < length seats → (get_or seats i d).proc ≡ a + i)
    → map (λ s. s.proc) seats ≡ range_with_len a (length seats)
places [] a each = refl
places (x ∷ seats) a each =
    let first : x.proc ≡ a + 0 = each 0 x (omega arith) in
    let same : x.proc ≡ a = omega arith in
    rw same (ap (λ rest. a ∷ rest) (places seats (a + 1) (λ i d l. let e = each (suc i) d (omega arith) in omega arith)))

-- as many as processors, each in its place
pub AreInOrder-first : (c : Setup) (seats : List Turns) → length seats ≡ c.n → AreFirst (length seats) seats → AreInOrder c seats
AreInOrder-first c seats count first =
    places seats 1 (λ i d l. let e = first i d l in omega arith) ∙ ap (λ n. range_with_len 1 n) count

-- so there are as many
pub length-in_order : (c : Setup) (seats : List Turns) → AreInOrder c seats → length seats ≡ c.n
length-in_order c seats e = sym (length-map seats (λ (s : Turns). s.proc)) ∙ ap length e ∙ length-range_with_len 1 c.n

-- and each is in its place
pub place-in_order : (c : Setup) (seats : List Turns) (i : ℕ) (d : Turns)
    → AreInOrder c seats → i < length seats → (get_or seats i d).proc ≡ i + 1
place-in_order c seats i d e inside =
    let count = length-in_order c seats e in
    let at : get_or (range_with_len 1 c.n) i d.proc ≡ 1 + i = get_or-range_with_len 1 c.n i d.proc (omega arith) in
    sym (get_or-map (λ (s : Turns). s.proc) seats i d d.proc inside) ∙ ap (λ xs. get_or xs i d.proc) e ∙ at ∙ omega arith
