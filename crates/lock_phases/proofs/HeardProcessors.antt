-- How many heard messages pass a test, by the processors that send them.
use Rattle.std.proofs.Common.{ℕ, ◌≡◌, ◌+◌, ◌<◌, ◌≤◌, Bool, true, Option, sym, ◌∙◌, arith}
use Rattle.std.specs.Prelude.{Contains, count_by}
use Rattle.std.specs.List.{range_with_len}
use Rattle.std.proofs.lemmas.List.FromFn.{length-range_with_len, get_or-range_with_len}
use Rattle.lock_phases.proofs.Common.{Setup, IsProc, Message}
use Rattle.lock_phases.specs.Hearing.{IsHeardToSay, heard_from, number_of}
use Rattle.lock_phases.proofs.Counting.{count_by-filter_map, count_by-le_filter_map}

-- no more messages pass than processors are heard to
pub heard-few : (n : ℕ) (heard_of : ℕ → Option Message) (says : Message → Bool) (is : ℕ → Bool)
    → ((j : ℕ) → IsHeardToSay heard_of says j → is j ≡ true) → count_by says (heard_from n heard_of) ≤ number_of n is
heard-few n heard_of says is f =
    count_by-filter_map says is heard_of (range_with_len 1 n) (λ j m h t. f j (record { message = m; is_heard = h; said = t }))

-- as many pass as processors are heard to
pub heard-many : (c : Setup) (heard_of : ℕ → Option Message) (says : Message → Bool) (is : ℕ → Bool)
    → ((j : ℕ) → IsProc c j → is j ≡ true → IsHeardToSay heard_of says j) → number_of c.n is ≤ count_by says (heard_from c.n heard_of)
heard-many c heard_of says is f = count_by-le_filter_map says is heard_of
    (range_with_len 1 c.n) (λ j d t. let h = f j (processor j d) t in (h.message, h.is_heard, h.said))
  where
    processor : (j : ℕ) → Contains (range_with_len 1 c.n) j → IsProc c j
    processor j d =
        let below : d.0 < c.n = rw (length-range_with_len 1 c.n) at d.1 in
        let same : j ≡ 1 + d.0 = sym d.2 ∙ get_or-range_with_len 1 c.n d.0 j below in
        (omega arith, omega arith)
