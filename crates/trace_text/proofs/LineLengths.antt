-- How many bytes records and their fields have.
use Rattle.std.proofs.Common.{ℕ, ◌+◌, ◌*◌, ◌<◌, ◌≤◌, ◌^◌, List, [], ◌∷◌, length, map, decimal, arith, length-append}
use Rattle.std.specs.Prelude.{All}
use Rattle.std.specs.List.{join_with_byte}
use Rattle.std.proofs.lemmas.Fmt.{length-decimal-le}
use Rattle.std.proofs.lemmas.List.{length-map}
use Rattle.std.proofs.lemmas.List.Elements.{All-head, All-tail}
use Rattle.trace_text.specs.Records.{record_line}

-- the bytes of all fields
abbrev pub bytes_of : List (List ℕ) → ℕ
bytes_of [] = 0
bytes_of (field ∷ rest) = length field + bytes_of rest

length-joined : (c : ℕ) (fields : List (List ℕ)) → length (join_with_byte c fields) ≤ bytes_of fields + length fields
length-joined c [] = omega arith
length-joined c (x ∷ []) = omega arith
length-joined c (x ∷ y ∷ rest) =
    let more = length-joined c (y ∷ rest) in
    rw (length-append x (c ∷ join_with_byte c (y ∷ rest))) (omega (arith, more))

-- a line has the bytes of its fields, a comma after each at most, and a line feed
pub length-line : (fields : List (List ℕ)) → length (record_line fields) ≤ bytes_of fields + length fields + 1
length-line fields =
    let joined = length-joined 44 fields in
    rw (length-append (join_with_byte 44 fields) (10 ∷ [])) (omega (arith, joined))

pub short-decimal : (n : ℕ) → n < 10 ^ 7 → length (decimal n) ≤ 7
short-decimal n l = length-decimal-le 7 n (omega arith) l (omega arith)

-- numbers of 64 bits have twenty digits at most
pub bytes_of-decimals : (ns : List ℕ) → All (λ n. n < 2 ^ 64) ns → bytes_of (map decimal ns) ≤ 20 * length ns
bytes_of-decimals [] small = omega arith
bytes_of-decimals (n ∷ ns) small =
    let fits = All-head (λ n. n < 2 ^ 64) n ns small in
    let one = length-decimal-le 20 n (omega arith) (omega (arith, fits)) fits in
    let more = bytes_of-decimals ns (All-tail (λ n. n < 2 ^ 64) n ns small) in
    omega (arith, one, more)

bytes_of-short : (ns : List ℕ) → All (λ n. n < 10 ^ 7) ns → bytes_of (map decimal ns) ≤ 7 * length ns
bytes_of-short [] small = omega arith
bytes_of-short (n ∷ ns) small =
    let one = short-decimal n (All-head (λ n. n < 10 ^ 7) n ns small) in
    let more = bytes_of-short ns (All-tail (λ n. n < 10 ^ 7) n ns small) in
    omega (arith, one, more)

-- so many ids with spaces between them
pub length-ids : (ns : List ℕ) → All (λ n. n < 10 ^ 7) ns → length (join_with_byte 32 (map decimal ns)) ≤ 8 * length ns
length-ids ns small =
    let joined = length-joined 32 (map decimal ns) in
    let bytes = bytes_of-short ns small in
    let count = length-map ns decimal in
    omega (arith, joined, bytes, count)
