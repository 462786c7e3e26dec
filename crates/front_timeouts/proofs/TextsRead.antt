-- What csv reads from the text of timeouts is their records.
use Rattle.std.proofs.Common.{ℕ, ◌≡◌, ◌+◌, ◌<◌, ◌^◌, length, take, get_or, List, [], ◌∷◌, ◌++◌, map, All, refl, ap, ◌∙◌, arith}
use Rattle.std.specs.Prelude.{decimal}
use Rattle.std.specs.List.{flat_map}
use Rattle.std.proofs.lemmas.List.{append-nil, map_more}
use Rattle.std.proofs.lemmas.List.Concat.{flat_map-append}
use Rattle.std.proofs.lemmas.List.Elements.{All-head, All-tail}
use Rattle.csv.specs.Reading.{strip_bom}
use Rattle.timeouts.specs.declared.timeouts.Timeout.{Timeout}
use Rattle.front_timeouts.specs.declared.tables.FollowerTimeouts.{FollowerTimeouts}
use Rattle.front_timeouts.specs.TimeoutTexts.{timeouts_header, numbers_of, timeout_record, follower_records, timeouts_records, timeouts_text, StandsFor, AreOf64, AreSmall}
use Rattle.trace_text.specs.Records.{record_line, text_of_records}
use Rattle.trace_text.specs.RecordWriting.{ArePlain}
use Rattle.trace_text.proofs.LinesRead.{AreLines, AreLines-append, lines-read}
use Rattle.trace_text.proofs.PlainFields.{IsPlain-decimal}

plain-numbers : (ns : List ℕ) → AreSmall ns → ArePlain (map decimal ns)
plain-numbers [] h = tt
plain-numbers (n ∷ ns) h = (IsPlain-decimal n (All-head (λ n. n < 2 ^ 64) n ns h), plain-numbers ns (All-tail (λ n. n < 2 ^ 64) n ns h))

lines-timeouts : (q : ℕ) (ts : List Timeout) → All (λ t. AreSmall (numbers_of q t)) ts → AreLines (map (timeout_record q) ts)
lines-timeouts q [] h = tt
lines-timeouts q (t ∷ ts) h = (
  omega arith,
  plain-numbers (numbers_of q t) (All-head (λ t. AreSmall (numbers_of q t)) t ts h),
  lines-timeouts q ts (All-tail (λ t. AreSmall (numbers_of q t)) t ts h),
)

lines-followers : (all : List FollowerTimeouts) → All AreOf64 all → AreLines (flat_map follower_records all)
lines-followers [] h = tt
lines-followers (f ∷ all) h = AreLines-append (follower_records f) (flat_map follower_records all)
    (lines-timeouts f.follower f.timeouts.items (All-head AreOf64 f all h).each)
    (lines-followers all (All-tail AreOf64 f all h))

no-mark : (all : List FollowerTimeouts) → strip_bom (timeouts_text all) ≡ timeouts_text all
unfolding strip_bom
no-mark all = refl

-- the text of timeouts encodes them
pub StandsFor-timeouts_text : (all : List FollowerTimeouts) → All AreOf64 all → StandsFor (timeouts_text all) all
StandsFor-timeouts_text all h = lines-read (timeouts_records all)
    (omega arith, (refl, (refl, (refl, (refl, (refl, (refl, (refl, (refl, (refl, (refl, (refl, tt))))))))))), lines-followers all h)
    (no-mark all)

-- one more number
pub numbers_more : (ns : List ℕ) (k : ℕ) → k < length ns
    → map decimal (take (k + 1) ns) ≡ map decimal (take k ns) ++ decimal (get_or ns k 0) ∷ []
numbers_more ns k inside = map_more decimal ns k 0 inside

-- one follower more
pub timeouts_text-more : (all : List FollowerTimeouts) (f : FollowerTimeouts)
    → timeouts_text (all ++ f ∷ []) ≡ timeouts_text all ++ text_of_records (follower_records f)
timeouts_text-more all f =
    ap (flat_map record_line) (ap (λ (rs : List (List (List ℕ))). timeouts_header ∷ rs)
    (flat_map-append follower_records all (f ∷ [])
    ∙ ap (λ (rs : List (List (List ℕ))). flat_map follower_records all ++ rs)
    (append-nil (follower_records f))))
    ∙ flat_map-append record_line (timeouts_records all) (follower_records f)

-- the header alone
pub timeouts_text-none : timeouts_text [] ≡ record_line timeouts_header
timeouts_text-none = append-nil (record_line timeouts_header)
