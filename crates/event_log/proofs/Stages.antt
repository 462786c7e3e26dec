-- Reading a log record by record comes to the same as going through its stages.
use Rattle.std.proofs.Common.{◌≡◌, ◌∙◌, ℕ, suc, ◌+◌, List, [], ◌∷◌, length, Option, Some, None, Result, Ok, Err, Bool, true, false, cond, refl, ap, arith}
use Rattle.std.specs.Prelude.{nat_le}
use Rattle.std.specs.Borrow.{Bor}
use Rattle.trace_text.specs.Records.{◌>>=◌, GivesUnless, after_records, records_of_text}
use Rattle.trace_text.specs.declared.byte_loops.TheConstants.{MAX_TEXT_BYTES}
use Rattle.event_log.specs.declared.columns.Columns.{Columns}
use Rattle.event_log.specs.declared.logs.NamedEvents.{NamedEvents}
use Rattle.event_log.specs.declared.reading.Reading.{Reading}
use Rattle.event_log.specs.declared.reading.TheConstants.{MAX_EVENTS}
use Rattle.event_log.specs.declared.refusals.LogError.{LogError}
use Rattle.event_log.specs.declared.refusals.LogError.TheVariants.{TooLarge, TooManyEvents}
use Rattle.event_log.specs.declared.times.TimeKind.{TimeKind}
use Rattle.event_log.specs.declared.times.TimeUnit.{TimeUnit}
use Rattle.event_log.specs.Columns.{columns_of}
use Rattle.event_log.specs.LogRecords.{Said, said_of}
use Rattle.event_log.specs.Logs.{events_in, resolved_log, seen_log}
use Rattle.event_log.specs.Naming.{Named, begun, is_memory}
use Rattle.event_log.specs.Reading.{after_told, named_at_end, next_reading, nothing_read}
use Rattle.event_log.specs.Stages.{header_stage, named_after, names_stage, rules, says_of, staged_log, with_said}

-- what was read, part by part
reading : Columns → Option TimeUnit → Option (Bor (List (List ℕ))) → Option TimeKind → ℕ → Result Named LogError → Reading
reading columns unit listed kind count names =
    record { columns = Some columns; unit = unit; kind = kind; listed = listed; count = count; names = names }

-- the names that come to those so far
names_then : ℕ → Result Named LogError → List Said → Result Named LogError
names_then count names says = names >>= λ n. named_after count n says

names-none : (count : ℕ) (names : Result Named LogError) → names ≡ names_then count names []
unfolding names_then named_after
names-none count (Ok n) = refl
names-none count (Err e) = refl

names-more : (count : ℕ) (names : Result Named LogError) (s : Said) (more : List Said)
    → names_then (count + 1) (after_told count names s) more ≡ names_then count names (s ∷ more)
unfolding names_then named_after
names-more count (Ok n) s more = refl
names-more count (Err e) s more = refl

-- what was read after the records that say this
with_says : Columns → Option TimeUnit → Option (Bor (List (List ℕ)))
    → ℕ → Result Named LogError → Option TimeKind × List Said → Result Reading LogError
with_says columns unit listed count names r = Ok (reading columns unit listed r.0 (count + length r.1) (names_then count names r.1))

with-more : (columns : Columns) (unit : Option TimeUnit) (listed : Option (Bor (List (List ℕ)))) (count : ℕ)
    (names : Result Named LogError) (s : Said) (r : Result (Option TimeKind × List Said) LogError)
    → r >>= with_says columns unit listed (count + 1) (after_told count names s)
    ≡ (r >>= λ p. with_said s p) >>= with_says columns unit listed count names
unfolding with_says reading
with-more columns unit listed count names s (Err e) = refl
with-more columns unit listed count names s (Ok p) =
    let len : count + 1 + length p.1 ≡ count + suc (length p.1) = omega arith in
    ap (λ n. Ok (reading columns unit listed p.0 n (names_then (count + 1) (after_told count names s) p.1))) len
    ∙ ap (λ n. Ok (reading columns unit listed p.0 (count + suc (length p.1)) n)) (names-more count names s p.1)

step-go : (columns : Columns) (unit : Option TimeUnit) (listed : Option (Bor (List (List ℕ)))) (count : ℕ)
    (names : Result Named LogError) (more : List (List (List ℕ))) → ((kind : TimeKind) (next : Result Named LogError)
    → after_records next_reading (reading columns unit listed (Some kind) (count + 1) next) more
    ≡ says_of columns unit listed (Some kind) (count + 1) more >>= with_says columns unit listed (count + 1) next)
    → (s : Result Said LogError) → (s >>= λ x. Ok (reading columns unit listed (Some x.moment.kind) (count + 1) (after_told count names x)))
    >>= (λ t. after_records next_reading t more) ≡ (s >>= λ x. says_of columns unit listed (Some x.moment.kind) (count + 1) more
    >>= λ r. with_said x r) >>= with_says columns unit listed count names
step-go columns unit listed count names more next (Err e) = refl
step-go columns unit listed count names more next (Ok x) = next x.moment.kind (after_told count names x)
    ∙ with-more columns unit listed count names x (says_of columns unit listed (Some x.moment.kind) (count + 1) more)

room-go : (t : Bool) {A B : Type 0} (f g : Result A LogError) (h : A → Result B LogError) (k : Result B LogError)
    → f >>= h ≡ k → cond t (Err TooManyEvents) f >>= h ≡ cond t (Err TooManyEvents) k
room-go true f g h k e = refl
room-go false f g h k e = e

room-out : {A B : Type 0} (t : Bool) (f : Result A LogError) (h : A → Result B LogError)
    → cond t (Err TooManyEvents) (f >>= h) ≡ cond t (Err TooManyEvents) f >>= h
room-out true f h = refl
room-out false f h = refl

-- the records of events
events-read : (columns : Columns) (unit : Option TimeUnit) (listed : Option (Bor (List (List ℕ)))) (kind : Option TimeKind)
    (count : ℕ) (names : Result Named LogError) (records : List (List (List ℕ))) → after_records next_reading (reading columns
    unit listed kind count names) records ≡ says_of columns unit listed kind count records >>= with_says columns unit listed count names
unfolding says_of with_says reading
events-read columns unit listed kind count names [] =
    let len : count ≡ count + 0 = omega arith in
    ap (λ n. Ok (reading columns unit listed kind n names)) len
    ∙ ap (λ n. Ok (reading columns unit listed kind (count + 0) n)) (names-none count names)
events-read columns unit listed kind count names (fields ∷ more) =
    let said = said_of (rules columns unit kind listed) (count + 2) fields in
    let step = step-go columns unit listed count names more
    (λ k next. events-read columns unit listed (Some k) (count + 1) next more) said in
    room-go (nat_le MAX_EVENTS count) (said >>= λ x. Ok (reading columns unit listed
    (Some x.moment.kind) (count + 1) (after_told count names x))) (Err TooManyEvents) (λ t. after_records next_reading t more) _ step
    ∙ room-out (nat_le MAX_EVENTS count) (said >>= λ x. says_of columns unit listed (Some x.moment.kind) (count + 1) more
    >>= λ r. with_said x r) (with_says columns unit listed count names)

-- the end
end-go : (columns : Columns) (unit : Option TimeUnit) (listed : Option (Bor (List (List ℕ)))) (nodes : List (List ℕ)) (r : Result (Option
    TimeKind × List Said) LogError) → (r >>= with_says columns unit listed 0 (Ok (begun nodes))) >>= named_at_end ≡ r >>= names_stage nodes
unfolding with_says reading names_then
end-go columns unit listed nodes (Err e) = refl
end-go columns unit listed nodes (Ok (None, says)) = refl
end-go columns unit listed nodes (Ok (Some kind, says)) = refl

header-go : (unit : Option TimeUnit) (listed : Option (Bor (List (List ℕ)))) (nodes : List (List ℕ)) (more : List (List (List ℕ)))
    (c : Result Columns LogError) → ((c >>= λ columns. Ok (record (nothing_read unit listed nodes) { columns = Some columns })) >>= λ t.
    after_records next_reading t more) >>= named_at_end ≡ c >>= λ columns. says_of columns unit listed None 0 more >>= names_stage nodes
unfolding reading
header-go unit listed nodes more (Err e) = refl
header-go unit listed nodes more (Ok columns) = ap (λ r. r >>= named_at_end) (events-read columns unit listed None 0
    (Ok (begun nodes)) more) ∙ end-go columns unit listed nodes (says_of columns unit listed None 0 more)

header : (unit : Option TimeUnit) (listed : Option (Bor (List (List ℕ)))) (nodes : List (List ℕ)) (records : List (List (List ℕ)))
    → after_records next_reading (nothing_read unit listed nodes) records >>= named_at_end ≡ header_stage unit listed nodes records
header unit listed nodes [] = refl
header unit listed nodes (h ∷ more) = header-go unit listed nodes more (columns_of h)

text-go : (t : Bool) (r : Result (TimeKind × Named) LogError)
    → (cond t r (Err TooLarge)) >>= (λ x. Ok (resolved_log x.0 x.1)) ≡ cond t (r >>= λ x. Ok (resolved_log x.0 x.1)) (Err TooLarge)
text-go true r = refl
text-go false r = refl

pub staged : (unit : Option TimeUnit) (listed : Option (Bor (List (List ℕ)))) (nodes : List (List ℕ)) (text : List ℕ)
    → events_in unit listed nodes text ≡ staged_log unit listed nodes text
staged unit listed nodes text = ap (λ r. cond (nat_le (length text) MAX_TEXT_BYTES) r (Err TooLarge) >>= λ x. Ok (resolved_log x.0 x.1))
    (header unit listed nodes (records_of_text text))
    ∙ text-go (nat_le (length text) MAX_TEXT_BYTES) (header_stage unit listed nodes (records_of_text text))

-- so the answer is what the stages give
pub gives-staged : (unit : Option TimeUnit) (listed : Option (Bor (List (List ℕ)))) (nodes : List (List ℕ))
    (text : List ℕ) (result : Result NamedEvents LogError) → GivesUnless is_memory seen_log result (events_in unit listed nodes text)
    → GivesUnless is_memory seen_log result (staged_log unit listed nodes text)
gives-staged unit listed nodes text result e = rw (← staged unit listed nodes text) e
