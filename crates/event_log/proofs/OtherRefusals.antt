-- Which refusals are never that a trace would have too many ticks: all but those for the times and the spread of events.
use Rattle.std.proofs.Common.{ℕ, zero, suc, ◌≡◌, ◌≢◌, ◌+◌, ◌==◌, ◌⊎◌, inl, inr, Bool, true, false, cond, List, [], ◌∷◌, length, Option, Some, None, Result, Ok, Err, refl, sym, subst}
use Rattle.std.specs.Prelude.{MatchBool, ⊤, IfErr, IfSome, find, nat_le, nat_lt, slice_index_or, unwrap_or}
use Rattle.std.specs.Borrow.{Bor}
use Rattle.std.specs.Option.{ok_or, option_or}
use Rattle.trace_text.specs.Records.{◌>>=◌, field_of, records_of_text}
use Rattle.trace_text.specs.declared.byte_loops.TheConstants.{MAX_TEXT_BYTES}
use Rattle.timed_events.specs.declared.events.Clock.{Clock}
use Rattle.timed_events.specs.declared.events.Event.{Event}
use Rattle.timed_events.specs.declared.events.EventError.{EventError}
use Rattle.timed_events.specs.declared.events.EventError.TheVariants as refused
use Rattle.timed_events.specs.declared.idle_traces.IdleError.TheVariants as filled
use Rattle.timed_events.specs.Checks.{first_fault, is_for, message_fault, message_faults, messages_at, processor_at, was_received}
use Rattle.timed_events.specs.Firsts.{first_of}
use Rattle.event_log.specs.declared.columns.Column.{Column}
use Rattle.event_log.specs.declared.columns.Columns.{Columns}
use Rattle.event_log.specs.declared.options.Options.{Options}
use Rattle.event_log.specs.declared.reading.TheConstants.{MAX_EVENTS}
use Rattle.event_log.specs.declared.records.Rules.{Rules}
use Rattle.event_log.specs.declared.records.Verb.{Verb}
use Rattle.event_log.specs.declared.records.Verb.TheVariants as verb
use Rattle.event_log.specs.declared.refusals.LogError.{LogError}
use Rattle.event_log.specs.declared.refusals.LogError.TheVariants.{BadEvent, BadTime, Memory, TooManyTicks}
use Rattle.event_log.specs.declared.times.LogEnd.{LogEnd}
use Rattle.event_log.specs.declared.times.LogEnd.TheVariants as end
use Rattle.event_log.specs.declared.times.TimeKind.{TimeKind}
use Rattle.event_log.specs.declared.times.TimeKind.TheVariants as kind
use Rattle.event_log.specs.declared.times.TimeUnit.{TimeUnit}
use Rattle.event_log.specs.Alignments.{IsAlignRefusal, IsUnalignedFor}
use Rattle.event_log.specs.Columns.{all_columns, columns_of, has_twice, lacks, places_in, unless_lacking, unless_twice}
use Rattle.event_log.specs.EventRefusals.{IsErrorOf, IsIdleErrorUnlessMemory}
use Rattle.event_log.specs.KeptEvents.{KeptEvent}
use Rattle.event_log.specs.LeftRefusals.{IsPlacedErrorOf, IsPlacedErrorUnlessMemory}
use Rattle.event_log.specs.LogPlaces.{reason_in}
use Rattle.event_log.specs.LogRecords.{Said, accepted, are_messages, are_nodes, moment_as, said_by, said_of, verb_of}
use Rattle.event_log.specs.Naming.{Named, act_after, act_after_by, after_said, begun, is_memory, nodes_after, number_to, was_sent}
use Rattle.event_log.specs.ReadLogs.{IsRead, IsReadRefusal}
use Rattle.event_log.specs.SentMessages.{Sent}
use Rattle.event_log.specs.Stages.{header_stage, named_after, names_stage, rules, says_of, staged_log}
use Rattle.event_log.specs.TakenEvents.{IsEmptied, IsUnmergedOf}
use Rattle.event_log.specs.TickClocks.{end_in, until_in}

-- a refusal is another
abbrev IsOther : LogError → Type 0
IsOther TooManyTicks = ⊥
IsOther why = ⊤

other : (why : LogError) → IsOther why → why ≢ TooManyTicks
other why h = λ e. subst IsOther e h

-- the same, if it is known unless memory is out
other-unless : (why : LogError) (P : Type 0) → MatchBool (is_memory why) ⊤ P → (P → IsOther why) → IsOther why
other-unless Memory P h f = tt
other-unless why P h f = f h

-- a result is no such refusal
abbrev Others : {A : Type 0} → Result A LogError → Type 0
Others r = IfErr r IsOther

others-then : {A B : Type 0} (r : Result A LogError) (f : A → Result B LogError)
    → Others r → ((x : A) → Others (f x)) → Others (r >>= f)
others-then (Ok x) f h k = k x
others-then (Err e) f h k = h

others-if : {A : Type 0} (t : Bool) (a b : Result A LogError) → Others a → Others b → Others (cond t a b)
others-if true a b h k = h
others-if false a b h k = k

others-or : {A : Type 0} (o : Option A) (e : LogError) → IsOther e → Others (ok_or o e)
others-or None e h = h
others-or (Some x) e h = tt

-- of a record
accepted-other : (listed : Option (Bor (List (List ℕ)))) (number : ℕ) (s : Said) → Others (accepted listed number s)
accepted-other listed number s = others-if (are_nodes listed s) _ _ (others-if (are_messages s) _ _ tt tt) tt

said-other : (by : Rules) (number : ℕ) (fields : List (List ℕ)) → Others (said_of by number fields)
said-other by number fields = others-if (length fields == by.columns.fields) _ _
    (others-then (ok_or (moment_as by.kind (field_of fields by.columns.time)) (BadTime number)) _
    (others-or (moment_as by.kind (field_of fields by.columns.time)) (BadTime number) tt)
    (λ moment. others-then (ok_or (verb_of (field_of fields by.columns.event)) (BadEvent number)) _
    (others-or (verb_of (field_of fields by.columns.event)) (BadEvent number) tt)
    (λ v. accepted-other by.listed number (said_by by.columns moment v fields)))) tt

-- of the header
twice-other : (o : Option Column) (columns : Columns) → Others (unless_twice o columns)
twice-other None columns = tt
twice-other (Some c) columns = tt

lacking-other : (o : Option Column) (r : Result Columns LogError) → Others r → Others (unless_lacking o r)
lacking-other None r h = h
lacking-other (Some c) r h = tt

columns-other : (header : List (List ℕ)) → Others (columns_of header)
columns-other header = lacking-other (find (lacks header) all_columns) _
    (twice-other (find (has_twice header) all_columns) (places_in header))

-- of all records
says-other : (columns : Columns) (unit : Option TimeUnit) (listed : Option (Bor (List (List ℕ)))) (kind : Option TimeKind)
    (place : ℕ) (more : List (List (List ℕ))) → Others (says_of columns unit listed kind place more)
unfolding says_of
says-other columns unit listed kind place [] = tt
says-other columns unit listed kind place (fields ∷ more) = others-if (nat_le MAX_EVENTS place) _ _ tt
    (others-then (said_of (rules columns unit kind listed) (place + 2) fields) _
    (said-other (rules columns unit kind listed) (place + 2) fields)
    (λ s. others-then (says_of columns unit listed (Some s.moment.kind) (place + 1) more) _
    (says-other columns unit listed (Some s.moment.kind) (place + 1) more) (λ r. tt)))

-- of their names
act-other : (v : Verb) (at to : ℕ) (sent : Sent) (events : List KeptEvent) (s : Said) → Others (act_after_by v at to sent events s)
act-other verb.Send at to sent events s = others-if (was_sent sent events to s.messages) _ _ tt tt
act-other verb.Receive at to sent events s = tt

after-other : (place : ℕ) (names : Named) (s : Said) → Others (after_said place names s)
after-other place names s = others-if (nat_lt 64 (length (nodes_after names.nodes s))) _ _ tt
    (others-then (act_after (place + 2) (number_to names.nodes s) names.sent names.events s) _
    (act-other s.verb (place + 2) (number_to names.nodes s) names.sent names.events s) (λ act. tt))

named-other : (place : ℕ) (n : Named) (says : List Said) → Others (named_after place n says)
unfolding named_after
named-other place n [] = tt
named-other place n (s ∷ more) =
    others-then (after_said place n s) _ (after-other place n s) (λ m. named-other (place + 1) m more)

names-other : (nodes : List (List ℕ)) (r : Option TimeKind × List Said) → Others (names_stage nodes r)
names-other nodes (None, says) = tt
names-other nodes (Some kind, says) = others-then (named_after 0 (begun nodes) says) _
    (named-other 0 (begun nodes) says) (λ n. others-if (nat_lt (length n.nodes) 2) _ _ tt tt)

header-other : (unit : Option TimeUnit) (listed : Option (Bor (List (List ℕ)))) (nodes : List (List ℕ))
    (records : List (List (List ℕ))) → Others (header_stage unit listed nodes records)
header-other unit listed nodes [] = tt
header-other unit listed nodes (header ∷ more) = others-then (columns_of header) _ (columns-other header)
    (λ columns. others-then (says_of columns unit listed None 0 more) _
    (says-other columns unit listed None 0 more) (λ r. names-other nodes r))

-- so of the events of a text
staged-other : (unit : Option TimeUnit) (listed : Option (Bor (List (List ℕ)))) (nodes : List (List ℕ)) (text : List ℕ)
    → Others (staged_log unit listed nodes text)
staged-other unit listed nodes text = others-if (nat_le (length text) MAX_TEXT_BYTES) _ _
    (others-then (header_stage unit listed nodes (records_of_text text)) _
    (header-other unit listed nodes (records_of_text text)) (λ r. tt)) tt

pub unread-other : (o : Options) (text : List ℕ) (why : LogError) → IsReadRefusal o text why → why ≢ TooManyTicks
unread-other o text why h = other why (other-unless why (IsRead o text (Err why)) h
    (λ r. subst Others r.staged (staged-other o.unit r.listed (unwrap_or o.nodes []) text)))

-- of the end of a log
end-other : (k : TimeKind) (e : LogEnd) → Others (end_in k e)
end-other kind.Number (end.Number n) = tt
end-other (kind.Whole unit) (end.Number n) = tt
end-other (kind.Whole unit) (end.Nanoseconds x) = tt
end-other kind.Decimal (end.Number n) = tt
end-other kind.Decimal (end.Nanoseconds x) = tt
end-other kind.Stamp (end.Stamp x) = tt
end-other kind.Local (end.Local x) = tt
end-other k e = tt

until-others : (k : TimeKind) (until : Option LogEnd) → Others (until_in k until)
until-others k None = tt
until-others k (Some e) = others-then (end_in k e) _ (end-other k e) (λ x. tt)

pub until-other : (k : TimeKind) (until : Option LogEnd) (why : LogError) → until_in k until ≡ Err why → why ≢ TooManyTicks
until-other k until why h = other why (subst Others h (until-others k until))

-- a reason, if there is one, is another
abbrev IsOtherReason : EventError → Type 0
IsOtherReason refused.TooManyTicks = ⊥
IsOtherReason why = ⊤

abbrev Another : Option EventError → Type 0
Another why = IfSome why IsOtherReason

another-if : (t : Bool) (a b : Option EventError) → Another a → Another b → Another (cond t a b)
another-if true a b h k = h
another-if false a b h k = k

another-or : (a b : Option EventError) → Another a → Another b → Another (option_or a b)
another-or (Some a) b h k = h
another-or None b h k = k

another-first : (f : ℕ → Option EventError) (n : ℕ) → ((k : ℕ) → Another (f k)) → Another (first_of f n)
another-first f zero h = tt
another-first f (suc n) h = another-or (first_of f n) (f n) (another-first f n h) (h n)

fault-other : (events : List Event) (received : ℕ → Bool) (i k : ℕ) (message : Option ℕ)
    → Another (message_fault events received i k message)
fault-other events received i k None = tt
fault-other events received i k (Some s) =
    another-if (is_for events s (processor_at events i)) _ _ (another-if (received s) _ _ tt tt) tt

faults-other : (events : List Event) (i : ℕ) → Another (message_faults events i)
unfolding message_faults
faults-other events i = another-first _ (length (messages_at events i))
    (λ k. fault-other events (was_received events i k) i k (slice_index_or (messages_at events i) k None))

first-other : (events : List Event) → Another (first_fault events)
unfolding first_fault
first-other events = another-first (message_faults events) (length events) (faults-other events)

-- the refusal of a log for another reason is another
error-other : (text : List ℕ) (nodes : List (List ℕ)) (events : List Event) (why : EventError) (error : LogError)
    → IsOtherReason why → IsErrorOf text nodes events why error → IsOther error
error-other text nodes events refused.TooManyTicks error n h = absurd n
error-other text nodes events refused.UntilTooEarly error n h = subst IsOther (sym h) tt
error-other text nodes events (refused.NeverSent i k) error n h = subst IsOther (sym h) tt
error-other text nodes events (refused.WrongReceiver i k) error n h = subst IsOther (sym h) tt
error-other text nodes events (refused.ReceivedBefore i k) error n h = subst IsOther (sym h) tt
error-other text nodes events (refused.NotLater i k hint) error n h = subst IsOther (sym h) tt
error-other text nodes events (refused.SecondEvent i tick hint) error n h = subst IsOther (sym h) tt
error-other text nodes events (refused.Cycle i) error n h = subst IsOther (sym h.is) tt
error-other text nodes events refused.Memory error n h = subst IsOther (sym h) tt

placed-other : (text : List ℕ) (nodes : List (List ℕ)) (events left : List Event) (places : List ℕ)
    (parts : Option (List (List ℕ))) (why : EventError) (error : LogError) → IsOtherReason why
    → IsPlacedErrorOf text nodes events left places parts (filled.Events why) error → IsOther error
placed-other text nodes events left places parts (refused.Cycle i) error n h = subst IsOther (sym h.is) tt
placed-other text nodes events left places parts why error n h =
    error-other text nodes events (reason_in events places parts why) error n h

another : (why : EventError) → why ≢ refused.TooManyTicks → IsOtherReason why
another refused.TooManyTicks h = h refl
another why h = tt

-- of the clocks of a log
pub unaligned-other : (text : List ℕ) (nodes : List (List ℕ)) (events : List Event) (why : LogError)
    → IsAlignRefusal text nodes events why → why ≢ TooManyTicks
unaligned-other text nodes events why h = other why (other-unless why (IsUnalignedFor text nodes events why) h go) where
  go : IsUnalignedFor text nodes events why → IsOther why
  go (inl fault) = error-other text nodes events fault.0 why (subst Another fault.1 (first-other events)) fault.2
  go (inr (inl none)) = subst IsOther (sym none.1.is) tt
  go (inr (inr late)) = subst IsOther (sym late.1) tt

-- of all events of a log, for another reason
pub whole-other : (text : List ℕ) (nodes : List (List ℕ)) (events : List Event) (why : EventError) (error : LogError)
    → why ≢ refused.TooManyTicks → IsIdleErrorUnlessMemory text nodes events (filled.Events why) error → error ≢ TooManyTicks
whole-other text nodes events why error n h = other error (other-unless error
    (IsErrorOf text nodes events why error) h (error-other text nodes events why error (another why n)))

-- of those that are left
pub left-other : (text : List ℕ) (nodes : List (List ℕ)) (events left : List Event) (places : List ℕ)
    (parts : Option (List (List ℕ))) (why : EventError) (error : LogError) → why ≢ refused.TooManyTicks
    → IsPlacedErrorUnlessMemory text nodes events left places parts (filled.Events why) error → error ≢ TooManyTicks
left-other text nodes events left places parts why error n h = other error (other-unless error
    (IsPlacedErrorOf text nodes events left places parts (filled.Events why) error) h
    (placed-other text nodes events left places parts why error (another why n)))

-- if no receives are merged, their times aren't refused before
pub unmerged-other : (events : List Event) (clock : Clock) (why : LogError)
    → MatchBool (is_memory why) ⊤ (IsEmptied true events why ⊎ IsUnmergedOf true false events clock why) → why ≢ TooManyTicks
unmerged-other events clock why h = other why (other-unless why
    (IsEmptied true events why ⊎ IsUnmergedOf true false events clock why) h go) where
      go : IsEmptied true events why ⊎ IsUnmergedOf true false events clock why → IsOther why
      go (inl none) = subst IsOther (sym none.2) tt
      go (inr unmerged) = absurd (let no = unmerged.asked in cc no)
