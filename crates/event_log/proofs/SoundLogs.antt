-- The events of an accepted log: how many there are, and which nodes they name.
use Rattle.std.proofs.Common.{◌≡◌, ℕ, suc, ◌+◌, ◌<◌, ◌≤◌, List, [], ◌∷◌, ◌++◌, length, map, Option, Some, None, Result, Ok, Err, Bool, true, false, cond, not, refl, arith, length-append}
use Rattle.std.specs.Prelude.{⊤, ◌||◌, IfOk, IfSome, nat_le, nat_lt}
use Rattle.std.specs.List.{All, list_any, position_or_len}
use Rattle.std.specs.Borrow.{Bor}
use Rattle.std.specs.Str.{bytes_eq}
use Rattle.std.proofs.lemmas.Bool.{leb-false, ltb-false}
use Rattle.std.proofs.lemmas.List.Elements.{All-weaker, All-append, All-cons, All-nil, All-head, All-tail}
use Rattle.std.proofs.lemmas.List.{length-map}
use Rattle.trace_text.specs.Records.{◌>>=◌, GivesUnless, after_records, records_of_text}
use Rattle.trace_text.specs.declared.byte_loops.TheConstants.{MAX_TEXT_BYTES}
use Rattle.event_log.specs.declared.columns.Columns.{Columns}
use Rattle.event_log.specs.declared.reading.Reading.{Reading}
use Rattle.event_log.specs.declared.reading.TheConstants.{MAX_EVENTS}
use Rattle.event_log.specs.declared.records.Verb.{Verb}
use Rattle.event_log.specs.declared.records.Verb.TheVariants as verb
use Rattle.event_log.specs.declared.refusals.LogError.{LogError}
use Rattle.event_log.specs.declared.refusals.LogError.TheVariants.{TooManyNodes, SentBefore, TooManyEvents, TooFewNodes, TooLarge}
use Rattle.event_log.specs.declared.times.TimeKind.{TimeKind}
use Rattle.event_log.specs.declared.times.TimeUnit.{TimeUnit}
use Rattle.event_log.specs.declared.logs.NamedEvents.{NamedEvents}
use Rattle.event_log.specs.Columns.{columns_of}
use Rattle.event_log.specs.Events.{resolved, resolved_act}
use Rattle.event_log.specs.KeptEvents.{KeptAct, KeptEvent}
use Rattle.event_log.specs.KeptEvents as kept
use Rattle.event_log.specs.LogRecords.{Said, said_of}
use Rattle.event_log.specs.Logs.{SeenLog, events_in, resolved_log, seen_log}
use Rattle.event_log.specs.Reading.{after_told, at_end_by, enough_nodes, named_at_end, named_by, named_of, next_by, next_reading, nothing_read, rules_of, with_event}
use Rattle.trace_text.specs.Names.{has_name}
use Rattle.event_log.specs.Names.{with_name}
use Rattle.event_log.specs.Naming.{Named, is_memory, act_after_by, after_said, nodes_after_by, number_of, number_to_by, was_sent}
use Rattle.event_log.specs.SentMessages.{Sent}
use Rattle.event_log.specs.SoundLogs.{IsNumber, IsSound, IsWithin, SendsWithin}

-- a name that is there has a place, and any other the next one
any-go : (t any : Bool) (a n : ℕ) → (any ≡ true → a < n) → (t || any) ≡ true → cond (not t) (1 + a) 0 < suc n
any-go true any a n f e = omega arith
any-go false any a n f e = let l = f e in omega (arith, l)

any-place : (p : List ℕ → Bool) (xs : List (List ℕ)) → list_any p xs ≡ true → position_or_len p xs < length xs
any-place p [] e = cc e
any-place p (x ∷ xs) e = any-go (p x) (list_any p xs) (position_or_len p xs) (length xs) (any-place p xs) e

le-go : (t : Bool) (a n : ℕ) → a ≤ n → cond (not t) (1 + a) 0 ≤ suc n
le-go true a n l = omega arith
le-go false a n l = omega (arith, l)

place-le : (p : List ℕ → Bool) (xs : List (List ℕ)) → position_or_len p xs ≤ length xs
place-le p [] = omega arith
place-le p (x ∷ xs) = le-go (p x) (position_or_len p xs) (length xs) (place-le p xs)

grows-go : (t : Bool) (xs : List (List ℕ)) (x : List ℕ) → length xs ≤ length (cond t xs (xs ++ x ∷ []))
grows-go true xs x = omega arith
grows-go false xs x = omega (arith, length-append xs (x ∷ []))

grows : (nodes : List (List ℕ)) (name : List ℕ) → length nodes ≤ length (with_name nodes name)
unfolding with_name
grows nodes name = grows-go (has_name nodes name) nodes name

numbered-go : (t : Bool) (xs : List (List ℕ)) (x : List ℕ) (a : ℕ)
    → (t ≡ true → a < length xs) → a ≤ length xs → a + 1 ≤ length (cond t xs (xs ++ x ∷ []))
numbered-go true xs x a f l = let m = f refl in omega (arith, m)
numbered-go false xs x a f l = omega (arith, l, length-append xs (x ∷ []))

numbered : (nodes : List (List ℕ)) (name : List ℕ) → number_of nodes name ≤ length (with_name nodes name)
unfolding with_name
numbered nodes name = numbered-go (has_name nodes name) nodes name
    (position_or_len (bytes_eq name) nodes) (any-place (bytes_eq name) nodes) (place-le (bytes_eq name) nodes)

-- the nodes of an event are among those after it
nodes-grow : (v : Verb) (nodes : List (List ℕ)) (s : Said) → length nodes ≤ length (nodes_after_by v nodes s)
nodes-grow verb.Send nodes s = omega (arith, grows nodes s.node, grows (with_name nodes s.node) s.to)
nodes-grow verb.Receive nodes s = grows nodes s.node

own-number : (v : Verb) (nodes : List (List ℕ)) (s : Said) → number_of nodes s.node ≤ length (nodes_after_by v nodes s)
own-number verb.Send nodes s = omega (arith, numbered nodes s.node, grows (with_name nodes s.node) s.to)
own-number verb.Receive nodes s = numbered nodes s.node

to-number : (v : Verb) (nodes : List (List ℕ)) (s : Said) → number_to_by v nodes s ≤ length (nodes_after_by v nodes s)
to-number verb.Send nodes s = numbered (with_name nodes s.node) s.to
to-number verb.Receive nodes s = numbered nodes s.node

to-above : (v : Verb) (nodes : List (List ℕ)) (s : Said) → 1 ≤ number_to_by v nodes s
to-above verb.Send nodes s = omega arith
to-above verb.Receive nodes s = omega arith

unfoldable pub KeptWithin : ℕ → KeptAct → Type 0
KeptWithin count (kept.Send to) = IsNumber count to
KeptWithin count (kept.Receive messages) = ⊤

abbrev pub EventWithin : ℕ → KeptEvent → Type 0
EventWithin count event = IsNumber count event.processor × KeptWithin count event.act

later-act : (a b : ℕ) (act : KeptAct) → a ≤ b → KeptWithin a act → KeptWithin b act
unfolding KeptWithin
later-act a b (kept.Send to) l h = (h.0, let m = h.1 in omega (arith, m, l))
later-act a b (kept.Receive messages) l h = tt

later : (a b : ℕ) (event : KeptEvent) → a ≤ b → EventWithin a event → EventWithin b event
later a b event l h = ((h.0.0, let m = h.0.1 in omega (arith, m, l)), later-act a b event.act l h.1)

send-go : (t : Bool) (at to : ℕ) (messages : List ℕ) (act : KeptAct) (count : ℕ)
    → IsNumber count to → cond t (Err (SentBefore at messages)) (Ok (kept.Send to)) ≡ Ok act → KeptWithin count act
unfolding KeptWithin
send-go true at to messages act count h e = cc e
send-go false at to messages act count h e = let same : kept.Send to ≡ act = cc e in rw (← same) h

act-within : (v : Verb) (at to : ℕ) (sent : Sent) (events : List KeptEvent) (s : Said) (act : KeptAct) (count : ℕ)
    → IsNumber count to → act_after_by v at to sent events s ≡ Ok act → KeptWithin count act
unfolding KeptWithin
act-within verb.Send at to sent events s act count h e = send-go (was_sent sent events to s.messages) at to s.messages act count h e
act-within verb.Receive at to sent events s act count h e = let same : kept.Receive s.messages ≡ act = cc e in rw (← same) tt

-- the parts of an answer that is no refusal
bound : {A B : Type 0} (r : Result A LogError) (f : A → Result B LogError) (x : B) → r >>= f ≡ Ok x → (a : A) × (r ≡ Ok a) × (f a ≡ Ok x)
bound (Ok a) f x h = (a, refl, h)
bound (Err e) f x h = cc h

over : {A : Type 0} (b : Bool) (e : LogError) (r : Result A LogError) (x : A) → cond b (Err e) r ≡ Ok x → (b ≡ false) × (r ≡ Ok x)
over true e r x h = cc h
over false e r x h = (refl, h)

-- what holds of the names after so many events
pub record IsNamed (count : ℕ) (n : Named) : Type 0 where
  pub events : length n.events ≡ count
  pub nodes : 0 < count → length n.nodes ≤ 64
  pub within : All (EventWithin (length n.nodes)) n.events

one-more : (place : ℕ) (n m : Named) (s : Said) → IsNamed place n → after_said place n s ≡ Ok m → IsNamed (place + 1) m
one-more place n m s h e =
    let few = over (nat_lt 64 (length (nodes_after_by s.verb n.nodes s))) (TooManyNodes (place + 2)) _ m e in
    let act = bound (act_after_by s.verb (place + 2) (number_to_by s.verb n.nodes s) n.sent n.events s) _ m few.1 in
    let nodes = nodes_after_by s.verb n.nodes s in
    let count = length nodes in
    let event : KeptEvent = record { time = s.moment.time; processor = number_of n.nodes s.node; act = act.0 } in
    let own : IsNumber count (number_of n.nodes s.node) = (omega arith, own-number s.verb n.nodes s) in
    let to = act-within s.verb (place + 2) (number_to_by s.verb n.nodes s) n.sent n.events s act.0 count
    (to-above s.verb n.nodes s, to-number s.verb n.nodes s) act.1 in
    let old = All-weaker (EventWithin (length n.nodes))
    (EventWithin count) (λ x w. later (length n.nodes) count x (nodes-grow s.verb n.nodes s) w) n.events h.within in
    let new : All (EventWithin count) (event ∷ []) = All-cons (EventWithin count) event [] (own, to) (All-nil (EventWithin count)) in
    let len = h.events in
    rw (← ok act.2) (record {
      events = omega (arith, len, length-append n.events (event ∷ []));
      nodes = λ _. ltb-false 64 count few.0;
      within = All-append (EventWithin count) n.events (event ∷ []) old new;
    }) where
      ok : {A : Type 0} {x y : A} → ◌≡◌ {A = Result A LogError} (Ok x) (Ok y) → x ≡ y
      ok e = cc e

-- what holds of what was read
pub record IsReached (r : Reading) : Type 0 where
  pub few : r.count ≤ MAX_EVENTS
  pub kind : IfSome r.kind (λ _. 0 < r.count)
  pub names : IfOk r.names (IsNamed r.count)

told : (place : ℕ) (names : Result Named LogError) (s : Said)
    → IfOk names (IsNamed place) → IfOk (after_told place names s) (IsNamed (place + 1))
told place (Err e) s h = tt
told place (Ok n) s h = go (after_said place n s) (λ m e. one-more place n m s h e) where
  go : (r : Result Named LogError) → ((m : Named) → r ≡ Ok m → IsNamed (place + 1) m) → IfOk r (IsNamed (place + 1))
  go (Ok m) f = f m refl
  go (Err e) f = tt

pub same-ok : {A : Type 0} {x y : A} → ◌≡◌ {A = Result A LogError} (Ok x) (Ok y) → x ≡ y
same-ok e = cc e

-- one record more
reached-by : (o : Option Columns) (r q : Reading) (fields : List (List ℕ)) → IsReached r → next_by o r fields ≡ Ok q → IsReached q
reached-by None r q fields h e =
    let c = bound (columns_of fields) (λ columns. Ok (record r { columns = Some columns })) q e in
    rw (← same-ok c.2) (record { few = h.few; kind = h.kind; names = h.names })
reached-by (Some columns) r q fields h e =
    let room = over (nat_le MAX_EVENTS r.count) TooManyEvents _ q e in
    let low : r.count < MAX_EVENTS = leb-false MAX_EVENTS r.count room.0 in
    let s = bound (said_of (rules_of columns r) (r.count + 2) fields) (λ s. Ok (with_event r s)) q room.1 in
    rw (← same-ok s.2) (record { few = omega (arith, low); kind = omega arith; names = told r.count r.names s.0 h.names })

-- all records
reached : (r q : Reading) (records : List (List (List ℕ))) → IsReached r → after_records next_reading r records ≡ Ok q → IsReached q
reached r q [] h e = rw (← same-ok e) h
reached r q (fields ∷ more) h e =
    let n = bound (next_reading r fields) (λ t. after_records next_reading t more) q e in
    reached n.0 q more (reached-by r.columns r n.0 fields h n.1) n.2

begins : (unit : Option TimeUnit) (listed : Option (Bor (List (List ℕ)))) (nodes : List (List ℕ))
    → IsReached (nothing_read unit listed nodes)
begins unit listed nodes = record {
  few = omega arith;
  kind = tt;
  names = record { events = refl; nodes = λ l. absurd (omega (arith, l)); within = All-nil (EventWithin (length nodes)) };
}

-- what holds at the end of an accepted log
pub record IsWhole (n : Named) : Type 0 where
  pub two : 2 ≤ length n.nodes
  pub few_nodes : length n.nodes ≤ 64
  pub some : 0 < length n.events
  pub few_events : length n.events ≤ MAX_EVENTS
  pub within : All (EventWithin (length n.nodes)) n.events

whole-names : (count : ℕ) (names : Result Named LogError) (kind : TimeKind) (x : TimeKind × Named)
    → count ≤ MAX_EVENTS → 0 < count → IfOk names (IsNamed count) → names >>= (λ n. enough_nodes kind n) ≡ Ok x → IsWhole x.1
whole-names count (Err e) kind x few some h k = cc k
whole-names count (Ok n) kind x few some h k =
    let two = over (nat_lt (length n.nodes) 2) TooFewNodes (Ok (kind, n)) x k in
    let enough = ltb-false (length n.nodes) 2 two.0 in
    let len = h.events in
    rw (← same-ok two.1) (record {
      two = enough;
      few_nodes = h.nodes some;
      some = omega (arith, len, some);
      few_events = omega (arith, len, few);
      within = h.within;
    })

whole-kind : (r : Reading) (kind : Option TimeKind) (x : TimeKind × Named)
    → r.count ≤ MAX_EVENTS → IfSome kind (λ _. 0 < r.count) → IfOk r.names (IsNamed r.count) → named_by kind r.names ≡ Ok x → IsWhole x.1
whole-kind r None x few some h k = cc k
whole-kind r (Some kind) x few some h k = whole-names r.count r.names kind x few some h k

whole-end : (columns : Option Columns) (r : Reading) (x : TimeKind × Named) → IsReached r → at_end_by columns r ≡ Ok x → IsWhole x.1
whole-end None r x h k = cc k
whole-end (Some columns) r x h k = whole-kind r r.kind x h.few h.kind h.names k

either : {A : Type 0} (b : Bool) (r : Result A LogError) (e : LogError) (x : A) → cond b r (Err e) ≡ Ok x → r ≡ Ok x
either true r e x h = h
either false r e x h = cc h

whole : (unit : Option TimeUnit) (listed : Option (Bor (List (List ℕ)))) (nodes : List (List ℕ)) (text : List ℕ) (x : TimeKind × Named)
    → named_of unit listed nodes text ≡ Ok x → IsWhole x.1
whole unit listed nodes text x e =
    let read = either (nat_le (length text) MAX_TEXT_BYTES) _ TooLarge x e in
    let r = bound (after_records next_reading (nothing_read unit listed nodes) (records_of_text text)) named_at_end x read in
    whole-end r.0.columns r.0 x (reached (nothing_read unit listed nodes) r.0 (records_of_text text) (begins unit listed nodes) r.1) r.2

-- the same with the places of sends in place of the names of messages
act-resolved : (sent : Sent) (processor : ℕ) (act : KeptAct) (count : ℕ)
    → KeptWithin count act → SendsWithin count (resolved_act sent processor act)
unfolding KeptWithin
act-resolved sent processor (kept.Send to) count h = h
act-resolved sent processor (kept.Receive names) count h = tt

all-resolved : (sent : Sent) (count : ℕ) (events : List KeptEvent)
    → All (EventWithin count) events → All (IsWithin count) (map (resolved sent) events)
all-resolved sent count [] h = All-nil (IsWithin count)
all-resolved sent count (x ∷ xs) h =
    let first = All-head (EventWithin count) x xs h in
    All-cons (IsWithin count) (resolved sent x) (map (resolved sent) xs)
    (first.0, act-resolved sent x.processor x.act count first.1)
    (all-resolved sent count xs (All-tail (EventWithin count) x xs h))

sound-log : (unit : Option TimeUnit) (listed : Option (Bor (List (List ℕ)))) (nodes : List (List ℕ)) (text : List ℕ) (log : SeenLog)
    → events_in unit listed nodes text ≡ Ok log → IsSound log
sound-log unit listed nodes text log e =
    let x = bound (named_of unit listed nodes text) (λ r. Ok (resolved_log r.0 r.1)) log e in
    let h = whole unit listed nodes text x.0 x.1 in
    let n = x.0.1 in
    let len = length-map n.events (resolved n.sent) in
    let some = h.some in
    let few = h.few_events in
    rw (← same-ok x.2) (record {
      two = h.two;
      few_nodes = h.few_nodes;
      some = omega (arith, some, len);
      few_events = omega (arith, few, len);
      within = all-resolved n.sent (length n.nodes) n.events h.within;
    })

-- so an answer that is no refusal is sound
pub gives-sound : (unit : Option TimeUnit) (listed : Option (Bor (List (List ℕ))))
    (nodes : List (List ℕ)) (text : List ℕ) (result : Result NamedEvents LogError)
    → GivesUnless is_memory seen_log result (events_in unit listed nodes text) → IfOk result (λ log. IsSound (seen_log log))
gives-sound unit listed nodes text (Ok log) e = sound-log unit listed nodes text (seen_log log) e
gives-sound unit listed nodes text (Err why) e = tt
