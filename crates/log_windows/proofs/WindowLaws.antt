-- What is kept of a log record by record, and at once.
use Rattle.std.proofs.Common.{◌≡◌, ◌∙◌, ℕ, suc, ◌+◌, ◌<◌, ℤ, Bool, true, false, cond, not, ◌&&◌, ◌||◌, All, IsSome}
use Rattle.std.proofs.Common.{List, [], ◌∷◌, ◌++◌, Option, Some, None, Result, Ok, Err, codes, fold, filter, flat_map}
use Rattle.std.proofs.Common.{length, map, option_map, bytes_eq, refl, sym, ap, subst, arith, append_assoc, append-nil}
use Rattle.std.proofs.Common.{ltb-true, ne_eqb, zero-add}
use Rattle.std.specs.Prelude.{nat_le, ◌==◌}
use Rattle.std.specs.List.{join_with_byte, list_all, list_any}
use Rattle.std.specs.Option.{ok_or, option_map_or, option_or}
use Rattle.std.proofs.lemmas.Bool.{and_parts}
use Rattle.std.proofs.lemmas.List.{map-append}
use Rattle.std.proofs.lemmas.List.Concat.{flat_map-append}
use Rattle.std.proofs.lemmas.List.Elements.{All-append, All-cons, All-filter, All-head, All-map, All-nil, All-tail, All-weaker}
use Rattle.std.proofs.lemmas.List.Folds.{list_any-append, flat_map-map}
use Rattle.std.proofs.lemmas.Slice.Eq.{bytes_eq-Decides}
use Rattle.csv.specs.Writing.{row_text}
use Rattle.trace_text.specs.declared.byte_loops.TheConstants.{MAX_TEXT_BYTES}
use Rattle.trace_text.specs.Records.{◌>>=◌, after_records, field_of, records_of_text}
use Rattle.trace_text.specs.RecordWriting.{our_writer}
use Rattle.event_log.specs.declared.columns.Columns.{Columns}
use Rattle.event_log.specs.declared.refusals.LogError.TheVariants.{BadTime, TooLarge, TooManyEvents}
use Rattle.event_log.specs.declared.times.LogEnd.{LogEnd}
use Rattle.event_log.specs.declared.times.Moment.{Moment}
use Rattle.event_log.specs.declared.times.TimeKind.{TimeKind}
use Rattle.event_log.specs.declared.times.TimeKind.TheVariants as kind
use Rattle.event_log.specs.declared.times.TimeUnit.{TimeUnit}
use Rattle.event_log.specs.Columns.{columns_of}
use Rattle.event_log.specs.LogRecords.{moment_as}
use Rattle.trace_text.specs.Names.{has_name, is_message_name, is_name, words_of}
use Rattle.event_log.specs.Names.{are_message_names, with_name}
use Rattle.event_log.specs.Times.{moment_in, moment_of, settled, time_as}
use Rattle.log_windows.specs.declared.bounds.Bounds.{Bounds}
use Rattle.log_windows.specs.declared.bounds.Times.{Times}
use Rattle.log_windows.specs.declared.kept_names.Keeping.{Keeping}
use Rattle.log_windows.specs.declared.lists.Spreading.{Spreading}
use Rattle.log_windows.specs.declared.reading.LogWindow.{LogWindow}
use Rattle.log_windows.specs.declared.windows.Reading.{Reading}
use Rattle.log_windows.specs.declared.windows.TheConstants.{MAX_LOGGED}
use Rattle.log_windows.specs.Bounds.{bounds_in, is_within, kind_of, times_by}
use Rattle.log_windows.specs.KeptNames.{names_kept, next_kept, nothing_kept}
use Rattle.log_windows.specs.KeptRows.{Rows, begun, key_of, keys_after, needs_point, next_part, nodes_in, pointed, rows_after, rows_of, told_row, unless_large, with_event, with_header, with_row}
use Rattle.log_windows.specs.KeptTexts.{Kept, is_receive, kept_event, kept_names, next_name, with_kept, with_names, with_word}
use Rattle.log_windows.specs.Lists.{next_spread, nothing_spread, spread_event, spread_header, spread_of}
use Rattle.log_windows.specs.LogWindows.{IsWindow}
use Rattle.log_windows.specs.Rows.{with_field}
use Rattle.log_windows.specs.WindowLaws.{AreKept, IsBare, IsCut, IsCutBy, IsCutOf, IsListOf, IsSentOf, IsWindowAtOnce}
use Rattle.log_windows.specs.WindowLaws.{Row, at_place, count_unsent, events_in, is_in, is_sent, names_sent, placed}
use Rattle.log_windows.specs.WindowLaws.{rows_all, rows_in, sends, sent_row, unsent_in}
use Rattle.log_windows.specs.Windows.{event_after, header_after, next_row, nothing_read, window_of}
use Rattle.log_windows.proofs.RowsRead.{HasField, records-some, rows-read, with_field-some}

-- ---- what was reached

reached : {A B E : Type 0} (r : Result A E) (f : A → Result B E) (b : B) → r >>= f ≡ Ok b → (a : A) × (r ≡ Ok a) × (f a ≡ Ok b)
reached (Ok a) f b h = (a, refl, h)
reached (Err e) f b h = cc h

-- a test that refuses, and one that accepts
unrefused : {A E : Type 0} (t : Bool) (why : E) (r : Result A E) (a : A) → cond t (Err why) r ≡ Ok a → r ≡ Ok a
unrefused true why r a h = cc h
unrefused false why r a h = h

accepted : {A E : Type 0} (t : Bool) (x : A) (why : E) (a : A) → cond t (Ok x) (Err why) ≡ Ok a → x ≡ a
accepted true x why a h = cc h
accepted false x why a h = cc h

told : {A E : Type 0} (o : Option A) (why : E) (a : A) → ok_or o why ≡ Ok a → o ≡ Some a
told (Some x) why a h = cc h
told None why a h = cc h

-- ---- rows that are kept one after the other

-- what is kept is more by these rows
record IsMore (columns : Columns) (rows : List Row) (old new : Rows) : Type 0 where
  text : new.text ≡ old.text ++ flat_map (λ row. row_text our_writer row.fields) rows
  places : new.places ≡ old.places ++ map (λ row. row.place) rows
  sent : (key : List ℕ) → has_name new.sent key ≡ (has_name old.sent key || list_any (sends columns key) rows)

or-assoc : (a b c : Bool) → ((a || b) || c) ≡ (a || (b || c))
or-assoc true b c = refl
or-assoc false b c = refl

or-false : (a : Bool) → (a || false) ≡ a
or-false true = refl
or-false false = refl

none-more : (columns : Columns) (rows : Rows) → IsMore columns [] rows rows
none-more columns rows = record {
  text = sym (append-nil rows.text);
  places = sym (append-nil rows.places);
  sent = λ key. sym (or-false (has_name rows.sent key));
}

both-more : (columns : Columns) (xs ys : List Row) (old mid new : Rows)
    → IsMore columns xs old mid → IsMore columns ys mid new → IsMore columns (xs ++ ys) old new
both-more columns xs ys old mid new h k = record {
  text = k.text ∙ ap (λ t. t ++ flat_map (λ row. row_text our_writer row.fields) ys) h.text
      ∙ append_assoc old.text (flat_map (λ row. row_text our_writer row.fields) xs) (flat_map (λ row. row_text our_writer row.fields) ys)
      ∙ ap (λ t. old.text ++ t) (sym (flat_map-append (λ row. row_text our_writer row.fields) xs ys));
  places = k.places ∙ ap (λ t. t ++ map (λ row. row.place) ys) h.places ∙ append_assoc old.places
      (map (λ row. row.place) xs) (map (λ row. row.place) ys) ∙ ap (λ t. old.places ++ t) (sym (map-append (λ row. row.place) xs ys));
  sent = λ key. k.sent key ∙ ap (λ b. b || list_any (sends columns key) ys) (h.sent key)
      ∙ or-assoc (has_name old.sent key) (list_any (sends columns key) xs) (list_any (sends columns key) ys)
      ∙ ap (λ b. has_name old.sent key || b) (sym (list_any-append (sends columns key) xs ys));
}

-- one more key
key-more : (sent : List (List ℕ)) (new key : List ℕ) → has_name (with_name sent new) key ≡ (has_name sent key || bytes_eq key new)
unfolding with_name
key-more sent new key = go (has_name sent new) (bytes_eq key new) refl refl where
  there : (b : Bool) → b ≡ true → b ≡ (b || true)
  there true e = refl
  there false e = e

  go : (t b : Bool) → has_name sent new ≡ t → bytes_eq key new ≡ b
      → has_name (cond t sent (sent ++ new ∷ [])) key ≡ (has_name sent key || b)
  go true true e f = there (has_name sent key) (ap (has_name sent) ((bytes_eq-Decides key new).0 f) ∙ e)
  go true false e f = sym (or-false (has_name sent key))
  go false b e f = list_any-append (bytes_eq key) sent (new ∷ []) ∙ ap (λ x. has_name sent key || x) (or-false (bytes_eq key new) ∙ f)

keys-more : (columns : Columns) (fields : List (List ℕ)) (place : ℕ) (sent : List (List ℕ)) (key : List ℕ) → has_name
    (keys_after columns fields sent) key ≡ (has_name sent key || (sends columns key (record { place = place; fields = fields }) || false))
keys-more columns fields place sent key = go (bytes_eq (field_of fields columns.event) (codes "send")) where
  go : (t : Bool) → has_name (cond t (with_name sent (key_of (field_of fields columns.message) (field_of fields columns.to))) sent) key
      ≡ (has_name sent key || ((t && bytes_eq key (key_of (field_of fields columns.message) (field_of fields columns.to))) || false))
  go true = key-more sent (key_of (field_of fields columns.message) (field_of fields columns.to)) key ∙ ap
      (λ b. has_name sent key || b) (sym (or-false (bytes_eq key (key_of (field_of fields columns.message) (field_of fields columns.to)))))
  go false = sym (or-false (has_name sent key))

row-more : (columns : Columns) (place : ℕ) (fields : List (List ℕ)) (rows : Rows)
    → IsMore columns (record { place = place; fields = fields } ∷ []) rows (with_row columns place fields rows)
row-more columns place fields rows = record {
  text = ap (λ t. rows.text ++ t) (sym (append-nil (row_text our_writer fields)));
  places = refl;
  sent = keys-more columns fields place rows.sent;
}

-- the records of an event
record IsEventMore (columns : Columns) (rows : List Row) (old new : Rows) : Type 0 where
  more : IsMore columns rows old new
  outside : new.outside ≡ old.outside

event-more : (columns : Columns) (place : ℕ) (records : List (List (List ℕ))) (old new : Rows)
    → after_records (next_part columns place) old records ≡ Ok new → IsEventMore columns (at_place place records) old new
event-more columns place [] old new h = let same : old ≡ new = cc h in
    subst (IsEventMore columns [] old) same (record { more = none-more columns old; outside = refl })
event-more columns place (fields ∷ records) old new h =
    let part = reached (unless_large (with_row columns place fields old)) _ new h in
    let same : with_row columns place fields old ≡ part.0 = accepted (nat_le (length (with_row columns place fields old).text)
    MAX_TEXT_BYTES) (with_row columns place fields old) TooLarge part.0 part.1 in
    let rest : IsEventMore columns (at_place place records) (with_row columns place fields old) new =
    event-more columns place records (with_row columns place fields old) new
    (subst (λ rows. after_records (next_part columns place) rows records ≡ Ok new) (sym same) part.2) in
    record {
      more = both-more columns (record { place = place; fields = fields } ∷ [])
          (at_place place records) old (with_row columns place fields old) new (row-more columns place fields old) rest.more;
      outside = rest.outside;
    }

-- each row has a field
abbrev HasFields : Row → Type 0
HasFields row = HasField row.fields

all-flat : {X Y : Type 0} (P : X → Type 0) (Q : Y → Type 0) (f : X → List Y)
    → ((x : X) → P x → All Q (f x)) → (xs : List X) → All P xs → All Q (flat_map f xs)
all-flat P Q f g [] h = All-nil Q
all-flat P Q f g (x ∷ xs) h = All-append Q (f x) (flat_map f xs) (g x (All-head P x xs h)) (all-flat P Q f g xs (All-tail P x xs h))

placed-some : (place : ℕ) (events : List (List (List ℕ))) → All HasField events → All HasFields (placed place events)
placed-some place [] h = All-nil HasFields
placed-some place (fields ∷ events) h = All-cons HasFields (record { place = place; fields = fields })
    (placed (place + 1) events) (All-head HasField fields events h) (placed-some (place + 1) events (All-tail HasField fields events h))

rows-of-some : (columns : Columns) (fields : List (List ℕ)) → HasField fields → All HasField (rows_of columns fields)
rows-of-some columns fields h = go (bytes_eq (field_of fields columns.event) (codes "send")) where
  go : (t : Bool) → All HasField (cond t (map (with_field fields columns.to) (nodes_in (field_of fields columns.to))) (fields ∷ []))
  go true = All-map HasField (with_field fields columns.to)
      (nodes_in (field_of fields columns.to)) (λ k d less. with_field-some fields columns.to _ h)
  go false = All-cons HasField fields [] h (All-nil HasField)

told-some : (columns : Columns) (k : TimeKind) (fields : List (List ℕ)) → HasField fields → HasField (told_row columns k fields)
told-some columns k fields h = go (needs_point k (field_of fields columns.time)) where
  go : (t : Bool) → HasField (cond t (pointed columns fields) fields)
  go true = with_field-some fields columns.time _ h
  go false = h

rows-all-some : (columns : Columns) (event : Row) → HasFields event → All HasFields (rows_all columns event)
rows-all-some columns event h = All-map HasFields (λ fields. record { place = event.place; fields = fields })
    (rows_of columns event.fields) (rows-of-some columns event.fields h)

rows-in-some : (columns : Columns) (k : TimeKind) (event : Row) → HasFields event → All HasFields (rows_in columns k event)
rows-in-some columns k event h = rows-all-some columns
    (record { place = event.place; fields = told_row columns k event.fields }) (told-some columns k event.fields h)

-- the text of a header and of records is read back
read-back : {X : Type 0} (fields_in : X → List (List ℕ)) (header : List (List ℕ)) (xs : List X) (text : List ℕ) → HasField header → All
    (λ x. HasField (fields_in x)) xs → text ≡ 10 ∷ (row_text our_writer header ++ flat_map (λ x. row_text our_writer (fields_in x)) xs)
    → records_of_text text ≡ header ∷ map fields_in xs
read-back fields_in header xs text some all e =
    ap records_of_text (e ∙ ap (λ t. 10 ∷ (row_text our_writer header ++ t)) (sym (flat_map-map (row_text our_writer) fields_in xs)))
    ∙ rows-read (header ∷ map fields_in xs) (All-cons HasField header (map fields_in xs) some (All-map HasField fields_in xs all))

-- the rows so far make what is kept
are-kept : (columns : Columns) (header : List (List ℕ)) (rows : List Row) (kept : Rows)
    → HasField header → All HasFields rows → IsMore columns rows (with_header header begun) kept → AreKept columns header rows kept
are-kept columns header rows kept some all h =
    record { text = h.text; read = read-back (λ row. row.fields) header rows kept.text some all h.text; places = h.places; sent = h.sent }

bare : (kept : Rows) → begun ≡ kept → IsBare kept
bare kept e = subst IsBare e (record { text = refl; places = refl; sent = refl; outside = refl })

-- ---- times

-- a time that is of a kind
record IsTold (unit : Option TimeUnit) (field : List ℕ) (moment : Moment) : Type 0 where
  time : time_as moment.kind field ≡ Some moment.time
  stays : settled unit (Some moment.kind) ≡ Some moment.kind

moment-in : (k : TimeKind) (field : List ℕ) (moment : Moment)
    → moment_in k field ≡ Some moment → (k ≡ moment.kind) × (time_as k field ≡ Some moment.time)
moment-in k field moment h = go (time_as k field) h where
  go : (o : Option ℤ) → option_map (λ time. record { kind = k; time = time }) o ≡ Some moment → (k ≡ moment.kind) × (o ≡ Some moment.time)
  go (Some time) e = let same : record { kind = k; time = time } ≡ moment = cc e in
      (ap (λ (m : Moment). m.kind) same, ap (λ (m : Moment). Some m.time) same)
  go None e = cc e

in-kind : (k : TimeKind) (field : List ℕ) (moment : Moment) → moment_in k field ≡ Some moment → time_as moment.kind field ≡ Some moment.time
in-kind k field moment h = let p = moment-in k field moment h in subst (λ j. time_as j field ≡ Some moment.time) p.0 p.1

either : {A : Type 0} (o p : Option A) (a : A) (P : Type 0) → (o ≡ Some a → P) → (p ≡ Some a → P) → option_or o p ≡ Some a → P
either (Some x) p a P f g h = f h
either None p a P f g h = g h

in-any-kind : (field : List ℕ) (moment : Moment) → moment_of field ≡ Some moment → time_as moment.kind field ≡ Some moment.time
in-any-kind field moment h = either (moment_in kind.Number field) _ moment _ (in-kind kind.Number field moment)
    (either (moment_in kind.Decimal field) _ moment _ (in-kind kind.Decimal field moment) (either (moment_in kind.Stamp field)
    (moment_in kind.Local field) moment _ (in-kind kind.Stamp field moment) (in-kind kind.Local field moment))) h

-- the time of the first event
first-told : (unit : Option TimeUnit) (field : List ℕ) (moment : Moment)
    → moment_as (settled unit None) field ≡ Some moment → IsTold unit field moment
first-told None field moment h = record { time = in-any-kind field moment h; stays = refl }
first-told (Some unit) field moment h =
    record { time = in-kind (kind.Whole unit) field moment h; stays = ap Some (moment-in (kind.Whole unit) field moment h).0 }

-- and that of a later one
later-told : (unit : Option TimeUnit) (k : TimeKind) (field : List ℕ) (moment : Moment)
    → settled unit (Some k) ≡ Some k → moment_as (settled unit (Some k)) field ≡ Some moment → time_as k field ≡ Some moment.time
later-told unit k field moment stays h = (moment-in k field moment (subst (λ o. moment_as o field ≡ Some moment) stays h)).1

-- ---- the events of a window

-- what is kept is more by the events that are in the window
record AreMore (columns : Columns) (times : Times) (place : ℕ) (events : List (List (List ℕ))) (old new : Rows) : Type 0 where
  timed : All (λ fields. IsSome (time_as times.kind (field_of fields columns.time))) events
  more : IsMore columns (flat_map (rows_in columns times.kind) (filter (is_in columns times) (placed place events))) old new
  outside : new.outside + length (filter (is_in columns times) (placed place events)) ≡ old.outside + length events

-- an event in front of others, whose rows are kept if it is in the window
rows-more : (t : Bool) (columns : Columns) (k : TimeKind) (place : ℕ) (fields : List (List ℕ)) (rest : List Row) (old mid new : Rows)
    → cond t (with_event columns place (told_row columns k fields) old) (Ok (record old { outside = old.outside + 1 })) ≡ Ok mid
    → IsMore columns (flat_map (rows_in columns k) rest) mid new
    → IsMore columns (flat_map (rows_in columns k) (cond t (record { place = place; fields = fields } ∷ rest) rest)) old new
rows-more true columns k place fields rest old mid new h more =
    both-more columns (rows_in columns k (record { place = place; fields = fields })) (flat_map (rows_in columns k) rest) old mid new
    (event-more columns place (rows_of columns (told_row columns k fields)) old mid h).more more
rows-more false columns k place fields rest old mid new h more =
    let same : record old { outside = old.outside + 1 } ≡ mid = cc h in
    let left : IsMore columns (flat_map (rows_in columns k) rest) (record old { outside = old.outside + 1 }) new =
    subst (λ rows. IsMore columns (flat_map (rows_in columns k) rest) rows new) (sym same) more in
    record { text = left.text; places = left.places; sent = left.sent }

-- or else it is counted
outside-more : (t : Bool) (columns : Columns) (k : TimeKind) (place : ℕ) (fields : List (List ℕ)) (rest : List Row) (old mid new : Rows)
    (count : ℕ) → cond t (with_event columns place (told_row columns k fields) old) (Ok (record old { outside = old.outside + 1 })) ≡ Ok mid
    → new.outside + length rest ≡ mid.outside + count
    → new.outside + length (cond t (record { place = place; fields = fields } ∷ rest) rest) ≡ old.outside + suc count
outside-more true columns k place fields rest old mid new count h others =
    let same = (event-more columns place (rows_of columns (told_row columns k fields)) old mid h).outside in
    omega (arith, same, others)
outside-more false columns k place fields rest old mid new count h others =
    let is : record old { outside = old.outside + 1 } ≡ mid = cc h in
    let same : old.outside + 1 ≡ mid.outside = ap (λ (rows : Rows). rows.outside) is in
    omega (arith, same, others)

front-more : (columns : Columns) (times : Times) (place : ℕ) (fields : List (List ℕ)) (events : List (List (List ℕ))) (time : ℤ)
    (old mid new : Rows) → time_as times.kind (field_of fields columns.time) ≡ Some time → rows_after columns times place time fields old
    ≡ Ok mid → AreMore columns times (place + 1) events mid new → AreMore columns times place (fields ∷ events) old new
front-more columns times place fields events time old mid new e h k =
    let within : is_in columns times (record { place = place; fields = fields })
    ≡ is_within times.bounds time = ap (λ o. option_map_or (is_within times.bounds) o false) e in
    let others : List Row = filter (is_in columns times) (placed (place + 1) events) in
    record {
      timed = All-cons (λ row. IsSome (time_as times.kind (field_of row columns.time))) fields events (rw e refl) k.timed;
      more = rw within (rows-more (is_within times.bounds time) columns times.kind place fields others old mid new h k.more);
      outside = rw within
          (outside-more (is_within times.bounds time) columns times.kind place fields others old mid new (length events) h k.outside);
    }

-- how far a log was read
state : Columns → Option TimeUnit → LogEnd → Option LogEnd → Option Times → ℕ → Rows → Reading
state columns unit from until times count rows =
    record { columns = Some columns; unit = unit; from = from; until = until; times = times; count = count; rows = rows }

-- what an event makes of it
record IsNext (columns : Columns) (unit : Option TimeUnit) (from : LogEnd)
    (until : Option LogEnd) (times : Option Times) (count : ℕ) (fields : List (List ℕ)) (old : Rows) (next : Reading) : Type 0 where
  moment : Moment
  told_as : moment_as (settled unit (kind_of times)) (field_of fields columns.time) ≡ Some moment
  then_times : Times
  fit : times_by times from until moment.kind ≡ Ok then_times
  rows : Rows
  kept : rows_after columns then_times count moment.time fields old ≡ Ok rows
  is : state columns unit from until (Some then_times) (count + 1) rows ≡ next

event-next : (columns : Columns) (unit : Option TimeUnit) (from : LogEnd) (until : Option LogEnd) (times : Option Times) (count : ℕ)
    (fields : List (List ℕ)) (old : Rows) (next : Reading) → event_after columns (state columns unit from until times count old) fields
    ≡ Ok next → IsNext columns unit from until times count fields old next
unfolding state
event-next columns unit from until times count fields old next h =
    let whole = unrefused (nat_le MAX_LOGGED count) TooManyEvents _ next h in
    let m = reached (ok_or (moment_as (settled unit (kind_of times)) (field_of fields columns.time)) (BadTime (count + 2))) _ next whole in
    let t = reached (times_by times from until m.0.kind) _ next m.2 in
    let r = reached (rows_after columns t.0 count m.0.time fields old) _ next t.2 in
    record {
      moment = m.0;
      told_as = told (moment_as (settled unit (kind_of times)) (field_of fields columns.time)) (BadTime (count + 2)) m.0 m.1;
      then_times = t.0;
      fit = t.1;
      rows = r.0;
      kept = r.1;
      is = cc (r.2);
    }

-- the events behind those that settled the times
later-more : (columns : Columns) (unit : Option TimeUnit) (from : LogEnd) (until : Option LogEnd) (times : Times) (count : ℕ)
    (events : List (List (List ℕ))) (old : Rows) (end : Reading) → settled unit (Some times.kind) ≡ Some times.kind → after_records next_row
    (state columns unit from until (Some times) count old) events ≡ Ok end → AreMore columns times count events old end.rows
unfolding state
later-more columns unit from until times count [] old end stays h =
    let is : state columns unit from until (Some times) count old ≡ end = cc h in
    let same : old ≡ end.rows = ap (λ (r : Reading). r.rows) is in
    subst (AreMore columns times count [] old) same (record { timed = All-nil _; more = none-more columns old; outside = refl })
later-more columns unit from until times count (fields ∷ events) old end stays h =
    let step = reached (event_after columns (state columns unit from until (Some times) count old) fields) _ end h in
    let next = event-next columns unit from until (Some times) count fields old step.0 step.1 in
    let same : times ≡ next.then_times = cc (next.fit) in
    let kept : rows_after columns times count next.moment.time fields old ≡ Ok next.rows =
    subst (λ t. rows_after columns t count next.moment.time fields old ≡ Ok next.rows) (sym same) next.kept in
    let is : state columns unit from until (Some times) (count + 1) next.rows ≡ step.0 =
    ap (λ t. state columns unit from until (Some t) (count + 1) next.rows) same ∙ next.is in
    let rest : AreMore columns times (count + 1) events next.rows end.rows =
    later-more columns unit from until times (count + 1) events next.rows end stays
    (subst (λ r. after_records next_row r events ≡ Ok end) (sym is) step.2) in
    front-more columns times count fields events next.moment.time old next.rows end.rows
    (later-told unit times.kind (field_of fields columns.time) next.moment stays next.told_as) kept rest

-- the first event settles the times
first-cut : (columns : Columns) (unit : Option TimeUnit) (from : LogEnd) (until : Option LogEnd) (header first : List (List ℕ))
    (events : List (List (List ℕ))) (moment : Moment) (bounds : Bounds) (rows : Rows) (end : Reading) → HasField header → All HasField
    (first ∷ events) → moment_as (settled unit None) (field_of first columns.time) ≡ Some moment → bounds_in moment.kind from until ≡
    Ok bounds → rows_after columns (record { kind = moment.kind; bounds = bounds }) 0 moment.time first (with_header header begun) ≡ Ok rows
    → after_records next_row (state columns unit from until (Some (record { kind = moment.kind; bounds = bounds })) 1 rows) events ≡ Ok end
    → IsCut unit from until columns header first (first ∷ events) end.rows
first-cut columns unit from until header first events moment bounds rows end some every told_as fit kept h =
    let time = first-told unit (field_of first columns.time) moment told_as in
    let times : Times = record { kind = moment.kind; bounds = bounds } in
    let rest : AreMore columns times 1 events rows end.rows = later-more columns unit from until times 1 events rows end time.stays h in
    let all = front-more columns times 0 first events moment.time (with_header header begun) rows end.rows time.time kept rest in
    record {
      times = times;
      kind = ap (option_map (λ (m : Moment). m.kind)) told_as;
      timed = all.timed;
      bounds = fit;
      rows = are-kept columns header _ end.rows some (all-flat HasFields HasFields
          (rows_in columns times.kind) (rows-in-some columns times.kind) (events_in columns times (first ∷ events))
          (All-filter (is_in columns times) HasFields (placed 0 (first ∷ events)) (placed-some 0 (first ∷ events) every))) all.more;
      outside = all.outside ∙ zero-add (suc (length events));
    }

-- all events
all-cut : (columns : Columns) (unit : Option TimeUnit) (from : LogEnd) (until : Option LogEnd) (header : List (List ℕ))
    (events : List (List (List ℕ))) (end : Reading) → HasField header → All HasField events
    → after_records next_row (state columns unit from until None 0 (with_header header begun)) events ≡ Ok end
    → IsCutBy unit from until columns header events end.rows
unfolding state
all-cut columns unit from until header [] end some every h =
    let is : state columns unit from until None 0 (with_header header begun) ≡ end = cc h in
    let same : with_header header begun ≡ end.rows = ap (λ (r : Reading). r.rows) is in (
      are-kept columns header [] end.rows some (All-nil HasFields)
          (subst (IsMore columns [] (with_header header begun)) same (none-more columns (with_header header begun))),
      ap (λ (r : Rows). r.outside) (sym same),
    )
all-cut columns unit from until header (first ∷ events) end some every h =
    let step = reached (event_after columns (state columns unit from until None 0 (with_header header begun)) first) _ end h in
    let next = event-next columns unit from until None 0 first (with_header header begun) step.0 step.1 in
    let bound = reached (bounds_in next.moment.kind from until) _ next.then_times next.fit in
    let same : next.then_times ≡ record { kind = next.moment.kind; bounds = bound.0 } = cc (bound.2) in
    first-cut columns unit from until header first events next.moment bound.0 next.rows end some every next.told_as bound.1
    (subst (λ t. rows_after columns t 0 next.moment.time first (with_header header begun) ≡ Ok next.rows) same next.kept)
    (subst (λ t. after_records next_row (state columns unit from until (Some t) 1 next.rows) events ≡ Ok end) same
    (subst (λ r. after_records next_row r events ≡ Ok end)
    (sym {a = state columns unit from until (Some next.then_times) 1 next.rows} next.is) step.2))

-- all records
records-cut : (unit : Option TimeUnit) (from : LogEnd) (until : Option LogEnd) (records : List (List (List ℕ))) (end : Reading) → All
    HasField records → after_records next_row (nothing_read unit from until) records ≡ Ok end → IsCutOf unit from until records end.rows
records-cut unit from until [] end every h =
    let is : nothing_read unit from until ≡ end = cc h in
    bare end.rows (ap (λ (r : Reading). r.rows) is)
records-cut unit from until (header ∷ events) end every h =
    let step = reached (header_after (nothing_read unit from until) header) _ end h in
    let columns = reached (columns_of header) _ step.0 step.1 in
    let is : state columns.0 unit from until None 0 (with_header header begun) ≡ step.0 = unfold state in cc (columns.2) in (
      columns.0,
      columns.1,
      all-cut columns.0 unit from until header events end (All-head HasField header events every) (All-tail HasField header events every)
          (subst (λ r. after_records next_row r events ≡ Ok end) (sym is) step.2),
    )

pub cut : (unit : Option TimeUnit) (from : LogEnd) (until : Option LogEnd) (text : List ℕ) (r : Reading)
    → window_of unit from until text ≡ Ok r → IsCutOf unit from until (records_of_text text) r.rows
cut unit from until text r h = records-cut unit from until (records_of_text text) r (records-some text) h

-- ---- all events, each send to one node

spreading : Columns → ℕ → Rows → Spreading
spreading columns count rows = record { columns = Some columns; count = count; rows = rows }

all-listed : (columns : Columns) (count : ℕ) (events : List (List (List ℕ))) (old : Rows) (end : Spreading) → after_records next_spread
    (spreading columns count old) events ≡ Ok end → IsEventMore columns (flat_map (rows_all columns) (placed count events)) old end.rows
unfolding spreading
all-listed columns count [] old end h =
    let is : spreading columns count old ≡ end = cc h in
    let same : old ≡ end.rows = ap (λ (s : Spreading). s.rows) is in
    subst (IsEventMore columns [] old) same (record { more = none-more columns old; outside = refl })
all-listed columns count (fields ∷ events) old end h =
    let step = reached (spread_event columns (spreading columns count old) fields) _ end h in
    let r = reached (with_event columns count fields old) _ step.0 (unrefused (nat_le MAX_LOGGED count) TooManyEvents _ step.0 step.1) in
    let is : spreading columns (count + 1) r.0 ≡ step.0 = cc (r.2) in
    let one : IsEventMore columns (rows_all columns (record { place = count; fields = fields })) old r.0 =
    event-more columns count (rows_of columns fields) old r.0 r.1 in
    let rest : IsEventMore columns (flat_map (rows_all columns) (placed (count + 1) events)) r.0 end.rows =
    all-listed columns (count + 1) events r.0 end (subst (λ s. after_records next_spread s events ≡ Ok end) (sym is) step.2) in
    record {
      more = both-more columns (rows_all columns (record { place = count; fields = fields }))
          (flat_map (rows_all columns) (placed (count + 1) events)) old r.0 end.rows one.more rest.more;
      outside = rest.outside ∙ one.outside;
    }

records-listed : (records : List (List (List ℕ))) (end : Spreading)
    → All HasField records → after_records next_spread nothing_spread records ≡ Ok end → IsListOf records end.rows
records-listed [] end every h =
    let is : nothing_spread ≡ end = cc h in
    bare end.rows (ap (λ (s : Spreading). s.rows) is)
records-listed (header ∷ events) end every h =
    let step = reached (spread_header nothing_spread header) _ end h in
    let columns = reached (columns_of header) _ step.0 step.1 in
    let is : spreading columns.0 0 (with_header header begun) ≡ step.0 = unfold spreading in cc (columns.2) in
    let all = all-listed columns.0 0 events (with_header header begun) end
    (subst (λ s. after_records next_spread s events ≡ Ok end) (sym is) step.2) in
    let rows = all-flat HasFields HasFields (rows_all columns.0)
    (rows-all-some columns.0) (placed 0 events) (placed-some 0 events (All-tail HasField header events every)) in
    (columns.0, columns.1, are-kept columns.0 header _ end.rows (All-head HasField header events every) rows all.more, all.outside)

pub listed : (text : List ℕ) (rows : Rows) → spread_of text ≡ Ok rows → IsListOf (records_of_text text) rows
listed text rows h =
    let end = reached (after_records next_spread nothing_spread (records_of_text text)) _ rows h in
    let same : end.0.rows ≡ rows = cc (end.2) in
    subst (IsListOf (records_of_text text)) same (records-listed (records_of_text text) end.0 (records-some text) end.1)

-- ---- received messages

-- words behind a text, as they come
onto : List ℕ → List (List ℕ) → List ℕ
onto text [] = text
onto text (word ∷ words) = onto (with_word text word) words

spaced : List (List ℕ) → List ℕ
spaced words = flat_map (λ word. 32 ∷ word) words

onto-some : (a : ℕ) (rest : List ℕ) (words : List (List ℕ)) → onto (a ∷ rest) words ≡ (a ∷ rest) ++ spaced words
unfolding onto spaced
onto-some a rest [] = sym (append-nil (a ∷ rest))
onto-some a rest (word ∷ words) =
    let long : (length (a ∷ rest) == 0) ≡ false = ne_eqb (length (a ∷ rest)) 0 (λ e. absurd (omega (arith, e))) in
    ap (λ t. onto (cond t word (a ∷ (rest ++ 32 ∷ word))) words) long
    ∙ onto-some a (rest ++ 32 ∷ word) words ∙ append_assoc (a ∷ rest) (32 ∷ word) (spaced words)

join-words : (word : List ℕ) (words : List (List ℕ)) → join_with_byte 32 (word ∷ words) ≡ word ++ spaced words
unfolding spaced
join-words word [] = sym (append-nil word)
join-words word (next ∷ words) = ap (λ t. word ++ (32 ∷ t)) (join-words next words)

onto-none : (words : List (List ℕ)) → All (λ word. 0 < length word) words → onto [] words ≡ join_with_byte 32 words
unfolding onto
onto-none [] h = refl
onto-none ([] ∷ words) h = let some = All-head (λ word. 0 < length word) [] words h in absurd (omega (arith, some))
onto-none ((a ∷ rest) ∷ words) h = onto-some a rest words ∙ sym (join-words (a ∷ rest) words)

-- one word in front of those that are kept, and of others
one-name : (t : Bool) (sent : List (List ℕ)) (node word : List ℕ) (words kept others : List (List ℕ)) (text : List ℕ) (unsent : ℕ)
    → fold (next_name sent node) (record { text = with_word text word; unsent = unsent }) words
    ≡ record { text = onto (with_word text word) kept; unsent = unsent + length others } → fold (next_name sent node)
    (record { text = text; unsent = unsent + 1 }) words ≡ record { text = onto text kept; unsent = unsent + 1 + length others } → fold
    (next_name sent node) (cond t (record { text = with_word text word; unsent = unsent }) (record { text = text; unsent = unsent + 1 }))
    words ≡ record { text = onto text (cond t (word ∷ kept) kept); unsent = unsent + length (cond (not t) (word ∷ others) others) }
unfolding onto
one-name true sent node word words kept others text unsent more less = more
one-name false sent node word words kept others text unsent more less =
    let e : unsent + 1 + length others ≡ unsent + suc (length others) = omega arith in
    less ∙ ap (λ n. record { text = onto text kept; unsent = n }) e

-- which words are kept, and how many aren't
fold-names : (sent : List (List ℕ)) (node : List ℕ) (words : List (List ℕ)) (text : List ℕ) (unsent : ℕ)
    → fold (next_name sent node) (record { text = text; unsent = unsent }) words ≡ record {
      text =
          onto text (filter (is_sent sent node) words);
      unsent = unsent + length (filter (λ name. not (is_sent sent node name)) words);
    }
unfolding onto
fold-names sent node [] text unsent = let e : unsent ≡ unsent + 0 = omega arith in ap (λ n. record { text = text; unsent = n }) e
fold-names sent node (word ∷ words) text unsent = one-name (is_sent sent node word) sent node word words
    (filter (is_sent sent node) words) (filter (λ name. not (is_sent sent node name)) words) text unsent
    (fold-names sent node words (with_word text word) unsent) (fold-names sent node words text (unsent + 1))

-- a name isn't empty
name-some : (name : List ℕ) → is_message_name name ≡ true → 0 < length name
unfolding is_message_name is_name
name-some name h = ltb-true 0 (length name) (and_parts _ _ (and_parts _ _ (and_parts _ _ h).0).0).0

all-some : (names : List (List ℕ)) → list_all is_message_name names ≡ true → All (λ word. 0 < length word) names
all-some [] h = All-nil (λ word. 0 < length word)
all-some (name ∷ names) h =
    let both = and_parts (is_message_name name) (list_all is_message_name names) h in
    All-cons (λ word. 0 < length word) name names (name-some name both.0) (all-some names both.1)

pub names-kept : (sent : List (List ℕ)) (node field : List ℕ) → are_message_names field ≡ true
    → kept_names sent node field ≡ record { text = join_with_byte 32 (names_sent sent node field); unsent = count_unsent sent node field }
unfolding are_message_names
names-kept sent node field h = fold-names sent node (words_of field) [] 0
    ∙ ap (λ t. record { text = t; unsent = 0 + length (filter (λ name. not (is_sent sent node name)) (words_of field)) })
    (onto-none (filter (is_sent sent node) (words_of field)) (All-filter (is_sent sent node) (λ word. 0 < length word)
    (words_of field) (all-some (words_of field) h))) ∙ (let e : 0 + length (filter (λ name. not (is_sent sent node name)) (words_of field))
    ≡ length (filter (λ name. not (is_sent sent node name)) (words_of field)) = omega arith in
    ap (λ n. record { text = join_with_byte 32 (filter (is_sent sent node) (words_of field)); unsent = n }) e)

-- an event
event-sent : (columns : Columns) (sent : List (List ℕ)) (fields : List (List ℕ)) (kept : Kept)
    → kept_event columns sent fields kept ≡ with_kept (sent_row columns sent fields) (unsent_in columns sent fields) kept
event-sent columns sent fields kept = go (bytes_eq (field_of fields columns.event) (codes "receive"))
    (are_message_names (field_of fields columns.message)) refl where
      go : (t u : Bool) → are_message_names (field_of fields columns.message) ≡ u → cond
          (t && u) (with_names columns fields (kept_names sent (field_of fields columns.node) (field_of fields columns.message)) kept)
          (with_kept fields 0 kept) ≡ with_kept (cond (t && u) (with_field fields columns.message
          (join_with_byte 32 (names_sent sent (field_of fields columns.node) (field_of fields columns.message)))) fields)
          (cond (t && u) (count_unsent sent (field_of fields columns.node) (field_of fields columns.message)) 0) kept
      go true true e = ap (λ n. with_names columns fields n kept)
          (names-kept sent (field_of fields columns.node) (field_of fields columns.message) e)
      go true false e = refl
      go false u e = refl

keeping : Columns → List (List ℕ) → Kept → Keeping
keeping columns sent kept = record { columns = Some columns; sent = sent; kept = kept }

sent-some : (columns : Columns) (sent : List (List ℕ)) (fields : List (List ℕ)) → HasField fields → HasField (sent_row columns sent fields)
sent-some columns sent fields h = go (is_receive columns fields) where
  go : (t : Bool) → HasField (cond t (with_field fields columns.message
      (join_with_byte 32 (names_sent sent (field_of fields columns.node) (field_of fields columns.message)))) fields)
  go true = with_field-some fields columns.message _ h
  go false = h

-- all events
record AreSent (columns : Columns) (sent : List (List ℕ)) (events : List (List (List ℕ))) (old new : Kept) : Type 0 where
  text : new.text ≡ old.text ++ flat_map (λ fields. row_text our_writer (sent_row columns sent fields)) events
  unsent : new.unsent ≡ fold (λ n fields. n + unsent_in columns sent fields) old.unsent events

all-sent : (columns : Columns) (sent : List (List ℕ)) (events : List (List (List ℕ))) (old : Kept) (end : Keeping)
    → after_records next_kept (keeping columns sent old) events ≡ Ok end → AreSent columns sent events old end.kept
unfolding keeping
all-sent columns sent [] old end h =
    let is : keeping columns sent old ≡ end = cc h in
    let same : old ≡ end.kept = ap (λ (k : Keeping). k.kept) is in
    subst (AreSent columns sent [] old) same (record { text = sym (append-nil old.text); unsent = refl })
all-sent columns sent (fields ∷ events) old end h =
    let rest = all-sent columns sent events (with_kept (sent_row columns sent fields) (unsent_in columns sent fields) old) end
    (subst (λ k. after_records next_kept (keeping columns sent k) events ≡ Ok end) (event-sent columns sent fields old) h) in
    record {
      text = rest.text ∙ append_assoc old.text (row_text our_writer (sent_row columns sent fields))
          (flat_map (λ fields. row_text our_writer (sent_row columns sent fields)) events);
      unsent = rest.unsent;
    }

records-sent : (sent : List (List ℕ)) (records : List (List (List ℕ))) (end : Keeping) → All HasField records
    → after_records next_kept (nothing_kept sent) records ≡ Ok end → IsSentOf sent records end.kept
records-sent sent [] end every h =
    let is : nothing_kept sent ≡ end = cc h in
    (ap (λ (k : Keeping). k.kept.text) (sym is), ap (λ (k : Keeping). k.kept.unsent) (sym is))
records-sent sent (header ∷ events) end every h =
    let step = reached (next_kept (nothing_kept sent) header) _ end h in
    let columns = reached (columns_of header) _ step.0 step.1 in
    let is : keeping columns.0 sent (with_kept header 0 (nothing_kept sent).kept) ≡ step.0 = unfold keeping in cc (columns.2) in
    let all = all-sent columns.0 sent events (with_kept header 0 (nothing_kept sent).kept) end
    (subst (λ k. after_records next_kept k events ≡ Ok end) (sym is) step.2) in (
      columns.0,
      columns.1,
      record {
        text = all.text;
        read = read-back (sent_row columns.0 sent) header events end.kept.text (All-head HasField header events every)
            (All-weaker HasField (λ fields. HasField (sent_row columns.0 sent fields))
            (sent-some columns.0 sent) events (All-tail HasField header events every)) all.text;
        unsent = all.unsent;
      },
    )

pub receives : (sent : List (List ℕ)) (text : List ℕ) (kept : Kept)
    → names_kept sent text ≡ Ok kept → IsSentOf sent (records_of_text text) kept
receives sent text kept h =
    let end = reached (after_records next_kept (nothing_kept sent) (records_of_text text)) _ kept h in
    let same : end.0.kept ≡ kept = cc (end.2) in
    subst (IsSentOf sent (records_of_text text)) same (records-sent sent (records_of_text text) end.0 (records-some text) end.1)

-- what is handed out is both
pub at-once : (unit : Option TimeUnit) (from : LogEnd) (until : Option LogEnd) (text : List ℕ) (w : LogWindow)
    → IsWindow unit from until text w → IsWindowAtOnce unit from until (records_of_text text) w
at-once unit from until text w h = record {
  kept = h.read.rows;
  cut = cut unit from until text h.read h.is;
  sent = receives h.read.rows.sent h.read.rows.text (record { text = w.text.items; unsent = w.unsent }) h.made.kept;
  places = h.made.places_are;
  outside = h.made.outside_are;
}
