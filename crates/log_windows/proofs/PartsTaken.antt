-- A text that is read part by part leads where it leads when it is read whole.
use Rattle.std.proofs.Common.{◌≡◌, ◌≤◌, ◌<◌, ◌+◌, ◌∙◌, ℕ, zero, suc, List, [], ◌∷◌, ◌++◌, length, take, drop, Option}
use Rattle.std.proofs.Common.{Some, None, IfSome, Result, Ok, Err, Bool, true, false, cond, inl, inr, refl, sym, ap}
use Rattle.std.proofs.Common.{subst, arith, append_assoc, append-nil, take-append-drop}
use Rattle.std.specs.Prelude.{MatchBool, ⊤}
use Rattle.std.proofs.KnownBytes.{Consumes-trans, Consumes-whole}
use Rattle.std.specs.Io.KnownBytes.{Consumes, IsAtEnd}
use Rattle.csv.specs.Reading.{default_config, is_bom, records, strip_bom}
use Rattle.csv.specs.declared.parser.State.TheVariants as st
use Rattle.trace_text.specs.declared.byte_loops.TheConstants.{MAX_TEXT_BYTES}
use Rattle.trace_text.specs.Records.{after_records, records_of_text}
use Rattle.trace_text.proofs.TakenRecords.{after_records-append, unless}
use Rattle.shared_reading.specs.Seams.{IsClosed}
use Rattle.shared_reading.proofs.Splits.{records-split}
use Rattle.shared_reading.proofs.PartsRead.{front-rest}
use Rattle.shared_reading.proofs.PieceLemmas.{append-stops}
use Rattle.event_log.specs.declared.refusals.LogError.{LogError}
use Rattle.event_log.specs.declared.refusals.LogError.TheVariants.{TooLarge}
use Rattle.event_log.specs.Naming.{is_memory}
use Rattle.log_windows.specs.declared.devices.WindowError.{WindowError}
use Rattle.log_windows.specs.declared.devices.WindowError.TheVariants as unread
use Rattle.log_windows.specs.Devices.{Grew, HasRefusal, IsReadTo, IsRowRefusal, IsTaken, IsUnfilled, IsWholeRead}
use Rattle.log_windows.specs.Places.{EndsNone}
use Rattle.log_windows.proofs.LinesFirst.{closed-behind-line, rows-behind-line}
use Rattle.log_windows.proofs.SeamPlaces.{none-behind}

-- a device brought more
pub grew-more : (old mid new : Option (List ℕ)) (before so_far after bytes : List ℕ)
    → Grew old mid before so_far → Consumes mid new bytes → after ≡ so_far ++ bytes → Grew old new before after
grew-more old mid new before so_far after bytes g c e = record {
  bytes = g.bytes ++ bytes;
  read = Consumes-trans old mid new g.bytes bytes g.read c;
  is = e ∙ ap (λ xs. xs ++ bytes) g.is ∙ append_assoc before g.bytes bytes;
}

-- ---- the front of the bytes behind a line feed

-- those that were whole were taken in
pub front-taken : {S : Type 0} (next : S → List (List ℕ) → Result S LogError) (old new : S) (bytes rest after : List ℕ)
    (cut : ℕ) → rest ≡ 10 ∷ bytes → (cut ≡ 0 → ⊥) → cut ≤ length rest → IsClosed (take cut rest) → EndsNone rest cut
    → after_records next old (records_of_text (take cut rest)) ≡ Ok new → after ≡ take 1 rest ++ drop cut rest
    → IsTaken next old new bytes after
front-taken next old new bytes rest after zero e some within closed last h k = absurd (some refl)
front-taken next old new bytes rest after (suc n) e some within closed last h k =
    let own : IsClosed (take n bytes) = closed-behind-line (take n bytes) (subst (λ xs. IsClosed (take (suc n) xs)) e closed) in
    let reads : after_records next old (records default_config (take n bytes)) ≡ Ok new =
    ap (λ rs. after_records next old rs) (sym (rows-behind-line (take n bytes)))
    ∙ subst (λ xs. after_records next old (records_of_text (take (suc n) xs)) ≡ Ok new) e h in
    record {
      front = take n bytes;
      others = drop n bytes;
      whole = sym (take-append-drop n bytes);
      rest_is = k ∙ ap (λ xs. take 1 xs ++ drop (suc n) xs) e;
      leads = λ more. ap (λ xs. after_records next old (records default_config xs)) (front-rest bytes more n)
          ∙ ap (λ rs. after_records next old rs) (records-split (take n bytes) (drop n bytes ++ more) own)
          ∙ after_records-append next old new (records default_config (take n bytes)) (records default_config (drop n bytes ++ more)) reads;
      endless = none-behind st.StartRecord (suc n) (10 ∷ bytes) (subst (λ xs. suc n ≤ length xs) e within)
          (subst (λ xs. IsClosed (take (suc n) xs)) e closed) (subst (λ xs. EndsNone xs (suc n)) e last);
    }

-- or one of them was refused
pub front-refused : {S : Type 0} (next : S → List (List ℕ) → Result S LogError) (old : S) (bytes rest : List ℕ) (cut : ℕ) (why : LogError)
    → rest ≡ 10 ∷ bytes → (cut ≡ 0 → ⊥)
    → IsClosed (take cut rest) → MatchBool (is_memory why) ⊤ (after_records next old (records_of_text (take cut rest)) ≡ Err why)
    → MatchBool (is_memory why) ⊤ ((more : List ℕ) → after_records next old (records default_config (bytes ++ more)) ≡ Err why)
front-refused next old bytes rest zero why e some closed = absurd (some refl)
front-refused next old bytes rest (suc n) why e some closed = unless (is_memory why) _ _ (λ h more.
    let own : IsClosed (take n bytes) = closed-behind-line (take n bytes) (subst (λ xs. IsClosed (take (suc n) xs)) e closed) in
    let reads : after_records next old (records default_config (take n bytes)) ≡ Err why =
    ap (λ rs. after_records next old rs) (sym (rows-behind-line (take n bytes)))
    ∙ subst (λ xs. after_records next old (records_of_text (take (suc n) xs)) ≡ Err why) e h in
    ap (λ xs. after_records next old (records default_config xs)) (front-rest bytes more n)
    ∙ ap (λ rs. after_records next old rs) (records-split (take n bytes) (drop n bytes ++ more) own)
    ∙ append-stops next old why (records default_config (take n bytes)) (records default_config (drop n bytes ++ more)) reads)

-- ---- how far a text was read

-- a part was read, and nothing was taken in yet
pub begun : {S : Type 0} (next : S → List (List ℕ) → Result S LogError) (s : S) (known left : Option (List ℕ)) (all rest : List ℕ)
    → Consumes known left all → 3 ≤ length all → rest ≡ 10 ∷ strip_bom all → IsReadTo next s known left rest s
unfolding strip_bom
begun next s known left [] rest c l e = absurd (omega (arith, l))
begun next s known left (x ∷ []) rest c l e = absurd (omega (arith, l))
begun next s known left (x ∷ y ∷ []) rest c l e = absurd (omega (arith, l))
begun next s known left (x ∷ y ∷ z ∷ r) rest c l e = go (is_bom x y z) refl e where
  go : (t : Bool) → is_bom x y z ≡ t → rest ≡ 10 ∷ cond t r (x ∷ y ∷ z ∷ r) → IsReadTo next s known left rest s
  go true q e = record { gone = x ∷ y ∷ z ∷ []; bytes = r; rest_is = e; read = c; leads = λ more. rw q refl }
  go false q e = record { gone = []; bytes = x ∷ y ∷ z ∷ r; rest_is = e; read = c; leads = λ more. rw q refl }

-- the same of a text that is behind a line feed
pub opened : {S : Type 0} (next : S → List (List ℕ) → Result S LogError) (s : S) (known left : Option (List ℕ)) (before rest after : List ℕ)
    → before ≡ 10 ∷ [] → Grew known left before rest → 4 ≤ length rest
    → ((bytes : List ℕ) → rest ≡ 10 ∷ bytes → 3 ≤ length bytes → after ≡ 10 ∷ strip_bom bytes) → IsReadTo next s known left after s
opened next s known left before rest after b g long h =
    let e : rest ≡ 10 ∷ g.bytes = g.is ∙ ap (λ xs. xs ++ g.bytes) b in
    let l : 3 ≤ length g.bytes = omega (arith, long, ap length e) in
    begun next s known left g.bytes after g.read l (h g.bytes e l)

-- more bytes were read
pub more-read : {S : Type 0} (next : S → List (List ℕ) → Result S LogError) (s : S) (known left after : Option (List ℕ)) (rest longer : List
    ℕ) (state : S) → Grew left after rest longer → IsReadTo next s known left rest state → IsReadTo next s known after longer state
more-read next s known left after rest longer state g h = record {
  gone = h.gone;
  bytes = h.bytes ++ g.bytes;
  rest_is = g.is ∙ ap (λ xs. xs ++ g.bytes) h.rest_is;
  read = subst (Consumes known after) (append_assoc h.gone h.bytes g.bytes)
      (Consumes-trans known left after (h.gone ++ h.bytes) g.bytes h.read g.read);
  leads = λ more. rw (append_assoc h.bytes g.bytes more) (h.leads (g.bytes ++ more));
}

-- the front of what was read was taken in
pub part-taken : {S : Type 0} (next : S → List (List ℕ) → Result S LogError) (s : S) (known left : Option (List ℕ)) (rest after : List ℕ)
    (old new : S) (h : IsReadTo next s known left rest old) → IsTaken next old new h.bytes after → IsReadTo next s known left after new
part-taken next s known left rest after old new h t =
    let whole : h.gone ++ h.bytes ≡ (h.gone ++ t.front) ++ t.others = ap (λ xs. h.gone ++ xs) t.whole
    ∙ sym (append_assoc h.gone t.front t.others) in
    record {
      gone = h.gone ++ t.front;
      bytes = t.others;
      rest_is = t.rest_is;
      read = subst (Consumes known left) whole h.read;
      leads = λ more. ap (λ xs. after_records next s (records_of_text xs)) (append_assoc h.gone t.front (t.others ++ more) ∙ ap (λ xs.
          h.gone ++ xs) (sym (append_assoc t.front t.others more) ∙ ap (λ xs. xs ++ more) (sym t.whole))) ∙ h.leads more ∙ t.leads more;
    }

-- what was read is refused, whatever comes behind it
read-refused : {S : Type 0} (next : S → List (List ℕ) → Result S LogError) (s : S) (known left : Option (List ℕ))
    (gone bytes : List ℕ) (state : S) (why : LogError) → Consumes known left (gone ++ bytes)
    → ((more : List ℕ) → after_records next s (records_of_text (gone ++ (bytes ++ more))) ≡ after_records next state
    (records default_config (bytes ++ more)))
    → ((more : List ℕ) → after_records next state (records default_config (bytes ++ more)) ≡ Err why)
    → IfSome known (λ text. after_records next s (records_of_text text) ≡ Err why)
read-refused next s None left gone bytes state why c leads refuses = tt
read-refused next s (Some text) None gone bytes state why c leads refuses = absurd c
read-refused next s (Some text) (Some ys) gone bytes state why c leads refuses =
    ap (λ xs. after_records next s (records_of_text xs)) (c ∙ append_assoc gone bytes ys) ∙ leads ys ∙ refuses ys

if-refused : {S : Type 0} (next : S → List (List ℕ) → Result S LogError) (s : S) (known : Option (List ℕ))
    (why : LogError) → IfSome known (λ text. after_records next s (records_of_text text) ≡ Err why)
    → IfSome known (λ text. HasRefusal next s text why)
if-refused next s None why h = tt
if-refused next s (Some text) why h = inl h

if-unless : (t : Bool) (known : Option (List ℕ)) (P : List ℕ → Type 0)
    → MatchBool t ⊤ (IfSome known P) → IfSome known (λ text. MatchBool t ⊤ (P text))
if-unless true None P h = tt
if-unless true (Some text) P h = tt
if-unless false known P h = h

pub part-refused : {S : Type 0} (next : S → List (List ℕ) → Result S LogError) (s : S) (known left : Option (List ℕ))
    (rest : List ℕ) (state : S) (why : LogError) (h : IsReadTo next s known left rest state)
    → MatchBool (is_memory why) ⊤ ((more : List ℕ)
    → after_records next state (records default_config (h.bytes ++ more)) ≡ Err why)
    → IfSome known (IsRowRefusal next s (unread.Log why))
part-refused next s known left rest state why h r = if-unless (is_memory why) known (λ text. HasRefusal next s text why) (unless (is_memory
    why) _ _ (λ refuses. if-refused next s known why (read-refused next s known left h.gone h.bytes state why h.read h.leads refuses)) r)

-- what was read has a record that is too long
long-read : {S : Type 0} (next : S → List (List ℕ) → Result S LogError)
    (s : S) (known left : Option (List ℕ)) (gone bytes : List ℕ) (state : S) → Consumes known left (gone ++ bytes) → ((more : List ℕ)
    → after_records next s (records_of_text (gone ++ (bytes ++ more))) ≡ after_records next state (records default_config (bytes ++ more)))
    → MAX_TEXT_BYTES < length bytes → EndsNone bytes 0 → IfSome known (IsRowRefusal next s (unread.Log TooLarge))
long-read next s None left gone bytes state c leads size endless = tt
long-read next s (Some text) None gone bytes state c leads size endless = absurd c
long-read next s (Some text) (Some ys) gone bytes state c leads size endless = inr (
  refl,
  record {
    front = gone;
    long = bytes;
    behind = ys;
    whole = c ∙ append_assoc gone bytes ys;
    state = state;
    leads = leads;
    size = size;
    endless = endless;
  },
)

pub part-long : {S : Type 0} (next : S → List (List ℕ) → Result S LogError)
    (s : S) (known left : Option (List ℕ)) (rest after : List ℕ) (old new : S) (h : IsReadTo next s known left rest old)
    → IsTaken next old new h.bytes after → MAX_TEXT_BYTES + 1 < length after → IfSome known (IsRowRefusal next s (unread.Log TooLarge))
unfolding part-taken
part-long next s known left rest after old new h t size =
    let r = part-taken next s known left rest after old new h t in
    long-read next s known left (h.gone ++ t.front) t.others new r.read r.leads (omega (arith, size, ap length t.rest_is)) t.endless

-- a failed read, or out of memory
pub unfilled : {S : Type 0} (next : S → List (List ℕ) → Result S LogError) (s : S) (known : Option (List ℕ)) (e : WindowError)
    → IsUnfilled e → IfSome known (IsRowRefusal next s e)
unfilled next s None e h = tt
unfilled next s (Some text) unread.Read h = tt
unfilled next s (Some text) (unread.Log why) h = rw h tt

-- ---- the text ends

-- the rest leads on
rest-leads : {S : Type 0} (next : S → List (List ℕ) → Result S LogError) (s : S) (gone bytes rest : List ℕ) (state : S) → rest ≡ 10 ∷ bytes
    → ((more : List ℕ) → after_records next s (records_of_text (gone ++ (bytes ++ more))) ≡ after_records next state (records default_config
    (bytes ++ more))) → after_records next s (records_of_text (gone ++ bytes)) ≡ after_records next state (records_of_text rest)
rest-leads next s gone bytes rest state e leads = subst (λ xs. after_records next s (records_of_text (gone ++ xs))
    ≡ after_records next state (records default_config xs)) (append-nil bytes) (leads []) ∙ ap
    (λ rs. after_records next state rs) (sym (rows-behind-line bytes)) ∙ ap (λ xs. after_records next state (records_of_text xs)) (sym e)

pub ended : {S : Type 0} (next : S → List (List ℕ) → Result S LogError)
    (s : S) (known left : Option (List ℕ)) (rest : List ℕ) (state end : S) → IsAtEnd left
    → after_records next state (records_of_text rest) ≡ Ok end → IsReadTo next s known left rest state → IsWholeRead next s end known
ended next s known left rest state end at leads h = record {
  text = h.gone ++ h.bytes;
  is = Consumes-whole known left (h.gone ++ h.bytes) (λ xs. h.gone ++ h.bytes ≡ xs) h.read at refl;
  leads = rest-leads next s h.gone h.bytes rest state h.rest_is h.leads ∙ leads;
}

pub end-refused : {S : Type 0} (next : S → List (List ℕ) → Result S LogError) (s : S) (known left : Option (List ℕ)) (rest : List ℕ)
    (state : S) (why : LogError) → IsAtEnd left → MatchBool (is_memory why) ⊤ (after_records next state (records_of_text rest) ≡ Err why)
    → IsReadTo next s known left rest state → IfSome known (IsRowRefusal next s (unread.Log why))
end-refused next s known left rest state why at r h =
    if-unless (is_memory why) known (λ text. HasRefusal next s text why) (unless (is_memory why) _ _ (λ refuses. if-refused next s known why
    (Consumes-whole known left (h.gone ++ h.bytes) (λ text. after_records next s (records_of_text text) ≡ Err why) h.read at
    (rest-leads next s h.gone h.bytes rest state h.rest_is h.leads ∙ refuses))) r)
