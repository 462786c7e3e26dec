-- A text that is read part by part leads where it leads when it is read whole.
use Rattle.std.proofs.Common.{◌≡◌, ◌≢◌, ◌≤◌, ◌<◌, ◌+◌, ◌∙◌, ℕ, List, [], ◌++◌, length, take, drop, Option, Some, None}
use Rattle.std.proofs.Common.{IfSome, Result, Ok, Err, Bool, true, false, refl, sym, ap, subst, arith, append_assoc}
use Rattle.std.proofs.Common.{append-nil, length-append, take-append-drop}
use Rattle.std.specs.Prelude.{IfErr, IfOk, OnOk, IsErrOf, MatchBool, ⊤, nat_le}
use Rattle.std.proofs.lemmas.Bool.Decides.{nat_tests}
use Rattle.std.proofs.KnownBytes.{Consumes-nil, Consumes-trans, Consumes-whole}
use Rattle.std.specs.Io.KnownBytes.{Consumes, IsAtEnd}
use Rattle.step_trace.specs.Traces.{Recorded}
use Rattle.trace_text.specs.declared.byte_loops.TheConstants.{MAX_TEXT_BYTES}
use Rattle.trace_text.specs.declared.reading.Stage.{Stage}
use Rattle.trace_text.specs.declared.reading.Stage.TheVariants.{Opening}
use Rattle.trace_text.specs.declared.refusals.TextError.{TextError}
use Rattle.trace_text.specs.declared.refusals.TextError.TheVariants as why
use Rattle.trace_text.specs.ByteLoops.{faults_after_reading}
use Rattle.trace_text.specs.Records.{◌>>=◌, records_of_text}
use Rattle.trace_text.specs.TextRefusals.{Gives, is_memory, trace_at_end, trace_of_records, trace_of_text}
use Rattle.trace_text.proofs.TableReasons.{never-answered, never-reached}
use Rattle.trace_text.proofs.TextLaws.{gives-sound, gives-stands}
use Rattle.trace_text.proofs.TakenRecords.{unless}
use Rattle.shared_reading.specs.Seams.{has_quote, ends_line}
use Rattle.shared_reading.specs.Pieces.{IsUnmarked, read_on}
use Rattle.shared_reading.specs.declared.progress.Progress.{Progress}
use Rattle.shared_reading.specs.DeviceTexts.{IsReadTo, IsTaken, IsGiven, IsRefusalOf, IsRefused, IsReadOut, IsTraceRead, IsUnread}
use Rattle.shared_reading.specs.DeviceTexts.{IsWithin}
use Rattle.shared_reading.proofs.PieceLemmas.{read_on-ok, read_on-err}
use Rattle.shared_reading.proofs.QuoteFree.{seam}

-- a text, and what comes behind it, is its front, and then the rest with what comes behind it
pub front-rest : (rest more : List ℕ) (cut : ℕ) → rest ++ more ≡ take cut rest ++ (drop cut rest ++ more)
front-rest rest more cut = ap (λ xs. xs ++ more) (sym (take-append-drop cut rest)) ∙ append_assoc (take cut rest) (drop cut rest) more

-- a front that may be cut off is taken
pub front-taken : (s t : Stage) (rest : List ℕ) (cut : ℕ) → cut ≤ length rest → has_quote (take cut rest) ≡ false
    → ends_line (take cut rest) ≡ true → IsUnmarked (drop cut rest) → read_on s (take cut rest) ≡ Ok t → IsTaken s t rest (Ok cut)
front-taken s t rest cut within quoteless line unmarked h = (
  within,
  λ more. ap (λ xs. read_on s xs) (front-rest rest more cut) ∙ read_on-ok
      s t (take cut rest) (drop cut rest ++ more) (seam (take cut rest) (drop cut rest ++ more) quoteless line (unmarked more)) h,
)

-- or refused
pub front-refused : (s t : Stage) (rest : List ℕ) (cut : ℕ) (e : TextError) → has_quote (take cut rest) ≡ false → ends_line (take cut rest)
    ≡ true → IsUnmarked (drop cut rest) → MatchBool (is_memory e) ⊤ (read_on s (take cut rest) ≡ Err e) → IsTaken s t rest (Err e)
front-refused s t rest cut e quoteless line unmarked = unless (is_memory e) _ _
    (λ h more. ap (λ xs. read_on s xs) (front-rest rest more cut) ∙ read_on-err s e
    (take cut rest) (drop cut rest ++ more) (seam (take cut rest) (drop cut rest ++ more) quoteless line (unmarked more)) h)

-- ---- how far a text was read

-- nothing was read yet
pub begins : (known : Option (List ℕ)) (p : Progress) → p.stage ≡ Opening → p.total ≡ 0 → p.rest.items ≡ [] → IsReadTo known known [] p
begins known p opening none empty = record {
  gone = [];
  count = rw empty none;
  read = rw empty (Consumes-nil known);
  leads = λ more. rw opening refl;
}

-- more bytes were read
pub more-read : (known left after : Option (List ℕ)) (before bytes : List ℕ) (p q : Progress) → q.stage ≡ p.stage
    → q.total ≡ p.total + length bytes → q.rest.items ≡ p.rest.items ++ bytes → Consumes left after bytes
    → IsReadTo known left before p → IsReadTo known after before q
more-read known left after before bytes p q stage total rest read h =
    let whole : h.gone ++ (before ++ q.rest.items) ≡ (h.gone ++ (before ++ p.rest.items)) ++ bytes =
    ap (λ xs. h.gone ++ (before ++ xs)) rest ∙ ap (λ xs. h.gone ++ xs) (sym (append_assoc before p.rest.items bytes))
    ∙ sym (append_assoc h.gone (before ++ p.rest.items) bytes) in
    let behind : (more : List ℕ) → q.rest.items ++ more
    ≡ p.rest.items ++ (bytes ++ more) = (λ more. ap (λ xs. xs ++ more) rest ∙ append_assoc p.rest.items bytes more) in
    record {
      gone = h.gone;
      count = omega (arith, total, h.count, ap length whole, length-append (h.gone ++ (before ++ p.rest.items)) bytes);
      read = subst (Consumes known after) (sym whole)
          (Consumes-trans known left after (h.gone ++ (before ++ p.rest.items)) bytes h.read read);
      leads = λ more. rw (stage, behind more) (h.leads (bytes ++ more));
    }

-- the front of the rest was taken
pub part-taken : (known left : Option (List ℕ)) (p q : Progress) (cut : ℕ) → q.total ≡ p.total → q.rest.items ≡ drop cut p.rest.items
    → IsTaken p.stage q.stage p.rest.items (Ok cut) → IsReadTo known left [] p → IsReadTo known left [] q
part-taken known left p q cut total rest front h =
    let whole : (h.gone ++ take cut p.rest.items) ++ q.rest.items ≡ h.gone ++ p.rest.items =
    ap (λ xs. (h.gone ++ take cut p.rest.items) ++ xs) rest ∙ append_assoc h.gone (take cut p.rest.items) (drop cut p.rest.items)
    ∙ ap (λ xs. h.gone ++ xs) (take-append-drop cut p.rest.items) in
    let behind : (more : List ℕ) → (h.gone ++ take cut p.rest.items) ++ (drop cut p.rest.items ++ more) ≡ h.gone ++ (p.rest.items ++ more) =
    (λ more. append_assoc h.gone (take cut p.rest.items) (drop cut p.rest.items ++ more)
    ∙ ap (λ xs. h.gone ++ xs) (sym (front-rest p.rest.items more cut))) in
    record {
      gone = h.gone ++ take cut p.rest.items;
      count = total ∙ h.count ∙ sym (ap length whole);
      read = subst (Consumes known left) (sym whole) h.read;
      leads = λ more. rw rest (ap (λ xs. read_on Opening xs) (behind more) ∙ h.leads more ∙ front.1 more);
    }

-- the reader brought too much
too-large : (known left after : Option (List ℕ)) (taken bytes : List ℕ) (total : ℕ) → Consumes known left taken
    → Consumes left after bytes → total ≡ length taken → MAX_TEXT_BYTES < total + length bytes
    → IfSome known (λ xs. MAX_TEXT_BYTES < length xs)
too-large None left after taken bytes total h k t more = tt
too-large (Some xs) None after taken bytes total h k t more = absurd h
too-large (Some xs) (Some ys) None taken bytes total h k t more = absurd k
too-large (Some xs) (Some ys) (Some zs) taken bytes total h k t more =
    omega (arith, t, more, simp length-append at (ap length h), simp length-append at (ap length k))

pub unread : (known left after : Option (List ℕ)) (before : List ℕ) (p : Progress) (e : TextError)
    → IsReadTo known left before p → IsUnread p.total left after e → IsRefused known after e
unread known left after before p why.Read h k = tt
unread known left after before p why.TooLarge h k =
    too-large known left after (h.gone ++ (before ++ p.rest.items)) k.bytes p.total h.read k.read h.count k.size
unread known left after before p e h k = absurd k

-- ---- no more was read than a text may have

consumed-within : (known left : Option (List ℕ)) (bytes : List ℕ) → Consumes known left bytes → length bytes ≤ MAX_TEXT_BYTES
    → IsWithin known left
consumed-within None left bytes read size = tt
consumed-within (Some xs) None bytes read size = tt
consumed-within (Some xs) (Some ys) bytes read size = omega (arith, size, simp length-append at (ap length read))

pub given-within : (known left : Option (List ℕ)) (r : Result Recorded TextError) → IsGiven known r → IsWithin known left
given-within None left r h = tt
given-within (Some xs) None r h = tt
given-within (Some xs) (Some ys) r h = omega (arith, h.size, ap length h.is)

pub read-within : (known left : Option (List ℕ)) (before : List ℕ) (p : Progress) → p.total ≤ MAX_TEXT_BYTES
    → IsReadTo known left before p → IsWithin known left
read-within known left before p limit h =
    consumed-within known left (h.gone ++ (before ++ p.rest.items)) h.read (omega (arith, limit, h.count))

pub more-within : (known left after : Option (List ℕ)) (before bytes : List ℕ) (p : Progress) → Consumes left after bytes
    → p.total + length bytes ≤ MAX_TEXT_BYTES → IsReadTo known left before p → IsWithin known after
more-within known left after before bytes p read limit h =
    let all : List ℕ = h.gone ++ (before ++ p.rest.items) in
    consumed-within known after (all ++ bytes) (Consumes-trans known left after all bytes h.read read)
    (omega (arith, limit, h.count, length-append all bytes))

-- records that give a refusal are a reason for it
pub given-refused : (known left : Option (List ℕ)) (e : TextError) → IsGiven known (Err e) → IsRefused known left e
given-refused known left why.Read h = tt
given-refused known left why.Memory h = given-within known left (Err why.Memory) h
given-refused known left why.TooLarge h =
    absurd (never-answered (records_of_text h.text) why.TooLarge why.TooLarge refl refl h.gives refl)
given-refused known left e h = h

err-stays : (e : TextError) (r : Result Stage TextError) → r ≡ Err e → r >>= trace_at_end ≡ Err e
err-stays e r h = rw h refl

-- what was read is refused, and the text is within the limit
pub part-refused : (known left after : Option (List ℕ)) (before : List ℕ) (p : Progress) (t : Stage) (e : TextError)
    → IsTaken p.stage t (before ++ p.rest.items) (Err e) → IsReadOut p.total left after → IsReadTo known left before p
    → IsRefused known after e
part-refused known left after before p t e front out h =
    let behind : (before ++ p.rest.items) ++ out.bytes
    ≡ before ++ (p.rest.items ++ out.bytes) = append_assoc before p.rest.items out.bytes in
    let text : List ℕ = h.gone ++ (before ++ (p.rest.items ++ out.bytes)) in
    let whole : (h.gone ++ (before ++ p.rest.items)) ++ out.bytes ≡ text = append_assoc h.gone (before ++ p.rest.items) out.bytes
    ∙ ap (λ xs. h.gone ++ xs) behind in
    let all : Consumes known after text = subst (Consumes known after) whole
    (Consumes-trans known left after (h.gone ++ (before ++ p.rest.items)) out.bytes h.read out.read) in
    given-refused known after e (record {
      text = text;
      is = Consumes-whole known after text (λ xs. text ≡ xs) all out.end refl;
      size = omega (arith, out.size, h.count, ap length whole, length-append (h.gone ++ (before ++ p.rest.items)) out.bytes);
      gives = unless (is_memory e) _ _ (λ refuses.
          err-stays e (read_on Opening text) (h.leads out.bytes ∙ ap (λ xs. read_on p.stage xs) (sym behind) ∙ refuses out.bytes)) front;
    })

-- the text ends
pub ended : (known left : Option (List ℕ)) (p : Progress) (r : Result Recorded TextError) → IsAtEnd left
    → p.total ≤ MAX_TEXT_BYTES → Gives r (read_on p.stage p.rest.items >>= trace_at_end) → IsReadTo known left [] p → IsGiven known r
ended known left p r end limit gives h =
    let text : List ℕ = h.gone ++ p.rest.items in
    let leads : read_on Opening text ≡ read_on p.stage p.rest.items =
    subst (λ xs. read_on Opening (h.gone ++ xs) ≡ read_on p.stage xs) (append-nil p.rest.items) (h.leads []) in
    record {
      text = text;
      is = Consumes-whole known left text (λ xs. text ≡ xs) h.read end refl;
      size = omega (arith, limit, h.count);
      gives = rw leads gives;
    }

-- ---- refusals, and what is given

-- what was read before a refusal for the reader counts
pub unread-after : (before total : ℕ) (old mid new : Option (List ℕ)) (bytes : List ℕ) (e : TextError)
    → total ≡ before + length bytes → Consumes old mid bytes → IsUnread total mid new e → IsUnread before old new e
unread-after before total old mid new bytes why.Read t h k = tt
unread-after before total old mid new bytes why.TooLarge t h k = record {
  bytes = bytes ++ k.bytes;
  read = Consumes-trans old mid new bytes k.bytes h k.read;
  size = omega (arith, t, k.size, length-append bytes k.bytes);
}
unread-after before total old mid new bytes e t h k = absurd k

-- records never report a failed read
pub no-fault : (s t : Stage) (rest : List ℕ) (e : TextError) → IsTaken s t rest (Err e) → e ≢ why.Read
no-fault s t rest e front = never-reached s (records_of_text (rest ++ [])) e why.Read refl refl
    (unless (is_memory e) _ _ (λ refuses. refuses []) front)

pub faults-kept : (A : Type 0) (e : TextError) (n : ℕ) → e ≢ why.Read → faults_after_reading {A = A} (Err e) n ≡ n
faults-kept A why.Read n other = absurd (other refl)
faults-kept A e n other = refl

pub given-faults : (known : Option (List ℕ)) (r : Result Recorded TextError) (n : ℕ) → IsGiven known r → faults_after_reading r n ≡ n
given-faults known (Ok t) n h = refl
given-faults known (Err e) n h = faults-kept Recorded e n (never-answered (records_of_text h.text) e why.Read refl refl h.gives)

-- what the rest gives
pub gives-refusal : (e : TextError) (table : Result Stage TextError)
    → MatchBool (is_memory e) ⊤ (table ≡ Err e) → Gives (Err e) (table >>= trace_at_end)
gives-refusal e table = unless (is_memory e) _ _ (err-stays e table)

pub may-be : (m : Bool) (P : Type 0) → P → MatchBool m ⊤ P
may-be true P h = tt
may-be false P h = h

gives-itself : (r : Result Recorded TextError) → Gives r r
gives-itself (Ok t) = refl
gives-itself (Err e) = may-be (is_memory e) _ refl

pub gives-end : (s : Stage) (table : Result Stage TextError) → table ≡ Ok s → Gives (trace_at_end s) (table >>= trace_at_end)
gives-end s table h = rw h (gives-itself (trace_at_end s))

-- a trace that is given is that of the text
pub given-read : (known : Option (List ℕ)) (r : Result Recorded TextError) → IsGiven known r → IfOk r (IsTraceRead known)
given-read known (Ok t) h = record {
  text = h.text;
  is = h.is;
  trace = gives-sound h.text (Ok t) h.gives;
  stands = gives-stands h.text (Ok t) h.gives;
  size = h.size;
}
given-read known (Err e) h = tt

-- a refusal is the first of the table
refuses-large : (text : List ℕ) → MAX_TEXT_BYTES < length text → trace_of_text text ≡ Err why.TooLarge
refuses-large text h = let e : nat_le (length text) MAX_TEXT_BYTES ≡ false = grind (arith, nat_tests) in rw e refl

refuses-records : (text given : List ℕ) (e : TextError)
    → given ≡ text → length given ≤ MAX_TEXT_BYTES → trace_of_records (records_of_text given) ≡ Err e → trace_of_text text ≡ Err e
refuses-records text given e same short h =
    let fits : nat_le (length given) MAX_TEXT_BYTES ≡ true = grind (arith, nat_tests) in
    subst (λ xs. trace_of_text xs ≡ Err e) same (rw fits h)

pub refused-known : (known left : Option (List ℕ)) (e : TextError) → IsRefused known left e → IfSome known (IsRefusalOf e)
refused-known None left e h = tt
refused-known (Some text) left why.Read h = tt
refused-known (Some text) left why.Memory h = tt
refused-known (Some text) left why.TooLarge h = refuses-large text h
refused-known (Some text) left e h = refuses-records text h.text e h.is h.size h.gives

-- out of memory before more was read than the limit
pub refused-within : (A : Type 0) (known left : Option (List ℕ)) (e : TextError) → IsRefused known left e
    → IsErrOf {T = A} (Err e) why.Memory → IsWithin known left
refused-within A known left e h is = let same : e ≡ why.Memory = cc in rw same at h

pub given-refusal : (known : Option (List ℕ)) (r : Result Recorded TextError)
    → IsGiven known r → IfErr r (λ e. IfSome known (IsRefusalOf e))
given-refusal known (Ok t) h = tt
given-refusal known (Err e) h = refused-known known known e (given-refused known known e h)

-- what holds for any answer holds for an Ok
pub on-ok : {A E : Type 0} (r : Result A E) (P : Type 0) → P → OnOk r P
on-ok (Ok x) P h = h
on-ok (Err e) P h = tt
