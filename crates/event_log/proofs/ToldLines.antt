-- Lines that are told ahead lead where their records lead.
use Rattle.std.proofs.Common.{ℕ, ℤ, zero, suc, ◌≡◌, ◌+◌, ◌-◌, ◌<◌, ◌≤◌, ◌∙◌, ◌++◌, ◌∷◌, [], Bool, true, false, List, Option, Some, None, Result, Ok, Err}
use Rattle.std.proofs.Common.{cond, length, drop, map, refl, sym, ap, subst, arith, append_assoc, length-append}
use Rattle.std.specs.Prelude.{IsSome, MatchBool, ⊤, nat_le, option_map, ◌==◌}
use Rattle.std.specs.Borrow.{Bor}
use Rattle.std.specs.List.{AllZip}
use Rattle.std.specs.Option.{ok_or}
use Rattle.std.proofs.lemmas.Bool.{le-leb}
use Rattle.std.proofs.lemmas.List.{nil_from_length}
use Rattle.trace_text.specs.Records.{◌>>=◌, after_records, field_of, records_of_text}
use Rattle.trace_text.proofs.TakenRecords.{unless}
use Rattle.event_log.specs.declared.columns.Columns.{Columns}
use Rattle.event_log.specs.declared.reading.Reading.{Reading}
use Rattle.event_log.specs.declared.reading.TheConstants.{MAX_EVENTS}
use Rattle.event_log.specs.declared.records.Rules.{Rules}
use Rattle.event_log.specs.declared.records.Told.{Told}
use Rattle.event_log.specs.declared.records.Verb.{Verb}
use Rattle.event_log.specs.declared.refusals.LogError.{LogError}
use Rattle.event_log.specs.declared.refusals.LogError.TheVariants.{BadEvent, BadFields, BadMessage, BadNode, BadTime, TooManyEvents}
use Rattle.event_log.specs.declared.times.Moment.{Moment}
use Rattle.event_log.specs.declared.times.TimeKind.{TimeKind}
use Rattle.event_log.specs.declared.times.TimeUnit.{TimeUnit}
use Rattle.event_log.specs.declared.told_lines.ToldLines.{ToldLines}
use Rattle.event_log.specs.LogRecords.{Said, accepted, are_messages, are_nodes, bad_node, moment_as, said, said_by, said_of, verb_of}
use Rattle.event_log.specs.Naming.{is_memory}
use Rattle.event_log.specs.PlainLines.{IsPlainLine, LeadsOn}
use Rattle.event_log.specs.Reading.{next_by, next_reading, with_event}
use Rattle.event_log.specs.Times.{moment_in, settled, time_as}
use Rattle.event_log.specs.ToldLines.{AreRulesOf, AreTold, IsToldBy, after_rows}

-- a time of this kind has it
in-kind : (k : TimeKind) (field : List ℕ) (m : Moment) → moment_in k field ≡ Some m → m.kind ≡ k
in-kind k field m h = go (time_as k field) h where
  go : (t : Option ℤ) → option_map (λ time. record { kind = k; time = time }) t ≡ Some m → m.kind ≡ k
  go (Some t) e = let same : record { kind = k; time = t } ≡ m = cc e in ap (λ (x : Moment). x.kind) (sym same)
  go None e = cc e

-- what is accepted is what was said
accepted-same : (listed : Option (Bor (List (List ℕ)))) (number : ℕ) (x s : Said) → accepted listed number x ≡ Ok s → x ≡ s
accepted-same listed number x s h = go (are_nodes listed x) (are_messages x) h where
  go : (a b : Bool) → cond a (cond b (Ok x) (Err (BadMessage number))) (Err (BadNode number (bad_node listed x))) ≡ Ok s → x ≡ s
  go true true e = cc e
  go true false e = cc e
  go false b e = cc e

-- the kind of the times is that of the rules
kind-told : (rules : Rules) (number : ℕ) (fields : List (List ℕ)) (s : Said) (k : TimeKind)
    → rules.kind ≡ Some k → said_of rules number fields ≡ Ok s → s.moment.kind ≡ k
kind-told rules number fields s k settled_is h = go (length fields == rules.columns.fields)
    (moment_as rules.kind (field_of fields rules.columns.time)) (verb_of (field_of fields rules.columns.event)) refl h where
      go : (b : Bool) (m : Option Moment) (v : Option Verb) → moment_as rules.kind (field_of fields rules.columns.time) ≡ m
          → cond b (ok_or m (BadTime number) >>= λ moment. ok_or v (BadEvent number) >>= λ verb.
          accepted rules.listed number (said_by rules.columns moment verb fields)) (Err (BadFields number)) ≡ Ok s → s.moment.kind ≡ k
      go true (Some m) (Some v) is e =
          let same = accepted-same rules.listed number (said_by rules.columns m v fields) s e in
          let kind = in-kind k (field_of fields rules.columns.time) m
          (ap (λ (o : Option TimeKind). moment_as o (field_of fields rules.columns.time)) (sym settled_is) ∙ is) in
          ap (λ (x : Said). x.moment.kind) (sym same) ∙ kind
      go true (Some m) None is e = cc e
      go true None v is e = cc e
      go false m v is e = cc e

-- what is accepted is so whatever its number
accepted-any : (listed : Option (Bor (List (List ℕ)))) (number : ℕ) (x s : Said)
    → accepted listed 0 x ≡ Ok s → accepted listed number x ≡ Ok x
accepted-any listed number x s h = go (are_nodes listed x) (are_messages x) h where
  go : (a b : Bool) → cond a (cond b (Ok x) (Err (BadMessage 0))) (Err (BadNode 0 (bad_node listed x))) ≡ Ok s
      → cond a (cond b (Ok x) (Err (BadMessage number))) (Err (BadNode number (bad_node listed x))) ≡ Ok x
  go true true e = refl
  go true false e = cc e
  go false b e = cc e

-- what a record says is so whatever its number, and its names are its fields
pub told-by : (rules : Rules) (fields : List (List ℕ)) (s : Said) (number : ℕ)
    → said_of rules 0 fields ≡ Ok s → said_of rules number fields ≡ Ok (said_by rules.columns s.moment s.verb fields)
told-by rules fields s number h = go (length fields == rules.columns.fields)
    (moment_as rules.kind (field_of fields rules.columns.time)) (verb_of (field_of fields rules.columns.event)) h where
      go : (b : Bool) (m : Option Moment) (v : Option Verb) → cond b (ok_or m (BadTime 0) >>= λ moment. ok_or v (BadEvent 0)
          >>= λ verb. accepted rules.listed 0 (said_by rules.columns moment verb fields)) (Err (BadFields 0)) ≡ Ok s
          → cond b (ok_or m (BadTime number) >>= λ moment. ok_or v (BadEvent number) >>= λ verb. accepted rules.listed number
          (said_by rules.columns moment verb fields)) (Err (BadFields number)) ≡ Ok (said_by rules.columns s.moment s.verb fields)
      go true (Some m) (Some v) e =
          let x : Said = said_by rules.columns m v fields in
          let same = accepted-same rules.listed 0 x s e in
          accepted-any rules.listed number x s e ∙ ap (λ (y : Said). Ok (said_by rules.columns y.moment y.verb fields)) same
      go true (Some m) None e = cc e
      go true None v e = cc e
      go false m v e = cc e

-- a value that there is
some-of : {A : Type 0} (o : Option A) → IsSome o → (x : A) × (o ≡ Some x)
some-of (Some x) h = (x, refl)
some-of None h = cc h

-- once the kind is settled, an event doesn't change the rules
rules-stay : (rules : Rules) (r : Reading) (fields : List (List ℕ)) (told : Told)
    → AreRulesOf rules r → IsToldBy rules fields told → AreRulesOf rules (with_event r (said told))
rules-stay rules r fields told h t = record {
  columns = h.columns;
  are = h.are ∙ ap (λ (kind : Option TimeKind). record { columns = rules.columns; kind = kind; listed = r.listed })
      (sym (same r.unit (sym settled_is ∙ k.1)));
  kind = h.kind;
} where
  k : (x : TimeKind) × (rules.kind ≡ Some x)
  k = some-of rules.kind h.kind

  settled_is : rules.kind ≡ settled r.unit r.kind
  settled_is = ap (λ (x : Rules). x.kind) h.are

  same : (unit : Option TimeUnit) → settled unit r.kind ≡ Some k.0 → settled unit (Some told.moment.kind) ≡ settled unit r.kind
  same None e = ap Some (kind-told rules 0 fields (said told) k.0 k.1 (t 0)) ∙ sym e
  same (Some unit) e = refl

-- what a record makes of what was read, once it is known what it says
one-event : (rules : Rules) (r : Reading) (fields : List (List ℕ)) (told : Told) → AreRulesOf rules r → IsToldBy rules fields told
    → next_reading r fields ≡ cond (nat_le MAX_EVENTS r.count) (Err TooManyEvents) (Ok (with_event r (said told)))
one-event rules r fields told h t =
    ap (λ (c : Option Columns). next_by c r fields) h.columns
    ∙ ap (λ (x : Result Said LogError). cond (nat_le MAX_EVENTS r.count) (Err TooManyEvents) (x >>= λ s. Ok (with_event r s)))
    (ap (λ (q : Rules). said_of q (r.count + 2) fields) (sym h.are) ∙ t (r.count + 2))

-- events lead where the records lead that say them
pub rows-lead : (rules : Rules) (r : Reading) (records rest : List (List (List ℕ))) (rows : List Told)
    → AreRulesOf rules r → AllZip (IsToldBy rules) records rows
    → after_records next_reading r (records ++ rest) ≡ after_rows r (map said rows) >>= λ s. after_records next_reading s rest
rows-lead rules r [] rest [] h z = refl
rows-lead rules r [] rest (t ∷ ts) h z = absurd z
rows-lead rules r (f ∷ fs) rest [] h z = absurd z
rows-lead rules r (f ∷ fs) rest (t ∷ ts) h z =
    ap (λ (x : Result Reading LogError). x >>= λ q. after_records next_reading q (fs ++ rest)) (one-event rules r f t h z.0)
    ∙ go (nat_le MAX_EVENTS r.count) (rows-lead rules (with_event r (said t)) fs rest ts (rules-stay rules r f t h z.0) z.1) where
      next : Reading
      next = with_event r (said t)

      go : (b : Bool) → after_records next_reading next (fs ++ rest) ≡ after_rows next (map said ts) >>= (λ s.
          after_records next_reading s rest) → cond b (Err TooManyEvents) (Ok next) >>= (λ q. after_records next_reading q (fs ++ rest))
          ≡ cond b (Err TooManyEvents) (after_rows next (map said ts)) >>= (λ s. after_records next_reading s rest)
      go true later = refl
      go false later = later

-- and the rules stay
rows-stay : (rules : Rules) (r : Reading) (records : List (List (List ℕ))) (rows : List Told) (s : Reading)
    → AreRulesOf rules r → AllZip (IsToldBy rules) records rows → after_rows r (map said rows) ≡ Ok s → AreRulesOf rules s
rows-stay rules r [] [] s h z e = subst (AreRulesOf rules) (cc e) h
rows-stay rules r [] (t ∷ ts) s h z e = absurd z
rows-stay rules r (f ∷ fs) [] s h z e = absurd z
rows-stay rules r (f ∷ fs) (t ∷ ts) s h z e = go (nat_le MAX_EVENTS r.count) e
    (rows-stay rules (with_event r (said t)) fs ts s (rules-stay rules r f t h z.0) z.1) where
      go : (b : Bool) → cond b (Err TooManyEvents) (after_rows (with_event r (said t)) (map said ts)) ≡ Ok s
          → (after_rows (with_event r (said t)) (map said ts) ≡ Ok s → AreRulesOf rules s) → AreRulesOf rules s
      go true x later = cc x
      go false x later = later x

-- no event is taken in above the greatest number of events
pub full-row : (r : Reading) (rows : List Told) (k : ℕ)
    → k < length rows → MAX_EVENTS ≤ r.count → after_rows r (map said (drop k rows)) ≡ Err TooManyEvents
full-row r [] k l full = absurd (omega (arith, l))
full-row r (t ∷ ts) zero l full = ap (λ (b : Bool). cond b (Err TooManyEvents) (after_rows (with_event r (said t)) (map said ts)))
    (le-leb MAX_EVENTS r.count full)
full-row r (t ∷ ts) (suc k) l full = full-row r ts k (omega (arith, l)) full

-- Some lines were told, and are yet to be taken in. What was read leads on from where they begin.
pub record IsAhead (rules : Rules) (begun : Reading) (text : List ℕ) (at : ℕ) (reading : Reading) (told : ToldLines) : Type 0 where
  pub by : AreRulesOf rules reading
  pub from : ℕ
  pub lines : AreTold rules text from told
  pub leads : after_records next_reading begun (records_of_text (drop at text))
      ≡ after_records next_reading reading (records_of_text (drop from text))

-- where the told lines and those behind them lead
lines-lead : (rules : Rules) (begun : Reading) (text : List ℕ) (at : ℕ) (reading : Reading) (told : ToldLines)
    → IsAhead rules begun text at reading told → after_records next_reading begun (records_of_text (drop at text))
    ≡ after_rows reading (map said told.rows.items) >>= λ s. after_records next_reading s (records_of_text (drop told.end text))
lines-lead rules begun text at reading told h = h.leads ∙ ap (after_records next_reading reading) h.lines.are
    ∙ rows-lead rules reading h.lines.records (records_of_text (drop told.end text)) told.rows.items h.by h.lines.each

-- they are taken in
pub ahead-next : (rules : Rules) (begun : Reading) (text : List ℕ)
    (at : ℕ) (reading : Reading) (told : ToldLines) (new : Reading) (next : ToldLines) → IsAhead rules begun text at reading told
    → after_rows reading (map said told.rows.items) ≡ Ok new → AreTold rules text told.end next → IsAhead rules begun text at new next
ahead-next rules begun text at reading told new next h e t = record {
  by = rows-stay rules reading h.lines.records told.rows.items new h.by h.lines.each e;
  from = told.end;
  lines = t;
  leads = lines-lead rules begun text at reading told h
      ∙ ap (λ (x : Result Reading LogError). x >>= λ s. after_records next_reading s (records_of_text (drop told.end text))) e;
}

-- or one of them is refused
pub ahead-refused : (rules : Rules) (begun : Reading) (text : List ℕ) (at : ℕ) (reading : Reading) (told : ToldLines) (why : LogError)
    → IsAhead rules begun text at reading told
    → MatchBool (is_memory why) ⊤ (after_rows reading (map said told.rows.items) ≡ Err why) → LeadsOn begun text at (Err why)
ahead-refused rules begun text at reading told why h e = unless (is_memory why) (after_rows reading (map said told.rows.items) ≡ Err why)
    (after_records next_reading begun (records_of_text (drop at text)) ≡ Err why) (λ x. lines-lead rules begun text at reading told h
    ∙ ap (λ (y : Result Reading LogError). y >>= λ s. after_records next_reading s (records_of_text (drop told.end text))) x) e

-- or there are none
pub ahead-ended : (rules : Rules) (begun : Reading) (text : List ℕ) (at : ℕ) (reading : Reading) (told : ToldLines)
    → IsAhead rules begun text at reading told → length told.rows.items ≡ 0 → LeadsOn begun text at (Ok (reading, told.end))
ahead-ended rules begun text at reading told h none = (
  h.lines.within,
  lines-lead rules begun text at reading told h ∙ ap (λ (rows : List Told). after_rows reading (map said rows)
      >>= λ s. after_records next_reading s (records_of_text (drop told.end text))) (nil_from_length told.rows.items none),
)

-- what lines say goes on with the next one
pub told-more : (rules : Rules) (text : List ℕ) (at : ℕ) (told : ToldLines)
    (fields : List (List ℕ)) (end : ℕ) (row : Told) (next : ToldLines) → AreTold rules text at told → IsPlainLine text told.end fields end
    → IsToldBy rules fields row → next.rows.items ≡ told.rows.items ++ row ∷ [] → next.end ≡ end → AreTold rules text at next
told-more rules text at told fields end row next h line says rows is = record {
  within = let w = line.within in omega (arith, is, w);
  forward = let f = h.forward in let s = line.some in
      let l = ap length rows ∙ length-append told.rows.items (row ∷ []) in omega (arith, f, s, l, is);
  records = h.records ++ fields ∷ [];
  each = subst (AllZip (IsToldBy rules) (h.records ++ fields ∷ [])) (sym rows) (zip-more h.records told.rows.items h.each);
  are = h.are ∙ ap (λ (rest : List (List (List ℕ))). h.records ++ rest) (line.records ∙ ap (λ (k : ℕ).
      fields ∷ records_of_text (drop k text)) (sym is)) ∙ sym (append_assoc h.records (fields ∷ []) (records_of_text (drop next.end text)));
} where
  zip-more : (records : List (List (List ℕ))) (told_rows : List Told)
      → AllZip (IsToldBy rules) records told_rows → AllZip (IsToldBy rules) (records ++ fields ∷ []) (told_rows ++ row ∷ [])
  zip-more [] [] z = (says, tt)
  zip-more [] (t ∷ ts) z = absurd z
  zip-more (f ∷ fs) [] z = absurd z
  zip-more (f ∷ fs) (t ∷ ts) z = (z.0, zip-more fs ts z.1)

-- 1 for some rows, 0 for none
abbrev pub one_if_any : List Told → ℕ
one_if_any [] = 0
one_if_any (t ∷ ts) = 1

-- some rows are taken in, and the next ones, if any, end further on
pub told-shrinks : (n end next_end : ℕ) (rows next : List Told)
    → end + length next ≤ next_end → next_end ≤ n → 0 < length rows → n - next_end + one_if_any next < n - end + one_if_any rows
told-shrinks n end next_end [] next forward within some = absurd (omega (arith, some))
told-shrinks n end next_end (t ∷ ts) [] forward within some = omega (arith, forward, within)
told-shrinks n end next_end (t ∷ ts) (x ∷ xs) forward within some = omega (arith, forward, within)
