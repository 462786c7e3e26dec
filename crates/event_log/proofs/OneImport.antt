-- A text and options have one import.
use Rattle.std.proofs.Common.{ℕ, ℤ, ◌≡◌, ◌∙◌, ◌+◌, Bool, true, false, List, [], ◌∷◌, length, map, Option, Some, None, Result, Ok, Err, cond, refl, sym, ap, ap₂, subst}
use Rattle.std.specs.Prelude.{◌&&◌, ◌==◌, nat_le, option_map, unwrap_or}
use Rattle.std.specs.Option.{ok_or}
use Rattle.std.specs.Borrow.{Bor}
use Rattle.step_trace.specs.Traces.{Recorded}
use Rattle.timed_events.specs.declared.events.Clock.{Clock}
use Rattle.timed_events.specs.declared.events.Event.{Event}
use Rattle.timed_events.specs.declared.lateness.Lateness.{Lateness}
use Rattle.timed_events.specs.declared.spread_traces.Moved.{Moved}
use Rattle.trace_text.specs.Records.{◌>>=◌, field_of, records_of_text}
use Rattle.trace_text.specs.declared.byte_loops.TheConstants.{MAX_TEXT_BYTES}
use Rattle.event_log.specs.declared.columns.Columns.{Columns}
use Rattle.event_log.specs.declared.imports.IdleReceives.{IdleReceives}
use Rattle.event_log.specs.declared.imports.Import.{Import}
use Rattle.event_log.specs.declared.options.Options.{Options}
use Rattle.event_log.specs.declared.reading.TheConstants.{MAX_EVENTS}
use Rattle.event_log.specs.declared.records.Verb.{Verb}
use Rattle.event_log.specs.declared.records.Verb.TheVariants as verb
use Rattle.event_log.specs.declared.refusals.LogError.{LogError}
use Rattle.event_log.specs.declared.refusals.LogError.TheVariants.{BadFields, BadTime, BadEvent, BadNode, BadMessage, TooLarge, TooManyEvents}
use Rattle.event_log.specs.declared.times.TimeKind.{TimeKind}
use Rattle.event_log.specs.declared.times.TimeUnit.{TimeUnit}
use Rattle.event_log.specs.Alignments.{AreAligned}
use Rattle.event_log.specs.Columns.{columns_of}
use Rattle.event_log.specs.Events.{seen}
use Rattle.event_log.specs.IdleLimits.{limit_in}
use Rattle.event_log.specs.Imports.{IsImportOf, IsMadeOfLog}
use Rattle.event_log.specs.LogPlaces.{moved_in}
use Rattle.event_log.specs.ReadLogs.{IsRead}
use Rattle.event_log.specs.TakenEvents.{kept_count, removed_by}
use Rattle.event_log.specs.TickClocks.{clock_in}
use Rattle.event_log.specs.LogRecords.{Said, accepted, are_messages, are_nodes_by, bad_node_by, is_node, moment_as, name_in, said_by, said_of, verb_of}
use Rattle.event_log.specs.Logs.{SeenLog, resolved_log}
use Rattle.trace_text.specs.Names.{has_name}
use Rattle.event_log.specs.Stages.{header_stage, names_stage, rules, says_of, staged_log, with_said}
use Rattle.event_log.specs.Times.{settled}
use Rattle.event_log.proofs.OneAlignment.{aligned-once}
use Rattle.event_log.proofs.LeftEvents.{places-same}
use Rattle.event_log.proofs.MergedOnce.{taken-once}
use Rattle.event_log.proofs.SeenEvents.{lateness-same, lengths}
use Rattle.event_log.proofs.SeenSilences.{made-as-seen, made-once}
use Rattle.event_log.proofs.SoundLogs.{same-ok}

-- steps that go on in the same way
then-same : {A B : Type 0} (r : Result A LogError) (f g : A → Result B LogError) → ((x : A) → f x ≡ g x) → r >>= f ≡ r >>= g
then-same (Ok x) f g h = h x
then-same (Err e) f g h = refl

unless-same : {A : Type 0} (t : Bool) (e : LogError) (r q : Result A LogError) → r ≡ q → cond t (Err e) r ≡ cond t (Err e) q
unless-same t e r q h = ap (cond t (Err e)) h

-- whether a node may be named goes by the listed names alone
node-same : (a b : Option (Bor (List (List ℕ)))) (name : List ℕ)
    → option_map (λ nodes. nodes.now) a ≡ option_map (λ nodes. nodes.now) b → is_node a name ≡ is_node b name
node-same None None name h = refl
node-same None (Some b) name h = absurd (cc)
node-same (Some a) None name h = absurd (cc)
node-same (Some a) (Some b) name h = let same : a.now ≡ b.now = cc in ap (λ names. has_name names name) same

module _ (unit : Option TimeUnit) (a b : Option (Bor (List (List ℕ))))
    (same : option_map (λ nodes. nodes.now) a ≡ option_map (λ nodes. nodes.now) b) where
  nodes-same : (v : Verb) (s : Said) → are_nodes_by v a s ≡ are_nodes_by v b s
  nodes-same verb.Send s = ap₂ (λ t u. t && u) (node-same a b s.node same) (node-same a b s.to same)
  nodes-same verb.Receive s = node-same a b s.node same

  bad-same : (v : Verb) (s : Said) → bad_node_by v a s ≡ bad_node_by v b s
  bad-same verb.Send s = ap (λ t. cond t (name_in s.to) (name_in s.node)) (node-same a b s.node same)
  bad-same verb.Receive s = refl

  accepted-same : (number : ℕ) (s : Said) → accepted a number s ≡ accepted b number s
  accepted-same number s = ap₂ (λ t (bad : Option (List ℕ)).
      cond t (cond (are_messages s) (Ok s) (Err (BadMessage number))) (Err (BadNode number bad))) (nodes-same s.verb s) (bad-same s.verb s)

  said-same : (columns : Columns) (kind : Option TimeKind) (number : ℕ) (fields : List (List ℕ))
      → said_of (rules columns unit kind a) number fields ≡ said_of (rules columns unit kind b) number fields
  said-same columns kind number fields =
      ap (λ r. cond (length fields == columns.fields) r (Err (BadFields number)))
      (then-same (ok_or (moment_as (settled unit kind) (field_of fields columns.time)) (BadTime number)) _ _ (λ moment.
      then-same (ok_or (verb_of (field_of fields columns.event)) (BadEvent number)) _ _ (λ v.
      accepted-same number (said_by columns moment v fields))))

  says-same : (columns : Columns) (kind : Option TimeKind) (place : ℕ) (records : List (List (List ℕ)))
      → says_of columns unit a kind place records ≡ says_of columns unit b kind place records
  unfolding says_of
  says-same columns kind place [] = refl
  says-same columns kind place (fields ∷ more) = unless-same (nat_le MAX_EVENTS place) TooManyEvents _ _
      (ap (λ r. r >>= λ s. says_of columns unit a (Some s.moment.kind) (place + 1) more >>= λ r. with_said s r)
      (said-same columns kind (place + 2) fields) ∙ then-same (said_of (rules columns unit kind b) (place + 2) fields) _ _
      (λ s. ap (λ r. r >>= λ r. with_said s r) (says-same columns (Some s.moment.kind) (place + 1) more)))

  header-same : (nodes : List (List ℕ)) (records : List (List (List ℕ)))
      → header_stage unit a nodes records ≡ header_stage unit b nodes records
  header-same nodes [] = refl
  header-same nodes (header ∷ more) = then-same (columns_of header) _ _
      (λ columns. ap (λ r. r >>= λ r. names_stage nodes r) (says-same columns None 0 more))

  staged-same : (nodes : List (List ℕ)) (text : List ℕ) → staged_log unit a nodes text ≡ staged_log unit b nodes text
  staged-same nodes text = ap (λ r. cond (nat_le (length text) MAX_TEXT_BYTES) (r >>= λ r. Ok (resolved_log r.0 r.1)) (Err TooLarge))
      (header-same nodes (records_of_text text))

-- a text gives one list of events, or is refused for one reason
pub IsRead-unique : (o : Options) (text : List ℕ) (a b : Result SeenLog LogError) → IsRead o text a → IsRead o text b → a ≡ b
IsRead-unique o text a b s t = sym s.staged
    ∙ staged-same o.unit s.listed t.listed (s.same ∙ sym t.same) (unwrap_or o.nodes []) text ∙ t.staged

same-import : (a b : Import) → a.trace ≡ b.trace → a.nodes ≡ b.nodes → a.moved ≡ b.moved → a.lateness ≡ b.lateness
    → a.offsets ≡ b.offsets → a.idle ≡ b.idle → a.lost ≡ b.lost → a.merged ≡ b.merged → a ≡ b
same-import a b t n m l o i k j =
    ap₂ (λ (trace : Recorded) (nodes : List (List ℕ)). let z : Import =
    record {
      trace = trace;
      nodes = nodes;
      moved = a.moved;
      lateness = a.lateness;
      offsets = a.offsets;
      idle = a.idle;
      lost = a.lost;
      merged = a.merged;
    } in z) t n
    ∙ ap₂ (λ (moved : Moved) (lateness : Lateness). let z : Import =
    record {
      trace = b.trace;
      nodes = b.nodes;
      moved = moved;
      lateness = lateness;
      offsets = a.offsets;
      idle = a.idle;
      lost = a.lost;
      merged = a.merged;
    } in z) m l
    ∙ ap₂ (λ (offsets : Option (List ℤ)) (idle : Option IdleReceives). let z : Import =
    record {
      trace = b.trace;
      nodes = b.nodes;
      moved = b.moved;
      lateness = b.lateness;
      offsets = offsets;
      idle = idle;
      lost = a.lost;
      merged = a.merged;
    } in z) o i
    ∙ ap₂ (λ (lost merged : Option ℕ). let z : Import = record {
      trace = b.trace;
      nodes = b.nodes;
      moved = b.moved;
      lateness = b.lateness;
      offsets = b.offsets;
      idle = b.idle;
      lost = lost;
      merged = merged;
    } in z) k j

-- as many of them are left, if lost sends are left out
kept-same : (drop : Bool) (xs ys : List Event) → map seen xs ≡ map seen ys → kept_count drop xs ≡ kept_count drop ys
kept-same false xs ys same = lengths xs ys same
kept-same true xs ys same = ap (λ (ps : List ℕ). length ps) (places-same xs ys same)

-- events of a log that are seen as the same make the same trace, without lost sends or with them, merged or not
log-once : (drop merge : Bool) (limit : Option ℕ) (spread : Bool) (n : ℕ) (xs ys : List Event) (clock : Clock)
    (a b : Import) → map seen xs ≡ map seen ys → IsMadeOfLog drop merge limit spread n xs clock a
    → IsMadeOfLog drop merge limit spread n ys clock b → (a.trace ≡ b.trace) × (a.moved ≡ b.moved) × (a.idle ≡ b.idle)
    × (a.lost ≡ b.lost) × (a.merged ≡ b.merged)
log-once drop merge limit spread n xs ys clock a b same s t = (
  made.0,
  s.moved_is ∙ ap₂ (λ (at : Option (List ℕ)) (m : Moved). moved_in at m) left.0 made.1 ∙ sym t.moved_is,
  made.2,
  s.lost ∙ ap₂ (λ (before after : ℕ). removed_by drop before after) (lengths xs ys same) (kept-same drop xs ys same) ∙ sym t.lost,
  s.merged ∙ ap₂ (λ (before after : ℕ). removed_by merge before after) (kept-same drop xs ys same) (lengths s.left t.left (sym left.1))
      ∙ sym t.merged,
) where
  left : (s.left_at ≡ t.left_at) × (map seen t.left ≡ map seen s.left)
  left = taken-once xs ys same drop merge clock s.left t.left s.left_at t.left_at s.parts t.parts s.are_left t.are_left

  made : (a.trace ≡ b.trace) × (s.moved ≡ t.moved) × (a.idle ≡ b.idle)
  made = made-once limit spread n s.left clock a.trace b.trace s.moved t.moved a.idle b.idle s.made
      (made-as-seen t.left s.left left.1 limit spread n clock b.trace t.moved b.idle t.made)

pub IsImportOf-unique : (o : Options) (text : List ℕ) (a b : Import) → IsImportOf o text a → IsImportOf o text b → a ≡ b
IsImportOf-unique o text a b s t = same-import a b made.0
    (s.nodes ∙ ap (λ l. l.nodes) log ∙ sym t.nodes) made.1 late one.0 made.2 made.3 made.4 where
      log : s.log ≡ t.log
      log = same-ok (IsRead-unique o text (Ok s.log) (Ok t.log) s.told.read t.told.read)

      clock : s.clock ≡ t.clock
      clock = same-ok (sym s.told.fits ∙ ap (λ l. clock_in o l.kind) log ∙ t.told.fits)

      events : map seen t.events ≡ map seen s.events
      events = t.told.same ∙ sym (ap (λ l. l.events) log) ∙ sym s.told.same

      -- the offsets are one, and the aligned events are seen as the same
      one : (a.offsets ≡ b.offsets) × (map seen t.aligned ≡ map seen s.aligned)
      one = aligned-once o.align s.log.kind (length s.log.nodes) s.events t.events a.offsets b.offsets s.aligned t.aligned (sym events)
          s.clocks (subst (λ l. AreAligned o.align l.kind (length l.nodes) t.events b.offsets t.aligned) (sym log) t.clocks)

      late : a.lateness ≡ b.lateness
      late = s.lateness ∙ sym (lateness-same t.aligned s.aligned one.1) ∙ sym t.lateness

      limit : s.limit ≡ t.limit
      limit = same-ok (sym s.fits_idle ∙ ap₂ (λ (l : SeenLog) (c : Clock). limit_in o l.kind c) log clock ∙ t.fits_idle)

      other : IsMadeOfLog o.drop_lost o.merge s.limit o.spread (length s.log.nodes) t.aligned s.clock b
      other = subst (λ (l : SeenLog). IsMadeOfLog o.drop_lost o.merge s.limit o.spread (length l.nodes) t.aligned s.clock b) (sym log)
          (subst (λ (c : Clock). IsMadeOfLog o.drop_lost o.merge s.limit o.spread (length t.log.nodes) t.aligned c b) (sym clock) (subst
          (λ (m : Option ℕ). IsMadeOfLog o.drop_lost o.merge m o.spread (length t.log.nodes) t.aligned t.clock b) (sym limit) t.made))

      made : (a.trace ≡ b.trace) × (a.moved ≡ b.moved) × (a.idle ≡ b.idle) × (a.lost ≡ b.lost) × (a.merged ≡ b.merged)
      made = log-once o.drop_lost o.merge s.limit o.spread (length s.log.nodes) s.aligned t.aligned s.clock a b (sym one.1) s.made other
