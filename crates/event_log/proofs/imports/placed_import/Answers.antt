use Rattle.std.proofs.Common.{ℕ, ◌≡◌, ◌<◌, ◌^◌, List, Ok, inl, inr, refl, sym, subst, false, arith, rules}
use Rattle.std.specs.Cow.{cow_slice_items}
use Rattle.timed_events.specs.declared.events.Clock.{Clock}
use Rattle.std.proofs.lemmas.Result.{err_from_is_err_and}
use Rattle.timed_events.specs.Lateness.{lateness_of}
use Rattle.event_log.specs.declared.options.Options.{Options}
use Rattle.event_log.specs.Alignments.{IsAlignRefusal}
use Rattle.event_log.specs.ReadLogs.{IsRead}
use Rattle.event_log.specs.Logs.{SeenLog, seen_log}
use Rattle.event_log.proofs.LogRefusals.{large-text, unaligned-refusal, unfit-refusal}
use Rattle.event_log.proofs.Outcomes.{err-weaker, ok-both}
use Rattle.event_log.proofs.PlacedImports.{placed-import, unmade-refusal}
use Rattle.event_log.proofs.imports.placed_import.Goals as goal

-- the events that a lent text gives are those that it gives
lent-read : (o : Options) (lent text : List ℕ) (log : SeenLog) → lent ≡ text → IsRead o lent (Ok log) → IsRead o text (Ok log)
lent-read o lent text log same read = subst (λ t. IsRead o t (Ok log)) same read

pub returns-then-len-gt-MAX_TEXT_BYTES-clause-refused : goal.returns-then-len-gt-MAX_TEXT_BYTES-clause-refused
returns-then-len-gt-MAX_TEXT_BYTES-clause-refused g c =
    inl (large-text c.args.options.now (cow_slice_items c.args.text)
    (let same = c.len.ensures in let large = c.if-len-gt-MAX_TEXT_BYTES.true in omega (arith, same, large)))

pub returns-in_err-clock-clause-refused : goal.returns-in_err-clock-clause-refused
returns-in_err-clock-clause-refused g c =
    let p = err_from_is_err_and c.from_residual-in_err-clock.result c.from_residual-in_err-clock.ensures.1 in
    rw (p.1, p.2) (unfit-refusal c.args.options.now (cow_slice_items c.args.text) c.in_err-clock.field-0.0 (record {
      log = seen_log c.in_ok-log.log;
      read = (lent-read c.args.options.now _ _ _ c.deref.ensures.value c.in_ok-log.ensures.read);
      unfit = inl (sym c.in_err-clock.ensures.clock);
    }))

pub returns-in_err-limit-clause-refused : goal.returns-in_err-limit-clause-refused
returns-in_err-limit-clause-refused g c =
    let p = err_from_is_err_and c.from_residual-in_err-limit.result c.from_residual-in_err-limit.ensures.1 in
    rw (p.1, p.2) (unfit-refusal c.args.options.now (cow_slice_items c.args.text) c.in_err-limit.field-0.0 (record {
      log = seen_log c.in_ok-log.log;
      read = (lent-read c.args.options.now _ _ _ c.deref.ensures.value c.in_ok-log.ensures.read);
      unfit = inr (c.in_ok-clock.clock, sym c.in_ok-clock.ensures.clock, sym c.in_err-limit.ensures);
    }))

pub returns-in_err-aligned-clause-refused : goal.returns-in_err-aligned-clause-refused
returns-in_err-aligned-clause-refused g c =
    let p = err_from_is_err_and c.from_residual-in_err-aligned.result c.from_residual-in_err-aligned.ensures.1 in
    let log = c.in_ok-log.log in
    rw (p.1, p.2) (unaligned-refusal c.args.options.now (cow_slice_items c.args.text) log.nodes log.events.items
    c.in_err-aligned.field-0.0
    (subst (λ text. IsAlignRefusal text log.nodes log.events.items c.in_err-aligned.field-0.0)
    c.deref-2.ensures.value c.in_err-aligned.ensures.refused.1)
    (λ same. record {
      log = seen_log log;
      events = log.events.items;
      clock = c.in_ok-clock.clock;
      told = record {
        read = (lent-read c.args.options.now _ _ _ c.deref.ensures.value c.in_ok-log.ensures.read);
        same = refl;
        fits = sym c.in_ok-clock.ensures.clock;
      };
      limit = c.in_ok-limit.limit;
      fits_idle = sym c.in_ok-limit.ensures;
      asked = c.in_err-aligned.ensures.refused.0;
      unaligned = same;
    }))

pub returns-then-how-clause-import : goal.returns-then-how-clause-import
returns-then-how-clause-import g c =
    let log = c.in_ok-log.log in
    ok-both c.left_import.result _ _ _ (λ p made given.
    placed-import c.args.options.now (cow_slice_items c.args.text) (seen_log log) log.events.items c.in_ok-clock.clock
    (record {
      read = (lent-read c.args.options.now _ _ _ c.deref.ensures.value c.in_ok-log.ensures.read);
      same = refl;
      fits = sym c.in_ok-clock.ensures.clock;
    }) c.in_ok-aligned.aligned
    c.in_ok-aligned.ensures.aligned c.in_ok-aligned.ensures.nodes c.in_ok-limit.limit
    (sym c.in_ok-limit.ensures) c.args.options.now.drop_lost
    c.args.options.now.merge refl refl c.args.told c.in_ok-lateness.lateness c.in_ok-lateness.ensures.lateness
    p.import p.events.items p.logged p.left_at p.parts p.first p.clock p.places.items
    made given.nodes given.offsets given.lateness_is given.clock_is) c.left_import.ensures.made c.left_import.ensures.given

pub returns-then-how-clause-short : goal.returns-then-how-clause-short
returns-then-how-clause-short g c = ok-both c.left_import.result _ _ _ (λ p given same. subst (λ (clock : Clock). clock.width < 2 ^ 94)
    (sym given.clock_is) c.in_ok-clock.ensures.short) c.left_import.ensures.given c.left_import.ensures.given

pub returns-then-how-clause-refused : goal.returns-then-how-clause-refused
returns-then-how-clause-refused g c =
    let log = c.in_ok-log.log in
    err-weaker c.left_import.result _ _
    (unmade-refusal c.args.options.now (cow_slice_items c.args.text) (seen_log log) log.events.items c.in_ok-clock.clock
    (record {
      read = (lent-read c.args.options.now _ _ _ c.deref.ensures.value c.in_ok-log.ensures.read);
      same = refl;
      fits = sym c.in_ok-clock.ensures.clock;
    }) c.in_ok-aligned.aligned
    c.in_ok-aligned.ensures.aligned c.in_ok-aligned.ensures.nodes c.in_ok-limit.limit
    (sym c.in_ok-limit.ensures) c.args.options.now.drop_lost c.args.options.now.merge refl refl) c.left_import.ensures.refused

pub returns-then-how-clause-more : goal.returns-then-how-clause-more
returns-then-how-clause-more g c = λ e. (let same = c.len.ensures in let few = c.if-len-gt-MAX_TEXT_BYTES.false in omega (arith, same, few))

pub returns-clause-import : goal.returns-clause-import
returns-clause-import g c =
    let log = c.in_ok-log.log in
    ok-both c.whole_import.result _ _ _ (λ p made given.
    placed-import c.args.options.now (cow_slice_items c.args.text) (seen_log log) log.events.items c.in_ok-clock.clock
    (record {
      read = (lent-read c.args.options.now _ _ _ c.deref.ensures.value c.in_ok-log.ensures.read);
      same = refl;
      fits = sym c.in_ok-clock.ensures.clock;
    }) c.in_ok-aligned.aligned
    c.in_ok-aligned.ensures.aligned c.in_ok-aligned.ensures.nodes c.in_ok-limit.limit (sym c.in_ok-limit.ensures) false
    false (search rules) (search rules) c.args.told (lateness_of c.in_ok-aligned.aligned.log.events.items) refl
    p.import p.events.items p.logged p.left_at p.parts p.first p.clock p.places.items
    made given.nodes given.offsets given.lateness_is given.clock_is) c.whole_import.ensures.made c.whole_import.ensures.given

pub returns-clause-short : goal.returns-clause-short
returns-clause-short g c = ok-both c.whole_import.result _ _ _ (λ p given same. subst (λ (clock : Clock). clock.width < 2 ^ 94)
    (sym given.clock_is) c.in_ok-clock.ensures.short) c.whole_import.ensures.given c.whole_import.ensures.given

pub returns-clause-refused : goal.returns-clause-refused
returns-clause-refused g c =
    let log = c.in_ok-log.log in
    err-weaker c.whole_import.result _ _
    (unmade-refusal c.args.options.now (cow_slice_items c.args.text) (seen_log log) log.events.items c.in_ok-clock.clock
    (record {
      read = (lent-read c.args.options.now _ _ _ c.deref.ensures.value c.in_ok-log.ensures.read);
      same = refl;
      fits = sym c.in_ok-clock.ensures.clock;
    }) c.in_ok-aligned.aligned
    c.in_ok-aligned.ensures.aligned c.in_ok-aligned.ensures.nodes c.in_ok-limit.limit
    (sym c.in_ok-limit.ensures) false false (search rules) (search rules)) c.whole_import.ensures.refused

pub returns-clause-more : goal.returns-clause-more
returns-clause-more g c = λ e. (let same = c.len.ensures in let few = c.if-len-gt-MAX_TEXT_BYTES.false in omega (arith, same, few))

pub left_import-requires-clause-given : goal.left_import-requires-clause-given
left_import-requires-clause-given g c = record {
  log = seen_log c.in_ok-log.log;
  events = c.in_ok-log.log.events.items;
  read = lent-read c.args.options.now _ _ _ c.deref.ensures.value c.in_ok-log.ensures.read;
  same = refl;
  offsets = c.in_ok-aligned.aligned.offsets;
  clocks = c.in_ok-aligned.ensures.aligned;
  nodes_are = c.in_ok-aligned.ensures.nodes;
}
