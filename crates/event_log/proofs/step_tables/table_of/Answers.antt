use Rattle.std.proofs.Common.{ℕ, ◌≡◌, ◌+◌, ◌∙◌, List, [], ◌++◌, ap, append_assoc, arith}
use Rattle.std.specs.List.{flat_map, range_with_len}
use Rattle.std.proofs.lemmas.List.{flat_map_more}
use Rattle.csv.specs.Writing.{row_text}
use Rattle.timed_events.proofs.CausalWalks.{range-more}
use Rattle.trace_text.specs.RecordWriting.{our_writer}
use Rattle.event_log.specs.StepTables.{record_of_step, table_header}
use Rattle.event_log.proofs.step_tables.table_of.Goals as goal

-- the text of one record more
one_more : (f : ℕ → List ℕ) (n : ℕ) → flat_map f (range_with_len 0 n) ++ f n ≡ flat_map f (range_with_len 0 (n + 1))
one_more f n = rw (range-more 0 n n (omega arith)) (flat_map_more f [] (range_with_len 0 n) n)

pub loop-k-preserved : goal.loop-k-preserved
loop-k-preserved c =
    let p = c.args.placed.now in
    let f : ℕ → List ℕ = λ k. row_text our_writer
    (record_of_step c.in_ok-messages.messages.items p.import.nodes p.events.items p.logged p.left_at
    p.parts p.first p.clock.width p.import.trace.ticks p.places.items k) in
    let header = row_text our_writer table_header in
    let rows = flat_map f (range_with_len 0 c.loop-k.k) in
    record {
      ready = (c.in_ok-write_step.ensures).ready;
      text = rw c.as_slice.ensures.value at (c.in_ok-write_step.ensures).text
          ∙ ap (λ (xs : List ℕ). xs ++ f c.loop-k.k) c.loop-k.invariant.text
          ∙ append_assoc header rows (f c.loop-k.k) ∙ ap (λ (xs : List ℕ). header ++ xs) (one_more f c.loop-k.k);
    }
