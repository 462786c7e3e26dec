use Rattle.std.proofs.Common.{ℕ, ◌≡◌, ◌+◌, ◌-◌, ◌≤◌, ◌∙◌, List, ◌++◌, map, ap, append_assoc, arith}
use Rattle.std.specs.List.{flat_map, range_with_len}
use Rattle.std.proofs.lemmas.List.{flat_map_more}
use Rattle.std.proofs.lemmas.List.FromFn.{map-range_with_len_more}
use Rattle.trace_text.specs.Records.{record_line}
use Rattle.trace_text.specs.RecordWriting.{written}
use Rattle.text_commands.specs.ReplayTexts.{processor_record, replay_header}
use Rattle.text_commands.proofs.replay_texts.write_records.Goals as goal

-- the lines of one processor more
one_more : (before front : List ℕ) (f : ℕ → List (List ℕ)) (p : ℕ) → 1 ≤ p
    → (before ++ (front ++ flat_map record_line (map f (range_with_len 1 (p - 1))))) ++ record_line (f p)
    ≡ before ++ (front ++ flat_map record_line (map f (range_with_len 1 (p + 1 - 1))))
one_more before front f p h =
    let e : p + 1 - 1 ≡ (p - 1) + 1 = omega arith in
    rw append_assoc (ap (λ (xs : List ℕ). before ++ xs)
    (rw (e, map-range_with_len_more f 1 (p - 1) p (omega arith))
    (flat_map_more record_line front (map f (range_with_len 1 (p - 1))) (f p))))

pub loop-p-preserved : goal.loop-p-preserved
loop-p-preserved c =
    let line = processor_record c.args.world.now.trace.config c.args.world.now.trace.steps in
    record {
      ready = c.in_ok-write_processor.ensures.ready;
      text = c.in_ok-write_processor.ensures.text ∙ ap (λ (xs : List ℕ). xs ++ record_line (line c.loop-p.p)) c.loop-p.invariant.text
          ∙ one_more (written c.args.writer.now) (record_line replay_header) line c.loop-p.p (omega (arith, c.loop-p.auto.p));
    }
