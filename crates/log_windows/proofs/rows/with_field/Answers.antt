use Rattle.std.proofs.Common.{◌≡◌, ◌+◌, ◌∙◌, ℕ, List, [], ◌∷◌, ◌++◌, map, ap, sym, arith}
use Rattle.std.specs.List.{range_with_len}
use Rattle.std.proofs.lemmas.List.{map-append}
use Rattle.csv.specs.Records.{fields_of}
use Rattle.timed_events.proofs.CausalWalks.{range-more}
use Rattle.log_windows.specs.Rows.{field_or}
use Rattle.log_windows.proofs.rows.with_field.Goals as goal

one_more : (f : ℕ → List ℕ) (n : ℕ) → map f (range_with_len 0 n) ++ f n ∷ [] ≡ map f (range_with_len 0 (n + 1))
one_more f n = sym (ap (map f) (range-more 0 n n (omega arith)) ∙ map-append f (range_with_len 0 n) (n ∷ []))

pub loop-i-preserved : goal.loop-i-preserved
loop-i-preserved c =
    let f = field_or (fields_of c.args.fields.now) c.args.at c.args.value.now in
    record {
      whole = c.in_ok-push_field.ensures.partial;
      fields = rw (c.loop-i.invariant.whole, c.field_or.ensures) at c.in_ok-push_field.ensures.fields
          ∙ ap (λ (xs : List (List ℕ)). xs ++ f c.loop-i.i ∷ []) c.loop-i.invariant.fields ∙ one_more f c.loop-i.i;
    }
