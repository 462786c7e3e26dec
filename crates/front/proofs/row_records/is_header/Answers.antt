use Rattle.std.proofs.Common.{ℕ, ◌≡◌, ◌∙◌, List, Bool, [], false, true, get_or, ap, refl, sym, arith}
use Rattle.std.specs.Str.{bytes_eq}
use Rattle.std.proofs.lemmas.List.{ext_get_or}
use Rattle.csv.specs.Records.{fields_of}
use Rattle.trace_text.specs.Records.{field_of}
use Rattle.trace_text.proofs.NumberLists.{field_of-get_or}
use Rattle.trace_text.proofs.Numbers.{bytes_eq-same, same-from_bytes_eq}
use Rattle.front.specs.Columns.{report_header}
use Rattle.front.specs.ReportRefusals.{is_header}
use Rattle.front.proofs.RowsRead.{header-same}
use Rattle.front.proofs.row_records.is_header.Goals as goal
use borrow.Author.Count.{below_more}

-- another name in one place
header-other : (fields : List (List ℕ)) (i : ℕ) (name : List ℕ)
    → name ≡ get_or report_header i [] → bytes_eq (field_of fields i) name ≡ false → (b : Bool) → is_header fields ≡ b → false ≡ b
header-other fields i name same other true h = cc (
  other,
  bytes_eq-same
      (field_of fields i) name (field_of-get_or fields i ∙ ap (λ (fs : List (List ℕ)). get_or fs i []) (header-same fields h) ∙ sym same),
)
header-other fields i name same other false h = refl

pub returns-then-not-field_is : goal.returns-then-not-field_is
returns-then-not-field_is c = header-other (fields_of c.args.fields.now) c.loop-i.i c.name.result.now c.name.ensures
    (sym c.if-not-field_is.ensures) _ refl

pub loop-i-preserved : goal.loop-i-preserved
loop-i-preserved c = record {
  long = c.loop-i.invariant.long;
  same = below_more _ _ c.loop-i.invariant.same (same-from_bytes_eq _ _ (sym c.if-not-field_is.ensures) ∙ c.name.ensures);
}

pub returns : goal.returns
returns c =
    let fields = fields_of c.args.fields.now in
    let whole = ext_get_or [] fields report_header c.loop-i.invariant.long
    (λ i inside. sym (field_of-get_or fields i) ∙ c.loop-i.invariant.same i (omega arith)) in
    sym (ap is_header whole)
