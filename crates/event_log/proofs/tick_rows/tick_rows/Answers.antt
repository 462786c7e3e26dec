use Rattle.std.proofs.Common.{◌≡◌, ◌∙◌, ◌++◌, ◌∷◌, [], ℕ, List, Vec, Global, map, sym, ap, ap₂, subst, arith}
use Rattle.std.specs.List.{All}
use Rattle.std.proofs.lemmas.List.{map-append}
use Rattle.std.proofs.lemmas.List.Elements.{All-nil, All-push}
use Rattle.event_log.specs.declared.tick_rows.TickRow.{TickRow}
use Rattle.event_log.specs.TickRows.{IsRowOf, told_before}
use Rattle.event_log.proofs.TickRows.{told-none, told-with, told-without}
use Rattle.event_log.proofs.tick_rows.tick_rows.Goals as goal
use Rattle.event_log.proofs.tick_rows.tick_rows.Goals.{then-is_told+in_ok-row+in-Ok, else-is_told}

pub loop-k-init : goal.loop-k-init
loop-k-init c = record {
  widths = ap (map {A = TickRow} {B = ℕ} (λ r. r.width)) c.new-rows.ensures.items ∙ sym (told-none c.args.kind c.log_length-log.result);
  each = subst (All (IsRowOf c.args.n c.args.events.now c.args.kind c.args.until))
      (sym c.new-rows.ensures.items) (All-nil (IsRowOf c.args.n c.args.events.now c.args.kind c.args.until));
}

pub loop-k-preserved : goal.loop-k-preserved
loop-k-preserved c =
    let kind = c.args.kind in
    let log = c.log_length-log.result in
    let k = c.loop-k.k in
    let rows = c.loop-k.rows.items in
    elim c.if-is_told.branch [
      | then-is_told+in_ok-row+in-Ok w ↦ (
          let row = w.in_ok-row.row in
          let grown : c.if-is_told.rows.items ≡ rows ++ row ∷ [] = ap (λ (v : Vec TickRow Global). v.items) w.rows-is
          ∙ w.in-Ok.ensures.items in
          let one = map-append {A = TickRow} {B = ℕ} (λ r. r.width) rows (row ∷ []) in
          let length = w.in_ok-row.ensures.width ∙ w.tick_width.ensures.is in
          record {
            widths = ap (map {A = TickRow} {B = ℕ} (λ r. r.width)) grown ∙ one
                ∙ ap₂ (λ (xs : List ℕ) (x : ℕ). xs ++ x ∷ []) c.loop-k.invariant.widths length
                ∙ sym (told-with kind log k (sym c.is_told.ensures ∙ w.if-is_told.true));
            each = subst (All (IsRowOf c.args.n c.args.events.now kind c.args.until)) (sym grown)
                (All-push (IsRowOf c.args.n c.args.events.now kind c.args.until) rows row c.loop-k.invariant.each
                w.in_ok-row.ensures.row);
          })
      | else-is_told w ↦ record {
        widths = ap (λ (v : Vec TickRow Global). map {A = TickRow} {B = ℕ} (λ r. r.width) v.items) w.rows-is ∙ c.loop-k.invariant.widths
            ∙ sym (told-without kind log k (sym c.is_told.ensures ∙ w.if-is_told.false));
        each = subst (λ (v : Vec TickRow Global). All (IsRowOf c.args.n c.args.events.now kind c.args.until) v.items)
            (sym w.rows-is) c.loop-k.invariant.each;
      }
    ]

pub returns-clause-widths : goal.returns-clause-widths
returns-clause-widths c =
    let all : c.loop-k.k ≡ 57 = (let end = c.loop-k.auto.k-end in let past = c.loop-k-test.false in omega (arith, end, past)) in
    c.loop-k.invariant.widths ∙ ap (told_before c.args.kind c.log_length-log.result) all
    ∙ ap (λ (log : ℕ). told_before c.args.kind log 57) c.log_length-log.ensures
