use Rattle.std.proofs.Common.{◌≡◌, ◌==◌, ◌∙◌, ◌<◌, [], sym, ap, arith, rules, length, subst, IfOk}
use Rattle.std.specs.Prelude.{unwrap_or, option_map, slice_get, Some, None, slice_index_or}
use Rattle.std.specs.List.{slice_split}
use Rattle.std.proofs.lemmas.Iterator.Splits.{YieldsList-from_slice_split}
use Rattle.std.proofs.lemmas.Iterator.Consumers.{nth_from_yields_List}
use Rattle.std.proofs.lemmas.Option.{unwrap_or-slice_get}
use borrow.Author.Tests.{tests}
use Rattle.trace_text.specs.Names.{words_of}
use Rattle.trace_text.proofs.NameTexts.{words-split}
use Rattle.event_log.proofs.message_names.word_of.Goals as goal

pub returns-in-Some : goal.returns-in-Some
returns-in-Some c =
    let some : 0 < length c.args.field.now = omega arith in
    let split = c.split.ensures in
    let road = YieldsList-from_slice_split _ (λ b. b == 32) c.args.field.now (cc) (cc) (cc) (λ x b q k. search (rules, tests)) in
    let at = nth_from_yields_List c.nth.result _ c.args.k c.nth.ensures.ran road in
    let same = words-split c.args.field.now some in
    let words = slice_split (λ b. b == 32) c.args.field.now in
    let found : Some c.in-Some.word.now ≡ slice_get words c.args.k = ap (λ r. option_map (λ x. x.now) r) (sym c.in-Some.is) ∙ at in
    let word : c.in-Some.word.now ≡ slice_index_or (words_of c.args.field.now) c.args.k [] =
    ap (λ r. unwrap_or r []) found ∙ unwrap_or-slice_get words c.args.k [] ∙ ap (λ ws. slice_index_or ws c.args.k []) (sym same) in
    subst (λ x. IfOk c.new-in-Some.result (λ name. name ≡ x)) word c.new-in-Some.ensures

pub returns-in-None : goal.returns-in-None
returns-in-None c =
    let some : 0 < length c.args.field.now = omega arith in
    let split = c.split.ensures in
    let road = YieldsList-from_slice_split _ (λ b. b == 32) c.args.field.now (cc) (cc) (cc) (λ x b q k. search (rules, tests)) in
    let at = nth_from_yields_List c.nth.result _ c.args.k c.nth.ensures.ran road in
    let same = words-split c.args.field.now some in
    let words = slice_split (λ b. b == 32) c.args.field.now in
    let found : None ≡ slice_get words c.args.k = ap (λ r. option_map (λ x. x.now) r) (sym c.in-None.is) ∙ at in
    let word : [] ≡ slice_index_or (words_of c.args.field.now) c.args.k [] =
    ap (λ r. unwrap_or r []) found ∙ unwrap_or-slice_get words c.args.k [] ∙ ap (λ ws. slice_index_or ws c.args.k []) (sym same) in
    subst (λ x. IfOk c.new-in-None.result (λ name. name ≡ x)) word c.new-in-None.ensures
