use Rattle.std.proofs.Common.{◌≡◌, ◌==◌, ◌<◌, ◌∙◌, ◌∷◌, ◌++◌, [], ℕ, List, refl, sym, ap, map, arith, rules, fold, length}
use Rattle.std.proofs.lemmas.Iterator.Splits.{YieldsList-from_slice_split}
use Rattle.std.proofs.lemmas.Iterator.Consumers.{YieldsList-end}
use Rattle.std.proofs.lemmas.List.{map-append}
use Rattle.std.proofs.iter.Serving.{serving}
use borrow.Author.Tests.{tests}
use Rattle.trace_text.proofs.NameTexts.{words-none, words-split}
use Rattle.log_windows.specs.KeptTexts.{Kept, next_name}
use Rattle.log_windows.proofs.kept_names.kept_names.Goals as goal

fold-last : (f : Kept → List ℕ → Kept) (a : Kept) (xs : List (List ℕ)) (y : List ℕ) → fold f a (xs ++ y ∷ []) ≡ f (fold f a xs) y
fold-last f a [] y = refl
fold-last f a (x ∷ xs) y = fold-last f (f a x) xs y

pub returns-then-field-eq0 : goal.returns-then-field-eq0
returns-then-field-eq0 c = rw c.new.ensures.items (sym (ap (fold (next_name c.args.sent.now c.args.node.now)
    (record { text = []; unsent = 0 })) (words-none c.args.field.now (omega (arith, c.if-field-eq0.true)))))

pub loop-name-init : goal.loop-name-init
loop-name-init c = (grind serving, grind serving, rw c.new.ensures.items refl)

pub loop-name-preserved : goal.loop-name-preserved
loop-name-preserved c =
    let f = next_name c.args.sent.now c.args.node.now in (
      search rules,
      search rules,
      c.in_ok-take_name.ensures ∙ ap (λ (k : Kept). f k c.in-Some.name.now) c.loop-name.invariant.2
          ∙ sym (ap (fold f (record { text = []; unsent = 0 })) (map-append (λ x. x.now) c.loop-name.yielded (c.in-Some.name ∷ []))
          ∙ fold-last f (record { text = []; unsent = 0 }) (map (λ x. x.now) c.loop-name.yielded) c.in-Some.name.now),
    )

pub returns : goal.returns
returns c =
    let some : 0 < length c.args.field.now = omega arith in
    let start = c.into_iter-name-iterator.ensures in
    let split = c.split-name-items.ensures in
    let road = YieldsList-from_slice_split _ (λ b. b == 32) c.args.field.now (cc) (cc) (cc) (λ x b q k. search (rules, tests)) in
    let end = YieldsList-end road c.loop-name.yielded _ c.loop-name.yielded_by _ _ c.in-None.is c.next.ensures.steps in
    c.loop-name.invariant.2 ∙ ap (fold (next_name c.args.sent.now c.args.node.now) (record { text = []; unsent = 0 }))
    (end.0 ∙ sym (words-split c.args.field.now some))
