use Rattle.std.proofs.Common.{ℕ, ◌≡◌, ◌==◌, ◌∙◌, ◌<◌, ◌≤◌, ◌⊎◌, inl, inr, List, length, get_or, is_some, nat_lt, true, false, refl, ap, sym, arith}
use Rattle.std.specs.Prelude.{slice_index}
use Rattle.std.specs.Str.{IsAscii}
use Rattle.std.proofs.lemmas.Bool.{cases_lt, le-ltb, ne_eqb}
use Rattle.std.proofs.lemmas.List.{get_or_default, get_or_past}
use Rattle.std.proofs.lemmas.List.Folds.{list_any_none}
use Rattle.std.proofs.lemmas.Str.{IsUtf8-from_ascii}
use Rattle.trace_text.specs.Names.{is_control, is_name}
use Rattle.trace_text.proofs.NameTexts.{text_of-text}
use Rattle.trace_text.proofs.names.is_plain.Goals as goal

abbrev ArePrintable : List ℕ → Type 0
ArePrintable name = (k : ℕ) → k < length name → (32 ≤ slice_index name k) × (slice_index name k ≤ 126)

ascii : (name : List ℕ) → ArePrintable name → IsAscii name
ascii name h i = go (cases_lt i (length name)) where
  go : (i < length name) ⊎ (length name ≤ i) → slice_index name i < 128
  go (inl l) = let b = h i l in omega (arith, b.1)
  go (inr l) = let none = get_or_past name i 0 l in omega (arith, none)

no_control : (b : ℕ) → 32 ≤ b → b ≤ 126 → is_control b ≡ false
no_control b low high = rw (le-ltb b 32 low, ne_eqb b 127 (λ e. omega arith)) refl

pub returns-clause-name : goal.returns-clause-name
unfolding is_name
returns-clause-name c = λ some. (
    let name = c.args.name.now in
    let printable : ArePrintable name = (λ k l. (let b = c.loop-byte.invariant k (omega arith) in (b.0, b.1))) in
    let control = list_any_none is_control name (λ k d l. (
    let b = printable k l in
    let same = get_or_default name k d 0 l in
    no_control (get_or name k d) (omega (arith, b.0, same)) (omega (arith, b.1, same)))) in
    let text = ap is_some (sym (text_of-text name (IsUtf8-from_ascii name (ascii name printable)))) in
    let long : nat_lt 0 (length name) ≡ true = some in
    rw (long, text, control) refl)

pub returns-clause-other : goal.returns-clause-other
returns-clause-other c = λ _. list_any_none (λ byte. byte == c.args.other) c.args.name.now (λ k d l. (
    let b = c.loop-byte.invariant k (omega arith) in
    let same = get_or_default c.args.name.now k d 0 l in
    ne_eqb (get_or c.args.name.now k d) c.args.other (λ e. b.2 (sym same ∙ e))))
