-- Lists in pages (own).
use Rattle.std.specs.Prelude.{ℕ, ◌≡◌, ◌++◌, ◌+◌, ◌*◌, ◌≤◌, ◌<◌, List, length, All, Vec, slice_get}
use Rattle.std.specs.List.{flat_map}
use Rattle.std.specs.Arc.{arc_value}
use Rattle.std.specs.declared.sync.Arc.{Arc}
use Rattle.step_trace.specs.declared.paged_lists.TheConstants.{PAGE_LEN}
use Rattle.step_trace.specs.declared.traces.TheConstants.{MAX_STEPS}

-- the items of a full page, which is shared
abbrev pub page_items : {X Y Z : Type 0} → Arc (Vec X Y) Z → List X
page_items p = (arc_value p).items

-- the items of the full pages, then those of the last page
abbrev pub all_items : {P X : Type 0} → (P → List X) → List P → List X → List X
all_items items pages last = flat_map items pages ++ last

-- Each page is full but the last one, and all together have no more items than a list may have.
pub record AreInPages {P X : Type 0} (items : P → List X) (pages : List P) (last : List X) : Type 0 where
  pub full : All (λ p. length (items p) ≡ PAGE_LEN) pages
  pub less : length last < PAGE_LEN
  pub limit : length pages * PAGE_LEN + length last ≤ MAX_STEPS

-- the full page of number q, from 0, of a list
pub record IsPage {X : Type 0} (page xs : List X) (q : ℕ) : Type 0 where
  pub inside : (q + 1) * PAGE_LEN ≤ length xs
  pub items : (r : ℕ) → r < PAGE_LEN → slice_get page r ≡ slice_get xs (q * PAGE_LEN + r)

-- two lists have the same at their first n places
abbrev pub BeginAlike : {X : Type 0} → List X → List X → ℕ → Type 0
BeginAlike xs ys n = (i : ℕ) → i < n → slice_get xs i ≡ slice_get ys i
