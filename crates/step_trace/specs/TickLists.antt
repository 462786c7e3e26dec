-- The kept ticks of steps (own).
use Rattle.std.specs.Prelude.{ℕ, ◌≡◌, ◌<◌, ◌+◌, ◌++◌, ◌∷◌, [], List, suc, zero, vec_len, vec_capacity}
use Rattle.step_trace.specs.declared.tick_lists.TickList.{TickList}

-- the numbers from 1 to n
unfoldable pub numbers_to : ℕ → List ℕ
numbers_to zero = []
numbers_to (suc n) = numbers_to n ++ suc n ∷ []

-- the tick of each step: first those that are the numbers of their steps, then the others
abbrev pub all_ticks : TickList → List ℕ
all_ticks list = numbers_to list.by_number ++ list.others.items

-- this tick is the number of the next step, as that of each step before it is
pub record IsNextNumber (list : TickList) (tick : ℕ) : Type 0 where
  pub numbered : list.others.items ≡ []
  pub next : tick ≡ list.by_number + 1

-- there is room for this tick
abbrev pub HasRoom : TickList → ℕ → Type 0
HasRoom list tick = ¬ IsNextNumber list tick → vec_len list.others < vec_capacity list.others
