-- The numbers in a step, and those noted of Receives, are within the lists of notes.
use Rattle.std.proofs.Common.{ℕ, ◌≡◌, ◌<◌, ◌≤◌, inl, inr, List, length, get_or, Some, IsTrue, arith}
use Rattle.std.proofs.lemmas.Bool.{cases_lt}
use Rattle.suffix_staircase.proofs.Common.{Send, Step, Setup, has_proc, Recorded, step_at, IsSentTo, IsWellFormed, step_at_within, Receives, KnowsReceives}

-- a destination is a processor
pub dest_bound : (c : Setup) (steps : List Step) (x a b : ℕ)
    → IsWellFormed c steps → step_at steps x ≡ Some (record { proc = a; act = Send b }) → b ≤ c.n
dest_bound c steps x a b w h = (w.dests x (record { proc = a; act = Send b }) h).1

-- the first Receive of a member is the number of a step
pub first_bound : (set : ℕ) (t : Recorded) (x p : ℕ) (r : Receives)
    → KnowsReceives set t x r → p ≤ t.config.n → IsTrue (has_proc set p) → get_or r.first.items p 0 < length r.links.items
first_bound set t x p r k l member = elim (cases_lt 0 (get_or r.first.items p 0)) [
  | inl some ↦ (let f = (k.first p l member).found some in
      omega (arith, step_at_within t.steps _ _ f.1.step, k.links_long))
  | inr none ↦ omega (arith, none, k.links_long)
]

-- the Receive that takes a message to a member is the number of a step
pub taker_bound : (set : ℕ) (t : Recorded) (x s p : ℕ) (r : Receives)
    → IsTrue (has_proc set p) → IsSentTo t.steps s p → KnowsReceives set t x r → get_or r.links.items s 0 < length r.links.items
taker_bound set t x s p r member m k = elim (cases_lt 0 (get_or r.links.items s 0)) [
  | inl some ↦ (let f = (k.taken s p member m).found some in
      omega (arith, step_at_within t.steps _ _ f.1.1, k.links_long))
  | inr none ↦ omega (arith, none, k.links_long)
]
