-- Filters that all elements pass, or none does.
use Rattle.std.proofs.Common.{◌≡◌, List, [], ◌∷◌, Bool, true, false, Contains, filter, refl}
use Rattle.step_trace.proofs.ListMembers.{Contains-head, Contains-rest}

pub filter-all : {X : Type 0} (f : X → Bool) (xs : List X) → ((x : X) → Contains xs x → f x ≡ true) → filter f xs ≡ xs
filter-all f [] pass = refl
filter-all f (x ∷ xs) pass = rw (pass x (Contains-head x xs), filter-all f xs (λ y d. pass y (Contains-rest x y xs d))) refl

pub filter-none : {X : Type 0} (f : X → Bool) (xs : List X) → ((x : X) → Contains xs x → f x ≡ false) → filter f xs ≡ []
filter-none f [] fail = refl
filter-none f (x ∷ xs) fail = rw (fail x (Contains-head x xs), filter-none f xs (λ y d. fail y (Contains-rest x y xs d))) refl
