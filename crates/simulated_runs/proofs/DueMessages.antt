-- Messages of which none is due.
use Rattle.std.proofs.Common.{ℕ, ◌≡◌, ◌<◌, ◌≤◌, List, [], All, Contains, false, not, ap, arith}
use Rattle.std.proofs.lemmas.Bool.{lt-leb}
use Rattle.std.proofs.lemmas.List.Elements.{All-contains}
use Rattle.simulated_runs.proofs.Common.{Posted, due_ids, ids_of, is_due, not_due}
use Rattle.simulated_runs.proofs.Filters.{filter-all, filter-none}

before-earliest : (x earliest : ℕ) (posted : List Posted) → All (λ m. earliest ≤ m.due) posted → x < earliest
    → (m : Posted) → Contains posted m → is_due x m ≡ false
before-earliest x earliest posted late before m c =
    lt-leb m.due x (let l = All-contains (λ m. earliest ≤ m.due) posted m late c in omega arith)

pub none-due : (x earliest : ℕ) (posted : List Posted) → All (λ m. earliest ≤ m.due) posted → x < earliest → due_ids x posted ≡ []
none-due x earliest posted late before = ap ids_of (filter-none (is_due x) posted (before-earliest x earliest posted late before))

pub all-left : (x earliest : ℕ) (posted : List Posted) → All (λ m. earliest ≤ m.due) posted → x < earliest → not_due x posted ≡ posted
all-left x earliest posted late before =
    filter-all (λ m. not (is_due x m)) posted (λ m c. ap not (before-earliest x earliest posted late before m c))
