-- Followers in sets and lists.
use Rattle.std.proofs.Common.{ℕ, ◌≡◌, ◌+◌, ◌-◌, ◌≤◌, ◌⊎◌, inl, inr, List, [], ◌∷◌, ◌++◌, get_or, Bool, true, false, cond, IsTrue, Some, refl, sym, ap, subst, ◌∙◌, suc, zero, arith}
use Rattle.std.specs.Prelude.{Contains, All, IfSome}
use Rattle.std.proofs.lemmas.Bool.{cases_eq}
use Rattle.std.proofs.lemmas.List.{get_or_default, append-nil}
use Rattle.std.proofs.lemmas.List.Elements.{Contains-append_cases}
use Rattle.std.proofs.lemmas.Option.{same_Some}
use Rattle.step_trace.specs.declared.steps.Act.{Act}
use Rattle.step_trace.specs.declared.steps.Act.TheVariants.{Send}
use Rattle.step_trace.specs.declared.steps.Step.{Step}
use Rattle.step_trace.specs.Configurations.{Setup, IsProc}
use Rattle.step_trace.specs.Traces.{IsWellFormed, step_at}
use Rattle.step_trace.specs.Steps.{act_dest}
use Rattle.step_trace.specs.Processors.{has_proc, IsWithin}
use Rattle.step_trace.proofs.StepPositions.{step_at_within}
use Rattle.step_trace.proofs.ListMembers.{Contains-cons_cases, Contains-nil}
use Rattle.timeouts.specs.Hearing.{IsFrom}
use Rattle.front_timeouts.specs.Followers.{AreReceivers, SendsBefore, members_to}

-- a step sends to one processor
same_receiver : (steps : List Step) (p a b n : ℕ) → IsFrom steps p a n → IsFrom steps p b n → a ≡ b
same_receiver steps p a b n f g = same_Some a b (ap (λ (x : Step). act_dest x.act) (same_Some _ _ (sym f ∙ g)))

-- what is sent before the next number is sent before this one, or by it
before_next : (steps : List Step) (p x n : ℕ) → ¬ IsFrom steps p x n → SendsBefore steps p x (n + 1) → SendsBefore steps p x n
before_next steps p x n other (s, below, sends) = elim (cases_eq s n) [
  | inl same ↦ absurd (other (subst (λ (m : ℕ). IsFrom steps p x m) same sends))
  | inr differs ↦ (s, omega (arith, below, differs), sends)
]

later : (steps : List Step) (p x n : ℕ) → SendsBefore steps p x n → SendsBefore steps p x (n + 1)
later steps p x n (s, below, sends) = (s, omega (arith, below), sends)

-- a step that sends to q
pub AreReceivers-more : (steps : List Step) (p q n old new : ℕ) → IsFrom steps p q n → IsTrue (has_proc new q)
    → ((x : ℕ) → ¬ (x ≡ q) → has_proc new x ≡ has_proc old x) → AreReceivers steps p n old
    → AreReceivers steps p (n + 1) new
AreReceivers-more steps p q n old new sends added others known x = elim (cases_eq x q) [
  | inl same ↦ (
    λ has. (n, omega arith, subst (λ (z : ℕ). IsFrom steps p z n) (sym same) sends),
    λ before. subst (λ (z : ℕ). IsTrue (has_proc new z)) (sym same) added,
  )
  | inr other ↦ (
    λ has. later steps p x n ((known x).0 (subst (λ (b : Bool). IsTrue b) (others x other) has)),
    λ before. subst (λ (b : Bool). IsTrue b) (sym (others x other))
        ((known x).1 (before_next steps p x n (λ too. other (same_receiver steps p x q n too sends)) before)),
  )
]

-- a step that is no Send of p
pub AreReceivers-same : (steps : List Step) (p n set : ℕ)
    → ((q : ℕ) → ¬ IsFrom steps p q n) → AreReceivers steps p n set → AreReceivers steps p (n + 1) set
AreReceivers-same steps p n set none known x = (
  λ has. later steps p x n ((known x).0 has),
  λ before. (known x).1 (before_next steps p x n (none x) before),
)

-- each of a list of members is one
pub members_to-member : (set n q : ℕ) → Contains (members_to set n) q → IsTrue (has_proc set q) × (1 ≤ q) × (q ≤ n)
unfolding members_to
members_to-member set zero q among = absurd (Contains-nil q among)
members_to-member set (suc n) q among = go (has_proc set (suc n)) refl
    (λ before. members_to-member set n q before) (Contains-append_cases (members_to set n) _ q among) where
      go : (b : Bool) → has_proc set (suc n) ≡ b → (Contains (members_to set n) q → IsTrue (has_proc set q) × (1 ≤ q) × (q ≤ n))
          → (Contains (members_to set n) q) ⊎ (Contains (cond b (suc n ∷ []) []) q) → IsTrue (has_proc set q) × (1 ≤ q) × (q ≤ suc n)
      go b e earlier (inl before) = let m = earlier before in (m.0, m.1, omega (arith, m.2))
      go true e earlier (inr last) = elim (Contains-cons_cases (suc n) q [] last) [
        | inl same ↦ (subst (λ (z : ℕ). IsTrue (has_proc set z)) same e, omega (arith, same), omega (arith, same))
        | inr none ↦ absurd (Contains-nil q none)
      ]
      go false e earlier (inr none) = absurd (Contains-nil q none)

-- the members up to p, if p is one, or isn't
pub members_to-next : (set p : ℕ) → 1 ≤ p → has_proc set p ≡ true → members_to set p ≡ members_to set (p - 1) ++ p ∷ []
unfolding members_to
members_to-next set zero low is = absurd (omega (arith, low))
members_to-next set (suc n) low is =
    let back : suc n - 1 ≡ n = omega arith in
    ap (λ (b : Bool). members_to set n ++ cond b (suc n ∷ []) []) is ∙ ap (λ (m : ℕ). members_to set m ++ suc n ∷ []) (sym back)

pub members_to-same : (set p : ℕ) → 1 ≤ p → has_proc set p ≡ false → members_to set p ≡ members_to set (p - 1)
unfolding members_to
members_to-same set zero low is = absurd (omega (arith, low))
members_to-same set (suc n) low is =
    let back : suc n - 1 ≡ n = omega arith in
    ap (λ (b : Bool). members_to set n ++ cond b (suc n ∷ []) []) is ∙ append-nil (members_to set n) ∙ ap (members_to set) (sym back)

-- what holds of each element holds of all
pub All-contained : (P : ℕ → Type 0) (xs : List ℕ) → ((x : ℕ) → Contains xs x → P x) → All P xs
All-contained P xs h k d l = h (get_or xs k d) (k, l, get_or_default xs k (get_or xs k d) d l)

-- where a step sends to is a processor
pub destination : (c : Setup) (steps : List Step) (n : ℕ) (x : Step) (to : ℕ)
    → IsWellFormed c steps → step_at steps n ≡ Some x → x.act ≡ Send to → IsProc c to
destination c steps n x to w at act = subst (λ (a : Act). IfSome (act_dest a) (IsProc c)) act (w.dests n x at)

-- what is sent at all is sent before the number after the last
pub receivers_within : (c : Setup) (steps : List Step) (p n set : ℕ) → IsWellFormed c steps → AreReceivers steps p n set → IsWithin set c.n
receivers_within c steps p n set w known q has = let sends = (known q).0 has in (destination c steps sends.0 _ q w sends.2 refl).1

-- in the steps before number 1 nothing is sent
pub AreReceivers-none : (steps : List Step) (p set : ℕ) → ((q : ℕ) → has_proc set q ≡ false) → AreReceivers steps p 1 set
AreReceivers-none steps p set empty q = (
  λ has. absurd (let off : false ≡ true = sym (empty q) ∙ has in cc),
  λ before. absurd (omega (arith, before.1, (step_at_within steps before.0 _ before.2).0)),
)

-- no processor has a number below 1
pub members_to-none : (set : ℕ) → members_to set 0 ≡ []
unfolding members_to
members_to-none set = refl
