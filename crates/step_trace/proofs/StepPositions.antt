-- Steps by their numbers, as a list of steps grows at its end.
use Rattle.std.proofs.Common.{ℕ, ◌≡◌, ◌+◌, ◌<◌, ◌≤◌, ◌⊎◌, inl, inr, List, [], ◌∷◌, ◌++◌, length, Some, true, ◌==◌, refl, sym, ap, ◌∙◌, suc, zero, arith, eq-eqb, get_or}
use Rattle.std.specs.Prelude.{slice_get, All, Contains}
use Rattle.std.proofs.lemmas.Option.{same_Some, none-some, slice_get_within, slice_get-get_or}
use Rattle.std.proofs.lemmas.List.{get_or_default}
use Rattle.std.proofs.lemmas.List.Elements.{Contains-get_or}
use Rattle.std.proofs.lemmas.List.Folds.{list_any_at, Any-from_list_any}
use Rattle.std.proofs.lemmas.Map.Keys.{any_passes_from_place}
use Rattle.std.proofs.lemmas.Bool.{eqb-true}
use Rattle.step_trace.specs.declared.steps.Act.{Act}
use Rattle.step_trace.specs.declared.steps.Act.TheVariants.{Send}
use Rattle.step_trace.specs.declared.steps.Step.{Step}
use Rattle.step_trace.specs.Configurations.{Setup}
use Rattle.step_trace.specs.Steps.{act_ids, act_takes}
use Rattle.step_trace.specs.Traces.{step_at, TakesAt, IsReceiveOf, IsWellFormed}
use Rattle.step_trace.specs.PushRefusals.{is_taken}

-- an element of the longer list is one of the shorter, or the new one
pub slice_get-push_cases : {X : Type 0} (xs : List X) (x y : X) (k : ℕ)
    → slice_get (xs ++ x ∷ []) k ≡ Some y → (slice_get xs k ≡ Some y) ⊎ ((k ≡ length xs) × (x ≡ y))
slice_get-push_cases [] x y zero h = inr (refl, same_Some x y h)
slice_get-push_cases [] x y (suc k) h = absurd (none-some y h)
slice_get-push_cases (z ∷ xs) x y zero h = inl h
slice_get-push_cases (z ∷ xs) x y (suc k) h = elim (slice_get-push_cases xs x y k h) [ inl e ↦ inl e | inr e ↦ inr (ap suc e.0, e.1) ]

-- an element keeps its place as the list grows
pub slice_get-push_old : {X : Type 0} (xs : List X) (x y : X) (k : ℕ) → slice_get xs k ≡ Some y → slice_get (xs ++ x ∷ []) k ≡ Some y
slice_get-push_old [] x y k h = absurd (none-some y h)
slice_get-push_old (z ∷ xs) x y zero h = h
slice_get-push_old (z ∷ xs) x y (suc k) h = slice_get-push_old xs x y k h

-- a step of the longer list is one of the shorter, or the new one
pub step_at-push_cases : (steps : List Step) (x y : Step) (k : ℕ)
    → step_at (steps ++ x ∷ []) k ≡ Some y → (step_at steps k ≡ Some y) ⊎ ((k ≡ length steps + 1) × (x ≡ y))
step_at-push_cases steps x y zero h = absurd (none-some y h)
step_at-push_cases steps x y (suc k) h = elim (slice_get-push_cases steps x y k h)
    [ inl e ↦ inl e | inr e ↦ inr (let f : k ≡ length steps = e.0 in omega arith, e.1) ]

-- a step keeps its number
pub step_at-push_old : (steps : List Step) (x y : Step) (k : ℕ) → step_at steps k ≡ Some y → step_at (steps ++ x ∷ []) k ≡ Some y
step_at-push_old steps x y zero h = absurd (none-some y h)
step_at-push_old steps x y (suc k) h = slice_get-push_old steps x y k h

-- numbers of steps go from 1 to the length
pub step_at_within : (steps : List Step) (k : ℕ) (x : Step) → step_at steps k ≡ Some x → (0 < k) × (k ≤ length steps)
step_at_within steps zero x h = absurd (none-some x h)
step_at_within steps (suc k) x h = let l : k < length steps = slice_get_within steps k x h in (omega arith, omega arith)

-- an act takes a message exactly if its ids have it
pub act_takes-from_Contains : (a : Act) (s : ℕ) → Contains (act_ids a) s → act_takes a s ≡ true
act_takes-from_Contains a s h = list_any_at (λ i. i == s) (act_ids a) h.0 s h.1 (eq-eqb _ _ h.2)

-- a message that some step takes was taken
pub taken_from_at : (steps : List Step) (m s : ℕ) → TakesAt steps m s → is_taken steps s ≡ true
taken_from_at steps zero s h = absurd (none-some h.0 h.1)
taken_from_at steps (suc m) s h = any_passes_from_place (λ x. act_takes x.act s) steps m h.0 h.1 (act_takes-from_Contains h.0.act s h.2)

-- the step that was pushed is at the next number
pub slice_get-last : {X : Type 0} (xs : List X) (x : X) → slice_get (xs ++ x ∷ []) (length xs) ≡ Some x
slice_get-last [] x = refl
slice_get-last (y ∷ xs) x = slice_get-last xs x

-- its number is one more than the length
pub step_at_last : (steps : List Step) (x : Step) → step_at (steps ++ x ∷ []) (suc (length steps)) ≡ Some x
step_at_last steps x = slice_get-last steps x

-- an id that an act takes is one of its ids
pub Contains-from_takes : (a : Act) (s : ℕ) → act_takes a s ≡ true → Contains (act_ids a) s
Contains-from_takes a s h =
    let y = Any-from_list_any (λ i. i == s) (act_ids a) h in
    (y.0, y.2, get_or_default (act_ids a) y.0 s y.1 y.2 ∙ y.3 ∙ eqb-true y.1 s y.4)

-- if a message was taken there is a step that takes it
pub taken_at-from_is_taken : (steps : List Step) (s : ℕ) → is_taken steps s ≡ true → (m : ℕ) × TakesAt steps m s
taken_at-from_is_taken steps s h =
    let y = Any-from_list_any (λ x. act_takes x.act s) steps h in
    (suc y.0, (y.1, slice_get-get_or steps y.0 y.1 y.2 ∙ ap (λ (x : Step). Some x) y.3, Contains-from_takes y.1.act s y.4))

-- one number has one step
pub same_step : (steps : List Step) (k : ℕ) (x y : Step) → step_at steps k ≡ Some x → step_at steps k ≡ Some y → x ≡ y
same_step steps k x y g h = same_Some x y (sym g ∙ h)

-- a Receive is of one processor
pub receive_unique : (steps : List Step) (k p q : ℕ) → IsReceiveOf steps k p → IsReceiveOf steps k q → p ≡ q
receive_unique steps k p q g h = ap (λ (x : Step). x.proc) (same_step steps k _ _ g.step h.step)

-- a Send is no Receive
pub send_is_no_receive : (steps : List Step) (k a b p : ℕ)
    → step_at steps k ≡ Some (record { proc = a; act = Send b }) → IsReceiveOf steps k p → ⊥
send_is_no_receive steps k a b p h r =
    let same = ap (λ (x : Step). x.act) (same_step steps k _ _ h r.step) in
    cc

-- what a step takes was sent before it
pub ids_earlier : (c : Setup) (steps : List Step) (k : ℕ) (x : Step)
    → IsWellFormed c steps → step_at steps k ≡ Some x → All (λ s. s < k) (act_ids x.act)
ids_earlier c steps k x w is = λ i d inside. (w.earlier k (get_or (act_ids x.act) i d) x is (Contains-get_or (act_ids x.act) i d inside)).0

-- so its ids are places of a list with one place more than there are steps
pub ids_bound : (c : Setup) (steps : List Step) (k : ℕ) (x : Step) (list : List ℕ) → IsWellFormed c steps
    → step_at steps k ≡ Some x → length list ≡ length steps + 1 → All (λ s. s < length list) (act_ids x.act)
ids_bound c steps k x list w h long = λ i d inside.
    let earlier = ids_earlier c steps k x w h i d inside in
    let within = step_at_within steps k x h in
    omega (arith, earlier, within, long)

-- a step by its processor and its act
pub with_act : (steps : List Step) (k : ℕ) (x : Step) (a : Act)
    → step_at steps k ≡ Some x → x.act ≡ a → step_at steps k ≡ Some (record { proc = x.proc; act = a })
with_act steps k x a h e = h ∙ ap (λ (b : Act). let z : Step = record { proc = x.proc; act = b } in Some z) e
