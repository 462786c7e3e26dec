-- The first member that ends a round.
use Rattle.std.proofs.Common.{ℕ, zero, suc, ◌≡◌, ◌+◌, ◌<◌, ◌≤◌, ◌⊎◌, inl, inr, List, Option, Some, None, Bool, true, false, ◌==◌, ◌&&◌, refl, sym, ap, ◌∙◌, arith, eq-eqb}
use Rattle.std.specs.Option.{option_map_or}
use Rattle.std.proofs.lemmas.Bool.{cases_lt, true≢false, eqb-true, and_parts}
use Rattle.std.proofs.lemmas.Option.{none-some}
use Rattle.patience_laws.proofs.Common.{Act, Send, Receive, Step, has_proc, step_at, round_at, act_ends}
use Rattle.patience_laws.proofs.PacedSteps.{rounds_after, round-here}
use Rattle.patience_laws.proofs.PatienceTicks.{IsEndOf}

-- of the numbers below n none passes a test, or there is a first that does
record IsFirstOf (test : ℕ → Bool) (n : ℕ) : Type 0 where
  number : ℕ
  below : number < n
  passes : test number ≡ true
  least : (j : ℕ) → test j ≡ true → number ≤ j

search-first : (test : ℕ → Bool) (n : ℕ) → ((j : ℕ) → test j ≡ true → n ≤ j) ⊎ IsFirstOf test n
search-first test zero = inl (λ j t. omega arith)
search-first test (suc n) = go (search-first test n) (test n) refl
  where
    go : ((j : ℕ) → test j ≡ true → n ≤ j) ⊎ IsFirstOf test n
        → (b : Bool) → test n ≡ b → ((j : ℕ) → test j ≡ true → suc n ≤ j) ⊎ IsFirstOf test (suc n)
    go (inr x) b e = inr (record { number = x.number; below = let l = x.below in omega arith; passes = x.passes; least = x.least })
    go (inl none) true e = inr (record { number = n; below = omega arith; passes = e; least = none })
    go (inl none) false e = inl (λ j t. later j t (none j t))
      where
        later : (j : ℕ) → test j ≡ true → n ≤ j → suc n ≤ j
        later j t l = elim (cases_lt n j) [
          | inl above ↦ above
          | inr at ↦ absurd (let same : j ≡ n = omega arith in true≢false (sym t ∙ ap test same ∙ e))
        ]

-- a member that ends a round, and no member ends it before
pub record FirstEnd (set : ℕ) (steps : List Step) (round : ℕ) : Type 0 where
  pub proc : ℕ
  pub member : has_proc set proc ≡ true
  pub place : ℕ
  pub ids : List ℕ
  pub step : step_at steps (suc place) ≡ Some (record { proc = proc; act = Receive true ids })
  pub round_is : rounds_after steps proc place + 1 ≡ round
  pub first : (p k : ℕ) (ids : List ℕ) → has_proc set p ≡ true
      → step_at steps k ≡ Some (record { proc = p; act = Receive true ids }) → round_at steps p k ≡ round → suc place ≤ k

module _ (set : ℕ) (steps : List Step) (round : ℕ) where
  abbrev ends_it : ℕ → Step → Bool
  ends_it k x = has_proc set x.proc && (act_ends x.act && round_at steps x.proc k == round)

  abbrev is_end : ℕ → Bool
  is_end k = option_map_or (ends_it k) (step_at steps k) false

  end-test : (p k : ℕ) (ids : List ℕ) → has_proc set p ≡ true
      → step_at steps k ≡ Some (record { proc = p; act = Receive true ids }) → round_at steps p k ≡ round → is_end k ≡ true
  end-test p k ids m at here = rw (at, m, eq-eqb (round_at steps p k) round here) refl

  test-end : (k : ℕ) (o : Option Step) → step_at steps k ≡ o → option_map_or (ends_it k) o false ≡ true → (p : ℕ) × (ids : List ℕ)
      × (has_proc set p ≡ true) × (step_at steps k ≡ Some (record { proc = p; act = Receive true ids })) × (round_at steps p k ≡ round)
  test-end k None e t = absurd (true≢false (sym t))
  test-end k (Some x) e t = of x.act refl
    where
      parts : (has_proc set x.proc ≡ true) × ((act_ends x.act && round_at steps x.proc k == round) ≡ true)
      parts = and_parts (has_proc set x.proc) (act_ends x.act && round_at steps x.proc k == round) t

      more : (act_ends x.act ≡ true) × ((round_at steps x.proc k == round) ≡ true)
      more = and_parts (act_ends x.act) (round_at steps x.proc k == round) parts.1

      of : (act : Act) → x.act ≡ act → (p : ℕ) × (ids : List ℕ)
          × (has_proc set p ≡ true) × (step_at steps k ≡ Some (record { proc = p; act = Receive true ids })) × (round_at steps p k ≡ round)
      of (Send to) f = absurd (true≢false (sym more.0 ∙ ap act_ends f))
      of (Receive false ids) f = absurd (true≢false (sym more.0 ∙ ap act_ends f))
      of (Receive true ids) f =
          (x.proc, ids, parts.0, e ∙ ap (λ a. Some (record { proc = x.proc; act = a })) f, eqb-true (round_at steps x.proc k) round more.1)

  -- If a member ends the round, there is a first one that does.
  pub first-end : (p : ℕ) → has_proc set p ≡ true → IsEndOf steps p round → FirstEnd set steps round
  first-end p m end = go (search-first is_end (suc (suc end.place)))
    where
      passes : is_end (suc end.place) ≡ true
      passes = end-test p (suc end.place) end.ids m end.step (round-here steps p end.place ∙ end.round_is)

      of : (k : ℕ) → is_end k ≡ true → ((j : ℕ) → is_end j ≡ true → k ≤ j) → FirstEnd set steps round
      of zero t least = absurd (let x = test-end zero (step_at steps zero) refl t in none-some _ x.3)
      of (suc k) t least =
          let x = test-end (suc k) (step_at steps (suc k)) refl t in
          record {
            proc = x.0;
            member = x.2;
            place = k;
            ids = x.1;
            step = x.3;
            round_is = let here = round-here steps x.0 k in let is = x.4 in omega arith;
            first = λ q j ids mq at is. least j (end-test q j ids mq at is);
          }

      go : ((j : ℕ) → is_end j ≡ true → suc (suc end.place) ≤ j) ⊎ IsFirstOf is_end (suc (suc end.place)) → FirstEnd set steps round
      go (inl none) = absurd (let l = none (suc end.place) passes in omega arith)
      go (inr x) = of x.number x.passes x.least
