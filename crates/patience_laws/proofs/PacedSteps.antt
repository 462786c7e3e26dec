-- What a step does to a pace.
use Rattle.std.proofs.Common.{ℕ, zero, suc, ◌≡◌, ◌+◌, ◌-◌, ◌⊎◌, inl, inr, List, [], ◌∷◌, take, Option, Some, None, Bool, true, false, ◌==◌, ◌&&◌, cond, refl, sym, ap, subst, ◌∙◌, arith}
use Rattle.std.specs.Prelude.{slice_get}
use Rattle.std.proofs.Common.{eq-eqb}
use Rattle.std.proofs.lemmas.Bool.{eqb-true, and_right, and_left, true≢false}
use Rattle.std.proofs.lemmas.Option.{none-some, same_Some}
use Rattle.patience_laws.proofs.Common.{act_sends, Act, Send, Receive, Step, Setup, step_at, passed, round_at, act_ends, heard_ids, after_receive, round_at-ended, round_at-stays}
use Rattle.patience_laws.specs.PacedRuns.{pace_after, pace_stepping}

-- the rounds of p after the first k steps
abbrev pub rounds_after : List Step → ℕ → ℕ → ℕ
rounds_after steps p k = passed (take k steps) p

-- a step leaves the pace and the round of p as they are
pub record IsStill (c : Setup) (patience : ℕ) (steps : List Step) (p k : ℕ) : Type 0 where
  pub pace : pace_after c patience steps p (suc k) ≡ pace_after c patience steps p k
  pub round : rounds_after steps p (suc k) ≡ rounds_after steps p k
  pub none : (ends : Bool) (ids : List ℕ) → step_at steps (suc k) ≡ Some (record { proc = p; act = Receive ends ids }) → ⊥

-- or is a Receive of p
pub record IsReceived (c : Setup) (patience : ℕ) (steps : List Step) (p k : ℕ) : Type 0 where
  pub ids : List ℕ
  pub ends : Bool
  pub step : step_at steps (suc k) ≡ Some (record { proc = p; act = Receive ends ids })
  pub pace : pace_after c patience steps p (suc k)
      ≡ after_receive ends (rounds_after steps p k + 1) (heard_ids (take k steps) p ids (pace_after c patience steps p k))
  pub round : rounds_after steps p (suc k) ≡ rounds_after steps p k + cond ends 1 0

pace-next : (c : Setup) (patience : ℕ) (steps : List Step) (p k : ℕ)
    → pace_after c patience steps p (suc k) ≡ pace_stepping (take k steps) p (slice_get steps k) (pace_after c patience steps p k)
unfolding pace_after
pace-next c patience steps p k = refl

-- the round at a step, by the rounds after the steps before it
pub round-here : (steps : List Step) (p k : ℕ) → round_at steps p (suc k) ≡ rounds_after steps p k + 1
round-here steps p k = let e : suc k - 1 ≡ k = omega arith in ap (λ n. passed (take n steps) p + 1) e

round-next : (steps : List Step) (p k : ℕ) → round_at steps p (suc k + 1) ≡ rounds_after steps p (suc k) + 1
round-next steps p k = let e : suc k + 1 - 1 ≡ suc k = omega arith in ap (λ n. passed (take n steps) p + 1) e

-- past the end there is no more
take-past : (steps : List Step) (k : ℕ) → slice_get steps k ≡ None → take (suc k) steps ≡ take k steps
take-past [] zero l = refl
take-past [] (suc k) l = refl
take-past (x ∷ steps) zero l = absurd (none-some x (sym l))
take-past (x ∷ steps) (suc k) l = ap (λ rest. x ∷ rest) (take-past steps k l)

module _ (c : Setup) (patience : ℕ) (steps : List Step) (p k : ℕ) where
  stays : (x : Step) → slice_get steps k ≡ Some x → (x.proc == p && act_ends x.act) ≡ false
      → rounds_after steps p (suc k) ≡ rounds_after steps p k
  stays x h other = omega (arith, round-next steps p k, round-here steps p k, round_at-stays steps (suc k) x p h other)

  ends-round : (x : Step) → slice_get steps k ≡ Some x
      → x.proc ≡ p → act_ends x.act ≡ true → rounds_after steps p (suc k) ≡ rounds_after steps p k + 1
  ends-round x h own ends =
      let more : round_at steps p (suc k + 1) ≡ round_at steps p (suc k) + 1 =
      subst (λ q. round_at steps q (suc k + 1) ≡ round_at steps q (suc k) + 1) own (round_at-ended steps (suc k) x h ends) in
      omega (arith, round-next steps p k, round-here steps p k)

  pub step-cases : IsStill c patience steps p k ⊎ IsReceived c patience steps p k
  step-cases = go (slice_get steps k) refl
    where
      next : (o : Option Step) → slice_get steps k ≡ o
          → pace_after c patience steps p (suc k) ≡ pace_stepping (take k steps) p o (pace_after c patience steps p k)
      next o e = pace-next c patience steps p k ∙ ap (λ x. pace_stepping (take k steps) p x (pace_after c patience steps p k)) e

      own : (x : Step) (act : Act) → slice_get steps k ≡ Some x
          → x.act ≡ act → x.proc ≡ p → IsStill c patience steps p k ⊎ IsReceived c patience steps p k
      own x (Send to) e f g = inl (record {
        pace = next (Some x) e ∙ rw (eq-eqb x.proc p g, f) refl;
        round = stays x e (ap (λ a. x.proc == p && act_ends a) f ∙ and_right (x.proc == p) false refl);
        none = λ ends ids s. (let same : x.act ≡ Receive ends ids = ap (λ (y : Step). y.act) (same_Some _ _ (sym e ∙ s)) in
            true≢false (ap act_sends (sym f ∙ same)));
      })
      own x (Receive false ids) e f g = inr (record {
        ids = ids;
        ends = false;
        step = e ∙ ap (λ q. Some (record { proc = q; act = x.act })) g ∙ ap (λ act. Some (record { proc = p; act = act })) f;
        pace = next (Some x) e ∙ rw (eq-eqb x.proc p g, f) refl;
        round = stays x e (ap (λ a. x.proc == p && act_ends a) f ∙ and_right (x.proc == p) false refl) ∙ omega arith;
      })
      own x (Receive true ids) e f g = inr (record {
        ids = ids;
        ends = true;
        step = e ∙ ap (λ q. Some (record { proc = q; act = x.act })) g ∙ ap (λ act. Some (record { proc = p; act = act })) f;
        pace = next (Some x) e ∙ rw (eq-eqb x.proc p g, f) refl;
        round = ends-round x e g (ap act_ends f);
      })

      go : (o : Option Step) → slice_get steps k ≡ o → IsStill c patience steps p k ⊎ IsReceived c patience steps p k
      go None e = inl (record {
        pace = next None e;
        round = ap (λ xs. passed xs p) (take-past steps k e);
        none = λ ends ids s. none-some _ (sym e ∙ s);
      })
      go (Some x) e = of (x.proc == p) refl
        where
          of : (b : Bool) → (x.proc == p) ≡ b → IsStill c patience steps p k ⊎ IsReceived c patience steps p k
          of true t = own x x.act e refl (eqb-true x.proc p t)
          of false t = inl (record {
            pace = next (Some x) e ∙ rw t refl;
            round = stays x e (and_left (x.proc == p) (act_ends x.act) t);
            none = λ ends ids s. (let same : x.proc ≡ p = ap (λ (y : Step). y.proc) (same_Some _ _ (sym e ∙ s)) in
                true≢false (sym (eq-eqb x.proc p same) ∙ t));
          })
