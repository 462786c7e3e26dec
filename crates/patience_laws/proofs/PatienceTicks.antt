-- How long a patience lasts.
use Rattle.std.proofs.Common.{ℕ, zero, suc, ◌≡◌, ◌+◌, ◌-◌, ◌<◌, ◌≤◌, inl, inr, List, take, Some, Bool, true, false, cond, refl, sym, ap, subst, ◌∙◌, arith}
use Rattle.std.proofs.lemmas.Bool.{cases_lt}
use Rattle.std.proofs.lemmas.Option.{same_Some}
use Rattle.patience_laws.proofs.Common.{Act, Receive, Step, Setup, Recorded, step_at, tick_of, IsTimed, own_ticks_rise, act_ends, receiving, Paced, heard_ids, after_receive}
use Rattle.patience_laws.specs.PacedRuns.{pace_after}
use Rattle.patience_laws.proofs.PacedSteps.{rounds_after, IsReceived, step-cases}
use Rattle.patience_laws.proofs.KnownRounds.{rounds-step, rounds-up}

-- a step of p that ends its round of this number
pub record IsEndOf (steps : List Step) (p round : ℕ) : Type 0 where
  pub place : ℕ
  pub ids : List ℕ
  pub step : step_at steps (suc place) ≡ Some (record { proc = p; act = Receive true ids })
  pub round_is : rounds_after steps p place + 1 ≡ round
  pub after : rounds_after steps p (suc place) ≡ round

module _ (c : Setup) (patience : ℕ) (steps : List Step) (p : ℕ) where
  -- a step that ends a round begins the next one
  pub rounds-ended : (n : ℕ) (ids : List ℕ) → step_at steps (suc n) ≡ Some (record { proc = p; act = Receive true ids })
      → rounds_after steps p (suc n) ≡ rounds_after steps p n + 1
  rounds-ended n ids at = elim (step-cases c patience steps p n) [
    | inl still ↦ absurd (still.none true ids at)
    | inr r ↦ (
        let same = same_Some (receiving p r.ends r.ids) (receiving p true ids) (sym r.step ∙ at) in
        r.round ∙ ap (λ (x : Step). rounds_after steps p n + cond (act_ends x.act) 1 0) same)
  ]

  -- each round that was passed has such a step
  pub end-of : (round n : ℕ) → 1 ≤ round → round ≤ rounds_after steps p n → (e : IsEndOf steps p round) × (e.place < n)
  end-of round zero low passed = absurd (let e : rounds_after steps p zero ≡ 0 = refl in omega arith)
  end-of round (suc n) low passed = elim (cases_lt (rounds_after steps p n) round) [
    | inr before ↦ (let e = end-of round n low before in (e.0, (let l = e.1 in omega arith)))
    | inl now ↦ elim (step-cases c patience steps p n) [
      | inl still ↦ absurd (let e = still.round in omega arith)
      | inr r ↦ of r r.ends refl now
    ]
  ]
    where
      of : (r : IsReceived c patience steps p n) → (b : Bool)
          → r.ends ≡ b → rounds_after steps p n < round → (e : IsEndOf steps p round) × (e.place < suc n)
      of r false e now = absurd (let f : rounds_after steps p (suc n) ≡ rounds_after steps p n + 0 = r.round
          ∙ ap (λ b. rounds_after steps p n + cond b 1 0) e in omega arith)
      of r true e now =
          let f : rounds_after steps p (suc n) ≡ rounds_after steps p n + 1 = r.round ∙ ap (λ b. rounds_after steps p n + cond b 1 0) e in
          let g : rounds_after steps p n + 1 ≡ round = omega arith in (
            record {
              place = n;
              ids = r.ids;
              step = r.step
                  ∙ ap (λ b. Some (record { proc = p; act = Receive b r.ids })) e;
              round_is = g;
              after = f ∙ g;
            },
            omega arith,
          )

-- a Receive leaves the patience as it is
patience-kept : (ends : Bool) (round : ℕ) (x : Paced) → (after_receive ends round x).patience ≡ x.patience
patience-kept true round x = refl
patience-kept false round x = refl

pub pace-patience : (c : Setup) (patience : ℕ) (steps : List Step) (p k : ℕ) → (pace_after c patience steps p k).patience ≡ patience
unfolding pace_after
pace-patience c patience steps p zero = refl
pace-patience c patience steps p (suc k) = elim (step-cases c patience steps p k) [
  | inl s ↦ ap (λ (x : Paced). x.patience) s.pace ∙ pace-patience c patience steps p k
  | inr r ↦ ap (λ (x : Paced). x.patience) r.pace ∙ patience-kept r.ends
      (rounds_after steps p k + 1) (heard_ids (take k steps) p r.ids (pace_after c patience steps p k)) ∙ pace-patience c patience steps p k
]

module _ (trace : Recorded) (patience p : ℕ) (time : IsTimed trace) (round : ℕ) (end : IsEndOf trace.steps p round) where
  abbrev left : ℕ → ℕ
  left n = (pace_after trace.config patience trace.steps p n).left

  -- what is left of the patience, with the ticks since the round began, is no less than the patience
  abbrev Lasts : ℕ → Type 0
  Lasts n = (k : ℕ) (act : Act) → n < k → step_at trace.steps k ≡ Some (record { proc = p; act = act })
      → patience + tick_of trace (suc end.place) + 1 ≤ left n + tick_of trace k

  later : (j k : ℕ) (a b : Act) → step_at trace.steps j ≡ Some (record { proc = p; act = a })
      → step_at trace.steps k ≡ Some (record { proc = p; act = b }) → j < k → tick_of trace j < tick_of trace k
  later j k a b at to l = own_ticks_rise trace time j k (record { proc = p; act = a }) (record { proc = p; act = b }) at to refl l

  lasts-first : Lasts (suc end.place)
  lasts-first k act l at = elim (step-cases trace.config patience trace.steps p end.place) [
    | inl still ↦ absurd (still.none true end.ids end.step)
    | inr r ↦ (
        let same = same_Some (receiving p r.ends r.ids) (receiving p true end.ids) (sym r.step ∙ end.step) in
        let ends : r.ends ≡ true = ap (λ (x : Step). act_ends x.act) same in
        let x = heard_ids (take end.place trace.steps) p r.ids (pace_after trace.config patience trace.steps p end.place) in
        let renewed : left (suc end.place) ≡ patience =
        ap (λ (y : Paced). y.left) r.pace ∙ ap (λ b. (after_receive b (rounds_after trace.steps p end.place + 1) x).left) ends
        ∙ pace-patience trace.config patience trace.steps p end.place in
        omega (arith, later (suc end.place) k (Receive true end.ids) act end.step at l))
  ]

  lasts-step : (n : ℕ) → rounds_after trace.steps p (suc n) ≡ rounds_after trace.steps p n → Lasts n → Lasts (suc n)
  lasts-step n same lasts k act l at = elim (step-cases trace.config patience trace.steps p n) [
    | inl still ↦ (let e = ap (λ (y : Paced). y.left) still.pace in let before = lasts k act (omega arith) at in omega arith)
    | inr r ↦ of r r.ends refl
  ]
    where
      of : (r : IsReceived trace.config patience trace.steps p n)
          → (b : Bool) → r.ends ≡ b → patience + tick_of trace (suc end.place) + 1 ≤ left (suc n) + tick_of trace k
      of r true e = absurd (let f : rounds_after trace.steps p (suc n) ≡ rounds_after trace.steps p n + 1 = r.round
          ∙ ap (λ b. rounds_after trace.steps p n + cond b 1 0) e in omega arith)
      of r false e =
          let x = heard_ids (take n trace.steps) p r.ids (pace_after trace.config patience trace.steps p n) in
          let less : left (suc n) ≡ left n - 1 = ap (λ (y : Paced). y.left) r.pace
          ∙ ap (λ b. (after_receive b (rounds_after trace.steps p n + 1) x).left) e in
          let before = lasts (suc n) (Receive r.ends r.ids) (omega arith) r.step in
          omega (arith, later (suc n) k (Receive r.ends r.ids) act r.step at l)

  lasts-on : (more : ℕ) → rounds_after trace.steps p (suc end.place + more) ≡ round → Lasts (suc end.place + more)
  lasts-on zero same = let e : suc end.place + 0 ≡ suc end.place = omega arith in subst Lasts (sym e) lasts-first
  lasts-on (suc more) same =
      let e : suc end.place + suc more ≡ suc (suc end.place + more) = omega arith in
      let here : rounds_after trace.steps p (suc (suc end.place + more)) ≡ round = sym (ap (rounds_after trace.steps p) e) ∙ same in
      let low = rounds-up trace.config patience trace.steps p (suc end.place) (suc end.place + more) (omega arith) in
      let step = rounds-step trace.config patience trace.steps p (suc end.place + more) in
      let after = end.after in
      subst Lasts (sym e) (lasts-step (suc end.place + more) (omega arith) (lasts-on more (omega arith)))

  -- A patience that ends the next round lasted for as many ticks.
  pub patience-lasts : (n : ℕ) (act : Act) → end.place < n → rounds_after trace.steps p n ≡ round → step_at trace.steps (suc n)
      ≡ Some (record { proc = p; act = act }) → left n ≤ 1 → patience + tick_of trace (suc end.place) ≤ tick_of trace (suc n)
  patience-lasts n act l here at out =
      let e : suc end.place + (n - suc end.place) ≡ n = omega arith in
      let lasts : Lasts n = subst Lasts e (lasts-on (n - suc end.place) (ap (rounds_after trace.steps p) e ∙ here)) in
      let most = lasts (suc n) act (omega arith) at in
      omega arith
