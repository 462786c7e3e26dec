-- The last Receive of a processor between two moments.
use Rattle.std.proofs.Common.{ℕ, ◌≡◌, ◌+◌, ◌<◌, ◌≤◌, ◌⊎◌, inl, inr, List, length, Bool, true, false, Option}
use Rattle.std.proofs.Common.{Some, None, cond, zero, suc, refl, sym, ap, ap₂, subst, ◌∙◌, arith}
use Rattle.std.specs.Prelude.{nat_lt}
use Rattle.std.proofs.lemmas.Bool.{cases_lt, cases_eq, ltb-true, ltb-false}
use Rattle.std.proofs.lemmas.Option.{none-some}
use Rattle.step_trace.specs.declared.steps.Act.{Act}
use Rattle.step_trace.specs.declared.steps.Act.TheVariants.{Send, Receive}
use Rattle.step_trace.specs.declared.steps.Step.{Step}
use Rattle.step_trace.specs.Traces.{Recorded, step_at, IsReceiveOf}
use Rattle.step_trace.specs.Ticks.{tick_of, IsTimed}
use Rattle.step_trace.proofs.StepPositions.{step_at_within, same_step}
use Rattle.step_trace.proofs.TickOrder.{ticks_rise, one_in_tick}
use Rattle.chunk_join.specs.declared.summaries.Place.{Place}
use Rattle.chunk_join.specs.Summaries.{IsLastReceive}
use Rattle.chunk_join.specs.Parts.{later_of, after}

-- over a seam: the last Receive after it, or that before it if there is none after
pub IsLastReceive-join : (t : Recorded) (q low mid high : ℕ) (x y : Option Place) → low ≤ mid → mid < high
    → IsLastReceive t q low (mid + 1) x → IsLastReceive t q mid high y → IsLastReceive t q low high (later_of x y)
IsLastReceive-join t q low mid high None None l h a b = λ z r u v. elim (cases_lt mid (tick_of t z)) [
  | inl later ↦ b z r later v
  | inr early ↦ a z r u (omega (arith, early))
]
IsLastReceive-join t q low mid high (Some r) None l h a b = record {
  receive = a.receive;
  place = a.place;
  after = a.after;
  until = omega (arith, a.until, h);
  latest = λ z k v. elim (cases_lt mid (tick_of t z)) [
    | inl later ↦ absurd (b z k later v)
    | inr early ↦ a.latest z k (omega (arith, early))
  ];
}
IsLastReceive-join t q low mid high x (Some r) l h a b = record {
  receive = b.receive;
  place = b.place;
  after = omega (arith, b.after, l);
  until = b.until;
  latest = b.latest;
}

-- of the Receives after a Send, it is the same one, if it comes later than the Send
pub IsLastReceive-after : (t : Recorded) (q low high : ℕ) (s : Place) (x : Option Place) → low ≤ s.tick
    → IsLastReceive t q low high x → IsLastReceive t q s.tick high (after s x)
IsLastReceive-after t q low high s None l a = λ z r u v. a z r (omega (arith, l, u)) v
IsLastReceive-after t q low high s (Some r) l a = go (nat_lt s.tick r.tick) refl where
  go : (b : Bool) → nat_lt s.tick r.tick ≡ b → IsLastReceive t q s.tick high (cond b (Some r) None)
  go true e = record {
    receive = a.receive;
    place = a.place;
    after = ltb-true s.tick r.tick e;
    until = a.until;
    latest = a.latest;
  }
  go false e = λ z k u v. (omega (arith, ltb-false s.tick r.tick e, a.latest z k v, u))

-- it is one
pub IsLastReceive-one : (t : Recorded) → IsTimed t → (q low high : ℕ) (x y : Option Place)
    → IsLastReceive t q low high x → IsLastReceive t q low high y → x ≡ y
IsLastReceive-one t time q low high None None a b = refl
IsLastReceive-one t time q low high None (Some r) a b =
    absurd (a r.no b.receive (omega (arith, b.place, b.after)) (omega (arith, b.place, b.until)))
IsLastReceive-one t time q low high (Some r) None a b =
    absurd (b r.no a.receive (omega (arith, a.place, a.after)) (omega (arith, a.place, a.until)))
IsLastReceive-one t time q low high (Some r) (Some s) a b =
    ap₂ (λ (n m : ℕ). let p : Place = record { no = n; tick = m } in Some p) number tick where
      tick : r.tick ≡ s.tick
      tick =
          let c = a.latest s.no b.receive (omega (arith, b.place, b.until)) in
          let d = b.latest r.no a.receive (omega (arith, a.place, a.until)) in
          omega (arith, a.place, b.place, c, d)

      number : r.no ≡ s.no
      number = one_in_tick t time r.no s.no _ _ a.receive.step b.receive.step refl (a.place ∙ tick ∙ sym b.place)

-- whether a step is a Receive of q is decidable
receive_or_not : (steps : List Step) (k q : ℕ) → IsReceiveOf steps k q ⊎ (IsReceiveOf steps k q → ⊥)
receive_or_not steps k q = look (step_at steps k) refl where
  act : (x : Step) → step_at steps k ≡ Some x → x.proc ≡ q → (a : Act) → x.act ≡ a
      → IsReceiveOf steps k q ⊎ (IsReceiveOf steps k q → ⊥)
  act x e p (Send to) f = inr (λ r. let same = ap (λ (y : Step). y.act) (same_step steps k _ _ e r.step) in cc)
  act x e p (Receive ends ids) f = inl (record {
    ids = ids;
    ends = ends;
    step = e ∙ ap₂ (λ (n : ℕ) (a : Act). let y : Step = record { proc = n; act = a } in Some y) p f;
  })

  look : (o : Option Step) → step_at steps k ≡ o → IsReceiveOf steps k q ⊎ (IsReceiveOf steps k q → ⊥)
  look None e = inr (λ r. none-some _ (sym e ∙ r.step))
  look (Some x) e = elim (cases_eq x.proc q) [
    | inl p ↦ act x e p x.act refl
    | inr n ↦ inr (λ r. n (ap (λ (y : Step). y.proc) (same_step steps k _ _ e r.step)))
  ]

-- there is such a Receive or none, and a search by falling numbers finds it
found_below : (t : Recorded) → IsTimed t → (q low high n : ℕ)
    → ((y : ℕ) → IsReceiveOf t.steps y q → n < y → low < tick_of t y → tick_of t y < high → ⊥)
    → (x : Option Place) × IsLastReceive t q low high x
found_below t time q low high zero none = (None, λ y r u v. none y r (step_at_within t.steps y _ r.step).0 u v)
found_below t time q low high (suc n) none =
    let more = found_below t time q low high n in
    let skip = λ (other : IsReceiveOf t.steps (suc n) q → low < tick_of t (suc n) → tick_of t (suc n) < high → ⊥).
    more (λ y r l u v. elim (cases_eq y (suc n)) [
      | inl e ↦ other (subst (λ k. IsReceiveOf t.steps k q) e r) (subst (λ k. low < tick_of t k) e u)
          (subst (λ k. tick_of t k < high) e v)
      | inr ne ↦ none y r (omega (arith, l, ne)) u v
    ]) in
    elim (receive_or_not t.steps (suc n) q) [
      | inr no_receive ↦ skip (λ r u v. no_receive r)
      | inl r ↦ elim (cases_lt low (tick_of t (suc n))) [
        | inr early ↦ skip (λ k u v. omega (arith, early, u))
        | inl inside ↦ elim (cases_lt (tick_of t (suc n)) high) [
          | inr late ↦ skip (λ k u v. omega (arith, late, v))
          | inl within ↦ (
            Some (record { no = suc n; tick = tick_of t (suc n) }),
            record {
              receive = r;
              place = refl;
              after = inside;
              until = within;
              latest = λ y k v. elim (cases_lt (suc n) y) [
                | inl l ↦ elim (cases_lt low (tick_of t y)) [
                  | inl u ↦ absurd (none y k l u v)
                  | inr early ↦ omega (arith, early, inside)
                ]
                | inr l ↦ ticks_rise t time y (suc n) _ _ k.step r.step l
              ];
            },
          )
        ]
      ]
    ]

pub IsLastReceive-some : (t : Recorded) → IsTimed t → (q low high : ℕ)
    → (x : Option Place) × IsLastReceive t q low high x
IsLastReceive-some t time q low high = found_below t time q low high (length t.steps)
    (λ y r l u v. (let i = step_at_within t.steps y _ r.step in omega (arith, i, l)))
