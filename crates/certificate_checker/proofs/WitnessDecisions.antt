-- Whether something is a miss, or a gap, can be decided.
use Rattle.std.proofs.Common.{ℕ, ◌≡◌, ◌+◌, ◌-◌, ◌≤◌, ◌⊎◌, inl, inr, List, Option, Some, None, refl, ap, sym, ◌∙◌, subst, arith}
use Rattle.std.specs.Prelude.{IsTrue}
use Rattle.std.proofs.lemmas.Bool.{cases_lt, cases_Bool, both_ways}
use Rattle.std.proofs.lemmas.Option.{none-some, same_Some}
use Rattle.step_trace.proofs.BoundDecisions.{below}
use Rattle.certificate_checker.proofs.Common.{Act, Send, Receive, Step, Miss, Gap, has_proc, Recorded, step_at}
use Rattle.certificate_checker.proofs.Common.{IsReceiveOf, tick_of, IsMessage, IsMiss, IsGap, IsMessage-receiver}
use Rattle.certificate_checker.proofs.Common.{delivered_or_not, step_or_not, steps_within_or_not}

-- what may be decided of each of four may be decided of all
pub all_or_not : {P Q R S : Type 0} → P ⊎ (¬ P) → Q ⊎ (¬ Q) → R ⊎ (¬ R) → S ⊎ (¬ S) → (P × Q × R × S) ⊎ (¬ (P × Q × R × S))
all_or_not (inl p) (inl q) (inl r) (inl s) = inl (p, q, r, s)
all_or_not (inl p) (inl q) (inl r) (inr n) = inr (λ all. n all.3)
all_or_not (inl p) (inl q) (inr n) s = inr (λ all. n all.2)
all_or_not (inl p) (inr n) r s = inr (λ all. n all.1)
all_or_not (inr n) q r s = inr (λ all. n all.0)

pub at_most_or_not : (a b : ℕ) → (a ≤ b) ⊎ (¬ (a ≤ b))
at_most_or_not a b = elim (cases_lt b a) [ inl l ↦ inr (λ m. omega (arith, l, m)) | inr m ↦ inl m ]

-- p is a member of the set, or it isn't
member_or_not : (set p : ℕ) → IsTrue (has_proc set p) ⊎ (¬ IsTrue (has_proc set p))
member_or_not set p = elim (cases_Bool (has_proc set p)) [ inl t ↦ inl t | inr f ↦ inr (λ t. both_ways _ f t) ]

-- s is a message between members, or it isn't
message_or_not : (set : ℕ) (steps : List Step) (s : ℕ) → ((b : ℕ) × IsMessage set steps s b) ⊎ ((b : ℕ) → ¬ IsMessage set steps s b)
message_or_not set steps s = at (step_at steps s) refl where
  at : (o : Option Step) → step_at steps s ≡ o → ((b : ℕ) × IsMessage set steps s b) ⊎ ((b : ℕ) → ¬ IsMessage set steps s b)
  at None e = inr (λ b m. none-some _ (sym e ∙ m.sent))
  at (Some x) e = by x.act refl where
    same : (b : ℕ) (m : IsMessage set steps s b) → record { proc = m.from; act = Send b } ≡ x
    same b m = same_Some _ x (sym m.sent ∙ e)

    by : (a : Act) → x.act ≡ a → ((b : ℕ) × IsMessage set steps s b) ⊎ ((b : ℕ) → ¬ IsMessage set steps s b)
    by (Receive ends ids) h = inr (λ b m. let q = ap (λ (z : Step). z.act) (same b m) ∙ h in cc)
    by (Send b) h = elim (member_or_not set x.proc) [
      | inr n ↦ inr (λ c m. n (subst (λ p. IsTrue (has_proc set p)) (ap (λ (z : Step). z.proc) (same c m)) m.sender))
      | inl sender ↦ elim (member_or_not set b) [
        | inr n ↦ inr (λ c m. let q = ap (λ (z : Step). z.act) (same c m)
            ∙ h in let d : c ≡ b = cc in n (subst (λ p. IsTrue (has_proc set p)) d m.receiver))
        | inl receiver ↦ inl (
          b,
          record {
            from = x.proc;
            sent = e
                ∙ ap (λ (a : Act). let z : Step = record { proc = x.proc; act = a } in Some z) h;
            sender = sender;
            receiver = receiver;
          },
        )
      ]
    ]

-- step r is a Receive of p, or it isn't
receive_or_not : (steps : List Step) (r p : ℕ) → IsReceiveOf steps r p ⊎ (¬ IsReceiveOf steps r p)
receive_or_not steps r p = elim (step_or_not steps r p) [
  | inr n ↦ inr (λ m. n (Receive m.ends m.ids, m.step))
  | inl s ↦ by s.0 s.1
] where
  by : (a : Act) → step_at steps r ≡ Some (record { proc = p; act = a }) → IsReceiveOf steps r p ⊎ (¬ IsReceiveOf steps r p)
  by (Receive ends ids) e = inl (record { ends = ends; ids = ids; step = e })
  by (Send b) e = inr (λ m. let same = ap (λ (z : Step). z.act) (same_Some _ _ (sym m.step ∙ e)) in cc)

-- this is a miss, or it isn't
pub miss_or_not : (set : ℕ) (trace : Recorded) (m : Miss) → IsMiss set trace m ⊎ (¬ IsMiss set trace m)
miss_or_not set trace m = elim (message_or_not set trace.steps m.sent) [
  | inr n ↦ inr (λ i. n i.to i.message)
  | inl message ↦ elim (receive_or_not trace.steps m.missed message.0) [
    | inr n ↦ inr
        (λ i. n (subst (IsReceiveOf trace.steps m.missed) (IsMessage-receiver set trace.steps m.sent _ _ i.message message.1) i.receive))
    | inl receive ↦ elim (cases_lt (tick_of trace m.sent) (tick_of trace m.missed)) [
      | inr n ↦ inr (λ i. let l = i.late in absurd (omega (arith, l, n)))
      | inl late ↦ elim (delivered_or_not trace m.sent (tick_of trace m.missed)) [
        | inl d ↦ inr (λ i. i.undelivered d)
        | inr undelivered ↦ inl (record { to = message.0; message = message.1; receive = receive; late = late; undelivered = undelivered })
      ]
    ]
  ]
]

-- this is a gap, or it isn't
pub gap_or_not : (set : ℕ) (trace : Recorded) (w : Gap) → IsGap set trace w ⊎ (¬ IsGap set trace w)
gap_or_not set trace w =
    elim (all_or_not (member_or_not set w.proc) (below 0 w.from) (at_most_or_not w.from w.to) (at_most_or_not w.to trace.last)) [
      | inr n ↦ inr (λ i. n (i.member, i.start, i.order, i.inside))
      | inl k ↦ elim (steps_within_or_not trace w.proc w.from (w.to + 1 - w.from)) [
        | inl s ↦ inr (λ i. let u = s.until in let order = k.2 in i.silent s.tick s.from (omega (arith, u, order)) s.step)
        | inr n ↦ inl (record {
          member = k.0;
          start = k.1;
          order = k.2;
          inside = k.3;
          silent = λ x a b s. n (record { tick = x; from = a; until = (let order = k.2 in omega (arith, a, b, order)); step = s });
        })
      ]
    ]
