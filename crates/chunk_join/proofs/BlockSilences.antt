-- The silences of a block: those that its steps end, tick by tick, and those that last up to its end.
use Rattle.std.proofs.Common.{ℕ, ◌≡◌, ◌≢◌, ◌+◌, ◌-◌, ◌<◌, ◌≤◌, ◌⊎◌, ◌++◌, inl, inr, List, [], ◌∷◌, length, get_or, Some, IsTrue, refl, sym, ap, subst, ◌∙◌, arith}
use Rattle.std.proofs.Common.{set as set_at}
use Rattle.std.proofs.lemmas.Bool.{cases_eq, cases_lt}
use Rattle.std.proofs.lemmas.List.{get_or-set_same, get_or-set_other}
use Rattle.step_trace.specs.declared.processors.TheConstants.{MAX_MEMBER}
use Rattle.step_trace.specs.declared.steps.Step.{Step}
use Rattle.step_trace.specs.declared.rows.Gap.{Gap}
use Rattle.step_trace.specs.Processors.{has_proc}
use Rattle.step_trace.specs.Traces.{Recorded, step_at, IsStepOf}
use Rattle.step_trace.specs.Ticks.{tick_of, StepsIn, IsTimed}
use Rattle.step_trace.specs.Witnesses.{IsGap}
use Rattle.step_trace.proofs.StepPositions.{step_at_within, same_step}
use Rattle.step_trace.proofs.TickOrder.{one_in_tick}
use Rattle.step_trace.specs.TickSteps.{AreStepsBefore}
use Rattle.chunk_join.specs.Summaries.{IsListing, IsLongest, EndsBefore}
use Rattle.chunk_join.specs.BlockSteps.{IsDone, StepsDone, IsBegun, IsEnded, AreEnded, IsLongestFrom, AreLongestFrom}
use Rattle.chunk_join.proofs.ListingGrowth.{IsListing-same, IsListing-push}
use Rattle.chunk_join.proofs.BlockMessages.{step_early}
use Rattle.suffix_staircase.proofs.LongestGaps.{member_range}

steps_in : (t : Recorded) (x n p y : ℕ) → StepsDone t x n p y → StepsIn t y p
steps_in t x n p y s = record { place = s.place; step = s.step; tick = s.tick }

-- if the same steps of members are done, the same silences ended
module _ (set : ℕ) (t : Recorded) (i x n y m : ℕ) (forth : (k p : ℕ) → IsTrue (has_proc set p) → IsStepOf t.steps k p → IsDone t x n k
    → IsDone t y m k) (back : (k p : ℕ) → IsTrue (has_proc set p) → IsStepOf t.steps k p → IsDone t y m k → IsDone t x n k) where
  moved : (p z : ℕ) → IsTrue (has_proc set p) → StepsDone t x n p z → StepsDone t y m p z
  moved p z k s = record { place = s.place; step = s.step; tick = s.tick; done = forth s.place p k s.step s.done }

  moved_back : (p z : ℕ) → IsTrue (has_proc set p) → StepsDone t y m p z → StepsDone t x n p z
  moved_back p z k s = record { place = s.place; step = s.step; tick = s.tick; done = back s.place p k s.step s.done }

  begun_alike : (p v : ℕ) → IsTrue (has_proc set p) → IsBegun t i x n p v → IsBegun t i y m p v
  begun_alike p v k b = record {
    low = b.low;
    left = elim b.left [ inl e ↦ inl e | inr s ↦ inr (moved p (v - 1) k s) ];
    quiet = λ j s d. b.quiet j s (back j p k s d);
  }

  pub ended_alike : (silent : List Gap) (begun : List ℕ) → AreEnded set t i x n silent begun → AreEnded set t i y m silent begun
  ended_alike silent begun a = record {
    ended = IsListing-same EndsBefore (IsEnded set t i x n) (IsEnded set t i y m) silent
        (λ w e. record { gap = e.gap; after = e.after; left = e.left; right = moved w.proc (w.to + 1) e.gap.member e.right })
        (λ w e. record { gap = e.gap; after = e.after; left = e.left; right = moved_back w.proc (w.to + 1) e.gap.member e.right })
        a.ended;
    next = λ p k. begun_alike p (get_or begun p 0) k (a.next p k);
  }

-- before tick x all its steps are to come, after it none is
pub ended_before : (set : ℕ) (t : Recorded) (i x b : ℕ) (silent : List Gap) (begun : List ℕ)
    → AreStepsBefore t (x + 1) b → AreEnded set t i x (length t.steps) silent begun → AreEnded set t i x b silent begun
ended_before set t i x b silent begun o a = ended_alike set t i x (length t.steps) x b (λ k p m s d.
    elim d [ inl l ↦ inl l | inr e ↦ absurd (let w = (step_at_within t.steps k _ s.1).1 in omega (arith, w, e.1)) ]) (λ k p m s d. elim d
    [ inl l ↦ inl l | inr e ↦ absurd (let r = o.rest k e.1 (step_at_within t.steps k _ s.1).1 in omega (arith, r, e.0)) ]) silent begun a

pub ended_after : (set : ℕ) (t : Recorded) (i x a : ℕ) (silent : List Gap) (begun : List ℕ) → AreStepsBefore t x a
    → AreEnded set t i x a silent begun → AreEnded set t i (x + 1) (length t.steps) silent begun
ended_after set t i x a silent begun o e = ended_alike set t i x a (x + 1) (length t.steps)
    (λ k p m s d. elim d [ inl l ↦ inl (omega (arith, l)) | inr e ↦ inl (omega (arith, e.0)) ])
    (λ k p m s d. elim d [
      | inl l ↦ elim (cases_lt (tick_of t k) x) [
        | inl early ↦ inl early
        | inr n ↦ inr (
          omega (arith, l, n),
          (elim (cases_lt a k) [
            | inl later ↦ later
            | inr first ↦ absurd (let early = step_early t x a k _ o s.1 first in omega (arith, early, n))
          ]),
        )
      ]
      | inr e ↦ absurd (let w = (step_at_within t.steps k _ s.1).1 in omega (arith, w, e.1))
    ])
    silent begun e

-- a silence of p that ends where all steps of p that are done are earlier begins where p's next one does
begin_one : (t : Recorded) (set i x n p v : ℕ) (w : Gap) → IsBegun t i x n p v
    → ((k : ℕ) → IsStepOf t.steps k p → IsDone t x n k → tick_of t k < x)
    → ((k : ℕ) → IsStepOf t.steps k p → tick_of t k < x → IsDone t x n k) → w.proc ≡ p → w.to + 1 ≡ x → IsGap set t w
    → i < w.from → (w.from ≡ i + 1) ⊎ StepsIn t (w.from - 1) w.proc → v ≡ w.from
begin_one t set i x n p v w b early done own end gap after left = elim (cases_lt w.from v) [
  | inl l ↦ absurd (elim b.left [
    | inl e ↦ omega (arith, e, l, after)
    | inr s ↦ (
        let tick = s.tick in
        let u = early s.place s.step s.done in
        gap.silent (v - 1) (omega (arith, l)) (omega (arith, tick, u, end))
        (record {
          place = s.place;
          step = (
            s.step.0,
            subst (λ q. step_at t.steps s.place ≡ Some (record { proc = q; act = s.step.0 }))
                (sym own) s.step.1,
          );
          tick = tick;
        }))
  ])
  | inr n ↦ elim (cases_lt v w.from) [
    | inl l ↦ absurd (elim left [
      | inl e ↦ omega (arith, e, l, b.low)
      | inr s ↦ (
          let step : IsStepOf t.steps s.place p =
          (s.step.0, subst (λ q. step_at t.steps s.place ≡ Some (record { proc = q; act = s.step.0 })) own s.step.1) in
          let q = b.quiet s.place step (done s.place step (omega (arith, s.tick, gap.order, end))) in
          omega (arith, q, s.tick, l))
    ])
    | inr m ↦ omega (arith, n, m)
  ]
]

alike : (w : Gap) (p v z : ℕ) → p ≡ w.proc → v ≡ w.from → z ≡ w.to → (let u : Gap = record { proc = p; from = v; to = z } in u) ≡ w
alike w p v z e f g = join (λ proc from to. record { proc = proc; from = from; to = to }) e f g where
  join : (make : ℕ → ℕ → ℕ → Gap) → p ≡ w.proc → v ≡ w.from → z ≡ w.to → make p v z ≡ make w.proc w.from w.to
  join make e f g = cc

-- one step of tick x, going back
module _ (set : ℕ) (t : Recorded) (time : IsTimed t) (i x n p : ℕ) (low : i < x)
    (high : x ≤ t.last) (member : IsTrue (has_proc set p)) (step : IsStepOf t.steps (n + 1) p) (tick : tick_of t (n + 1) ≡ x) where
  more : (k : ℕ) → IsDone t x (n + 1) k → IsDone t x n k
  more k d = elim d [ inl l ↦ inl l | inr e ↦ inr (e.0, omega (arith, e.1)) ]

  less : (k : ℕ) → IsDone t x n k → IsDone t x (n + 1) k ⊎ (k ≡ n + 1)
  less k d = elim d [
    | inl l ↦ inl (inl l)
    | inr e ↦ elim (cases_eq k (n + 1)) [
      | inl f ↦ inr f
      | inr d ↦ inl (inr (e.0, omega (arith, e.1, d)))
    ]
  ]

  step_more : (q z : ℕ) → StepsDone t x (n + 1) q z → StepsDone t x n q z
  step_more q z s = record { place = s.place; step = s.step; tick = s.tick; done = more s.place s.done }

  -- its own steps that are done are in earlier ticks
  own_early : (k : ℕ) → IsStepOf t.steps k p → IsDone t x (n + 1) k → tick_of t k < x
  own_early k s d = elim d [
    | inl l ↦ l
    | inr e ↦ absurd (let f = one_in_tick t time k (n + 1) _ _ s.1 step.1 refl (e.0 ∙ sym tick) in omega (arith, f, e.1))
  ]

  begun_own : IsBegun t i x n p (x + 1)
  begun_own = record {
    low = omega (arith, low);
    left = inr
        (record { place = n + 1; step = step; tick = (let e : x ≡ x + 1 - 1 = omega arith in tick ∙ e); done = inr (tick, omega arith) });
    quiet = λ k s d. elim d [ inl l ↦ omega (arith, l) | inr e ↦ omega (arith, e.0) ];
  }

  begun_other : (q v : ℕ) → q ≢ p → IsBegun t i x (n + 1) q v → IsBegun t i x n q v
  begun_other q v d b = record {
    low = b.low;
    left = elim b.left [ inl e ↦ inl e | inr s ↦ inr (step_more q (v - 1) s) ];
    quiet = λ k s done. elim (less k done) [
      | inl old ↦ b.quiet k s old
      | inr e ↦ absurd (d (ap (λ (z : Step). z.proc)
          (same_step t.steps (n + 1) _ _ (subst (λ m. step_at t.steps m ≡ Some (record { proc = q; act = s.0 })) e s.1) step.1)))
    ];
  }

  begun_all : (begun : List ℕ) → length begun ≡ MAX_MEMBER + 1
      → ((q : ℕ) → IsTrue (has_proc set q) → IsBegun t i x (n + 1) q (get_or begun q 0)) → (q : ℕ)
      → IsTrue (has_proc set q) → IsBegun t i x n q (get_or (set_at begun p (x + 1)) q 0)
  begun_all begun long all q m = elim (cases_eq q p) [
    | inl e ↦ subst (λ r. IsBegun t i x n r (get_or (set_at begun p (x + 1)) r 0)) (sym e)
        (subst (λ v. IsBegun t i x n p v)
        (sym (get_or-set_same begun p (x + 1) 0 (omega (arith, (member_range set p member).1, long)))) begun_own)
    | inr d ↦ subst (λ v. IsBegun t i x n q v) (sym (get_or-set_other begun p q (x + 1) 0 d)) (begun_other q (get_or begun q 0) d (all q m))
  ]

  ended_more : (w : Gap) → IsEnded set t i x (n + 1) w → IsEnded set t i x n w
  ended_more w e = record { gap = e.gap; after = e.after; left = e.left; right = step_more w.proc (w.to + 1) e.right }

  -- a silence that is new was ended by this step
  ended_less : (v : ℕ) → IsBegun t i x (n + 1) p v
      → (w : Gap) → IsEnded set t i x n w → IsEnded set t i x (n + 1) w ⊎ ((p ≡ w.proc) × (v ≡ w.from) × (w.to + 1 ≡ x))
  ended_less v b w e = elim (less e.right.place e.right.done) [
    | inl old ↦ inl (record {
      gap = e.gap;
      after = e.after;
      left = e.left;
      right = record { place = e.right.place; step = e.right.step; tick = e.right.tick; done = old };
    })
    | inr f ↦ (
        let own : w.proc ≡ p = ap (λ (z : Step). z.proc) (same_step t.steps
        (n + 1) _ _ (subst (λ m. step_at t.steps m ≡ Some (record { proc = w.proc; act = e.right.step.0 })) f e.right.step.1) step.1) in
        let end : w.to + 1 ≡ x = sym e.right.tick ∙ ap (tick_of t) f ∙ tick in
        inr (sym own, begin_one t set i x (n + 1) p v w b own_early (λ k s l. inl l) own end e.gap e.after e.left, end))
  ]

  pub ended_push : (silent : List Gap) (begun : List ℕ) → length begun ≡ MAX_MEMBER + 1 → get_or begun p 0 < x → AreEnded set t i x (n + 1)
      silent begun → AreEnded set t i x n (silent ++ record { proc = p; from = get_or begun p 0; to = x - 1 } ∷ []) (set_at begun p (x + 1))
  ended_push silent begun long short a = record {
    ended = IsListing-push EndsBefore (IsEnded set t i x (n + 1)) (IsEnded set t i x n) silent
        (record { proc = p; from = get_or begun p 0; to = x - 1 }) a.ended above ended_more own (λ w e. elim (ended_less v b w e) [
          | inl old ↦ inl old
          | inr f ↦ inr (alike w p v (x - 1) f.0 f.1 (omega (arith, f.2)))
        ]);
    next = begun_all begun long a.next;
  } where
    v : ℕ
    v = get_or begun p 0

    b : IsBegun t i x (n + 1) p v
    b = a.next p member

    above : (w : Gap) → IsEnded set t i x (n + 1) w → EndsBefore w (record { proc = p; from = get_or begun p 0; to = x - 1 })
    above w e = elim e.right.done [
      | inl l ↦ inl (omega (arith, e.right.tick, l))
      | inr l ↦ inr (
        omega (arith, e.right.tick, l.0),
        elim (time.order (n + 1) e.right.place _ _ l.1 step.1 e.right.step.1) [
          | inl r ↦ absurd (omega (arith, r, l.0, tick))
          | inr r ↦ r.1
        ],
      )
    ]

    own : IsEnded set t i x n (record { proc = p; from = get_or begun p 0; to = x - 1 })
    own = record {
      gap = record {
        member = member;
        start = omega (arith, b.low);
        order = omega (arith, short);
        inside = omega (arith, high);
        silent = λ y f u s. (
            let q = b.quiet s.place s.step (inl (omega (arith, s.tick, u, low))) in
            omega (arith, q, s.tick, f));
      };
      after = b.low;
      left = elim b.left [ inl e ↦ inl e | inr s ↦ inr (steps_in t x (n + 1) p (v - 1) s) ];
      right = record {
        place = n + 1;
        step = step;
        tick = (let e : x ≡ x - 1 + 1 = omega (arith, low) in tick ∙ e);
        done = inr (tick, omega arith);
      };
    }

  pub ended_step : (silent : List Gap) (begun : List ℕ) → length begun ≡ MAX_MEMBER + 1 → x ≤ get_or begun p 0
      → AreEnded set t i x (n + 1) silent begun → AreEnded set t i x n silent (set_at begun p (x + 1))
  ended_step silent begun long none a = record {
    ended = IsListing-same EndsBefore (IsEnded set t i x (n + 1)) (IsEnded set t i x n) silent ended_more
        (λ w e. elim (ended_less (get_or begun p 0) (a.next p member) w e) [
          | inl old ↦ old
          | inr f ↦ absurd (omega (arith, f.1, f.2, e.gap.order, none))
        ]) a.ended;
    next = begun_all begun long a.next;
  }

  -- the same for a number that is that beginning
  pub ended_push_at : (silent : List Gap) (begun : List ℕ) (v : ℕ)
      → v ≡ get_or begun p 0 → length begun ≡ MAX_MEMBER + 1 → v < x → AreEnded set t i x (n + 1) silent begun
      → AreEnded set t i x n (silent ++ record { proc = p; from = v; to = x - 1 } ∷ []) (set_at begun p (x + 1))
  ended_push_at silent begun v e long short a = subst (λ u. AreEnded set t i x n (silent ++ record { proc = p; from = u; to = x - 1 } ∷ [])
      (set_at begun p (x + 1))) (sym e) (ended_push silent begun long (subst (λ u. u < x) e short) a)

-- a step of another processor ends none that counts
pub ended_same : (set : ℕ) (t : Recorded) (i x n : ℕ) (silent : List Gap) (begun : List ℕ)
    → ((p : ℕ) → IsTrue (has_proc set p) → IsStepOf t.steps (n + 1) p → ⊥) → AreEnded set t i x (n + 1) silent begun
    → AreEnded set t i x n silent begun
ended_same set t i x n silent begun none a = ended_alike set t i x (n + 1) x n
    (λ k p m s d. elim d [ inl l ↦ inl l | inr e ↦ inr (e.0, omega (arith, e.1)) ])
    (λ k p m s d. elim d [
      | inl l ↦ inl l
      | inr e ↦ elim (cases_eq k (n + 1)) [
        | inl f ↦ absurd (none p m (subst (λ y. IsStepOf t.steps y p) f s))
        | inr d ↦ inr (e.0, omega (arith, e.1, d))
      ]
    ])
    silent begun a

-- what is left after the last tick: the silences that last up to it
module _ (set : ℕ) (t : Recorded) (i j : ℕ) (low : i < j) (high : j ≤ t.last) where
  early : (k p : ℕ) → IsStepOf t.steps k p → IsDone t (j + 1) (length t.steps) k → tick_of t k < j + 1
  early k p s d = elim d [ inl l ↦ l | inr e ↦ absurd (let w = (step_at_within t.steps k _ s.1).1 in omega (arith, w, e.1)) ]

  pub tails_none : (silent : List Gap) (begun : List ℕ)
      → AreEnded set t i (j + 1) (length t.steps) silent begun → AreLongestFrom set t i j (MAX_MEMBER + 1) silent
  tails_none silent begun a = IsListing-same EndsBefore
      (IsEnded set t i (j + 1) (length t.steps)) (IsLongestFrom set t i j (MAX_MEMBER + 1)) silent (λ w e.
      let u = early e.right.place w.proc e.right.step e.right.done in
      record {
        longest = record {
          gap = e.gap;
          after = e.after;
          until = omega (arith, e.right.tick, u);
          left = e.left;
          right = inr (steps_in t (j + 1) (length t.steps) w.proc (w.to + 1) e.right);
        };
        from = inl (omega (arith, e.right.tick, u));
      })
      (λ w h. record {
        gap = h.longest.gap;
        after = h.longest.after;
        left = h.longest.left;
        right = elim h.from [
          | inl l ↦ elim h.longest.right [
            | inl e ↦ absurd (omega (arith, e, l))
            | inr s ↦ record { place = s.place; step = s.step; tick = s.tick; done = inl (omega (arith, s.tick, l)) }
          ]
          | inr l ↦ absurd (omega (arith, l, (member_range set w.proc h.longest.gap.member).1))
        ];
      }) a.ended

  pub tails_all : (silent : List Gap) → AreLongestFrom set t i j 1 silent → IsListing EndsBefore (IsLongest set t i j) silent
  tails_all silent l = IsListing-same EndsBefore (IsLongestFrom set t i j 1)
      (IsLongest set t i j) silent (λ w h. h.longest) (λ w h. record { longest = h; from = inr (member_range set w.proc h.gap.member).0 }) l

  -- a silence of p up to the last tick begins where p's next one does
  tail_one : (p v : ℕ) → IsBegun t i (j + 1) (length t.steps) p v → (w : Gap) → IsLongest set t i j w → w.proc ≡ p → w.to ≡ j → v ≡ w.from
  tail_one p v b w h own end = begin_one t set i (j + 1)
      (length t.steps) p v w b (λ k s d. early k p s d) (λ k s l. inl l) own (omega (arith, end)) h.gap h.after h.left

  pub tails_push : (p v : ℕ) (silent : List Gap) → IsTrue (has_proc set p) → IsBegun t i (j + 1) (length t.steps) p v
      → v ≤ j → AreLongestFrom set t i j (p + 1) silent → AreLongestFrom set t i j p (silent ++ record { proc = p; from = v; to = j } ∷ [])
  tails_push p v silent member b short l = IsListing-push EndsBefore (IsLongestFrom set t i j (p + 1))
      (IsLongestFrom set t i j p) silent (record { proc = p; from = v; to = j }) l (λ w h. elim (cases_lt w.to j) [
        | inl e ↦ inl e
        | inr n ↦ elim h.from [
          | inl e ↦ inl e
          | inr m ↦ inr (omega (arith, h.longest.until, n), omega (arith, m))
        ]
      ])
      (λ w h. record { longest = h.longest; from = elim h.from [ inl e ↦ inl e | inr m ↦ inr (omega (arith, m)) ] })
      (record { longest = own; from = inr (let same : p ≤ p = omega arith in same) })
      (λ w h. elim h.from [
        | inl e ↦ inl (record { longest = h.longest; from = inl e })
        | inr m ↦ elim (cases_eq w.proc p) [
          | inr d ↦ inl (record { longest = h.longest; from = inr (omega (arith, m, d)) })
          | inl e ↦ elim (cases_lt w.to j) [
            | inl f ↦ inl (record { longest = h.longest; from = inl f })
            | inr n ↦ (let end : w.to ≡ j = omega (arith, h.longest.until, n) in
                inr (alike w p v j (sym e) (tail_one p v b w h.longest e end) (sym end)))
          ]
        ]
      ])
    where
      own : IsLongest set t i j (record { proc = p; from = v; to = j })
      own = record {
        gap = record {
          member = member;
          start = omega (arith, b.low);
          order = short;
          inside = high;
          silent = λ y f u s. (let q = b.quiet s.place s.step (inl (omega (arith, s.tick, u))) in omega (arith, q, s.tick, f));
        };
        after = b.low;
        until = let same : j ≤ j = omega arith in same;
        left = elim b.left [ inl e ↦ inl e | inr s ↦ inr (steps_in t (j + 1) (length t.steps) p (v - 1) s) ];
        right = inl refl;
      }

  pub tails_same : (p : ℕ) (silent : List Gap)
      → (IsTrue (has_proc set p) → (v : ℕ) × IsBegun t i (j + 1) (length t.steps) p v × (j < v))
      → AreLongestFrom set t i j (p + 1) silent → AreLongestFrom set t i j p silent
  tails_same p silent none l = IsListing-same EndsBefore (IsLongestFrom set t i j (p + 1)) (IsLongestFrom set t i j p) silent
      (λ w h. record { longest = h.longest; from = elim h.from [ inl e ↦ inl e | inr m ↦ inr (omega (arith, m)) ] })
      (λ w h. record {
        longest = h.longest;
        from = elim h.from [
          | inl e ↦ inl e
          | inr m ↦ elim (cases_eq w.proc p) [
            | inr d ↦ inr (omega (arith, m, d))
            | inl e ↦ elim (cases_lt w.to j) [
              | inl f ↦ inl f
              | inr n ↦ absurd (
                  let b = none (subst (λ q. IsTrue (has_proc set q)) e h.longest.gap.member) in
                  let one = tail_one p b.0 b.1 w h.longest e (omega (arith, h.longest.until, n)) in
                  omega (arith, one, h.longest.gap.order, h.longest.until, b.2))
            ]
          ]
        ];
      }) l
