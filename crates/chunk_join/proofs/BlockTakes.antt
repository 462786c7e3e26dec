-- What the Receives of members take, id by id, whenever it was sent.
use Rattle.std.proofs.Common.{ℕ, ◌≡◌, ◌+◌, ◌-◌, ◌<◌, ◌≤◌, ◌++◌, inl, inr, List, [], ◌∷◌, Bool, length, get_or, take, map, Option, Some, Contains, IsTrue, zero, suc, refl, sym, ap, subst, ◌∙◌, arith}
use Rattle.std.proofs.Common.{set as set_at}
use Rattle.std.proofs.lemmas.Bool.{cases_eq}
use Rattle.std.proofs.lemmas.List.{append-nil, append_assoc, map-append, take_all, take_more}
use Rattle.std.proofs.lemmas.List.Elements.{Contains-get_or, Contains-append_left, Contains-push, Contains-push_cases}
use Rattle.std.specs.List.Sorted.{IsStrictlyIncreasing}
use Rattle.std.specs.Option.{option_map_or}
use Rattle.step_trace.specs.declared.steps.Act.TheVariants.{Receive}
use Rattle.step_trace.specs.declared.steps.Step.{Step}
use Rattle.step_trace.specs.Processors.{has_proc}
use Rattle.step_trace.specs.Steps.{act_ids}
use Rattle.step_trace.specs.Traces.{Recorded, ids_at, step_at, IsReceiveOf, IsWellFormed}
use Rattle.step_trace.specs.Ticks.{tick_of, IsTimed, IsTrace}
use Rattle.step_trace.proofs.ListMembers.{Contains-nil}
use Rattle.step_trace.proofs.StepPositions.{same_step}
use Rattle.step_trace.specs.TickSteps.{AreStepsBefore}
use Rattle.chunk_join.specs.declared.summaries.Place.{Place}
use Rattle.chunk_join.specs.declared.summaries.Take.{Take}
use Rattle.chunk_join.specs.Summaries.{IsAnyTake, IsLastReceive, TakenBefore, last_of}
use Rattle.chunk_join.specs.BlockSteps.{IsAnyTakeBy, IsLastBy, AreLastBy, take_of, AreTakesBy}
use Rattle.chunk_join.specs.Laws.LastReceives.{IsLastReceive-one}
use Rattle.chunk_join.proofs.ListingGrowth.{IsListing-none, IsListing-same, IsListing-push}
use Rattle.chunk_join.proofs.BlockMessages.{step_early, last_at_step, last_more}
use Rattle.chunk_join.proofs.ReceivedIds.{above_taken}

-- before the block's first step nothing is taken
pub any_takes_none : (set : ℕ) (t : Recorded) (from a : ℕ) → 1 ≤ from → AreStepsBefore t from a → AreTakesBy set t (from - 1) a [] []
any_takes_none set t from a low s = IsListing-none TakenBefore (IsAnyTakeBy set t (from - 1) a []) (λ y i. elim i.until [
  | inl before ↦ (
      let early = step_early t from a y.at.no _ s i.own.receive.step before in
      omega (arith, early, i.own.at_place, i.own.after))
  | inr here ↦ Contains-nil y.sent.no here.1
])

-- the Receive of the next step, by a member, takes one id more
module _ (set : ℕ) (t : Recorded) (time : IsTimed t) (i k p : ℕ) (b : Option Place) (low : i < tick_of t (k + 1)) (ends : Bool)
    (all : List ℕ) (n : ℕ) (inside : n < length all) (rising : IsStrictlyIncreasing all) (step : step_at t.steps (k + 1) ≡ Some (record
    { proc = p; act = Receive ends all })) (member : IsTrue (has_proc set p)) (last : IsLastReceive t p i (tick_of t (k + 1)) b) where
  abbrev next : Take
  next = record {
    at = record { no = k + 1; tick = tick_of t (k + 1) };
    by = p;
    sent = record { no = get_or all n 0; tick = tick_of t (get_or all n 0) };
    before = b;
  }

  next_take : IsAnyTake set t i next
  next_take = record {
    member = member;
    receive = record { ids = all; ends = ends; step = step };
    takes = (record { proc = p; act = Receive ends all }, step, Contains-get_or all n 0 inside);
    at_place = refl;
    sent_place = refl;
    after = low;
    before = last;
  }

  next_above : (y : Take) → IsAnyTakeBy set t i k (take n all) y → TakenBefore y next
  next_above y h = elim h.until [
    | inl before ↦ inl (omega (arith, before))
    | inr here ↦ inr (here.0, above_taken all n rising inside y.sent.no here.1)
  ]

  next_one : (y : Take) → IsAnyTake set t i y → y.at.no ≡ k + 1 → get_or all n 0 ≡ y.sent.no → next ≡ y
  next_one y own e f =
      let at : tick_of t (k + 1) ≡ y.at.tick = ap (tick_of t) (sym e) ∙ own.at_place in
      let by : p ≡ y.by = ap (λ (z : Step). z.proc)
      (same_step t.steps (k + 1) _ _ step
      (subst (λ v. step_at t.steps v ≡ Some
      (record { proc = y.by; act = Receive own.receive.ends own.receive.ids })) e own.receive.step)) in
      let sent : tick_of t (get_or all n 0) ≡ y.sent.tick = ap (λ v. tick_of t v) f ∙ own.sent_place in
      let before : b ≡ y.before = IsLastReceive-one t time y.by i y.at.tick b y.before
      (subst (λ v. IsLastReceive t y.by i v b) at (subst (λ q. IsLastReceive t q i (tick_of t (k + 1)) b) by last)) own.before in
      alike y (λ no tick by id place before.
      record { at = record { no = no; tick = tick }; by = by; sent = record { no = id; tick = place }; before = before })
      (sym e) at by f sent before
    where
      alike : (y : Take) (make : ℕ → ℕ → ℕ → ℕ → ℕ → Option Place → Take) → k + 1 ≡ y.at.no
          → tick_of t (k + 1) ≡ y.at.tick → p ≡ y.by → get_or all n 0 ≡ y.sent.no
          → tick_of t (get_or all n 0) ≡ y.sent.tick → b ≡ y.before
          → make (k + 1) (tick_of t (k + 1)) p (get_or all n 0) (tick_of t (get_or all n 0)) b
          ≡ make y.at.no y.at.tick y.by y.sent.no y.sent.tick y.before
      alike y make e f g h i j = cc

  pub one_take_more : (taken : List Take) → AreTakesBy set t i k (take n all) taken
      → AreTakesBy set t i k (take (n + 1) all) (taken ++ next ∷ [])
  one_take_more taken l = IsListing-push TakenBefore
      (IsAnyTakeBy set t i k (take n all)) (IsAnyTakeBy set t i k (take (n + 1) all)) taken next l next_above (λ y h. record {
        own = h.own;
        until = elim h.until [
          | inl before ↦ inl before
          | inr here ↦ inr (
            here.0,
            subst (λ ids. Contains ids y.sent.no)
                (sym (take_more all n 0 inside)) (Contains-append_left (take n all) (get_or all n 0 ∷ []) y.sent.no here.1),
          )
        ];
      })
      (record {
        own = next_take;
        until = inr (
          refl,
          subst (λ ids. Contains ids (get_or all n 0)) (sym (take_more all n 0 inside)) (Contains-push (take n all) (get_or all n 0)),
        );
      })
      (λ y h. elim h.until [
        | inl before ↦ inl (record { own = h.own; until = inl before })
        | inr here ↦ elim (Contains-push_cases (take n all)
            (get_or all n 0) y.sent.no (subst (λ ids. Contains ids y.sent.no) (take_more all n 0 inside) here.1)) [
              | inl earlier ↦ inl (record { own = h.own; until = inr (here.0, earlier) })
              | inr same ↦ inr (next_one y h.own here.0 same)
            ]
      ])

-- once all its ids are scanned, the step counts as scanned
any_takes_done : (set : ℕ) (t : Recorded) (i k p : ℕ) (ends : Bool) (all : List ℕ) (taken : List Take)
    → step_at t.steps (k + 1) ≡ Some (record { proc = p; act = Receive ends all }) → AreTakesBy set t i k all taken
    → AreTakesBy set t i (k + 1) [] taken
any_takes_done set t i k p ends all taken step l =
    IsListing-same TakenBefore (IsAnyTakeBy set t i k all) (IsAnyTakeBy set t i (k + 1) []) taken (λ y h.
    record { own = h.own; until = elim h.until [ inl before ↦ inl (omega (arith, before)) | inr here ↦ inl (omega (arith, here.0)) ] })
    (λ y h. record {
      own = h.own;
      until = elim h.until [
        | inl before ↦ elim (cases_eq y.at.no (k + 1)) [
          | inl e ↦ inr (e, held y h.own e)
          | inr n ↦ inl (omega (arith, before, n))
        ]
        | inr here ↦ absurd (Contains-nil y.sent.no here.1)
      ];
    }) l
  where
    held : (y : Take) → IsAnyTake set t i y → y.at.no ≡ k + 1 → Contains all y.sent.no
    held y own e =
        let at = own.takes in
        let same = same_step t.steps (k + 1) _ _ (subst (λ v. step_at t.steps v ≡ Some at.0) e at.1) step in
        subst (λ (z : Step). Contains (act_ids z.act) y.sent.no) same at.2

-- a step that isn't a Receive of a member takes none
pub any_takes_same : (set : ℕ) (t : Recorded) (i k : ℕ) (taken : List Take) → ((p : ℕ)
    → IsTrue (has_proc set p) → IsReceiveOf t.steps (k + 1) p → ⊥) → AreTakesBy set t i k [] taken → AreTakesBy set t i (k + 1) [] taken
any_takes_same set t i k taken none l = IsListing-same TakenBefore (IsAnyTakeBy set t i k []) (IsAnyTakeBy set t i (k + 1) []) taken
    (λ y h. record {
      own = h.own;
      until = elim h.until
          [ inl before ↦ inl (omega (arith, before)) | inr here ↦ absurd (Contains-nil y.sent.no here.1) ];
    }) (λ y h. record {
      own = h.own;
      until = elim h.until [
        | inl before ↦ elim (cases_eq y.at.no (k + 1)) [
          | inl e ↦ absurd (none y.by h.own.member (subst (λ v. IsReceiveOf t.steps v y.by) e h.own.receive))
          | inr n ↦ inl (omega (arith, before, n))
        ]
        | inr here ↦ absurd (Contains-nil y.sent.no here.1)
      ];
    }) l

-- what one Receive takes, first n ids
any_takes_upto : (set : ℕ) (t : Recorded) → IsTimed t → (i k p : ℕ) (b : Option Place) → i < tick_of t (k + 1)
    → (ends : Bool) (all : List ℕ) → IsStrictlyIncreasing all
    → step_at t.steps (k + 1) ≡ Some (record { proc = p; act = Receive ends all }) → IsTrue (has_proc set p)
    → IsLastReceive t p i (tick_of t (k + 1)) b → (taken : List Take) → AreTakesBy set t i k [] taken → (n : ℕ)
    → n ≤ length all → AreTakesBy set t i k (take n all)
    (taken ++ map (take_of t (record { no = k + 1; tick = tick_of t (k + 1) }) p b) (take n all))
any_takes_upto set t time i k p b low ends all rising step member last taken l zero h =
    subst (AreTakesBy set t i k []) (sym (append-nil taken)) l
any_takes_upto set t time i k p b low ends all rising step member last taken l (suc n) h =
    let before = any_takes_upto set t time i k p b low ends all rising step member last taken l n (omega (arith, h)) in
    let inside : n < length all = omega (arith, h) in
    let more = one_take_more set t time i k p b low ends all n inside rising step member last (taken ++ map f (take n all)) before in
    let same : take (n + 1) all ≡ take n all ++ get_or all n 0 ∷ [] = take_more all n 0 inside in
    let next : n + 1 ≡ suc n = omega arith in
    let list = append_assoc taken (map f (take n all)) (f (get_or all n 0) ∷ [])
    ∙ ap (λ ys. taken ++ ys) (sym (map-append f (take n all) (get_or all n 0 ∷ [])) ∙ ap (map f) (sym same)) in
    subst (λ m. AreTakesBy set t i k (take m all) (taken ++ map f (take m all))) next
    (subst (λ ys. AreTakesBy set t i k (take (n + 1) all) ys) list more)
  where
    f : ℕ → Take
    f = take_of t (record { no = k + 1; tick = tick_of t (k + 1) }) p b

-- the next step, a Receive of a member, takes what it takes
pub any_takes_step : (set : ℕ) (t : Recorded) → IsWellFormed t.config t.steps
    → IsTimed t → (i k p : ℕ) (b : Option Place) → i < tick_of t (k + 1) → IsReceiveOf t.steps (k + 1) p
    → IsTrue (has_proc set p) → IsLastReceive t p i (tick_of t (k + 1)) b → (taken : List Take) → AreTakesBy set t i k [] taken → AreTakesBy
    set t i (k + 1) [] (taken ++ map (take_of t (record { no = k + 1; tick = tick_of t (k + 1) }) p b) (ids_at t.steps (k + 1)))
any_takes_step set t sound time i k p b low r member last taken l =
    let ids = r.ids in
    let all : length ids ≤ length ids = omega arith in
    let upto = any_takes_upto set t time i k p b low r.ends ids
    (sound.rising (k + 1) _ r.step) r.step member last taken l (length ids) all in
    let whole = subst (λ ys. AreTakesBy set t i k ys (taken ++ map (take_of t (record { no = k + 1; tick = tick_of t (k + 1) }) p b) ys))
    (take_all (length ids) ids all) upto in
    let same : ids ≡ ids_at t.steps (k + 1) = sym (ap (λ o. option_map_or (λ (x : Step). act_ids x.act) o []) r.step) in
    subst (λ ys. AreTakesBy set t i (k + 1) [] (taken ++ map (take_of t (record { no = k + 1; tick = tick_of t (k + 1) }) p b) ys)) same
    (any_takes_done set t i k p r.ends ids _ r.step whole)

-- so do the last Receives with it
pub receives_more : (set : ℕ) (t : Recorded) → IsTrace t → (i k p tick : ℕ) (b : Option Place) → i < tick_of t (k + 1)
    → tick ≡ tick_of t (k + 1) → IsReceiveOf t.steps (k + 1) p → IsTrue (has_proc set p)
    → (taken : List Take) (last : List (Option Place)) → b ≡ last_of last p → AreTakesBy set t i k [] taken
    → AreLastBy set t i k last
    → AreTakesBy set t i (k + 1) [] (taken ++ map (take_of t (record { no = k + 1; tick = tick }) p b)
    (ids_at t.steps (k + 1))) × AreLastBy set t i (k + 1)
    (set_at last p (Some (record { no = k + 1; tick = tick })))
receives_more set t sound i k p tick b low e r member taken last f l a = (
  subst (λ x. AreTakesBy set t i (k + 1) [] (taken ++ map (take_of t (record { no = k + 1; tick = x }) p b) (ids_at t.steps (k + 1))))
      (sym e) (any_takes_step set t sound.steps sound.time i k p b low r member
      (last_at_step t sound.time p i k b r (subst (λ o. IsLastBy t p i k o) (sym f) (a.members p member))) taken l),
  subst (λ (x : ℕ). AreLastBy set t i (k + 1) (set_at last p (Some (record { no = k + 1; tick = x }))))
      (sym e) (last_more set t i k p last member r low a),
)
