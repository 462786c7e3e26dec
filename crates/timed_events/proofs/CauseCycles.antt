-- Cycles of causes, as walks along what waits for what.
use Rattle.std.proofs.Common.{ℕ, zero, suc, ◌≡◌, ◌+◌, ◌-◌, ◌<◌, ◌≤◌, ◌⊎◌, inl, inr, List, [], ◌∷◌, ◌++◌, length, set, get_or, drop, replicate, refl, sym, ap, ◌∙◌, subst, arith, length-drop}
use Rattle.std.specs.Prelude.{slice_index}
use Rattle.std.proofs.lemmas.Bool.{cases_lt, cases_eq}
use Rattle.std.proofs.lemmas.List.{get_or-set_same, get_or-set_other, length-set, length-replicate, length_push}
use Rattle.step_trace.specs.declared.configurations.TheConstants.{MAX_PROCESSORS}
use Rattle.timed_events.specs.declared.cause_cycles.Hop.{Hop}
use Rattle.timed_events.specs.declared.events.Event.{Event}
use Rattle.timed_events.specs.Checks.{AreOfProcessors}
use Rattle.timed_events.specs.Causes.{IsFrom, IsSentTo, IsCause, IsCausalOrder}
use Rattle.timed_events.specs.CausalWalks.{index_at, IsWaiting, IsWalked, AreWaiting}
use Rattle.timed_events.specs.CauseCycles.{IsCauseCycle}
use Rattle.timed_events.proofs.CausalOrders.{causes-before}
use Rattle.timed_events.proofs.CausalWalks.{zero-each}

-- one element more at the end
pushed-same : {A : Type 0} (xs : List A) (x d : A) (n : ℕ) → n ≡ length xs → get_or (xs ++ x ∷ []) n d ≡ x
pushed-same [] x d zero e = refl
pushed-same [] x d (suc n) e = absurd (omega arith)
pushed-same (y ∷ xs) x d zero e = absurd (omega arith)
pushed-same (y ∷ xs) x d (suc n) e = pushed-same xs x d n (omega arith)

pushed-other : {A : Type 0} (xs : List A) (x d : A) (k : ℕ) → k < length xs → get_or (xs ++ x ∷ []) k d ≡ get_or xs k d
pushed-other [] x d k l = absurd (omega arith)
pushed-other (y ∷ xs) x d zero l = refl
pushed-other (y ∷ xs) x d (suc k) l = pushed-other xs x d k (omega arith)

dropped : {A : Type 0} (n k m : ℕ) (xs : List A) (d : A) → n + k ≡ m → get_or (drop n xs) k d ≡ get_or xs m d
dropped zero k m xs d e = ap (λ i. get_or xs i d) (omega arith)
dropped (suc n) k zero xs d e = absurd (omega arith)
dropped (suc n) k (suc m) [] d e = refl
dropped (suc n) k (suc m) (x ∷ xs) d e = dropped n k m xs d (omega arith)

-- the walk has gone along the path, and is at a processor that has an event left
pub record IsPath (events : List Event) (heads : List ℕ) (path : List Hop) (seen : List ℕ) (at : ℕ) : Type 0 where
  pub wide : length seen ≡ MAX_PROCESSORS
  pub inside : at < MAX_PROCESSORS
  pub stuck : slice_index heads at < length events
  pub taken : (k : ℕ) (d : Hop) → k < length path → IsSentTo events (get_or path k d).event (get_or path k d).message
  pub next : (k : ℕ) (d : Hop) → k + 1 < length path → IsFrom events (get_or path (k + 1) d).event (get_or path k d).message
  pub last : (d : Hop) → 0 < length path → IsFrom events (slice_index heads at) (get_or path (length path - 1) d).message
  pub back : (q : ℕ) (d : Hop) → 0 < slice_index seen q
      → (slice_index seen q ≤ length path) × ((get_or path (slice_index seen q - 1) d).event ≡ slice_index heads q)

pub path-start : (events : List Event) (heads seen : List ℕ) (path : List Hop) (at : ℕ) → path ≡ []
    → seen ≡ replicate MAX_PROCESSORS 0 → at < MAX_PROCESSORS → slice_index heads at < length events
    → IsPath events heads path seen at
path-start events heads seen path at f e l s = subst (λ hops. IsPath events heads hops seen at) (sym f) (record {
  wide = ap length e ∙ length-replicate {A = ℕ} MAX_PROCESSORS 0;
  inside = l;
  stuck = s;
  taken = λ k d b. absurd (omega arith);
  next = λ k d b. absurd (omega arith);
  last = λ d b. absurd (omega arith);
  back = λ q d b. absurd (let z = ap (λ xs. slice_index xs q) e ∙ zero-each MAX_PROCESSORS q in omega arith);
})

module _ (events : List Event) (heads met waits ranks order awake seen : List ℕ) (path : List Hop) (at : ℕ)
    (o : AreOfProcessors events) (w : IsWalked events heads met waits ranks order awake)
    (a : AreWaiting events heads waits ranks) (p : IsPath events heads path seen at) where
  abbrev s : ℕ
  s = slice_index waits at

  abbrev hop : Hop
  hop = record { event = slice_index heads at; message = s }

  waiting : IsWaiting events ranks (slice_index heads at) s
  waiting = a at p.inside p.stuck

  from : (slice_index heads (index_at events s) < length events) × IsFrom events (slice_index heads (index_at events s)) s
  from = w.next s waiting.sent.inside waiting.unplaced

  index-inside : index_at events s < MAX_PROCESSORS
  index-inside = let x = (o s waiting.sent.inside).0 in let y = (o s waiting.sent.inside).1 in omega arith

  taken : (k : ℕ) (d : Hop) → (k < length path) ⊎ (length path ≤ k)
      → k < length (path ++ hop ∷ []) → IsSentTo events (get_or (path ++ hop ∷ []) k d).event (get_or (path ++ hop ∷ []) k d).message
  taken k d (inl b) l = subst (λ h. IsSentTo events h.event h.message) (sym (pushed-other path hop d k b)) (p.taken k d b)
  taken k d (inr b) l = let n = length_push path hop in
      subst (λ h. IsSentTo events h.event h.message) (sym (pushed-same path hop d k (omega arith))) waiting.sent

  next : (k : ℕ) (d : Hop) → (k + 1 < length path) ⊎ (length path ≤ k + 1) → k + 1 < length (path ++ hop ∷ [])
      → IsFrom events (get_or (path ++ hop ∷ []) (k + 1) d).event (get_or (path ++ hop ∷ []) k d).message
  next k d (inl b) l = subst (λ h. IsFrom events h.event (get_or (path ++ hop ∷ []) k d).message)
      (sym (pushed-other path hop d (k + 1) b))
      (subst (λ h. IsFrom events (get_or path (k + 1) d).event h.message)
      (sym (pushed-other path hop d k (omega arith))) (p.next k d b))
  next k d (inr b) l =
      let n = length_push path hop in
      let e : length path - 1 ≡ k = omega arith in
      subst (λ h. IsFrom events h.event (get_or (path ++ hop ∷ []) k d).message)
      (sym (pushed-same path hop d (k + 1) (omega arith)))
      (subst (λ h. IsFrom events (slice_index heads at) h.message) (sym (pushed-other path hop d k (omega arith)))
      (subst (λ i. IsFrom events (slice_index heads at) (get_or path i d).message) e (p.last d (omega arith))))

  back : (q : ℕ) (d : Hop) → (q ≡ at) ⊎ ¬ (q ≡ at) → 0 < slice_index (set seen at (length path + 1)) q
      → (slice_index (set seen at (length path + 1)) q ≤ length (path ++ hop ∷ []))
      × ((get_or (path ++ hop ∷ []) (slice_index (set seen at (length path + 1)) q - 1) d).event ≡ slice_index heads q)
  back q d (inl e) b =
      let n = length_push path hop in
      let r = ap (slice_index (set seen at (length path + 1))) e
      ∙ get_or-set_same seen at (length path + 1) 0 (let x = p.wide in let y = p.inside in omega arith) in (
        omega arith,
        ap (λ h. h.event) (pushed-same path hop d (slice_index (set seen at (length path + 1)) q - 1) (omega arith))
            ∙ ap (slice_index heads) (sym e),
      )
  back q d (inr m) b =
      let n = length_push path hop in
      let r = get_or-set_other seen at q (length path + 1) 0 m in
      let u = p.back q d (omega arith) in
      let u0 = u.0 in
      let i : slice_index (set seen at (length path + 1)) q - 1 ≡ slice_index seen q - 1 = omega arith in (
        omega arith,
        ap (λ k. (get_or (path ++ hop ∷ []) k d).event) i
            ∙ ap (λ h. h.event) (pushed-other path hop d (slice_index seen q - 1) (omega arith)) ∙ u.1,
      )

  path-more : IsPath events heads (path ++ hop ∷ []) (set seen at (length path + 1)) (index_at events s)
  path-more = record {
    wide = length-set seen at (length path + 1) ∙ p.wide;
    inside = index-inside;
    stuck = from.0;
    taken = λ k d l. taken k d (cases_lt k (length path)) l;
    next = λ k d l. next k d (cases_lt (k + 1) (length path)) l;
    last = λ d l. (let n = length_push path hop in subst (λ h. IsFrom events (slice_index heads (index_at events s)) h.message)
        (sym (pushed-same path hop d (length (path ++ hop ∷ []) - 1) (omega arith))) from.1);
    back = λ q d l. back q d (cases_eq q at) l;
  }

  -- one hop more, as the code goes it
  pub path-step : (event message rank to : ℕ) (grown : List Hop) → event ≡ slice_index heads at → message ≡ s
      → rank ≡ length path + 1 → to ≡ index_at events message → grown ≡ path
      ++ record { event = event; message = message } ∷ [] → IsPath events heads grown (set seen at rank) to
  path-step event message rank to grown e f g t h =
      subst (λ x. IsPath events heads x (set seen at rank) to) (sym h)
      (subst (λ x. IsPath events heads (path ++ record { event = x; message = message } ∷ []) (set seen at rank) to)
      (sym e)
      (subst (λ x. IsPath events heads (path ++ record { event = slice_index heads at; message = x } ∷ [])
      (set seen at rank) to) (sym f)
      (subst (λ x. IsPath events heads (path ++ hop ∷ []) (set seen at x) to) (sym g)
      (subst (λ x. IsPath events heads (path ++ hop ∷ []) (set seen at (length path + 1)) x)
      (sym (t ∙ ap (index_at events) f)) path-more))))

-- if the walk comes back, the rest of its path is a cycle
pub path-cycle : (events : List Event) (heads seen : List ℕ) (path hops : List Hop) (at from : ℕ)
    → IsPath events heads path seen at → 0 < slice_index seen at → from ≡ slice_index seen at - 1
    → hops ≡ drop from path → IsCauseCycle events hops
path-cycle events heads seen path hops at from p b e f = subst (λ xs. IsCauseCycle events xs) (sym f) (record {
  some = (let x = long in let y = within in omega arith);
  taken = λ k d l. (let x = long in
      subst (λ h. IsSentTo events h.event h.message) (sym (dropped from k (from + k) path d refl)) (p.taken (from + k) d (omega arith)));
  next = λ k d l. (let x = long in let m : from + (k + 1) ≡ (from + k) + 1 = omega arith in
      subst (λ h. IsFrom events h.event (get_or (drop from path) k d).message)
      (sym (dropped from (k + 1) ((from + k) + 1) path d m))
      (subst (λ h. IsFrom events (get_or path ((from + k) + 1) d).event h.message)
      (sym (dropped from k (from + k) path d refl)) (p.next (from + k) d (omega arith))));
  closed = λ d. (
      let x = long in
      let y = within in
      let u = (p.back at d b).1 in
      let i : slice_index seen at - 1 ≡ from = sym e in
      let v = ap (λ k. (get_or path k d).event) (sym i) ∙ u in
      let first : (get_or (drop from path) 0 d).event
      ≡ slice_index heads at = ap (λ h. h.event) (dropped from 0 from path d (omega arith)) ∙ v in
      let end : get_or (drop from path) (length (drop from path) - 1) d
      ≡ get_or path (length path - 1) d = dropped from (length (drop from path) - 1) (length path - 1) path d (omega arith) in
      subst (λ i. IsFrom events i (get_or (drop from path) (length (drop from path) - 1) d).message)
      (sym first) (subst (λ h. IsFrom events (slice_index heads at) h.message) (sym end) (p.last d (omega arith))));
}) where
  long : length (drop from path) ≡ length path - from
  long = length-drop from path

  within : from < length path
  within = let u = (p.back at (record { event = 0; message = 0 }) b).0 in omega arith

-- if there is a cycle of causes, there is no order that keeps them
module _ (events : List Event) (order : List ℕ) (hops : List Hop) (o : IsCausalOrder events order) (c : IsCauseCycle events hops) where
  abbrev none : Hop
  none = record { event = 0; message = 0 }

  abbrev event : ℕ → ℕ
  event k = (get_or hops k none).event

  abbrev message : ℕ → ℕ
  message k = (get_or hops k none).message

  -- who is at u, and who at v
  sent-below : (i j u v : ℕ) → IsSentTo events i j
      → u < length order → v < length order → slice_index order u ≡ i → slice_index order v ≡ j → v < u
  sent-below i j u v t lu lv a b = causes-before events order v u o lv lu
      (subst (λ x. IsCause events x (slice_index order v)) (sym a) (subst (λ y. IsCause events i y) (sym b) (inr t)))

  from-below : (i j u v : ℕ) → IsFrom events i j → u < length order
      → v < length order → slice_index order u ≡ i → slice_index order v ≡ j → u ≤ v
  from-below i j u v (inl e) lu lv a b = (let s = o.part.apart u v lu lv (a ∙ sym e ∙ sym b) in omega arith)
  from-below i j u v (inr f) lu lv a b = (let s = causes-before events order u v o lu lv
      (subst (λ x. IsCause events x (slice_index order u)) (sym b) (subst (λ y. IsCause events j y) (sym a) (inl f))) in omega arith)

  from-inside : (i j : ℕ) → IsFrom events i j → j < length events → i < length events
  from-inside i j (inl e) l = omega arith
  from-inside i j (inr f) l = f.inside

  -- where the events of the cycle are: none behind the first
  falls : (k u : ℕ) → k < length hops → u < length order
      → slice_index order u ≡ event 0 → (v : ℕ) × (v < length order) × (slice_index order v ≡ event k) × (v ≤ u)
  falls zero u l lu a = (u, lu, a, omega arith)
  falls (suc k) u l lu a =
      let r = falls k u (omega arith) lu a in
      let t = c.taken k none (omega arith) in
      let m = o.found (message k) t.inside in
      let e : k + 1 ≡ suc k = omega arith in
      let n = subst (λ i. IsFrom events (event i) (message k)) e (c.next k none (omega arith)) in
      let v = o.found (event (suc k)) (from-inside (event (suc k)) (message k) n t.inside) in
      let x = sent-below (event k) (message k) r.0 m.0 t r.1 m.1 r.2 m.2 in
      let y = from-below (event (suc k)) (message k) v.0 m.0 n v.1 m.1 v.2 m.2 in
      let z = r.3 in
      (v.0, v.1, v.2, omega arith)

  pub cycle-none : ⊥
  cycle-none =
      let some = c.some in
      let t = c.taken (length hops - 1) none (omega arith) in
      let f = c.closed none in
      let u = o.found (event 0) (from-inside (event 0) (message (length hops - 1)) f t.inside) in
      let r = falls (length hops - 1) u.0 (omega arith) u.1 u.2 in
      let m = o.found (message (length hops - 1)) t.inside in
      let x = sent-below (event (length hops - 1)) (message (length hops - 1)) r.0 m.0 t r.1 m.1 r.2 m.2 in
      let y = from-below (event 0) (message (length hops - 1)) u.0 m.0 f u.1 m.1 u.2 m.2 in
      let z = r.3 in
      omega arith

-- a processor that was seen has a place on the path
pub path-back : (events : List Event) (heads seen : List ℕ) (path : List Hop) (at q : ℕ)
    → IsPath events heads path seen at → 0 < slice_index seen q → slice_index seen q ≤ length path
path-back events heads seen path at q p b = (p.back q (record { event = 0; message = 0 }) b).0
