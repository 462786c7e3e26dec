-- What is known of the Receives after a step, back over a Receive.
use Rattle.std.proofs.Common.{ℕ, ◌≡◌, ◌≢◌, ◌+◌, ◌-◌, ◌<◌, ◌≤◌, ◌==◌, ◌||◌, ◌⊎◌, inl, inr, List, length, get_or}
use Rattle.std.proofs.Common.{set, Some, Bool, true, false, IsTrue, cond, refl, sym, ap, subst, ◌∙◌, arith}
use Rattle.std.proofs.Common.{get_or-set_same, get_or-set_other}
use Rattle.std.specs.Prelude.{Contains}
use Rattle.std.specs.List.{list_any}
use Rattle.std.proofs.lemmas.List.{length-set}
use Rattle.std.proofs.lemmas.Bool.{cases_eq, cases_lt, eqb-true, eqb-false}
use Rattle.step_trace.proofs.StepPositions.{same_step, receive_unique, send_is_no_receive}
use Rattle.suffix_staircase.proofs.Common.{Receive, Step, act_ids, has_proc, Recorded, step_at, IsReceiveOf, IsSentTo}
use Rattle.suffix_staircase.proofs.Common.{IsWellFormed, step_at_within, Contains-from_takes, act_takes-from_Contains}
use Rattle.suffix_staircase.proofs.Common.{Receives, IsTaker, IsLastReceive, IsFirstReceive, KnowsReceives}
use Rattle.suffix_staircase.proofs.Common.{NotesReceive}
use Rattle.suffix_staircase.proofs.ReceivesLowered.{IsLastReceive-lower, IsFirstReceive-lower, IsTaker-lower}

-- the notes of taken messages
IsTaker-noted : (steps : List Step) (x p s old : ℕ) (ids : List ℕ) (ends : Bool) → 1 ≤ x → step_at steps x ≡ Some (record
    { proc = p; act = Receive ends ids }) → IsTaker steps x s old → IsTaker steps (x - 1) s (cond (list_any (λ i. i == s) ids) x old)
IsTaker-noted steps x p s old ids ends low h k = go (list_any (λ i. i == s) ids) refl where
  go : (t : Bool) → list_any (λ i. i == s) ids ≡ t → IsTaker steps (x - 1) s (cond t x old)
  go true e = record {
    found = λ q. (omega arith, (record { proc = p; act = Receive ends ids }, h, Contains-from_takes (Receive ends ids) s e));
    none = λ z. absurd (omega (arith, z, low));
  }
  go false e = IsTaker-lower steps x s old low (λ t.
      let same = same_step steps x _ _ t.1 h in
      let f = act_takes-from_Contains (Receive ends ids) s (subst (λ (z : Step). Contains (act_ids z.act) s) same t.2) in
      cc) k

-- a last Receive that there is stays it back over an earlier one
IsLastReceive-noted : (steps : List Step) (p x high r : ℕ)
    → 1 ≤ x → IsReceiveOf steps x p → x < high → (r ≡ 0 → ⊥) → IsLastReceive steps p x high r → IsLastReceive steps p (x - 1) high r
IsLastReceive-noted steps p x high r low receive below some l = record {
  found = λ h. let f = l.found h in (omega (arith, f.0), f.1, f.2);
  last = λ y other a b. elim (cases_lt x y) [
    | inl later ↦ l.last y other later b
    | inr here ↦ (let f = l.found (omega (arith, some)) in omega (arith, f.0, here))
  ];
}

-- a Receive is the last one if none comes later
IsLastReceive-first : (steps : List Step) (p x high : ℕ) → 1 ≤ x
    → IsReceiveOf steps x p → x < high → ((y : ℕ) → IsReceiveOf steps y p → x < y → y < high → ⊥) → IsLastReceive steps p (x - 1) high x
IsLastReceive-first steps p x high low receive below none = record {
  found = λ h. (omega arith, below, receive);
  last = λ y other a b. elim (cases_lt x y) [ inl later ↦ absurd (none y other later b) | inr here ↦ here ];
}

-- the notes of last Receives
noted_last : (members : ℕ) (steps : List Step) (n x p : ℕ) (last : List ℕ) → 1 ≤ x → x ≤ length steps → IsReceiveOf steps x p
    → length last ≡ n + 1 → ((q : ℕ) → q ≤ n → IsTrue (has_proc members q) → IsLastReceive steps q x (length steps + 1) (get_or last q 0))
    → (q : ℕ) → q ≤ n → IsTrue (has_proc members q)
    → IsLastReceive steps q (x - 1) (length steps + 1) (get_or (cond (get_or last p 0 == 0) (set last p x) last) q 0)
noted_last members steps n x p last low high receive long k q within member = go (get_or last p 0 == 0) refl (cases_eq q p) where
  go : (t : Bool) → (get_or last p 0 == 0) ≡ t → (q ≡ p) ⊎ (q ≡ p → ⊥)
      → IsLastReceive steps q (x - 1) (length steps + 1) (get_or (cond t (set last p x) last) q 0)
  go true e (inl same) =
      let none : get_or last p 0 ≡ 0 = eqb-true _ _ e in
      let place : p < length last = omega (arith, long, same, within) in
      let before = subst (λ (m : ℕ). IsLastReceive steps m x (length steps + 1) (get_or last m 0)) same (k q within member) in
      subst (λ (m : ℕ). IsLastReceive steps m (x - 1) (length steps + 1) (get_or (set last p x) m 0)) (sym same)
      (rw get_or-set_same (IsLastReceive-first steps p x
      (length steps + 1) low receive (omega arith) (λ y other a b. omega (arith, before.last y other a b, none, a))))
  go true e (inr ne) =
      let other : q ≢ p = ne in
      rw get_or-set_other (IsLastReceive-lower steps q x _ _ low (λ r. ne (receive_unique steps x q p r receive)) (k q within member))
  go false e (inl same) =
      let before = subst (λ (m : ℕ). IsLastReceive steps m x (length steps + 1) (get_or last m 0)) same (k q within member) in
      subst (λ (m : ℕ). IsLastReceive steps m (x - 1) (length steps + 1) (get_or last m 0)) (sym same)
      (IsLastReceive-noted steps p x (length steps + 1) _ low receive (omega arith) (eqb-false _ _ e) before)
  go false e (inr ne) = IsLastReceive-lower steps q x _ _ low (λ r. ne (receive_unique steps x q p r receive)) (k q within member)

-- the notes of first Receives
noted_first : (members : ℕ) (steps : List Step) (n x p : ℕ) (first : List ℕ) → 1 ≤ x → IsReceiveOf steps x p
    → length first ≡ n + 1 → ((q : ℕ) → q ≤ n → IsTrue (has_proc members q)
    → IsFirstReceive steps q x (get_or first q 0)) → (q : ℕ) → q ≤ n → IsTrue (has_proc members q)
    → IsFirstReceive steps q (x - 1) (get_or (set first p x) q 0)
noted_first members steps n x p first low receive long k q within member = elim (cases_eq q p) [
  | inl same ↦ (let place : p < length first = omega (arith, long, same, within) in
      subst (λ (m : ℕ). IsFirstReceive steps m (x - 1) (get_or (set first p x) m 0)) (sym same)
      (rw get_or-set_same (record { found = λ h. (omega arith, receive); first = λ y other a. (omega arith, omega (arith, a)) })))
  | inr ne ↦ (let other : q ≢ p = ne in
      rw get_or-set_other (IsFirstReceive-lower steps q x _ low (λ r. ne (receive_unique steps x q p r receive)) (k q within member)))
]

-- the notes of the Receives before each Receive
noted_before : (members : ℕ) (steps : List Step) (x p next : ℕ) (links : List ℕ) → 1 ≤ x → IsReceiveOf steps x p → IsFirstReceive steps
    p x next → ((q y : ℕ) → IsTrue (has_proc members q) → IsReceiveOf steps y q → x < y → IsLastReceive steps q x y (get_or links y 0))
    → ((q y : ℕ) → IsReceiveOf steps y q → y ≤ x → get_or links y 0 ≡ 0) → (q y : ℕ) → IsTrue (has_proc members q)
    → IsReceiveOf steps y q → x - 1 < y → IsLastReceive steps q (x - 1) y (cond (next == y) x (get_or links y 0))
noted_before members steps x p next links low receive first k clear q y member other after = go (next == y) refl where
  go : (b : Bool) → (next == y) ≡ b → IsLastReceive steps q (x - 1) y (cond b x (get_or links y 0))
  go true e =
      let same = eqb-true next y e in
      let f = first.found (omega (arith, same, after)) in
      let proc : q ≡ p = receive_unique steps y q p other (subst (λ (m : ℕ). IsReceiveOf steps m p) same f.1) in
      subst (λ (m : ℕ). IsLastReceive steps m (x - 1) y x) (sym proc)
      (IsLastReceive-first steps p x y low receive
      (omega (arith, f.0, same)) (λ z r a b. let l = first.first z r a in omega (arith, l.1, b, same)))
  go false e = elim (cases_lt x y) [
    | inl later ↦ elim (cases_eq q p) [
      | inl proc ↦ (let own = subst (λ (m : ℕ). IsReceiveOf steps y m) proc other in
          let l = first.first y own later in
          let f = first.found l.0 in
          let old = subst (λ (m : ℕ). IsLastReceive steps m x y (get_or links y 0)) proc (k q y member other later) in
          let some = old.last next f.1 f.0 (omega (arith, eqb-false next y e, l.1)) in
          subst (λ (m : ℕ). IsLastReceive steps m (x - 1) y (get_or links y 0))
          (sym proc) (IsLastReceive-noted steps p x y _ low receive later (λ z. omega (arith, z, some, l.0)) old))
      | inr foreign ↦ IsLastReceive-lower steps q x y _ low (λ r. foreign (receive_unique steps x q p r receive)) (k q y member other later)
    ]
    | inr here ↦ rw (clear q y other here)
        (record { found = λ h. absurd (omega arith); last = λ z r a b. absurd (omega (arith, a, b, here)) })
  ]

-- no Receive is noted before those that are still to come
noted_clear : (steps : List Step) (x p next : ℕ) (links : List ℕ) → 1 ≤ x → IsFirstReceive steps p x next → ((q y : ℕ) → IsReceiveOf
    steps y q → y ≤ x → get_or links y 0 ≡ 0) → (q y : ℕ) → IsReceiveOf steps y q → y ≤ x - 1 → cond (next == y) x (get_or links y 0) ≡ 0
noted_clear steps x p next links low first clear q y other until = go (next == y) refl where
  go : (b : Bool) → (next == y) ≡ b → cond b x (get_or links y 0) ≡ 0
  go true e = absurd (let same = eqb-true next y e in let some = (step_at_within steps y _ other.step).0 in
      let f = first.found (omega (arith, same, some)) in omega (arith, f.0, same, until))
  go false e = clear q y other (omega (arith, until))

-- back over a Receive each note is right again
module _ (members : ℕ) (t : Recorded) (x p : ℕ) (ids : List ℕ) (ends : Bool) (old new : Receives)
    (sound : IsWellFormed t.config t.steps) (within : p ≤ t.config.n) (member : IsTrue (has_proc members p)) (h : step_at t.steps x
    ≡ Some (record { proc = p; act = Receive ends ids })) (k : KnowsReceives members t x old) (notes : NotesReceive x p ids old new) where
  abbrev next : ℕ
  next = get_or old.first.items p 0

  receive : IsReceiveOf t.steps x p
  receive = record { ids = ids; ends = ends; step = h }

  low : 1 ≤ x
  low = (step_at_within t.steps x _ h).0

  -- the link of a message is noted by its id alone
  sent_link : (s q : ℕ) → IsSentTo t.steps s q → get_or new.links.items s 0
      ≡ cond (list_any (λ i. i == s) ids) x (get_or old.links.items s 0)
  sent_link s q m = notes.links s
      ∙ ap (λ b. cond (b || list_any (λ i. i == s) ids) x (get_or old.links.items s 0)) (other (next == s) refl) where
        other : (b : Bool) → (next == s) ≡ b → b ≡ false
        other true e = absurd (
            let same = eqb-true next s e in
            let some = (step_at_within t.steps s _ m.1).0 in
            let f = (k.first p within member).found (omega (arith, same, some)) in
            send_is_no_receive t.steps s m.0 q p m.1 (subst (λ n. IsReceiveOf t.steps n p) same f.1))
        other false e = refl

  -- that of a Receive if it is the next one
  receive_link : (q y : ℕ) → IsReceiveOf t.steps y q → get_or new.links.items y 0 ≡ cond (next == y) x (get_or old.links.items y 0)
  receive_link q y r = notes.links y ∙ join (next == y) (list_any (λ i. i == y) ids) (untaken (list_any (λ i. i == y) ids) refl) where
    untaken : (b : Bool) → list_any (λ i. i == y) ids ≡ b → b ≡ false
    untaken true e = absurd (let m = (sound.earlier x y _ h (Contains-from_takes (Receive ends ids) y e)).1 in
        send_is_no_receive t.steps y m.0 p q m.1 r)
    untaken false e = refl

    join : (a b : Bool) → b ≡ false → cond (a || b) x (get_or old.links.items y 0) ≡ cond a x (get_or old.links.items y 0)
    join true b e = refl
    join false b e = ap (λ c. cond c x (get_or old.links.items y 0)) e

  length-noted : (b : Bool) → length (cond b (set old.last.items p x) old.last.items) ≡ length old.last.items
  length-noted true = length-set old.last.items p x
  length-noted false = refl

  pub KnowsReceives-receive : KnowsReceives members t (x - 1) new
  KnowsReceives-receive = record {
    links_long = notes.long ∙ k.links_long;
    first_long = ap length notes.first ∙ length-set old.first.items p x ∙ k.first_long;
    last_long = ap length notes.last ∙ length-noted _ ∙ k.last_long;
    taken = λ s q own m. rw (sent_link s q m) (IsTaker-noted t.steps x p s _ ids ends low h (k.taken s q own m));
    before = λ q y own other l. rw (receive_link q y other)
        (noted_before members t.steps x p next old.links.items low receive (k.first p within member) k.before k.clear q y own other l);
    clear = λ q y other l. receive_link q y other
        ∙ noted_clear t.steps x p next old.links.items low (k.first p within member) k.clear q y other l;
    first = λ q l own. rw notes.first (noted_first members t.steps t.config.n x p old.first.items low receive k.first_long k.first q l own);
    last = λ q l own. rw notes.last
        (noted_last members t.steps t.config.n x p old.last.items low (step_at_within t.steps x _ h).1 receive k.last_long k.last q l own);
  }
