-- What hearing some messages does to what is kept of one processor.
use Rattle.std.proofs.Common.{ℕ, ◌≡◌, ◌≢◌, ◌-◌, ◌≤◌, ◌⊎◌, inl, inr, List, [], ◌∷◌, length, true, false, refl, sym, ap, subst, ◌∙◌, arith}
use Rattle.std.specs.Prelude.{Contains, fold, slice_set}
use Rattle.std.proofs.lemmas.Bool.{cases_lt, cases_eq}
use Rattle.std.proofs.lemmas.List.{length-set, get_or-set_same, get_or-set_other}
use Rattle.patience_laws.proofs.Common.{Step, Contains-head, Contains-rest, Contains-nil, Contains-cons_cases, sender_of, round_ahead, Peer, peer_of, unheard, after_hearing, heard_message}

-- one of these messages is of q
pub record IsFrom (steps : List Step) (ids : List ℕ) (q : ℕ) : Type 0 where
  pub message : ℕ
  pub is_in : Contains ids message
  pub sender : sender_of steps message ≡ q

-- none of them is of q, and nothing is heard of it
pub record IsUntouched (steps : List Step) (ids : List ℕ) (q : ℕ) (old new : Peer) : Type 0 where
  pub none : IsFrom steps ids q → ⊥
  pub same : new ≡ old

-- where the latest round that was heard of is from
abbrev pub IsLatest : List Step → ℕ → List ℕ → ℕ → Peer → Peer → Type 0
IsLatest steps p ids q old new = (new.latest ≡ old.latest) ⊎ ((m : IsFrom steps ids q) × (new.latest ≡ round_ahead steps p m.message))

-- one of them is, and it is heard
pub record IsTouched (steps : List Step) (p : ℕ) (ids : List ℕ) (q : ℕ) (old new : Peer) : Type 0 where
  pub one : IsFrom steps ids q
  pub spoke : new.spoke ≡ true
  pub suspected : new.suspected ≡ false
  pub up : old.latest ≤ new.latest
  pub each : (s : ℕ) → Contains ids s → sender_of steps s ≡ q → round_ahead steps p s ≤ new.latest
  pub origin : IsLatest steps p ids q old new

abbrev pub IsHeard : List Step → ℕ → List ℕ → ℕ → Peer → Peer → Type 0
IsHeard steps p ids q old new = IsUntouched steps ids q old new ⊎ IsTouched steps p ids q old new

-- one message is of q, or of another one
abbrev IsOneHeard : List Peer → ℕ → ℕ → Peer → ℕ → Type 0
IsOneHeard peers q from new round = ((from ≡ q) × (new ≡ after_hearing round (peer_of peers q))) ⊎ ((from ≢ q) × (new ≡ peer_of peers q))

one-heard : (peers : List Peer) (q from round : ℕ) → 1 ≤ q → 1 ≤ from → from ≤ length peers
    → IsOneHeard peers q from (peer_of (slice_set peers (from - 1) (after_hearing round (peer_of peers from))) q) round
one-heard peers q from round low first last = go (cases_eq from q)
  where
    go : (from ≡ q) ⊎ (from ≢ q)
        → IsOneHeard peers q from (peer_of (slice_set peers (from - 1) (after_hearing round (peer_of peers from))) q) round
    go (inl e) =
        inl (
          e,
          subst (λ j. peer_of (slice_set peers (from - 1) (after_hearing round (peer_of peers from))) j ≡ after_hearing round
              (peer_of peers j)) e (get_or-set_same peers (from - 1) (after_hearing round (peer_of peers from)) unheard (omega arith)),
        )
    go (inr other) =
        inr (other, get_or-set_other peers (from - 1) (q - 1) (after_hearing round (peer_of peers from)) unheard (λ e. other (omega arith)))

-- the latest is no less
latest-up : (round : ℕ) (old : Peer) → old.latest ≤ (after_hearing round old).latest
latest-up round old = omega arith

latest-this : (round : ℕ) (old : Peer) → round ≤ (after_hearing round old).latest
latest-this round old = omega arith

latest-origin : (round : ℕ) (old : Peer) → ((after_hearing round old).latest ≡ old.latest) ⊎ ((after_hearing round old).latest ≡ round)
latest-origin round old = elim (cases_lt old.latest round) [ inl l ↦ inr (omega arith) | inr l ↦ inl (omega arith) ]

module _ (steps : List Step) (p q : ℕ) (low : 1 ≤ q) where
  -- the first message, with what the others do
  with-first : (s : ℕ) (ids : List ℕ) (old mid new : Peer) → ((sender_of steps s ≡ q) × (mid ≡ after_hearing (round_ahead steps p s) old))
      ⊎ ((sender_of steps s ≢ q) × (mid ≡ old)) → IsHeard steps p ids q mid new → IsHeard steps p (s ∷ ids) q old new
  with-first s ids old mid new (inr other) (inl un) =
      inl (record {
        none = λ m. elim (Contains-cons_cases s m.message ids m.is_in) [
          | inl e ↦ other.0 (ap (sender_of steps) (sym e) ∙ m.sender)
          | inr rest ↦ un.none (record { message = m.message; is_in = rest; sender = m.sender })
        ];
        same = un.same ∙ other.1;
      })
  with-first s ids old mid new (inr other) (inr is) =
      let e : mid ≡ old = other.1 in
      inr (record {
        one = record { message = is.one.message; is_in = Contains-rest s is.one.message ids is.one.is_in; sender = is.one.sender };
        spoke = is.spoke;
        suspected = is.suspected;
        up = subst (λ (x : Peer). x.latest ≤ new.latest) e is.up;
        each = λ m d from. elim (Contains-cons_cases s m ids d) [
          | inl f ↦ absurd (other.0 (ap (sender_of steps) (sym f) ∙ from))
          | inr rest ↦ is.each m rest from
        ];
        origin = elim is.origin [
          | inl f ↦ inl (f ∙ ap (λ (x : Peer). x.latest) e)
          | inr f ↦ inr (record { message = f.0.message; is_in = Contains-rest s f.0.message ids f.0.is_in; sender = f.0.sender }, f.1)
        ];
      })
  with-first s ids old mid new (inl here) (inl un) =
      let e : new ≡ after_hearing (round_ahead steps p s) old = un.same ∙ here.1 in
      let this : IsFrom steps (s ∷ ids) q = record { message = s; is_in = Contains-head s ids; sender = here.0 } in
      inr (record {
        one = this;
        spoke = ap (λ (x : Peer). x.spoke) e;
        suspected = ap (λ (x : Peer). x.suspected) e;
        up = subst (λ (x : Peer). old.latest ≤ x.latest) (sym e) (latest-up (round_ahead steps p s) old);
        each = λ m d from. elim (Contains-cons_cases s m ids d) [
          | inl f ↦ subst (λ (x : Peer). round_ahead steps p m ≤ x.latest) (sym e)
              (subst (λ i. round_ahead steps p i ≤ (after_hearing (round_ahead steps p s) old).latest) (sym f)
              (latest-this (round_ahead steps p s) old))
          | inr rest ↦ absurd (un.none (record { message = m; is_in = rest; sender = from }))
        ];
        origin = elim (latest-origin (round_ahead steps p s) old) [
          | inl f ↦ inl (ap (λ (x : Peer). x.latest) e ∙ f)
          | inr f ↦ inr (this, ap (λ (x : Peer). x.latest) e ∙ f)
        ];
      })
  with-first s ids old mid new (inl here) (inr is) =
      let e : mid ≡ after_hearing (round_ahead steps p s) old = here.1 in
      let this : IsFrom steps (s ∷ ids) q = record { message = s; is_in = Contains-head s ids; sender = here.0 } in
      let mid_up : (after_hearing (round_ahead steps p s) old).latest ≤ new.latest = subst (λ (x : Peer). x.latest ≤ new.latest) e is.up in
      inr (record {
        one = this;
        spoke = is.spoke;
        suspected = is.suspected;
        up = (let a = latest-up (round_ahead steps p s) old in omega arith);
        each = λ m d from. elim (Contains-cons_cases s m ids d) [
          | inl f ↦ (let a = latest-this (round_ahead steps p s) old in let g = ap (round_ahead steps p) f in omega arith)
          | inr rest ↦ is.each m rest from
        ];
        origin = elim is.origin [
          | inl f ↦ elim (latest-origin (round_ahead steps p s) old) [
            | inl g ↦ inl (f ∙ ap (λ (x : Peer). x.latest) e ∙ g)
            | inr g ↦ inr (this, f ∙ ap (λ (x : Peer). x.latest) e ∙ g)
          ]
          | inr f ↦ inr (record { message = f.0.message; is_in = Contains-rest s f.0.message ids f.0.is_in; sender = f.0.sender }, f.1)
        ];
      })

  -- all of them
  pub heard-all : (ids : List ℕ) (peers : List Peer) → ((s : ℕ) → Contains ids s → (1 ≤ sender_of steps s)
      × (sender_of steps s ≤ length peers)) → IsHeard steps p ids q (peer_of peers q) (peer_of (fold (heard_message steps p) peers ids) q)
  heard-all [] peers procs = inl (record { none = λ m. Contains-nil m.message m.is_in; same = refl })
  heard-all (s ∷ ids) peers procs =
      let is = procs s (Contains-head s ids) in
      let next = heard_message steps p peers s in
      let long : length next ≡ length peers = length-set peers
      (sender_of steps s - 1) (after_hearing (round_ahead steps p s) (peer_of peers (sender_of steps s))) in
      with-first s ids (peer_of peers q) (peer_of next q) (peer_of (fold (heard_message steps p) next ids) q)
      (one-heard peers q (sender_of steps s) (round_ahead steps p s) low is.0 is.1)
      (heard-all ids next (λ t d. let r = procs t (Contains-rest s t ids d) in (r.0, subst (λ n. sender_of steps t ≤ n) (sym long) r.1)))

-- as many processors are kept
pub heard-long : (steps : List Step) (p : ℕ) (ids : List ℕ) (peers : List Peer)
    → length (fold (heard_message steps p) peers ids) ≡ length peers
heard-long steps p [] peers = refl
heard-long steps p (s ∷ ids) peers = heard-long steps p ids (heard_message steps p peers s)
    ∙ length-set peers (sender_of steps s - 1) (after_hearing (round_ahead steps p s) (peer_of peers (sender_of steps s)))
