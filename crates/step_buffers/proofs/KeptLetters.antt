-- The messages that are kept, with one step more, and when they are dropped.
use Rattle.std.proofs.Common.{ℕ, zero, suc, ◌≡◌, ◌+◌, ◌≤◌, ◌⊎◌, inl, inr, List, [], ◌∷◌, ◌++◌, length, Bool, Option, Some, None, refl, sym, ap, ◌∙◌, subst, arith, true, false, cond, ◌&&◌, ◌||◌}
use Rattle.std.proofs.Math.Seq.{get_or-append_seam}
use Rattle.std.proofs.lemmas.Option.{same_Some, none-some}
use Rattle.std.proofs.lemmas.List.{length-append, get_or_append_left}
use Rattle.step_buffers.proofs.Common.{Send, Step, Setup, act_dest, step_at, IsWellFormed, step_at_within}
use Rattle.step_buffers.proofs.Common.{step_at-push_cases, Letter, passed, round_at, node_at, IsSend, letter_at}
use Rattle.step_buffers.proofs.Common.{round_of, letter_left, sending, receiving, IsLetter, IsKeptOrPast, AreLetters}
use Rattle.step_buffers.proofs.Common.{is_in}
use Rattle.lock_phases.specs.NodeFunctions.{out}
use Rattle.step_buffers.proofs.StepPrefixes.{round_at-prefix, passed-append}
use Rattle.step_buffers.proofs.GrownNodes.{body_of-prefix, body_of-now, before-now}
use Rattle.std.specs.Prelude.{Contains, nat_lt}
use Rattle.std.specs.Option.{option_map_or}
use Rattle.std.proofs.lemmas.Bool.{ltb-true}
use Rattle.step_buffers.proofs.RemovedIds.{Contains-from_is_in}

-- a place before the last one
letter_at-old : (xs : List (Option Letter)) (x : Option Letter) (s : ℕ) → s ≤ length xs → letter_at (xs ++ x ∷ []) s ≡ letter_at xs s
letter_at-old xs x zero l = refl
letter_at-old xs x (suc k) l = get_or_append_left xs (x ∷ []) None k (omega arith)

IsLetter-longer : (c : Setup) (steps : List Step) (x : Step) (q to s : ℕ) (l : Letter)
    → IsWellFormed c steps → s ≤ length steps → IsLetter c steps q to s l → IsLetter c (steps ++ x ∷ []) q to s l
IsLetter-longer c steps x q to s l w h is = record {
  sender = is.sender;
  round = is.round ∙ sym (round_at-prefix steps (x ∷ []) q s (omega arith));
  body = sym (body_of-prefix c steps (x ∷ []) q to s w (omega arith)) ∙ is.body;
}

-- the message of the new step, if it has one
record IsMessageOf (c : Setup) (steps : List Step) (x : Step) (o : Option Letter) : Type 0 where
  pub each : (q to : ℕ) → x ≡ record { proc = q; act = Send to }
      → (l : Letter) × (o ≡ Some l) × IsLetter c (steps ++ x ∷ []) q to (suc (length steps)) l

AreLetters-push : (c : Setup) (steps : List Step) (x : Step) (letters : List (Option Letter)) (o : Option Letter)
    → IsWellFormed c steps → AreLetters c steps letters → IsMessageOf c steps x o → AreLetters c (steps ++ x ∷ []) (letters ++ o ∷ [])
AreLetters-push c steps x letters o w are new = record {
  places = (let a = are.places in let e = length-append steps (x ∷ []) in let f = length-append letters (o ∷ []) in omega arith);
  messages = λ q to s h. go q to s (step_at-push_cases steps x (record { proc = q; act = Send to }) s h);
}
  where
    go : (q to s : ℕ) → (step_at steps s ≡ Some (record { proc = q; act = Send to }))
        ⊎ ((s ≡ length steps + 1) × (x ≡ record { proc = q; act = Send to })) → IsKeptOrPast c (steps ++ x ∷ []) (letters ++ o ∷ []) q to s
    go q to s (inl old) =
        let b = step_at_within steps s (record { proc = q; act = Send to }) old in
        let within = b.1 in
        let places = are.places in
        let same = letter_at-old letters o s (omega arith) in
        elim (are.messages q to s old) [
          | inl m ↦ inl (m.0, same ∙ m.1, IsLetter-longer c steps x q to s m.0 w within m.2)
          | inr e ↦
              let sum = passed-append steps (x ∷ []) to in
              let round = round_at-prefix steps (x ∷ []) q s (omega (arith, e.1)) in
              inr (same ∙ e.0, omega (arith, e.1))
        ]
    go q to s (inr last) =
        let m = new.each q to last.1 in
        let e : suc (length steps) ≡ s = omega (arith, are.places, last.0) in
        let f : suc (length letters) ≡ s = omega (arith, are.places, last.0) in
        inl (
          m.0,
          subst (λ n. letter_at (letters ++ o ∷ []) n ≡ Some m.0) f (get_or-append_seam letters o [] None ∙ m.1),
          subst (λ n. IsLetter c (steps ++ x ∷ []) q to n m.0) e m.2,
        )

-- a Send
pub AreLetters-sent : (c : Setup) (steps : List Step) (p to : ℕ) (letters : List (Option Letter)) (l : Letter) → IsWellFormed c steps
    → AreLetters c steps letters → l.sender ≡ p → l.round ≡ passed steps p + 1 → out c (node_at c steps p) p l.round to ≡ Some l.body
    → AreLetters c (steps ++ sending p to ∷ []) (letters ++ Some l ∷ [])
AreLetters-sent c steps p to letters l w are sender round body = AreLetters-push c steps x letters (Some l) w are (record { each = each })
  where
    x : Step
    x = sending p to

    is : IsLetter c (steps ++ x ∷ []) p to (length steps + 1) l
    is = record {
      sender = sender;
      round = round ∙ ap (λ xs. passed xs p + 1) (sym (before-now steps))
          ∙ sym (round_at-prefix steps (x ∷ []) p (length steps + 1) (omega arith));
      body = sym (body_of-prefix c steps (x ∷ []) p to (length steps + 1) w (omega arith))
          ∙ body_of-now c steps p to ∙ ap (λ r. out c (node_at c steps p) p r to) (sym round) ∙ body;
    }

    each : (q t : ℕ) → x ≡ record { proc = q; act = Send t }
        → (m : Letter) × (Some l ≡ Some m) × IsLetter c (steps ++ x ∷ []) q t (suc (length steps)) m
    each q t e =
        let from : p ≡ q = ap (λ (z : Step). z.proc) e in
        let dest : to ≡ t = same_Some to t (ap (λ (z : Step). act_dest z.act) e) in
        let place : length steps + 1 ≡ suc (length steps) = omega arith in
        let here : IsLetter c (steps ++ x ∷ []) p to (suc (length steps)) l = subst (λ n. IsLetter c (steps ++ x ∷ []) p to n l) place is in
        let there : IsLetter c (steps ++ x ∷ []) q to (suc (length steps)) l =
        subst (λ n. IsLetter c (steps ++ x ∷ []) n to (suc (length steps)) l) from here in
        (l, refl, subst (λ n. IsLetter c (steps ++ x ∷ []) q n (suc (length steps)) l) dest there)

-- a Receive
pub AreLetters-received : (c : Setup) (steps : List Step) (p : ℕ) (ends : Bool) (ids : List ℕ) (letters : List (Option Letter))
    → IsWellFormed c steps → AreLetters c steps letters → AreLetters c (steps ++ receiving p ends ids ∷ []) (letters ++ None ∷ [])
AreLetters-received c steps p ends ids letters w are =
    AreLetters-push c steps (receiving p ends ids) letters None w are
    (record { each = λ q to e. absurd (none-some to (ap (λ (z : Step). act_dest z.act) e)) })

-- the round of what is kept in a place
abbrev round_in : Option Letter → ℕ
round_in o = option_map_or (λ l. l.round) o 0

-- one id more
pub letter_left-more : (old mid new : Option Letter) (a b : Bool) (round : ℕ)
    → mid ≡ cond (a && nat_lt (round_in old) round) None old
    → new ≡ cond (b && nat_lt (round_in mid) round) None mid
    → new ≡ cond ((a || b) && nat_lt (round_in old) round) None old
letter_left-more old mid new a b round e f = go a b (nat_lt (round_in old) round) refl e f
  where
    past : Bool → Option Letter → Option Letter
    past t o = cond t None o

    go : (a b t : Bool) → nat_lt (round_in old) round ≡ t
        → mid ≡ past (a && t) old → new ≡ past (b && nat_lt (round_in mid) round) mid → new ≡ past ((a || b) && t) old
    go true b true h e f = f ∙ rw e (none (b && nat_lt 0 round))
      where
        none : (x : Bool) → past x None ≡ None
        none true = refl
        none false = refl
    go true b false h e f = f ∙ rw (e, h) (off b)
      where
        off : (x : Bool) → past (x && false) old ≡ old
        off true = refl
        off false = refl
    go false b t h e f = f ∙ rw (e, h) refl

-- messages of the receiver's past rounds may be dropped
pub AreLetters-released : (c : Setup) (steps : List Step) (p round : ℕ) (ids : List ℕ) (letters after : List (Option Letter))
    → AreLetters c steps letters → round ≤ passed steps p + 1 → ((s : ℕ) → Contains ids s → (q : ℕ) × IsSend steps q p s)
    → length after ≡ length letters → ((s : ℕ) → letter_at after s ≡ letter_left letters ids round s) → AreLetters c steps after
AreLetters-released c steps p round ids letters after are now sent places left = record {
  places = places ∙ are.places;
  messages = λ q to s h. go q to s h (are.messages q to s h) (is_in ids s) (nat_lt (round_of letters s) round) refl refl;
}
  where
    at : (s : ℕ) (a t : Bool) → is_in ids s ≡ a → nat_lt (round_of letters s) round ≡ t
        → letter_at after s ≡ cond (a && t) None (letter_at letters s)
    at s a t d f = left s ∙ rw (d, f) refl

    go : (q to s : ℕ) → IsSend steps q to s → IsKeptOrPast c steps letters q to s
        → (a t : Bool) → is_in ids s ≡ a → nat_lt (round_of letters s) round ≡ t → IsKeptOrPast c steps after q to s
    go q to s h (inl m) true true d f =
        let of_p = sent s (Contains-from_is_in ids s d) in
        let step : Step = record { proc = q; act = Send to } in
        let other : Step = record { proc = of_p.0; act = Send p } in
        let same : to ≡ p = same_Some to p (ap (λ (z : Step). act_dest z.act) (same_Some step other (sym h ∙ of_p.1))) in
        let round_is : round_of letters s ≡ round_at steps q s = ap round_in m.1 ∙ m.2.round in
        let less : round_at steps q s ≤ passed steps p = omega (arith, ltb-true (round_of letters s) round f) in
        inr (at s true true d f, subst (λ z. round_at steps q s ≤ passed steps z) (sym same) less)
    go q to s h (inl m) true false d f = inl (m.0, at s true false d f ∙ m.1, m.2)
    go q to s h (inl m) false t d f = inl (m.0, at s false t d f ∙ m.1, m.2)
    go q to s h (inr e) a t d f = inr (at s a t d f ∙ rw e.0 (none (a && t)), e.1)
      where
        nothing : Option Letter
        nothing = None

        none : (b : Bool) → cond b nothing nothing ≡ nothing
        none true = refl
        none false = refl
