-- The messages that a processor took and may yet hear, and its inbox, as the trace grows and as messages are moved in
-- it.
use Rattle.std.proofs.Common.{ℕ, ◌≡◌, ◌+◌, ◌<◌, ◌≤◌, ◌⊎◌, inl, inr, List, [], ◌∷◌, ◌++◌, length, Option, Some, true, ◌||◌, sym, ap, ◌∙◌, subst, arith, refl}
use Rattle.std.specs.Prelude.{Contains, All}
use Rattle.std.specs.Option.{option_map_or}
use Rattle.std.proofs.Math.Bool.{or-true}
use Rattle.std.proofs.lemmas.Option.{same_Some}
use Rattle.std.proofs.lemmas.List.{length-append}
use Rattle.step_trace.proofs.StepPrefixes.{step_at-prefix, step_at-prefix_old}
use Rattle.step_buffers.proofs.Common.{Send, Step, Setup, act_ids, act_takes, act_dest, IsWellFormed, is_taken}
use Rattle.step_buffers.proofs.Common.{step_at_within, step_at-push_cases, act_takes-from_Contains, taken_from_at}
use Rattle.step_buffers.proofs.Common.{taken_at-from_is_taken, Letter, passed, round_at, IsSend, letter_at, round_of}
use Rattle.step_buffers.proofs.Common.{IsKept, IsLetter, AreLetters, IsEntry, IsInbox, Fits-from_well_formed}
use Rattle.step_buffers.proofs.Common.{Contains-nil, Contains-filter, Contains-from_filter, Contains-map}
use Rattle.step_buffers.proofs.Common.{Contains-from_map, Entry, ids_of, kept_of, is_ahead, ahead, IsEntered, Held}
use Rattle.step_buffers.proofs.Common.{kept_ids, IsMoved}
use Rattle.step_buffers.proofs.StepPrefixes.{round_at-prefix}
use Rattle.step_buffers.proofs.HeardSenders.{IsTakenBy}
use Rattle.step_buffers.proofs.BufferSteps.{is_taken-push}
use Rattle.std.specs.List.Sorted.{IsPermutation}
use Rattle.std.proofs.lemmas.Bool.{le-leb, leb-true}
use Rattle.std.proofs.lemmas.List.Elements.{All-contains, Contains-append_left, Contains-append_right, Contains-append_cases}
use Rattle.std.proofs.lemmas.List.Sorted.{IsPermutation-sym, Contains-permutation}

-- who takes a message is the one to whom it was sent
pub IsTakenBy-receiver : (c : Setup) (steps : List Step) (q p s : ℕ)
    → IsWellFormed c steps → IsSend steps q p s → is_taken steps s ≡ true → IsTakenBy steps p s
IsTakenBy-receiver c steps q p s w sent taken =
    let t = taken_at-from_is_taken steps s taken in
    let e = (w.earlier t.0 s t.1.0 t.1.1 t.1.2).1 in
    let one : Step = record { proc = e.0; act = Send t.1.0.proc } in
    let two : Step = record { proc = q; act = Send p } in
    record {
      place = t.0;
      step = t.1.0;
      stands = t.1.1;
      taker = same_Some t.1.0.proc p (ap (λ (z : Step). act_dest z.act) (same_Some one two (sym e.1 ∙ sent)));
      taken = t.1.2;
    }

-- a message of round r or of a later one to p that is taken by the end of step x, before it or in it
pub record IsKeptAfter (steps : List Step) (x : Step) (p r s : ℕ) : Type 0 where
  pub sender : ℕ
  pub sent : IsSend steps sender p s
  pub ahead : r ≤ round_at steps sender s
  pub how : (is_taken steps s ≡ true) ⊎ ((x.proc ≡ p) × Contains (act_ids x.act) s)

module _ (steps : List Step) (x : Step) where
  -- a message of the shorter trace has its round in the longer one
  pub sent-longer : (q p s : ℕ) → IsSend steps q p s
      → IsSend (steps ++ x ∷ []) q p s × (round_at (steps ++ x ∷ []) q s ≡ round_at steps q s)
  sent-longer q p s h =
      let b = step_at_within steps s (record { proc = q; act = Send p }) h in
      let high = b.1 in
      (step_at-prefix_old steps (x ∷ []) s (record { proc = q; act = Send p }) h, round_at-prefix steps (x ∷ []) q s (omega arith))

  pub IsKept-from_after : (p r s : ℕ) → IsKeptAfter steps x p r s → IsKept (steps ++ x ∷ []) p r s
  IsKept-from_after p r s is =
      let longer = sent-longer is.sender p s is.sent in
      record {
        sender = is.sender;
        sent = longer.0;
        taken = is_taken-push steps x s ∙ how is.how;
        ahead = omega (arith, longer.1, is.ahead);
      }
    where
      how : (is_taken steps s ≡ true) ⊎ ((x.proc ≡ p) × Contains (act_ids x.act) s) → (is_taken steps s || act_takes x.act s) ≡ true
      how (inl before) = ap (λ b. b || act_takes x.act s) before
      how (inr now) = ap (λ b. is_taken steps s || b) (act_takes-from_Contains x.act s now.1) ∙ or-true (is_taken steps s)

  pub IsKeptAfter-from_kept : (c : Setup) (p r s : ℕ)
      → IsWellFormed c (steps ++ x ∷ []) → IsKept (steps ++ x ∷ []) p r s → IsKeptAfter steps x p r s
  IsKeptAfter-from_kept c p r s w is =
      let t = IsTakenBy-receiver c (steps ++ x ∷ []) is.sender p s w is.sent is.taken in
      let b = step_at_within (steps ++ x ∷ []) t.place t.step t.stands in
      let high = b.1 in
      let long : length (steps ++ x ∷ []) ≡ length steps + 1 = length-append steps (x ∷ []) in
      let e = w.earlier t.place s t.step t.stands t.taken in
      let before = e.0 in
      let same = round_at-prefix steps (x ∷ []) is.sender s (omega arith) in
      record {
        sender = is.sender;
        sent = sym (step_at-prefix steps (x ∷ []) s (omega (arith, is.ahead))) ∙ is.sent;
        ahead = omega (arith, is.ahead);
        how = elim (step_at-push_cases steps x t.step t.place t.stands) [
          | inl old ↦ inl (taken_from_at steps t.place s (t.step, old, t.taken))
          | inr new ↦ inr (ap (λ (z : Step). z.proc) new.1 ∙ t.taker, subst (λ (z : Step). Contains (act_ids z.act) s) (sym new.1) t.taken)
        ];
      }

-- the round of what is kept in a place
abbrev round_in : Option Letter → ℕ
round_in o = option_map_or (λ l. l.round) o 0

module _ (c : Setup) (steps : List Step) (letters : List (Option Letter))
    (are : AreLetters c steps letters) (q to s : ℕ) (sent : IsSend steps q to s) where
  -- a message is kept whose receiver has not passed its round
  pub kept-ahead : passed steps to < round_at steps q s → (l : Letter) × (letter_at letters s ≡ Some l) × IsLetter c steps q to s l
  kept-ahead ahead = elim (are.messages q to s sent) [ inl m ↦ m | inr e ↦ absurd (let past = e.1 in omega arith) ]

  -- and its round is known
  pub round_of-ahead : passed steps to < round_at steps q s → round_of letters s ≡ round_at steps q s
  round_of-ahead ahead = let m = kept-ahead ahead in ap round_in m.1 ∙ m.2.round

  -- a round that is known is that of the message
  pub round_of-known : 1 ≤ round_of letters s → round_of letters s ≡ round_at steps q s
  round_of-known known = elim (are.messages q to s sent) [
    | inl m ↦ ap round_in m.1 ∙ m.2.round
    | inr e ↦ absurd (let none : round_of letters s ≡ 0 = ap round_in e.0 in omega arith)
  ]

-- the id of an entry for later is kept
later-kept : (near : List ℕ) (later : List Entry) (e : Entry) → Contains later e → Contains (kept_of near later) e.0.1
later-kept near later e d = Contains-append_right near (ids_of later) e.0.1 (Contains-map (λ (y : Entry). y.0.1) later e d)

-- messages that are moved about in an inbox, none of them to those for later
pub IsInbox-moved : (steps : List Step) (p r : ℕ) (x : Held) (near : List ℕ) (later : List Entry)
    → IsMoved x near later → IsInbox steps p r x.near x.later → IsInbox steps p r near later
IsInbox-moved steps p r x near later moved is = record {
  ids = λ s. (
    λ d. (is.ids s).0 (Contains-permutation (kept_of near later) (kept_ids x) s (IsPermutation-sym _ _ moved.same) d),
    λ k. Contains-permutation (kept_ids x) (kept_of near later) s moved.same ((is.ids s).1 k),
  );
  entries = λ e d. is.entries e (moved.entries e d);
}

-- no messages
pub IsInbox-opening : (p r : ℕ) → IsInbox [] p r [] []
IsInbox-opening p r = record {
  ids = λ s. (
    λ d. absurd (Contains-nil s d),
    λ k. absurd (let b = step_at_within [] s (record { proc = k.sender; act = Send p }) k.sent in
        let low = b.0 in let high = b.1 in omega arith),
  );
  entries = λ e d. absurd (Contains-nil e d);
}

IsEntry-longer : (steps : List Step) (x : Step) (p : ℕ) (e : Entry) → IsEntry steps p e → IsEntry (steps ++ x ∷ []) p e
IsEntry-longer steps x p e is =
    let more = sent-longer steps x is.sender p e.0.1 is.sent in
    record { sender = is.sender; sent = more.0; round = more.1 ∙ is.round }

-- a step that takes nothing for p leaves its inbox
pub IsInbox-stays : (c : Setup) (steps : List Step) (x : Step) (p r : ℕ) (near : List ℕ) (later : List Entry) → IsWellFormed c
    (steps ++ x ∷ []) → (x.proc ≡ p → act_ids x.act ≡ []) → IsInbox steps p r near later → IsInbox (steps ++ x ∷ []) p r near later
IsInbox-stays c steps x p r near later w nothing is = record {
  ids = λ s. (
    λ d. (let k = (is.ids s).0 d in
        IsKept-from_after steps x p r s (record { sender = k.sender; sent = k.sent; ahead = k.ahead; how = inl k.taken })),
    λ k. (let a = IsKeptAfter-from_kept steps x c p r s w k in elim a.how [
      | inl before ↦ (is.ids s).1 (record { sender = a.sender; sent = a.sent; taken = before; ahead = a.ahead })
      | inr now ↦ absurd (Contains-nil s (subst (λ ids. Contains ids s) (nothing now.0) now.1))
    ]),
  );
  entries = λ e d. IsEntry-longer steps x p e (is.entries e d);
}

-- after a Receive, the messages of the round and of later ones that it takes are there too
pub IsInbox-took : (c : Setup) (steps : List Step) (x : Step) (r : ℕ) (near new_near : List ℕ) (later new_later : List Entry)
    (letters : List (Option Letter)) → IsWellFormed c (steps ++ x ∷ []) → AreLetters c steps letters → r ≡ passed steps x.proc + 1
    → IsPermutation (kept_of near later ++ ahead letters r (act_ids x.act)) (kept_of new_near new_later) → ((e : Entry) → Contains
    new_later e → IsEntered later letters r e) → IsInbox steps x.proc r near later → IsInbox (steps ++ x ∷ []) x.proc r new_near new_later
IsInbox-took c steps x r near new_near later new_later letters w are now same entered is =
    record { ids = λ s. (forth s, back s); entries = entry } where
      old : List ℕ
      old = kept_of near later

      new : List ℕ
      new = kept_of new_near new_later

      taken : List ℕ
      taken = ahead letters r (act_ids x.act)

      all : List ℕ
      all = old ++ taken

      after : (s : ℕ) → Contains old s ⊎ Contains taken s → IsKeptAfter steps x x.proc r s
      after s (inl d) = let k = (is.ids s).0 d in record { sender = k.sender; sent = k.sent; ahead = k.ahead; how = inl k.taken }
      after s (inr d) =
          let f = Contains-from_filter (is_ahead letters r) (act_ids x.act) s d in
          let q = (Fits-from_well_formed c steps x w).sent s f.0 in
          let high = leb-true r (round_of letters s) f.1 in
          let known = round_of-known c steps letters are q.0 x.proc s q.1 (omega arith) in
          record { sender = q.0; sent = q.1; ahead = omega arith; how = inr (refl, f.0) }

      forth : (s : ℕ) → Contains new s → IsKept (steps ++ x ∷ []) x.proc r s
      forth s d = IsKept-from_after steps x x.proc r s
          (after s (Contains-append_cases old taken s (Contains-permutation new all s (IsPermutation-sym all new same) d)))

      back : (s : ℕ) → IsKept (steps ++ x ∷ []) x.proc r s → Contains new s
      back s k =
          let a = IsKeptAfter-from_kept steps x c x.proc r s w k in
          let ahead = a.ahead in
          Contains-permutation all new s same (elim a.how [
            | inl before ↦ Contains-append_left old taken s
                ((is.ids s).1 (record { sender = a.sender; sent = a.sent; taken = before; ahead = a.ahead }))
            | inr here ↦
                let known = round_of-ahead c steps letters are a.sender x.proc s a.sent (omega arith) in
                Contains-append_right old taken s
                (Contains-filter (is_ahead letters r) (act_ids x.act) s here.1 (le-leb r (round_of letters s) (omega arith)))
          ])

      entry : (e : Entry) → Contains new_later e → IsEntry (steps ++ x ∷ []) x.proc e
      entry e d = elim (entered e d) [
        | inl before ↦ IsEntry-longer steps x x.proc e (is.entries e before)
        | inr here ↦
            let a = IsKeptAfter-from_kept steps x c x.proc r e.0.1 w (forth e.0.1 (later-kept new_near new_later e d)) in
            let known = round_of-ahead c steps letters are a.sender x.proc e.0.1 a.sent (omega (arith, a.ahead)) in
            IsEntry-longer steps x x.proc e (record { sender = a.sender; sent = a.sent; round = sym known ∙ sym here.1 })
      ]

-- if a round is over, those of it are dropped from the ones at hand
pub IsInbox-turned : (c : Setup) (steps : List Step) (p r : ℕ) (near : List ℕ) (later : List Entry) (letters : List (Option Letter))
    → AreLetters c steps letters → r ≡ passed steps p → All (λ (e : Entry). r < e.0.0) later → IsInbox steps p r near later
    → IsInbox steps p (r + 1) (ahead letters (r + 1) near) later
IsInbox-turned c steps p r near later letters are now gathered is =
    record { ids = λ s. (λ d. forth s (Contains-append_cases kept (ids_of later) s d), back s); entries = is.entries } where
      kept : List ℕ
      kept = ahead letters (r + 1) near

      forth : (s : ℕ) → Contains kept s ⊎ Contains (ids_of later) s → IsKept steps p (r + 1) s
      forth s (inl d) =
          let f = Contains-from_filter (is_ahead letters (r + 1)) near s d in
          let k = (is.ids s).0 (Contains-append_left near (ids_of later) s f.0) in
          let high = leb-true (r + 1) (round_of letters s) f.1 in
          let known = round_of-known c steps letters are k.sender p s k.sent (omega arith) in
          record { sender = k.sender; sent = k.sent; taken = k.taken; ahead = omega arith }
      forth s (inr d) =
          let f = Contains-from_map (λ (e : Entry). e.0.1) later s d in
          let k = (is.ids s).0 (Contains-append_right near (ids_of later) s d) in
          let is_entry = is.entries f.0 f.1 in
          let e : f.0.0.1 ≡ s = f.2 in
          let high = All-contains (λ (y : Entry). r < y.0.0) later f.0 gathered f.1 in
          let round : round_at steps is_entry.sender s ≡ f.0.0.0 = ap (round_at steps is_entry.sender) (sym e) ∙ is_entry.round in
          record {
            sender = is_entry.sender;
            sent = subst (λ i. IsSend steps is_entry.sender p i) e is_entry.sent;
            taken = k.taken;
            ahead = omega arith;
          }

      back : (s : ℕ) → IsKept steps p (r + 1) s → Contains (kept ++ ids_of later) s
      back s k =
          let ahead = k.ahead in
          let known = round_of-ahead c steps letters are k.sender p s k.sent (omega arith) in
          elim (Contains-append_cases near (ids_of later) s
          ((is.ids s).1 (record { sender = k.sender; sent = k.sent; taken = k.taken; ahead = omega arith }))) [
            | inl d ↦ Contains-append_left kept (ids_of later) s
                (Contains-filter (is_ahead letters (r + 1)) near s d (le-leb (r + 1) (round_of letters s) (omega arith)))
            | inr d ↦ Contains-append_right kept (ids_of later) s d
          ]
