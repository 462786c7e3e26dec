-- What a processor hears at the end of its round: the messages of the round, each with its body, among those that it
-- kept and those that it takes with the end. Its node computes from these.
use Rattle.std.proofs.Common.{ℕ, ◌≡◌, ◌+◌, ◌-◌, ◌≤◌, ◌⊎◌, inl, inr, List, [], ◌∷◌, ◌++◌, filter, map, Option, Some}
use Rattle.std.proofs.Common.{None, Bool, true, false, cond, ◌==◌, refl, sym, ap, ◌∙◌, arith, eq-eqb, suc, ◌<◌, length}
use Rattle.std.proofs.Common.{subst, subst₂}
use Rattle.std.specs.Prelude.{Contains, option_map, is_some, All}
use Rattle.std.specs.Option.{option_or, option_to_list}
use Rattle.std.specs.List.{filter_map, cons_option, range_with_len}
use Rattle.std.proofs.lemmas.Bool.{eqb-true}
use Rattle.std.proofs.lemmas.Option.{same_Some, none-some}
use Rattle.std.proofs.lemmas.List.Kept.{IsStrictlyIncreasing-filter}
use Rattle.step_buffers.proofs.Common.{Contains-nil, Contains-head, Contains-rest, Contains-filter}
use Rattle.step_buffers.proofs.Common.{Contains-from_filter, Contains-from_map, Body}
use Rattle.step_buffers.proofs.Common.{IsStrictlyIncreasing-range_with_len, filter_map-range_with_len-more, Letter}
use Rattle.step_buffers.proofs.Common.{letter_at, said_by, body_from, heard_from, round_of, of_round, heard_in, Send}
use Rattle.step_buffers.proofs.Common.{Step, Setup, IsProc, IsWellFormed, is_taken, step_at_within, taken_from_at}
use Rattle.step_buffers.proofs.Common.{Fits-from_well_formed, State, node_at, body_of, IsSend, Entry, ids_of, receiving}
use Rattle.step_buffers.proofs.Common.{IsInbox, IsLetter, AreLetters}
use Rattle.lock_phases.specs.Messages.{Message, sender_of}
use Rattle.lock_phases.proofs.Membership.{Contains-cons_cases, Contains-from_filter_map, Contains-filter_map}
use Rattle.round_model.proofs.HeardLists.{AreRising, IsBodyHeard, Contains-processors, messages_heard-by_elements}
use Rattle.std.proofs.lemmas.List.{length-append}
use Rattle.std.proofs.lemmas.List.Elements.{All-weaker, All-contains, All-contains_itself, Contains-append_left, Contains-append_right, Contains-append_cases}
use Rattle.lock_phases.specs.NodeFunctions.{out, next}
use Rattle.round_model.specs.RoundStates.{processors, state_after, messages_heard}
use Rattle.step_buffers.specs.HeardTables.{passed, before, round_at, heard_table}
use Rattle.step_buffers.proofs.StepPrefixes.{passed-before, round_at-prefix}
use Rattle.step_buffers.proofs.HeardSenders.{IsHeard-from_table, heard_table-from_heard}
use Rattle.step_buffers.proofs.GrownNodes.{passed-ends, node_at-ends}
use Rattle.step_buffers.proofs.KeptInboxes.{IsTakenBy-receiver, IsKeptAfter, IsKept-from_after, IsKeptAfter-from_kept, sent-longer, kept-ahead, round_of-ahead, round_of-known}

-- the senders of what is said are the numbers that say something
senders-heard : (letters : List (Option Letter)) (ids qs : List ℕ) → map (λ (m : Message). m.0)
    (filter_map (λ q. option_map (λ body. (q, body)) (body_from letters ids q)) qs) ≡ filter (λ q. is_some (body_from letters ids q)) qs
senders-heard letters ids [] = refl
senders-heard letters ids (q ∷ qs) = go (body_from letters ids q) (senders-heard letters ids qs)
  where
    go : (o : Option Body) → map (λ (m : Message). m.0) (filter_map (λ q. option_map (λ body. (q, body)) (body_from letters ids q)) qs)
        ≡ filter (λ q. is_some (body_from letters ids q)) qs → map (λ (m : Message). m.0)
        (cons_option (option_map (λ body. (q, body)) o) (filter_map (λ q. option_map (λ body. (q, body)) (body_from letters ids q)) qs))
        ≡ cond (is_some o) (q ∷ filter (λ q. is_some (body_from letters ids q)) qs) (filter (λ q. is_some (body_from letters ids q)) qs)
    go None e = e
    go (Some body) e = ap (λ r. q ∷ r) e

-- what is said rises by sender
pub heard_from-rises : (letters : List (Option Letter)) (ids : List ℕ) (n : ℕ) → AreRising (heard_from letters ids n)
heard_from-rises letters ids n = rw (senders-heard letters ids (range_with_len 1 n))
    (IsStrictlyIncreasing-filter (λ q. is_some (body_from letters ids q)) (range_with_len 1 n) (IsStrictlyIncreasing-range_with_len 1 n))

-- a message among these that q sent
pub record IsSaid (letters : List (Option Letter)) (ids : List ℕ) (q : ℕ) (body : Body) : Type 0 where
  pub message : ℕ
  pub member : Contains ids message
  pub letter : Letter
  pub kept : letter_at letters message ≡ Some letter
  pub sender : letter.sender ≡ q
  pub says : letter.body ≡ body

said_by-from : (q : ℕ) (o : Option Letter) (body : Body)
    → said_by q o ≡ Some body → (l : Letter) × (o ≡ Some l) × (l.sender ≡ q) × (l.body ≡ body)
said_by-from q None body h = absurd (none-some body h)
said_by-from q (Some l) body h = go (l.sender == q) refl h
  where
    go : (b : Bool) → (l.sender == q) ≡ b → cond b (Some l.body) None ≡ Some body
        → (m : Letter) × (Some l ≡ Some m) × (m.sender ≡ q) × (m.body ≡ body)
    go true e f = (l, refl, eqb-true l.sender q e, same_Some l.body body f)
    go false e f = absurd (none-some body f)

-- what is found is said
pub body_from-said : (letters : List (Option Letter)) (ids : List ℕ) (q : ℕ) (body : Body)
    → body_from letters ids q ≡ Some body → IsSaid letters ids q body
body_from-said letters [] q body h = absurd (none-some body h)
body_from-said letters (s ∷ rest) q body h = go (said_by q (letter_at letters s)) refl h (body_from-said letters rest q body)
  where
    go : (o : Option Body) → said_by q (letter_at letters s) ≡ o → option_or o (body_from letters rest q) ≡ Some body
        → (body_from letters rest q ≡ Some body → IsSaid letters rest q body) → IsSaid letters (s ∷ rest) q body
    go (Some b) e f later =
        let r = said_by-from q (letter_at letters s) b e in
        record { message = s; member = Contains-head s rest; letter = r.0; kept = r.1; sender = r.2; says = r.3 ∙ same_Some b body f }
    go None e f later =
        let is = later f in
        record {
          message = is.message;
          member = Contains-rest s is.message rest is.member;
          letter = is.letter;
          kept = is.kept;
          sender = is.sender;
          says = is.says;
        }

-- if something of q is among these, something is found
pub body_from-some : (letters : List (Option Letter)) (ids : List ℕ) (q : ℕ) (body : Body)
    → IsSaid letters ids q body → (b : Body) × (body_from letters ids q ≡ Some b)
body_from-some letters [] q body is = absurd (Contains-nil is.message is.member)
body_from-some letters (s ∷ rest) q body is =
    go (said_by q (letter_at letters s)) refl (Contains-cons_cases s is.message rest is.member) (λ d. body_from-some letters rest q body
    (record { message = is.message; member = d; letter = is.letter; kept = is.kept; sender = is.sender; says = is.says }))
  where
    go : (o : Option Body) → said_by q (letter_at letters s) ≡ o → (is.message ≡ s) ⊎ Contains rest is.message → (Contains rest is.message
        → (b : Body) × (body_from letters rest q ≡ Some b)) → (b : Body) × (option_or o (body_from letters rest q) ≡ Some b)
    go (Some b) e h later = (b, refl)
    go None e (inr d) later = later d
    go None e (inl same) later =
        let at : letter_at letters s ≡ Some is.letter = ap (letter_at letters) (sym same) ∙ is.kept in
        let said : said_by q (letter_at letters s) ≡ Some is.letter.body = rw (at, eq-eqb is.letter.sender q is.sender) refl in
        absurd (none-some is.letter.body (sym e ∙ said))

-- what one more sender says
pub heard_from-more : (letters : List (Option Letter)) (ids : List ℕ) (q : ℕ) (o : Option Body) → 1 ≤ q → body_from letters ids q ≡ o
    → heard_from letters ids (q + 1 - 1) ≡ heard_from letters ids (q - 1) ++ option_to_list (option_map (λ body. (q, body)) o)
heard_from-more letters ids q o l h =
    let says : ℕ → Option Message = λ p. option_map (λ (body : Body). (p, body)) (body_from letters ids p) in
    let e : q + 1 - 1 ≡ q - 1 + 1 = omega arith in
    ap (heard_from letters ids) e
    ∙ filter_map-range_with_len-more says 1 (q - 1) q
    (option_map (λ (body : Body). (q, body)) o) (omega arith) (ap (option_map (λ (body : Body). (q, body))) h)

-- the messages of a round that p kept or takes now
abbrev gathered : List (Option Letter) → List ℕ → List ℕ → ℕ → List ℕ
gathered letters near ids r = of_round letters r near ++ of_round letters r ids

-- the body of a message by the round in which it was sent
body_of-round : (c : Setup) (steps : List Step) (q to s r n : ℕ) → round_at steps q s ≡ r → r ≡ n + 1
    → body_of c steps q to s ≡ out c (state_after c (heard_table steps) n q) q r to
body_of-round c steps q to s r n round now =
    let e : passed (before steps s) q ≡ n = omega arith in
    ap (λ k. out c (state_after c (heard_table steps) k q) q (round_at steps q s) to) e
    ∙ ap (λ k. out c (state_after c (heard_table steps) n q) q k to) round

-- the Receive of p that ends its round r, with what p has at hand then
module _ (c : Setup) (steps : List Step) (p r : ℕ) (ids near : List ℕ) (later : List Entry) (letters : List (Option Letter))
    (w : IsWellFormed c (steps ++ receiving p true ids ∷ [])) (are : AreLetters c steps letters) (now : r ≡ passed steps p + 1)
    (is : IsInbox steps p r near later) (ahead : All (λ (e : Entry). r < e.0.0) later) where
  abbrev longer : List Step
  longer = steps ++ receiving p true ids ∷ []

  -- a message that is heard, by the longer trace and the nodes of the shorter one
  abbrev Heard : Message → Type 0
  Heard m = IsBodyHeard c (heard_table longer) (state_after c (heard_table steps) (passed steps p)) p r m

  -- what is gathered was taken by the end of the round, and is of the round
  gathered-kept : (s : ℕ) → Contains (gathered letters near ids r) s
      → (a : IsKeptAfter steps (receiving p true ids) p r s) × (round_at steps a.sender s ≡ r)
  gathered-kept s d = go (Contains-append_cases (of_round letters r near) (of_round letters r ids) s d)
    where
      go : Contains (of_round letters r near) s ⊎ Contains (of_round letters r ids) s
          → (a : IsKeptAfter steps (receiving p true ids) p r s) × (round_at steps a.sender s ≡ r)
      go (inl e) =
          let f = Contains-from_filter (λ i. round_of letters i == r) near s e in
          let k = (is.ids s).0 (Contains-append_left near (ids_of later) s f.0) in
          let high = eqb-true (round_of letters s) r f.1 in
          let known = round_of-known c steps letters are k.sender p s k.sent (omega arith) in
          (record { sender = k.sender; sent = k.sent; ahead = k.ahead; how = inl k.taken }, sym known ∙ high)
      go (inr e) =
          let f = Contains-from_filter (λ i. round_of letters i == r) ids s e in
          let q = (Fits-from_well_formed c steps (receiving p true ids) w).sent s f.0 in
          let high = eqb-true (round_of letters s) r f.1 in
          let known = round_of-known c steps letters are q.0 p s q.1 (omega arith) in
          (record { sender = q.0; sent = q.1; ahead = omega arith; how = inr (refl, f.0) }, sym known ∙ high)

  -- a message that p took of the round was taken in time
  heard-from_sent : (q s : ℕ) → IsSend longer q p s → is_taken longer s ≡ true → round_at longer q s ≡ r → heard_table longer p r q ≡ true
  heard-from_sent q s sent taken round =
      let t = IsTakenBy-receiver c longer q p s w sent taken in
      let b = step_at_within longer t.place t.step t.stands in
      let high = b.1 in
      let long : length longer ≡ length steps + 1 = length-append steps (receiving p true ids ∷ []) in
      let same = round_at-prefix steps (receiving p true ids ∷ []) p t.place (omega arith) in
      let less = passed-before steps p t.place in
      let all = passed-ends steps (receiving p true ids) refl in
      heard_table-from_heard longer p r q (record {
        over = omega arith;
        message = s;
        take = t;
        in_time = omega arith;
        sent = record { round = round; step = record { proc = q; act = Send p }; stands = sent; sender = refl; sends = refl };
      })

  -- what is said in it is heard
  heard-said : (q : ℕ) (body : Body) → IsSaid letters (gathered letters near ids r) q body → Heard (q, body)
  heard-said q body said =
      let a = gathered-kept said.message said.member in
      let taken = (IsKept-from_after steps (receiving p true ids) p r said.message a.0).taken in
      let after = sent-longer steps (receiving p true ids) a.0.sender p said.message a.0.sent in
      let l : (y : Letter) × (letter_at letters said.message ≡ Some y) × IsLetter c steps a.0.sender p said.message y =
      elim (are.messages a.0.sender p said.message a.0.sent) [ inl m ↦ m | inr e ↦ absurd (none-some said.letter (sym e.0 ∙ said.kept)) ] in
      let same : l.0 ≡ said.letter = same_Some l.0 said.letter (sym l.1 ∙ said.kept) in
      let from : a.0.sender ≡ q = sym l.2.sender ∙ ap (λ (z : Letter). z.sender) same ∙ said.sender in
      let says : out c (state_after c (heard_table steps) (passed steps p) a.0.sender) a.0.sender r p ≡ Some body =
      sym (body_of-round c steps a.0.sender p said.message r (passed steps p) a.1 now)
      ∙ l.2.body ∙ ap (λ (z : Letter). Some z.body) same ∙ ap (λ (z : Body). Some z) said.says in
      subst (λ q. Heard (q, body)) from (record {
        sender = w.procs said.message (record { proc = a.0.sender; act = Send p }) after.0;
        heard = heard-from_sent a.0.sender said.message after.0 taken (after.1 ∙ a.1);
        body = says;
      })

  heard_in-heard : (m : Message) → Contains (heard_in letters near ids r c.n) m → Heard m
  heard_in-heard m d =
      let f = Contains-from_filter_map (λ q. option_map (λ (body : Body). (q, body)) (body_from letters (gathered letters near ids r) q))
      (processors c) m d in
      go f.0 (body_from letters (gathered letters near ids r) f.0) refl f.2
    where
      go : (q : ℕ) (o : Option Body) → body_from letters (gathered letters near ids r) q ≡ o
          → option_map (λ (body : Body). (q, body)) o ≡ Some m → Heard m
      go q None e h = absurd (none-some m h)
      go q (Some body) e h = let pair : Message = (q, body) in
          subst Heard (same_Some pair m h) (heard-said q body (body_from-said letters (gathered letters near ids r) q body e))

  -- a message of the round that was taken is gathered
  gathered-from_kept : (s : ℕ) (a : IsKeptAfter steps (receiving p true ids) p r s)
      → round_at steps a.sender s ≡ r → Contains (gathered letters near ids r) s
  gathered-from_kept s a round = elim a.how [
    | inl earlier ↦ elim (Contains-append_cases near
        (ids_of later) s ((is.ids s).1 (record { sender = a.sender; sent = a.sent; taken = earlier; ahead = a.ahead }))) [
          | inl d ↦ Contains-append_left (of_round letters r near)
              (of_round letters r ids) s (Contains-filter (λ i. round_of letters i == r) near s d in_round)
          | inr d ↦ absurd (late (Contains-from_map (λ (e : Entry). e.0.1) later s d))
        ]
    | inr here ↦ Contains-append_right (of_round letters r near)
        (of_round letters r ids) s (Contains-filter (λ i. round_of letters i == r) ids s here.1 in_round)
  ]
    where
      known : round_of letters s ≡ r
      known = round_of-ahead c steps letters are a.sender p s a.sent (omega arith) ∙ round

      in_round : (round_of letters s == r) ≡ true
      in_round = eq-eqb (round_of letters s) r known

      late : (e : Entry) × Contains later e × (e.0.1 ≡ s) → ⊥
      late f =
          let i = is.entries f.0 f.1 in
          let high = All-contains (λ (y : Entry). r < y.0.0) later f.0 ahead f.1 in
          let is_round = i.round in
          let other : round_of letters f.0.0.1 ≡ round_at steps i.sender f.0.0.1 =
          round_of-ahead c steps letters are i.sender p f.0.0.1 i.sent (omega arith) in
          let same : round_of letters f.0.0.1 ≡ round_of letters s = ap (round_of letters) f.2 in
          let here = known in
          omega arith

  -- and what is heard is said in it
  heard-in_heard : (m : Message) → Heard m → Contains (heard_in letters near ids r c.n) m
  heard-in_heard m heard =
      let h = IsHeard-from_table longer p r m.0 heard.heard in
      let t = h.take in
      let e = (w.earlier t.place h.message t.step t.stands t.taken).1 in
      let one : Step = record { proc = e.0; act = Send t.step.proc } in
      let same : one ≡ h.sent.step = same_Some one h.sent.step (sym e.1 ∙ h.sent.stands) in
      let sent : IsSend longer m.0 p h.message = subst₂
      (λ q to. IsSend longer q to h.message) (ap (λ (z : Step). z.proc) same ∙ h.sent.sender) t.taker e.1 in
      let round = h.sent.round in
      let a = IsKeptAfter-from_kept steps (receiving p true ids) c p r h.message w
      (record
      { sender = m.0; sent = sent; taken = taken_from_at longer t.place h.message (t.step, t.stands, t.taken); ahead = omega arith }) in
      let after = sent-longer steps (receiving p true ids) a.sender p h.message a.sent in
      let two : Step = record { proc = a.sender; act = Send p } in
      let from : a.sender ≡ m.0 = ap (λ (z : Step). z.proc) (same_Some two h.sent.step (sym after.0 ∙ h.sent.stands)) ∙ h.sent.sender in
      let in_round : round_at steps a.sender h.message ≡ r = sym after.1 ∙ ap (λ q. round_at longer q h.message) from ∙ round in
      let l = kept-ahead c steps letters are a.sender p h.message a.sent (omega arith) in
      let found = body_from-some letters (gathered letters near ids r) m.0 l.0.body
      (record {
        message = h.message;
        member = gathered-from_kept h.message a in_round;
        letter = l.0;
        kept = l.1;
        sender = l.2.sender
            ∙ from;
        says = refl;
      }) in
      let pair : Message = (m.0, found.0) in
      let here : Contains (heard_in letters near ids r c.n) pair =
      Contains-filter_map (λ q. option_map (λ (body : Body). (q, body)) (body_from letters (gathered letters near ids r) q))
      (processors c) m.0 pair (Contains-processors c m.0 heard.sender) (rw found.1 refl) in
      let body : found.0 ≡ m.1 = same_Some found.0 m.1 (sym (heard_in-heard pair here).body ∙ heard.body) in
      subst (Contains (heard_in letters near ids r c.n)) (ap (λ (b : Body). (m.0, b)) body) here

  -- the senders of what is heard are processors
  pub heard_in-senders : All (λ m. IsProc c (sender_of m)) (heard_in letters near ids r c.n)
  heard_in-senders = All-weaker (Contains (heard_in letters near ids r c.n)) (λ m. IsProc c (sender_of m))
      (λ m d. (heard_in-heard m d).sender) (heard_in letters near ids r c.n)
      (All-contains_itself (heard_in letters near ids r c.n))

  -- the node of p at the end of its round
  pub node_at-computes : node_at c longer p ≡ next c (node_at c steps p) p r (heard_in letters near ids r c.n)
  node_at-computes =
      let e : suc (passed steps p) ≡ r = omega arith in
      let nodes : ℕ → State = state_after c (heard_table steps) (passed steps p) in
      node_at-ends c steps (receiving p true ids) w refl
      ∙ ap (λ k. next c (node_at c steps p) p k (messages_heard c (heard_table longer) nodes p k)) e
      ∙ ap (next c (node_at c steps p) p r)
      (sym (messages_heard-by_elements c (heard_table longer) nodes p r (heard_in letters near ids r c.n)
      (heard_from-rises letters (gathered letters near ids r) c.n) heard_in-heard heard-in_heard))
