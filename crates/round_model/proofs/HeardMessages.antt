-- What a processor hears in a round: each message comes from the processor that sent it.
use Rattle.std.proofs.Common.{ℕ, ◌≡◌, ◌+◌, ◌<◌, Bool, true, false, cond, Option, Some, None, refl, sym, subst, ◌∙◌, arith}
use Rattle.std.specs.Prelude.{Contains, option_map, if◌then◌else◌}
use Rattle.std.proofs.lemmas.List.FromFn.{length-range_with_len, get_or-range_with_len}
use Rattle.round_model.proofs.Common.{Setup, IsProc, Body, State, Message, sender_of, body_of, Contains-from_filter_map, IsSaidBy, out-said_by, Table, processors, messages_heard}
use Rattle.lock_phases.specs.NodeFunctions.{out, next}

-- what p hears of a sender, if anything
abbrev pub heard_of : Setup → Table → (ℕ → State) → ℕ → ℕ → ℕ → Option Message
heard_of c table nodes p round sender = if table p round sender
    then option_map (λ body. (sender, body)) (out c (nodes sender) sender round p) else None

-- the nodes after a round
abbrev pub nodes_after : Setup → Table → (ℕ → State) → ℕ → ℕ → State
nodes_after c table nodes round p = next c (nodes p) p round (messages_heard c table nodes p round)

-- each number in the list of the processors is a processor
pub IsProc-from_processors : (c : Setup) (p : ℕ) → Contains (processors c) p → IsProc c p
IsProc-from_processors c p d =
    let below : d.0 < c.n = rw (length-range_with_len 1 c.n) at d.1 in
    let same : p ≡ 1 + d.0 = sym d.2 ∙ get_or-range_with_len 1 c.n d.0 p below in
    (omega arith, omega arith)

-- what is heard of a sender has its number, and is said by its node
pub record IsHeardOf (nodes : ℕ → State) (sender : ℕ) (m : Message) : Type 0 where
  pub sender_is : sender_of m ≡ sender
  pub said : IsSaidBy (nodes sender) (body_of m)

-- so is what is heard of a sender
pub heard_of-sender : (c : Setup) (table : Table) (nodes : ℕ → State) (p round sender : ℕ) (m : Message)
    → heard_of c table nodes p round sender ≡ Some m → IsHeardOf nodes sender m
heard_of-sender c table nodes p round sender m e = go (table p round sender) (out c (nodes sender) sender round p) refl e
  where
    go : (b : Bool) (o : Option Body) → out c (nodes sender) sender round p ≡ o
        → cond b (option_map (λ body. (sender, body)) o) None ≡ Some m → IsHeardOf nodes sender m
    go true None s h = cc
    go true (Some body) s h =
        let same : (sender, body) ≡ m = cc in
        subst (IsHeardOf nodes sender) same (record { sender_is = refl; said = out-said_by c (nodes sender) sender round p body s })
    go false o s h = cc

-- a message that is heard is said by the node of its sender, a processor
pub record IsHeardMessage (c : Setup) (nodes : ℕ → State) (m : Message) : Type 0 where
  pub sender : IsProc c (sender_of m)
  pub said : IsSaidBy (nodes (sender_of m)) (body_of m)

-- so is each message that is heard
pub messages_heard-said : (c : Setup) (table : Table) (nodes : ℕ → State) (p round : ℕ) (m : Message)
    → Contains (messages_heard c table nodes p round) m → IsHeardMessage c nodes m
messages_heard-said c table nodes p round m d =
    let r = Contains-from_filter_map (heard_of c table nodes p round) (processors c) m d in
    let h = heard_of-sender c table nodes p round r.0 m r.2 in
    record {
      sender = subst (IsProc c) (sym h.sender_is) (IsProc-from_processors c r.0 r.1);
      said = subst (λ j. IsSaidBy (nodes j) (body_of m)) (sym h.sender_is) h.said;
    }
