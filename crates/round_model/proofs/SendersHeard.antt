-- What a processor hears in a round: of which senders, and in which order.
use Rattle.std.proofs.Common.{ℕ, ◌≡◌, ◌+◌, ◌<◌, ◌≤◌, List, [], ◌∷◌, map, Option, Some, None, Bool, true, false, All, filter, refl, arith, ap}
use Rattle.std.specs.Prelude.{option_map, if◌then◌else◌, is_some}
use Rattle.std.specs.List.{filter_map, cons_option}
use Rattle.std.specs.List.Sorted.{IsStrictlyIncreasing}
use Rattle.std.proofs.lemmas.List.Elements.{All-weaker, All-filter}
use Rattle.std.proofs.lemmas.List.Kept.{IsStrictlyIncreasing-filter}
use Rattle.round_model.proofs.Common.{Setup, IsProc, Body, State, Message, sender_of, Table, processors, messages_heard}
use Rattle.lock_phases.specs.NodeFunctions.{out}
use Rattle.round_model.proofs.HeardMessages.{heard_of}
use Rattle.round_model.proofs.ProcessorRanges.{filter_map-range_with_len-agree, IsStrictlyIncreasing-range_with_len, All-range_with_len, All-from_map}

-- what the table says is not heard isn't
pub heard_of-lost : (c : Setup) (table : Table) (nodes : ℕ → State) (p round sender : ℕ)
    → table p round sender ≡ false → heard_of c table nodes p round sender ≡ None
heard_of-lost c table nodes p round sender e = rw e refl

-- what the table says is heard is, if it is sent
pub heard_of-heard : (c : Setup) (table : Table) (nodes : ℕ → State) (p round sender : ℕ) → table p round sender ≡ true
    → heard_of c table nodes p round sender ≡ option_map (λ body. (sender, body)) (out c (nodes sender) sender round p)
heard_of-heard c table nodes p round sender e = rw e refl

-- what p hears in a round depends on the nodes of processors alone
pub messages_heard-agree : (c : Setup) (table : Table) (f g : ℕ → State) (p round : ℕ)
    → ((sender : ℕ) → IsProc c sender → f sender ≡ g sender) → messages_heard c table f p round ≡ messages_heard c table g p round
messages_heard-agree c table f g p round same =
    filter_map-range_with_len-agree (heard_of c table f p round) (heard_of c table g p round) 1 c.n
    (λ sender low high. rw (same sender (low, omega arith)) refl)

-- the senders of what is heard are the processors of which something is heard
pub messages_heard-senders : (c : Setup) (table : Table) (nodes : ℕ → State) (p round : ℕ) → map sender_of
    (messages_heard c table nodes p round) ≡ filter (λ sender. is_some (heard_of c table nodes p round sender)) (processors c)
messages_heard-senders c table nodes p round = go (processors c)
  where
    from_sender : (sender : ℕ) (xs : List Message) (rest : List ℕ) (t : Bool) (o : Option Body) → map sender_of xs ≡ rest
        → map sender_of (cons_option (if t then option_map (λ body. (sender, body)) o else None) xs)
        ≡ (if is_some {T = Message} (if t then option_map (λ body. (sender, body)) o else None) then sender ∷ rest else rest)
    from_sender sender xs rest false o e = e
    from_sender sender xs rest true None e = e
    from_sender sender xs rest true (Some body) e = ap (λ r. sender ∷ r) e

    go : (senders : List ℕ) → map sender_of (filter_map (heard_of c table nodes p round) senders)
        ≡ filter (λ sender. is_some (heard_of c table nodes p round sender)) senders
    go [] = refl
    go (sender ∷ rest) = from_sender sender _ _ (table p round sender) (out c (nodes sender) sender round p) (go rest)

-- what is heard comes in the order of its senders
pub messages_heard-rise : (c : Setup) (table : Table) (nodes : ℕ → State) (p round : ℕ)
    → IsStrictlyIncreasing (map sender_of (messages_heard c table nodes p round))
messages_heard-rise c table nodes p round = rw (messages_heard-senders c table nodes p round) (IsStrictlyIncreasing-filter
    (λ sender. is_some (heard_of c table nodes p round sender)) (processors c) (IsStrictlyIncreasing-range_with_len 1 c.n))

-- what is heard comes from processors
pub messages_heard-processors : (c : Setup) (table : Table) (nodes : ℕ → State) (p round : ℕ)
    → All (λ m. IsProc c (sender_of m)) (messages_heard c table nodes p round)
messages_heard-processors c table nodes p round =
    All-from_map (IsProc c) sender_of (messages_heard c table nodes p round)
    (rw (messages_heard-senders c table nodes p round)
    (All-filter (λ sender. is_some (heard_of c table nodes p round sender)) (IsProc c) (processors c)
    (All-weaker (λ q. (1 ≤ q) × (q < 1 + c.n)) (IsProc c) (λ q h. (h.0, omega arith)) (processors c) (All-range_with_len 1 c.n))))
