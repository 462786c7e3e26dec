-- A listing round: the owner proposes a value that enough processors list.
use Rattle.std.proofs.Common.{ℕ, ◌≡◌, ◌≢◌, ◌-◌, ◌≤◌, inl, inr, true, not, List, Option, Some, None, is_some, refl, sym, ap, subst, ◌∙◌, eq-eqb, arith}
use Rattle.std.specs.List.{range_with_len}
use Rattle.std.proofs.lemmas.Bool.{not-true, ne_eqb, cases_lt, false_from_ne_true}
use Rattle.std.proofs.lemmas.List.FromFn.{length-range_with_len}
use Rattle.lock_phases.proofs.Common.{Setup, IsSetup, phase_of, part_of, owner, Listing, State, Message, least_listed}
use Rattle.lock_phases.proofs.Common.{heard_from, lists_with, listing, ListingKeeps, IsProposal, IsMadeByQuorum}
use Rattle.lock_phases.proofs.Common.{IsRefusedByFew}
use Rattle.lock_phases.specs.NodeFunctions.{next}
use Rattle.lock_phases.proofs.Counting.{count_by-disjoint}
use Rattle.lock_phases.proofs.RoundLaws.{part_at-listing, next-in}
use Rattle.lock_phases.proofs.QuorumLaws.{IsLeastListed-from_some, least_listed-not_None}
use Rattle.lock_phases.proofs.HeardProcessors.{heard-few, heard-many}

-- a listing round changes no lock, no decision and nothing that is owed
pub listing-keeps : (c : Setup) (s : State) (me round : ℕ) (heard : List Message)
    → part_of round ≡ 1 → ListingKeeps s (next c s me round heard)
listing-keeps c s me round heard e =
    let n = next-in Listing c s me round heard (part_at-listing round e) in
    record {
      locks = ap (λ (x : State). x.locks) n;
      owes_ack = ap (λ (x : State). x.owes_ack) n;
      decision = ap (λ (x : State). x.decision) n;
    }

-- nobody but the owner proposes anything
pub listing-others : (c : Setup) (s : State) (me round : ℕ) (heard : List Message) → part_of round ≡ 1 → me ≢ owner c.n (phase_of round)
    → (next c s me round heard).proposal ≡ s.proposal
listing-others c s me round heard e other =
    let n = ap (λ (x : State). x.proposal) (next-in Listing c s me round heard (part_at-listing round e)) in
    n ∙ rw (ne_eqb me (owner c.n (phase_of round)) other) refl

-- what the owner proposes is taken from the lists that it heard
listing-least : (c : Setup) (s : State) (round : ℕ) (heard : List Message) → part_of round ≡ 1
    → (next c s (owner c.n (phase_of round)) round heard).proposal ≡ least_listed (c.n - c.t) heard
listing-least c s round heard e =
    let o = owner c.n (phase_of round) in
    let n = ap (λ (x : State). x.proposal) (next-in Listing c s o round heard (part_at-listing round e)) in
    n ∙ rw (eq-eqb o o refl) refl

-- the least value in enough lists, or none
IsProposal-least_listed : (quorum : ℕ) (heard : List Message) → 1 ≤ quorum → IsProposal quorum heard (least_listed quorum heard)
IsProposal-least_listed quorum heard l = go (least_listed quorum heard) refl
  where
    go : (o : Option ℕ) → least_listed quorum heard ≡ o → IsProposal quorum heard o
    go None e = λ u. elim (cases_lt (lists_with heard u) quorum) [
      | inl few ↦ few
      | inr many ↦ absurd (least_listed-not_None quorum heard u l many e)
    ]
    go (Some v) e = IsLeastListed-from_some quorum heard v l e

-- a quorum is one processor at least
quorum-positive : (c : Setup) → IsSetup c → 1 ≤ c.n - c.t
quorum-positive c setup = let least = setup.least in let faults = setup.faults in omega arith

-- The proposal is the least value in at least N - t of the lists heard, and there is none only if no value is.
pub listing-proposal : (c : Setup) (s : State) (round : ℕ) (heard : List Message) → IsSetup c → part_of round ≡ 1
    → IsProposal (c.n - c.t) heard (next c s (owner c.n (phase_of round)) round heard).proposal
listing-proposal c s round heard setup e = subst (IsProposal (c.n - c.t) heard)
    (sym (listing-least c s round heard e)) (IsProposal-least_listed (c.n - c.t) heard (quorum-positive c setup))

-- A value that N - t processors are heard to list makes a proposal.
pub listing-quorum : (c : Setup) (s : State) (round : ℕ) (heard_of : ℕ → Option Message) → IsSetup c → part_of round ≡ 1
    → IsMadeByQuorum c heard_of (next c s (owner c.n (phase_of round)) round (heard_from c.n heard_of)).proposal
listing-quorum c s round heard_of setup e v lists_it enough heard = go (next c s
    (owner c.n (phase_of round)) round (heard_from c.n heard_of)).proposal (listing-proposal c s round (heard_from c.n heard_of) setup e)
  where
    go : (o : Option ℕ) → IsProposal (c.n - c.t) (heard_from c.n heard_of) o → is_some o ≡ true
    go None none = absurd (omega (arith, none v, heard-many c heard_of (listing v) lists_it heard))
    go (Some w) least = refl

-- The quorum step: at most t processors refuse the proposal, since the N - t lists that have it are of others.
pub listing-refused : (c : Setup) (s : State) (round : ℕ) (heard_of : ℕ → Option Message) → IsSetup c → part_of round ≡ 1
    → IsRefusedByFew c heard_of (next c s (owner c.n (phase_of round)) round (heard_from c.n heard_of)).proposal
listing-refused c s round heard_of setup e w refuses proposes silent =
    let quorum = (subst (IsProposal (c.n - c.t) (heard_from c.n heard_of)) proposes
    (listing-proposal c s round (heard_from c.n heard_of) setup e)).quorum_lists in
    let listed = heard-few c.n heard_of (listing w) (λ j. not (refuses j))
    (λ j h. ap not (false_from_ne_true (refuses j) (λ r. silent j r h))) in
    let apart = count_by-disjoint (λ j. not (refuses j)) refuses
    (range_with_len 1 c.n) (λ j a b. let clash = sym (not-true (refuses j) a) ∙ b in cc) in
    let faults = setup.faults in
    omega (arith, length-range_with_len 1 c.n)
