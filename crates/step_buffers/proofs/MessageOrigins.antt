-- Where a message that waits comes from, by what is kept of it.
use Rattle.std.proofs.Common.{ℕ, ◌≡◌, ◌<◌, ◌≤◌, ◌⊎◌, inl, inr, List, Option, refl, sym, ap, ◌∙◌, arith}
use Rattle.std.specs.Option.{option_map_or}
use Rattle.std.proofs.lemmas.Bool.{cases_lt, lt-ltb, le-ltb}
use Rattle.step_buffers.proofs.Common.{Step, Setup, Letter, passed, round_at, IsSend, round_of, AreLetters}
use Rattle.step_buffers.proofs.KeptInboxes.{round_of-ahead, round_of-known}
use Rattle.step_buffers.specs.Origins.{sender_of, round_ahead}

-- the sender of a Send
pub sender_of-sent : (steps : List Step) (q p s : ℕ) → IsSend steps q p s → sender_of steps s ≡ q
sender_of-sent steps q p s sent = ap (λ x. option_map_or (λ (y : Step). y.proc) x 0) sent

-- its round, if p hasn't passed it
pub round_ahead-ahead : (steps : List Step) (q p s : ℕ)
    → IsSend steps q p s → passed steps p < round_at steps q s → round_ahead steps p s ≡ round_at steps q s
round_ahead-ahead steps q p s sent ahead = rw (sender_of-sent steps q p s sent, lt-ltb (passed steps p) (round_at steps q s) ahead) refl

-- and if p has passed it
pub round_ahead-past : (steps : List Step) (q p s : ℕ)
    → IsSend steps q p s → round_at steps q s ≤ passed steps p → round_ahead steps p s ≡ 0
round_ahead-past steps q p s sent past = rw (sender_of-sent steps q p s sent, le-ltb (passed steps p) (round_at steps q s) past) refl

-- By what is kept of it, a message is of a round that p has passed,
pub round_ahead-early : (c : Setup) (steps : List Step) (letters : List (Option Letter)) (q p s : ℕ)
    → AreLetters c steps letters → IsSend steps q p s → round_of letters s ≤ passed steps p → round_ahead steps p s ≡ 0
round_ahead-early c steps letters q p s are sent early = go (cases_lt (passed steps p) (round_at steps q s))
  where
    go : (passed steps p < round_at steps q s) ⊎ (round_at steps q s ≤ passed steps p) → round_ahead steps p s ≡ 0
    go (inl ahead) = let is = round_of-ahead c steps letters are q p s sent ahead in absurd (omega arith)
    go (inr past) = round_ahead-past steps q p s sent past

-- or of a later one.
pub round_ahead-late : (c : Setup) (steps : List Step) (letters : List (Option Letter)) (q p s : ℕ)
    → AreLetters c steps letters → IsSend steps q p s → passed steps p < round_of letters s → round_ahead steps p s ≡ round_of letters s
round_ahead-late c steps letters q p s are sent late =
    let is = round_of-known c steps letters are q p s sent (omega arith) in
    round_ahead-ahead steps q p s sent (omega arith) ∙ sym is
