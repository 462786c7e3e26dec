-- A lock-release round: a lock goes exactly if a lock on another value, of no lower phase, is heard.
use Rattle.std.proofs.Common.{ℕ, ◌≡◌, ◌∙◌, List, refl, sym, subst}
use Rattle.lock_phases.proofs.Common.{Setup, phase_of, part_of, Releasing, State, Message, is_released, ReleasingKeeps}
use Rattle.lock_phases.specs.NodeFunctions.{next_in, next}
use Rattle.lock_phases.proofs.RoundLaws.{part_at-releasing, next-in, with_proper_heard}
use Rattle.lock_phases.proofs.LockLaws.{Contains-from_kept_locks, Contains-kept_locks, is_released-by, is_released-told}
use Rattle.std.proofs.lemmas.Bool.{false_from_ne_true}

-- A lock-release round changes nothing but the locks. It keeps exactly those that no heard lock releases.
pub releasing-keeps : (c : Setup) (s : State) (me round : ℕ) (heard : List Message)
    → part_of round ≡ 4 → ReleasingKeeps s (next c s me round heard) heard
releasing-keeps c s me round heard e = subst (λ x. ReleasingKeeps s x heard) (sym n) (record {
  proposal = refl;
  owes_ack = refl;
  decision = refl;
  locks = λ lock d. (Contains-from_kept_locks heard s.locks lock d).0;
  held = λ lock d f. Contains-kept_locks heard s.locks lock d
      (false_from_ne_true (is_released heard lock) (λ t. f (is_released-by heard lock t)));
  released = λ lock r d. let clash = sym (is_released-told heard lock r.releasing r.told r.other r.later)
      ∙ (Contains-from_kept_locks heard s.locks lock d).1 in cc;
})
  where
    n : next c s me round heard ≡ next_in Releasing c (with_proper_heard s heard) me (phase_of round) heard
    n = next-in Releasing c s me round heard (part_at-releasing round e)
