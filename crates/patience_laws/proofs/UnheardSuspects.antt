-- Of who is suspected nothing was heard of the present round or of a later one.
use Rattle.std.proofs.Common.{ℕ, zero, suc, ◌≡◌, ◌≤◌, inl, inr, List, Some, true, arith}
use Rattle.std.proofs.lemmas.Bool.{cases_lt}
use Rattle.std.proofs.lemmas.Option.{none-some}
use Rattle.patience_laws.proofs.Common.{Receive, Step, Setup, IsProc, IsWellFormed, step_at, round_at, HasHeardOf, Suspects, WasSilent}
use Rattle.patience_laws.proofs.PacedSteps.{rounds_after, round-here}
use Rattle.patience_laws.proofs.KnownRounds.{rounds-up}
use Rattle.patience_laws.proofs.SilentPhases.{suspected-silent}
use Rattle.patience_laws.proofs.RoundSends.{round_at-up}
use Rattle.patience_laws.proofs.PatienceTicks.{rounds-ended}

pub suspect-unheard : (c : Setup) (patience : ℕ) (steps : List Step) (p q n s : ℕ)
    → IsWellFormed c steps → IsProc c q → rounds_after steps p n ≤ s → Suspects c patience steps p q n → HasHeardOf steps p q s n → ⊥
suspect-unheard c patience steps p q n s w is late suspects h = go (suspected-silent c patience steps p q w is n suspects)
  where
    go : WasSilent steps p q n → ⊥
    go was = elim (cases_lt was.place h.place) [
      | inl after ↦ was.nothing h.place (let up = round_at-up c patience steps p was.place h.place (omega arith) in
          let e = was.round_is in omega arith) h.by (record { message = h.message; sent = h.sent; take = h.take })
      | inr before ↦ was.behind (record {
        message = h.message;
        sent = h.sent;
        later = passed-by was.place was.step was.round_is was.by;
        place = h.place;
        take = h.take;
        by = before;
      })
    ]
      where
        passed-by : (k : ℕ) → step_at steps k ≡ Some (record { proc = p; act = Receive true was.ids })
            → round_at steps p k ≡ was.round → k ≤ n → was.round ≤ round_at steps q h.message
        passed-by zero at here l = absurd (none-some _ at)
        passed-by (suc k) at here l =
            let after = rounds-ended c patience steps p k was.ids at in
            omega (arith, h.later, rounds-up c patience steps p (suc k) n l, round-here steps p k)
