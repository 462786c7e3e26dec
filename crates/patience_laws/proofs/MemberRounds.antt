-- Members are processors, and who ends a later round ends it later.
use Rattle.std.proofs.Common.{ℕ, suc, ◌≡◌, ◌≤◌, inl, inr, true, arith}
use Rattle.std.proofs.lemmas.Bool.{cases_lt}
use Rattle.patience_laws.proofs.Common.{Receive, Setup, IsProc, IsWithin, has_proc, Recorded, tick_of, IsTimed}
use Rattle.patience_laws.proofs.Common.{ticks_rise, member-positive}
use Rattle.patience_laws.proofs.KnownRounds.{rounds-up}
use Rattle.patience_laws.proofs.PatienceTicks.{IsEndOf}

-- a member of a set within the processors is one of them
pub member-proc : (c : Setup) (set : ℕ) → IsWithin set c.n → (q : ℕ) → has_proc set q ≡ true → IsProc c q
member-proc c set within q m = (member-positive set q m, within q m)

-- who ends a later round ends it later
pub end-later : (trace : Recorded) (patience : ℕ) → IsTimed trace → (p r s : ℕ) (e : IsEndOf trace.steps p r) (h : IsEndOf trace.steps p s)
    → r ≤ s → tick_of trace (suc e.place) ≤ tick_of trace (suc h.place)
end-later trace patience time p r s e h l = elim (cases_lt h.place e.place) [
  | inl before ↦ absurd (let up = rounds-up trace.config patience trace.steps p (suc h.place) e.place (omega arith) in
      let a = h.after in let b = e.round_is in omega arith)
  | inr after ↦ ticks_rise trace time (suc e.place) (suc h.place)
      (record { proc = p; act = Receive true e.ids }) (record { proc = p; act = Receive true h.ids }) e.step h.step (omega arith)
]
