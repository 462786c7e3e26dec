-- A log that may list nodes, by the log in which each send is to one node.
use Rattle.std.proofs.Common.{◌≡◌, ℕ, List, Result, Ok, Err, true, IfOk, IfErr, inr, subst}
use Rattle.std.specs.Prelude.{MatchBool}
use Rattle.shared_reading.proofs.PartsRead.{may-be}
use Rattle.event_log.specs.declared.refusals.LogError.{LogError}
use Rattle.event_log.specs.Naming.{is_memory}
use Rattle.log_windows.specs.declared.reading.LogWindow.{LogWindow}
use Rattle.log_windows.specs.Lists.{may_list}
use Rattle.log_windows.specs.LogImports.{IsSpreadRefusal, OfSpread}
use Rattle.log_windows.specs.LogWindows.{IsSpreadOf}

pub spread-ok : {A : Type 0} (P : A → LogWindow → Type 0) (Q : A → Type 0) (text : List ℕ) (w : LogWindow) (r : Result A LogError)
    → true ≡ may_list text → IsSpreadOf text w → IfOk r (λ a. P a w) → IfOk r (λ a. MatchBool (may_list text) (OfSpread (P a) text) (Q a))
spread-ok P Q text w (Ok a) e s h = subst (λ b. MatchBool b (OfSpread (P a) text) (Q a)) e (w, s, h)
spread-ok P Q text w (Err why) e s h = tt

pub spread-err : {A : Type 0} (P : LogError → LogWindow → Type 0)
    (Q : LogError → Type 0) (text : List ℕ) (w : LogWindow) (r : Result A LogError) → true ≡ may_list text → IsSpreadOf text w
    → IfErr r (λ why. P why w) → IfErr r (λ why. MatchBool (may_list text) (IsSpreadRefusal (P why) text why) (Q why))
spread-err P Q text w (Ok a) e s h = tt
spread-err P Q text w (Err why) e s h = subst (λ b. MatchBool b (IsSpreadRefusal (P why) text why) (Q why)) e
    (may-be (is_memory why) _ (inr (w, s, h)))
