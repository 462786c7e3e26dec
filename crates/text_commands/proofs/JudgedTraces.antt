-- Why decisions aren't judged by a trace, and by what they are.
use Rattle.std.proofs.Common.{ℕ, ◌≡◌, List, Result, Err, Bool, true, false}
use Rattle.std.specs.Prelude.{string_bytes}
use Rattle.step_trace.specs.Traces.{Recorded}
use Rattle.decision_claims.specs.declared.formula_texts.FormulaError.{FormulaError}
use Rattle.decision_claims.specs.declared.formula_texts.FormulaError.TheVariants.{Refused, Memory}
use Rattle.decision_claims.specs.declared.readings.BadFormula.{BadFormula}
use Rattle.decision_claims.specs.FormulaTexts.{read_formula}
use Rattle.text_verdicts.specs.Texts.{HasCorrect}
use Rattle.command_faults.specs.declared.faults.Fault.{Fault}
use Rattle.command_faults.specs.declared.faults.Fault.TheVariants as fault
use Rattle.command_faults.specs.Faults.{fault_of_formula}
use Rattle.command_options.specs.declared.Judging.{Judging}
use Rattle.text_commands.specs.Answers.{IsDeclined}
use Rattle.text_commands.specs.Judgings.{HasFormula, HasStart, IsUndecided, IsUnjudged}

-- a text that is no formula is reported as one
pub formula-declined : {A : Type 0} (j : Judging) (decisions : List ℕ) (t : Recorded) (text : List ℕ) (e : FormulaError)
    (r : Result A FormulaError) → r ≡ Err e → text ≡ string_bytes j.within → HasCorrect j.correct t
    → ((why : BadFormula) → r ≡ Err (Refused why) → read_formula text ≡ Err why)
    → IsDeclined (IsUnjudged j decisions t) (fault_of_formula e)
formula-declined j decisions t text (Refused why) r is same within bad = (within, rw same at (bad why is))
formula-declined j decisions t text Memory r is same within bad = tt

-- why there are no decisions is why they aren't judged, if what is asked for is in order
pub undecided-declined : (j : Judging) (text : List ℕ) (t : Recorded) (r : Bool) (w : Fault)
    → j.replay ≡ r → HasFormula j t → HasStart j.start t → IsDeclined (IsUndecided r text t) w → IsDeclined (IsUnjudged j text t) w
undecided-declined j text t r fault.Memory e asked started u = tt
undecided-declined j text t true (fault.NotARun number due) e asked started u = (asked, started, rw e u)
undecided-declined j text t false (fault.NotARun number due) e asked started u = absurd u
undecided-declined j text t false (fault.Decisions reason) e asked started u = (asked, started, rw e u)
undecided-declined j text t true (fault.Decisions reason) e asked started u = absurd u
undecided-declined j text t true (fault.Command a) e asked started u = absurd u
undecided-declined j text t false (fault.Command a) e asked started u = absurd u
undecided-declined j text t true (fault.Set a b) e asked started u = absurd u
undecided-declined j text t false (fault.Set a b) e asked started u = absurd u
undecided-declined j text t true (fault.Trace a) e asked started u = absurd u
undecided-declined j text t false (fault.Trace a) e asked started u = absurd u
undecided-declined j text t true fault.Swapped e asked started u = absurd u
undecided-declined j text t false fault.Swapped e asked started u = absurd u
undecided-declined j text t true (fault.Certificate a) e asked started u = absurd u
undecided-declined j text t false (fault.Certificate a) e asked started u = absurd u
undecided-declined j text t true (fault.Runs a) e asked started u = absurd u
undecided-declined j text t false (fault.Runs a) e asked started u = absurd u
undecided-declined j text t true (fault.Table a) e asked started u = absurd u
undecided-declined j text t false (fault.Table a) e asked started u = absurd u
undecided-declined j text t true (fault.Listed a) e asked started u = absurd u
undecided-declined j text t false (fault.Listed a) e asked started u = absurd u
undecided-declined j text t true (fault.Within a) e asked started u = absurd u
undecided-declined j text t false (fault.Within a) e asked started u = absurd u
undecided-declined j text t true fault.Read e asked started u = absurd u
undecided-declined j text t false fault.Read e asked started u = absurd u
undecided-declined j text t true (fault.Unread a b) e asked started u = absurd u
undecided-declined j text t false (fault.Unread a b) e asked started u = absurd u
undecided-declined j text t true (fault.Write a) e asked started u = absurd u
undecided-declined j text t false (fault.Write a) e asked started u = absurd u
undecided-declined j text t true (fault.Unwritten a) e asked started u = absurd u
undecided-declined j text t false (fault.Unwritten a) e asked started u = absurd u
undecided-declined j text t true fault.Threads e asked started u = absurd u
undecided-declined j text t false fault.Threads e asked started u = absurd u
undecided-declined j text t true (fault.Picture a) e asked started u = absurd u
undecided-declined j text t false (fault.Picture a) e asked started u = absurd u
undecided-declined j text t true (fault.Report a b) e asked started u = absurd u
undecided-declined j text t false (fault.Report a b) e asked started u = absurd u
undecided-declined j text t true (fault.Log a) e asked started u = absurd u
undecided-declined j text t false (fault.Log a) e asked started u = absurd u
undecided-declined j text t true (fault.Import a) e asked started u = absurd u
undecided-declined j text t false (fault.Import a) e asked started u = absurd u
undecided-declined j text t true (fault.Length a b) e asked started u = absurd u
undecided-declined j text t false (fault.Length a b) e asked started u = absurd u
