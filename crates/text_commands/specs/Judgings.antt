-- The judgement of the decisions of a run, and why there is none.
use Rattle.std.specs.Prelude.{ℕ, ◌≡◌, ◌≢◌, List, Bool, true, false, Option}
use Rattle.std.specs.Prelude.{Some, None, Err, Ok, string_bytes, unwrap_or}
use Rattle.step_trace.specs.CorrectSets.{named}
use Rattle.step_trace.specs.Traces.{Recorded}
use Rattle.decision_claims.specs.declared.decisions.Decision.{Decision}
use Rattle.decision_claims.specs.Formulas.{Terms}
use Rattle.decision_claims.specs.FormulaTexts.{read_formula}
use Rattle.judged_runs.specs.declared.judgements.Demands.{Demands}
use Rattle.judged_runs.specs.declared.judgements.Verdict.{Verdict}
use Rattle.judged_runs.specs.declared.refusals.DecisionsError.TheVariants as undecided
use Rattle.judged_runs.specs.DecisionTexts.{decisions_of_text}
use Rattle.judged_runs.specs.declared.details.Details.{Details}
use Rattle.judged_runs.specs.Details.{IsJudgement}
use Rattle.text_verdicts.specs.Cuts.{IsTickOf}
use Rattle.text_verdicts.specs.Texts.{HasCorrect}
use Rattle.command_faults.specs.declared.faults.Fault.{Fault}
use Rattle.command_faults.specs.declared.faults.Fault.TheVariants as fault
use Rattle.command_faults.specs.declared.faults.ReportOption.TheVariants as option
use Rattle.command_options.specs.declared.Judging.{Judging}
use Rattle.text_commands.specs.Answers.{IsOutside}
use Rattle.text_commands.specs.ReplayedDecisions.{AreReplayed}
use Rattle.text_commands.specs.Replays.{IsOffRun}
use Rattle.text_commands.specs.ReportParts.{IsNoTickOf}

-- what is demanded of the decisions: unless said otherwise, the instance starts in tick 1, and no row has to be due
abbrev pub demands_of : Judging → Demands
demands_of j = record { start = unwrap_or j.start 1; valid = j.valid; whole = j.whole; due = unwrap_or j.due 0 }

-- the trace has the tick in which the instance started, if one is given
abbrev pub HasStart : Option ℕ → Recorded → Type 0
HasStart None t = Unit {0}
HasStart (Some tick) t = IsTickOf t tick

-- the decisions that are judged: those of the replay, or those of the text
abbrev pub AreDecisions : Bool → List ℕ → Recorded → List Decision → Type 0
AreDecisions true text t found = AreReplayed t found
AreDecisions false text t found = decisions_of_text t.config.n t.last text ≡ Ok found

-- why there are none: the trace is no run, or the first refusal of the text
abbrev pub IsUndecided : Bool → List ℕ → Recorded → Fault → Type 0
IsUndecided true text t (fault.NotARun number due) = IsOffRun t (fault.NotARun number due)
IsUndecided false text t (fault.Decisions reason) = (decisions_of_text t.config.n t.last text ≡ Err reason)
    × (reason ≢ undecided.Memory)
IsUndecided replay text t _ = ⊥

-- the text is a formula
abbrev pub IsFormulaText : List ℕ → Type 0
IsFormulaText text = (formula : Terms) × (read_formula text ≡ Ok formula)

-- why it is none; or out of memory
abbrev pub IsFormulaFault : List ℕ → Fault → Type 0
IsFormulaFault text fault.Memory = Unit {0}
IsFormulaFault text (fault.Within why) = read_formula text ≡ Err why
IsFormulaFault text _ = ⊥

-- The trace has all correct processors, and the deadline's text is a formula.
pub record HasFormula (j : Judging) (t : Recorded) : Type 0 where
  pub within : HasCorrect j.correct t
  pub formula : Terms
  pub written : read_formula (string_bytes j.within) ≡ Ok formula

-- what is asked for besides the verdict
abbrev pub details_of : Judging → Details
details_of j = record { factor = j.factor; rows = j.rows }

-- This is the verdict on the decisions of a text, by the trace, and what is printed of it.
pub record IsJudgementOn (j : Judging) (text : List ℕ) (v : Verdict) (out : List ℕ) (t : Recorded) : Type 0 where
  pub asked : HasFormula j t
  pub started : HasStart j.start t
  pub decisions : List Decision
  pub read : AreDecisions j.replay text t decisions
  pub exact : IsJudgement (named j.correct t.config.n) t decisions asked.formula (demands_of j) (details_of j) v out

-- the text is what is printed of the verdict
pub record IsJudgedText (j : Judging) (text : List ℕ) (t : Recorded) (out : List ℕ) : Type 0 where
  pub verdict : Verdict
  pub exact : IsJudgementOn j text verdict out t

-- the fault of a start that is no tick of the trace
abbrev pub IsStartFault : Option ℕ → Recorded → Fault → Type 0
IsStartFault start t (fault.Report option.Start o) = IsNoTickOf start t o
IsStartFault start t _ = ⊥

-- Why the decisions aren't judged by the trace: a correct processor that it hasn't; else the first reason why the text
-- is no formula; else the tick of the start, which the trace hasn't; else why there are no decisions.
abbrev pub IsUnjudged : Judging → List ℕ → Recorded → Fault → Type 0
IsUnjudged j text t (fault.Within why) = HasCorrect j.correct t × (read_formula (string_bytes j.within) ≡ Err why)
IsUnjudged j text t (fault.Report option.Start o) = HasFormula j t × IsNoTickOf j.start t o
IsUnjudged j text t (fault.Decisions reason) = HasFormula j t × HasStart j.start t
    × IsUndecided j.replay text t (fault.Decisions reason)
IsUnjudged j text t (fault.NotARun number due) = HasFormula j t × HasStart j.start t
    × IsUndecided j.replay text t (fault.NotARun number due)
IsUnjudged j text t w = IsOutside j.correct t w
