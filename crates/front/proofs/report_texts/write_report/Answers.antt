use Rattle.std.proofs.Common.{ℕ, List, Option, Result, Ok, Err, IfErr}
use Rattle.trace_text.specs.declared.refusals.WriteError.{WriteError}
use Rattle.trace_text.specs.declared.refusals.WriteError.TheVariants as fault
use Rattle.trace_text.specs.ByteLoops.{WroteFront}
use Rattle.trace_text.specs.TextWriting.{WroteBefore}
use Rattle.front.proofs.ShortTexts.{short-report_text}
use Rattle.front.proofs.TextsRead.{StandsFor-report_text}
use Rattle.front.proofs.report_texts.write_report.Goals as goal

wrote-before : {A : Type 0} (r : Result A WriteError) (text : List ℕ) (old new : Option (List ℕ))
    → IfErr r (λ e. WroteFront e text old new) → IfErr r (λ e. WroteBefore e text old new)
wrote-before (Ok x) text old new h = tt
wrote-before (Err (fault.Write n)) text old new h = h
wrote-before (Err fault.Memory) text old new h = absurd h

pub returns-in_default-clause-stands : goal.returns-in_default-clause-stands
returns-in_default-clause-stands g c = StandsFor-report_text c.args.rows.now

pub returns-clause-part : goal.returns-clause-part
returns-clause-part g c = wrote-before c.write_text.result _ _ _ (rw (c.deref.ensures.value, c.in-Ok.ensures) at c.write_text.ensures.part)

pub returns-clause-stands : goal.returns-clause-stands
returns-clause-stands g c = StandsFor-report_text c.args.rows.now

pub returns-in_default-clause-short : goal.returns-in_default-clause-short
returns-in_default-clause-short g c = λ members trace sound report. short-report_text members trace c.args.rows.now sound report

pub returns-clause-short : goal.returns-clause-short
returns-clause-short g c = λ members trace sound report. short-report_text members trace c.args.rows.now sound report
