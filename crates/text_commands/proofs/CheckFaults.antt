-- The causes of the faults of a check, once its trace is read and cut.
use Rattle.std.proofs.Common.{◌≡◌, ℕ, List, Option, Some, None, IfSome, subst}
use Rattle.step_trace.specs.CorrectSets.{named}
use Rattle.step_trace.specs.Traces.{Recorded}
use Rattle.certificate_checker.specs.declared.verdicts.Verdict.{Verdict}
use Rattle.command_options.specs.declared.Claim.{Claim}
use Rattle.command_faults.specs.declared.faults.Fault.{Fault}
use Rattle.command_faults.specs.declared.faults.Fault.TheVariants as fault
use Rattle.text_verdicts.specs.Checks.{IsJudged, IsVerdictOn}
use Rattle.text_verdicts.specs.Cuts.{IsReportedTo, IsTickOf}
use Rattle.text_verdicts.specs.Texts.{HasCorrect, IsTextOf, OfTrace}
use Rattle.text_commands.specs.Answers.{IsAnswerTo, IsUnanswered}
use Rattle.text_commands.specs.Checks.{IsBadCertificate, IsClaimable, IsLineOn, IsToldOfChecks, IsUnchecked}
use Rattle.text_commands.specs.Serving.{IsFaultOf, IsServeFault}
use Rattle.text_commands.proofs.WrittenAnswers.{of_known}

-- What is known of a trace text whose trace has the correct processors, and the tick: the trace, and what it is cut to.
pub record IsCutTo (claim : Claim) (text : List ℕ) (t reported : Recorded) : Type 0 where
  pub read : IsTextOf text t
  pub within : HasCorrect claim.correct t
  pub until : IsReportedTo claim.until t reported

-- the tick that a trace is cut at is one of its own
reported-tick : (until : Option ℕ) (t reported : Recorded) → IsReportedTo until t reported → IfSome until (IsTickOf t)
reported-tick None t reported h = tt
reported-tick (Some tick) t reported h = h.0

-- a certificate can be checked by the trace that is known, once it is cut
pub claimable : (claim : Claim) (text : List ℕ) (t reported : Recorded) (known : Option (List ℕ)) → IfSome known (λ xs. text ≡ xs)
    → IsCutTo claim text t reported → IfSome known (OfTrace (IsClaimable claim))
claimable claim text t reported known same c = of_known (OfTrace (IsClaimable claim)) text known same
    (record { trace = t; read = c.read; holds = (c.within, reported-tick claim.until t reported c.until) })

-- the fault of a check, in a trace text and a certificate
abbrev pub IsCheckFault : Claim → List ℕ → List ℕ → Option (List ℕ) → Option (List ℕ) → Fault → Type 0
IsCheckFault claim certificate text before after w =
    IsServeFault (IsAnswerTo (IsLineOn claim certificate)) (IsUnanswered (IsUnchecked claim certificate)) text before after w

-- a fault in what was read is one in what was there to be read, if that is known
pub check-served : (claim : Claim) (certificate text : List ℕ) (before after known other : Option (List ℕ)) (w : Fault)
    → IfSome known (λ xs. text ≡ xs) → IfSome other (λ xs. certificate ≡ xs) → IsCheckFault claim certificate text before after w
    → IfSome known (λ xs. IfSome other (λ ys. IsCheckFault claim ys xs before after w))
check-served claim certificate text before after known other w all whole h =
    of_known (λ xs. IfSome other (λ ys. IsCheckFault claim ys xs before after w)) text known all
    (of_known (λ ys. IsCheckFault claim ys text before after w) certificate other whole h)

-- the certificate is refused
pub certificate-served : (claim : Claim) (certificate text : List ℕ) (t reported : Recorded) (before after : Option (List ℕ)) (w : Fault)
    → IsCutTo claim text t reported → IsBadCertificate certificate w → IsCheckFault claim certificate text before after w
certificate-served claim certificate text t reported before after (fault.Certificate reason) c h =
    record { trace = t; read = c.read; holds = (record { within = c.within; reported = reported; until_is = c.until; holds = h.0 }, h.1) }
certificate-served claim certificate text t reported before after fault.Memory c h = tt
certificate-served claim certificate text t reported before after w c h = absurd h

pub certificate-told : (claim : Claim) (certificate : List ℕ) (w : Fault)
    → IsBadCertificate certificate w → IsFaultOf (IsToldOfChecks claim) w
certificate-told claim certificate (fault.Certificate reason) h = h.1
certificate-told claim certificate fault.Memory h = tt
certificate-told claim certificate w h = absurd h

-- the verdict by what the trace is cut to is the verdict by the trace
pub judged-on : (claim : Claim) (certificate text : List ℕ) (t reported : Recorded) (v : Verdict)
    → IsCutTo claim text t reported → reported.config.n ≡ t.config.n
    → IsJudged (named claim.correct reported.config.n) certificate v reported → IsVerdictOn claim.correct claim.until certificate v t
judged-on claim certificate text t reported v c count h = record {
  within = c.within;
  reported = reported;
  until_is = c.until;
  holds = subst (λ n. IsJudged (named claim.correct n) certificate v reported) count h;
}
