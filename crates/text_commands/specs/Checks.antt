-- Why the program doesn't check a certificate by a trace, and the line that it writes if it does.
use Rattle.std.specs.Prelude.{ℕ, ◌≡◌, ◌≢◌, ◌⊎◌, List, Option, IfSome, Err, ⊤}
use Rattle.step_trace.specs.declared.correct_sets.Correct.{Correct}
use Rattle.step_trace.specs.Traces.{Recorded}
use Rattle.certificate_checker.specs.declared.verdicts.Verdict.{Verdict}
use Rattle.trace_text.specs.Faults.{Rose}
use Rattle.front.specs.declared.refusals.ReportError.{ReportError}
use Rattle.front.specs.declared.refusals.ReportError.TheVariants as why
use Rattle.front.specs.ReportRefusals.{rows_of_text}
use Rattle.text_verdicts.specs.Checks.{IsUncertified, IsVerdictOn}
use Rattle.text_verdicts.specs.Cuts.{IsTickOf}
use Rattle.text_verdicts.specs.Texts.{HasCorrect}
use Rattle.text_verdicts.specs.VerdictLines.{told_verdict}
use Rattle.command_faults.specs.declared.faults.Fault.{Fault}
use Rattle.command_faults.specs.declared.faults.Fault.TheVariants as fault
use Rattle.command_faults.specs.declared.faults.ReportOption.TheVariants as option
use Rattle.command_options.specs.declared.Claim.{Claim}
use Rattle.text_commands.specs.Answers.{IsOutside}
use Rattle.text_commands.specs.ReportParts.{IsNoTickOf}
use Rattle.text_commands.specs.Serving.{MayTell}

-- The line is that of the verdict on the certificate by the trace.
pub record IsLineOn (claim : Claim) (certificate : List ℕ) (t : Recorded) (line : List ℕ) : Type 0 where
  pub verdict : Verdict
  pub exact : IsVerdictOn claim.correct claim.until certificate verdict t
  pub told : line ≡ told_verdict verdict

-- a certificate can be checked by the trace: it has all correct processors, and the tick, if one is asked for
abbrev pub IsClaimable : Claim → Recorded → Type 0
IsClaimable claim t = HasCorrect claim.correct t × IfSome claim.until (IsTickOf t)

-- the reason is a refusal of the text; out of memory and a failed read are none
abbrev pub IsRefusalOfText : ReportError → Type 0
IsRefusalOfText reason = (reason ≢ why.Read) × (reason ≢ why.Memory)

-- the fault is the first refusal of the certificate, or out of memory
abbrev pub IsBadCertificate : List ℕ → Fault → Type 0
IsBadCertificate certificate (fault.Certificate reason) = (rows_of_text certificate ≡ Err reason)
    × IsRefusalOfText reason
IsBadCertificate certificate fault.Memory = ⊤
IsBadCertificate certificate _ = ⊥

-- why a trace isn't cut: a correct processor that it hasn't, or else a tick
abbrev pub IsUncutAt : Correct → Option ℕ → Recorded → Fault → Type 0
IsUncutAt correct until t (fault.Report option.Until o) = HasCorrect correct t × IsNoTickOf until t o
IsUncutAt correct until t w = IsOutside correct t w

-- why no certificate is checked by the trace
abbrev pub IsUncut : Claim → Recorded → Fault → Type 0
IsUncut claim = IsUncutAt claim.correct claim.until

-- why this one isn't: the same, or else the first refusal of the certificate
abbrev pub IsUnchecked : Claim → List ℕ → Recorded → Fault → Type 0
IsUnchecked claim certificate t (fault.Certificate reason) =
    IsUncertified claim.correct claim.until certificate reason t × IsRefusalOfText reason
IsUnchecked claim certificate t w = IsUncut claim t w

-- what the command may report: a refusal of a certificate, or what it may report about the trace alone
abbrev pub IsToldOfChecks : Claim → Fault → Type 0
IsToldOfChecks claim (fault.Certificate reason) = IsRefusalOfText reason
IsToldOfChecks claim w = MayTell (IsUncut claim) w

-- if the fault is a failed read, a call of one of two readers answered a fault; else none did
abbrev pub IsEitherReadFault : ℕ → ℕ → ℕ → ℕ → Fault → Type 0
IsEitherReadFault old new other_old other_new fault.Read = (Rose old new × (other_new ≡ other_old))
    ⊎ ((new ≡ old) × Rose other_old other_new)
IsEitherReadFault old new other_old other_new _ = (new ≡ old) × (other_new ≡ other_old)
