use Rattle.std.proofs.Common.{refl}
use Rattle.certificate_checker.specs.declared.verdicts.Verdict.TheVariants.{Yes}
use Rattle.certificate_checker.proofs.Completeness.{IsUnopposed-report}
use Rattle.certificate_checker.proofs.Exactness.{NamesNothingBesideOne-unopposed, IsUnopposed-certified}
use Rattle.certificate_checker.proofs.OneVerdict.{IsVerdict-unique}
use Rattle.certificate_checker.proofs.VerdictLaws.{Certifies-from_verdict}
use Rattle.certificate_checker.proofs.laws.certificate_laws.Goals as goal

pub returns-clause-sound : goal.returns-clause-sound
returns-clause-sound c = λ set trace rows verdict. Certifies-from_verdict set trace rows Yes verdict refl

pub returns-clause-complete : goal.returns-clause-complete
returns-clause-complete c = IsUnopposed-report

pub returns-clause-exact : goal.returns-clause-exact
returns-clause-exact c = λ set trace rows. (
  λ verdict. (Certifies-from_verdict set trace rows Yes verdict refl, NamesNothingBesideOne-unopposed set trace rows verdict),
  λ certified. IsUnopposed-certified set trace rows certified.0 certified.1,
)

pub returns-clause-one : goal.returns-clause-one
returns-clause-one c = IsVerdict-unique
