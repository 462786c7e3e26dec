use Rattle.patience_laws.proofs.RoundSends.{round-ends}
use Rattle.patience_laws.proofs.RoundsHeard.{taken-by, behind-ends, hears-ends}
use Rattle.patience_laws.proofs.CaughtPhases.{makes-steps, catches-up}
use Rattle.patience_laws.proofs.laws.round_laws.Goals as goal

pub returns-clause-ends : goal.returns-clause-ends
returns-clause-ends c trace patience set g f p round x most z run time paced member phi since there few late each =
    round-ends trace patience set g f p run time paced member phi round x since there most z few late each

pub returns-clause-taken : goal.returns-clause-taken
returns-clause-taken c = taken-by

pub returns-clause-behind : goal.returns-clause-behind
returns-clause-behind c trace patience set g f p q round x most run time paced member phi since there few is heard =
    behind-ends trace patience set g f p run time paced member phi round x since there most few q is heard

pub returns-clause-hears : goal.returns-clause-hears
returns-clause-hears c trace patience set g f p round x most z run time paced member phi since there few late within size hears =
    hears-ends trace patience set g f p run time paced member phi round x since there most z few late within size hears

pub returns-clause-steps : goal.returns-clause-steps
returns-clause-steps c trace patience set g f p x count k run time paced member phi since is late =
    makes-steps trace patience set g f p run time paced member phi x since count k is late

pub returns-clause-catches_up : goal.returns-clause-catches_up
returns-clause-catches_up c trace patience set g f p q round x run time paced member phi since there low part is heard =
    catches-up trace patience set g f p run time paced member phi x since q round there low part is heard
