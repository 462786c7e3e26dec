use Rattle.std.proofs.Common.{ℕ, ◌≡◌, ◌+◌, ◌*◌, sym, ◌∙◌, subst, arith}
use Rattle.patience_laws.proofs.Common.{HasPassedBy, deciding_round, IsInRoundFrom}
use Rattle.patience_laws.proofs.FirstMeetings.{come-together}
use Rattle.patience_laws.proofs.HeardRounds.{heard-all, phases-on, hear-out, passes-by, passed-by}
use Rattle.patience_laws.proofs.laws.meeting_laws.Goals as goal

pub returns-clause-meet : goal.returns-clause-meet
returns-clause-meet c patience set trace g d f round y keeps meet = come-together patience set trace g d f keeps round y meet

pub returns-clause-heard_out : goal.returns-clause-heard_out
returns-clause-heard_out c patience set trace g d f round y r keeps come enough low =
    heard-all patience set trace g d f keeps round y come enough r low

pub returns-clause-phases : goal.returns-clause-phases
returns-clause-phases c patience set trace g d f round y phases keeps come enough p m =
    let e : y + (trace.config.n * f + d + f) + phases * (4 * d + 2 * (trace.config.n * f) + 9 * f)
    ≡ y + (d + (trace.config.n + 1) * f) + phases * (4 * d + (2 * trace.config.n + 9) * f) = grind arith in
    subst (IsInRoundFrom trace p (round + 4 * phases)) e (phases-on patience set trace g d f keeps round y come enough phases p m)

-- the tick by which all have decided
deadline : (n d f y : ℕ) → y + (n * f + d + f) + (n + 1) * (4 * d + 2 * (n * f) + 9 * f) + f
    ≡ y + (d + (n + 1) * f) + (n + 1) * (4 * d + (2 * n + 9) * f) + f
deadline n d f y = grind arith

pub returns-clause-passed : goal.returns-clause-passed
returns-clause-passed c patience set trace g d f round y x keeps come enough is long p m =
    let e = deadline trace.config.n d f y in
    subst (HasPassedBy trace p (deciding_round trace.config round)) (e ∙ sym is)
    (passes-by patience set trace g d f keeps round y come enough p m (omega arith))

pub returns-clause-decided : goal.returns-clause-decided
returns-clause-decided c patience set trace g d f round y setup keeps come enough long = c.heard_out_laws.ensures.decided trace.config
    trace.steps set round setup keeps.run (hear-out patience set trace g d f keeps round y come enough (deciding_round trace.config round)
    (λ p m. passed-by patience set trace g d f keeps round y come enough p (deciding_round trace.config round)
    (y + (trace.config.n * f + d + f) + (trace.config.n + 1) * (4 * d + 2 * (trace.config.n * f) + 9 * f) + f)
    (passes-by patience set trace g d f keeps round y come enough p m (omega (arith, deadline trace.config.n d f y)))))
