use Rattle.patience_laws.proofs.LeastRounds.{listing-ends, locking-ends, acknowledging-ends, releasing-ends, phase-ends}
use Rattle.patience_laws.proofs.laws.least_laws.Goals as goal

pub returns-clause-listing : goal.returns-clause-listing
returns-clause-listing c patience set trace g d f round x keeps touch there low part =
    listing-ends patience set trace g d f keeps round x touch there low part

pub returns-clause-locking : goal.returns-clause-locking
returns-clause-locking c patience set trace g d f round x keeps touch there low part =
    locking-ends patience set trace g d f keeps round x touch there low part

pub returns-clause-acknowledging : goal.returns-clause-acknowledging
returns-clause-acknowledging c patience set trace g d f round x keeps touch there low part owe =
    acknowledging-ends patience set trace g d f keeps round x touch there low part owe

pub returns-clause-releasing : goal.returns-clause-releasing
returns-clause-releasing c patience set trace g d f round x keeps touch there low part =
    releasing-ends patience set trace g d f keeps round x touch there low part

pub returns-clause-phase : goal.returns-clause-phase
returns-clause-phase c patience set trace g d f round x keeps touch there low part owe =
    phase-ends patience set trace g d f keeps round x touch there low part owe
