use Rattle.lock_phases.proofs.ListingLaws.{listing-keeps, listing-proposal, listing-quorum, listing-refused, listing-others}
use Rattle.lock_phases.proofs.laws.listing_laws.Goals as goal

pub returns-clause-keeps : goal.returns-clause-keeps
returns-clause-keeps c = listing-keeps

pub returns-clause-proposal : goal.returns-clause-proposal
returns-clause-proposal c = listing-proposal

pub returns-clause-quorum : goal.returns-clause-quorum
returns-clause-quorum c = listing-quorum

pub returns-clause-refused : goal.returns-clause-refused
returns-clause-refused c = listing-refused

pub returns-clause-others : goal.returns-clause-others
returns-clause-others c = listing-others
