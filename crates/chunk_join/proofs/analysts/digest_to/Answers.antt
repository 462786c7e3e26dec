use Rattle.chunk_join.proofs.analysts.digest_to.Goals as goal

pub take_in-requires-clause-before : goal.take_in-requires-clause-before
take_in-requires-clause-before c = rw c.in_ok-digest.ensures.copied c.requires.before
