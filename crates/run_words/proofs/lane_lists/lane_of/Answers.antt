use Rattle.std.proofs.Common.{◌∙◌, sym, map, arith}
use Rattle.run_words.proofs.LaneFacts.{outside}
use Rattle.run_words.proofs.lane_lists.lane_of.Goals as goal

pub returns-then-p-lt1-clause-refused : goal.returns-then-p-lt1-clause-refused
returns-then-p-lt1-clause-refused c = outside (map (λ x. x.now) c.args.names.now) c.args.part.now c.in_ok-p.p c.in_default.ensures.refused
    (omega arith) (sym c.as_bytes.ensures.value ∙ c.in_ok-p.ensures.some) c.then-p-lt1.either
