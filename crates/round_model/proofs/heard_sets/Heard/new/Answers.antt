use Rattle.std.proofs.Common.{◌≡◌, length, All, rules, ◌∙◌}
use Rattle.std.proofs.lemmas.List.{length-map}
use Rattle.std.proofs.lemmas.List.Elements.{All-map}
use Rattle.round_model.proofs.HeardTables.{IsEmpty, AreWithin-empty, table_of-empty}
use Rattle.round_model.proofs.heard_sets.Heard.new.Goals as goal

pub invariant_of-result : goal.invariant_of-result
invariant_of-result c =
    record {
      least = c.requires.least;
      most = c.requires.most;
      limit = c.requires.limit;
      processors = length-map _ _ ∙ c.in_ok-sets.ensures.processors;
      lengths = All-map (λ sets. length sets ≡ c.args.rounds) _ _ c.in_ok-sets.ensures.rounds;
      within = AreWithin-empty c.args.n _ (All-map (λ sets. All IsEmpty sets) _ _ c.in_ok-sets.ensures.empty);
    }

pub returns-clause-empty : goal.returns-clause-empty
returns-clause-empty c = table_of-empty (record { n = c.args.n; rounds = c.args.rounds; sets = _ })
    (λ p. search rules) (All-map (λ sets. All IsEmpty sets) _ _ c.in_ok-sets.ensures.empty)
