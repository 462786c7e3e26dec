use Rattle.decision_claims.proofs.ReadTrees.{tree-of-read}
use Rattle.decision_claims.proofs.TreeReadings.{read_formula-tree}
use Rattle.decision_claims.proofs.TreeValues.{value_of-tree}
use Rattle.decision_claims.proofs.laws.formula_laws.Goals as goal

pub returns-clause-read : goal.returns-clause-read
returns-clause-read c = λ text terms. (tree-of-read text terms, read_formula-tree text terms)

pub returns-clause-value : goal.returns-clause-value
returns-clause-value c = value_of-tree
