-- Formulas as trees (own): the grammar, and what a formula means.
use Rattle.std.specs.Prelude.{ℕ, ◌≡◌, ◌+◌, ◌*◌, ◌≤◌, List, [], ◌∷◌, ◌++◌, max}
use Rattle.decision_claims.specs.declared.formulas.Operand.{Operand}
use Rattle.decision_claims.specs.declared.formulas.Operand.TheVariants.{Number}
use Rattle.decision_claims.specs.declared.formulas.Part.{Part}
use Rattle.decision_claims.specs.declared.formulas.Part.TheVariants.{Value, Plus, Times, Over, Open}
use Rattle.decision_claims.specs.declared.formulas.Part.TheVariants.{Greatest, Comma, Close}
use Rattle.decision_claims.specs.declared.formulas.Words.{Words}
use Rattle.decision_claims.specs.declared.lexemes.Lexeme.{Lexeme}
use Rattle.decision_claims.specs.declared.lexemes.Lexeme.TheVariants as lexeme
use Rattle.decision_claims.specs.Formulas.{IsWithinLimits, Terms, operand_value, quotient}
use Rattle.decision_claims.specs.FormulaTexts.{lexemes}

-- A formula: an operand; a formula in parentheses; max with the formulas of a row; a product, a quotient, a sum; and a
-- row of formulas between commas, which is in a max alone.
pub data Tree : Type 0 where
  Leaf : Operand → Tree
  Group : Tree → Tree
  Most : Tree → Tree
  Product : Tree → Tree → Tree
  Quotient : Tree → ℕ → Tree
  Sum : Tree → Tree → Tree
  Row : Tree → Tree → Tree

-- the value of a formula
abbrev pub tree_value : Words → Tree → ℕ
tree_value words (Leaf o) = operand_value words o
tree_value words (Group a) = tree_value words a
tree_value words (Most a) = tree_value words a
tree_value words (Product a b) = tree_value words a * tree_value words b
tree_value words (Quotient a k) = quotient (tree_value words a) k
tree_value words (Sum a b) = tree_value words a + tree_value words b
tree_value words (Row a b) = max (tree_value words a) (tree_value words b)

-- how closely a formula is bound: 3 as an operand, 2 as a product, 1 as a sum, 0 as a row
abbrev pub binding : Tree → ℕ
binding (Leaf o) = 3
binding (Group a) = 3
binding (Most a) = 3
binding (Product a b) = 2
binding (Quotient a k) = 2
binding (Sum a b) = 1
binding (Row a b) = 0

-- each formula is bound as closely as its place demands: signs of one kind are read from the left
abbrev pub IsBound : Tree → Type 0
IsBound (Leaf o) = Unit {0}
IsBound (Group a) = (1 ≤ binding a) × IsBound a
IsBound (Most a) = IsBound a
IsBound (Product a b) = (2 ≤ binding a) × (3 ≤ binding b) × IsBound a × IsBound b
IsBound (Quotient a k) = (2 ≤ binding a) × IsBound a
IsBound (Sum a b) = (1 ≤ binding a) × (2 ≤ binding b) × IsBound a × IsBound b
IsBound (Row a b) = (1 ≤ binding b) × IsBound a × IsBound b

-- the parts of a formula, from left to right
abbrev pub parts_of : Tree → List Part
parts_of (Leaf o) = Value o ∷ []
parts_of (Group a) = Open ∷ (parts_of a ++ Close ∷ [])
parts_of (Most a) = Greatest ∷ (parts_of a ++ Close ∷ [])
parts_of (Product a b) = parts_of a ++ Times ∷ parts_of b
parts_of (Quotient a k) = parts_of a ++ Over k ∷ []
parts_of (Sum a b) = parts_of a ++ Plus ∷ parts_of b
parts_of (Row a b) = parts_of a ++ Comma ∷ parts_of b

-- the words and signs of these parts
abbrev pub marks : List Part → List Lexeme
marks [] = []
marks (Value o ∷ parts) = lexeme.Name o ∷ marks parts
marks (Plus ∷ parts) = lexeme.Plus ∷ marks parts
marks (Times ∷ parts) = lexeme.Times ∷ marks parts
marks (Over k ∷ parts) = lexeme.Slash ∷ lexeme.Name (Number k) ∷ marks parts
marks (Open ∷ parts) = lexeme.Open ∷ marks parts
marks (Greatest ∷ parts) = lexeme.Max ∷ lexeme.Open ∷ marks parts
marks (Comma ∷ parts) = lexeme.Comma ∷ marks parts
marks (Close ∷ parts) = lexeme.Close ∷ marks parts

-- no divisor is 0
abbrev pub ArePositive : List Part → Type 0
ArePositive [] = Unit {0}
ArePositive (Over k ∷ parts) = (1 ≤ k) × ArePositive parts
ArePositive (part ∷ parts) = ArePositive parts

-- The text writes the formula: it has the words and signs of a tree within the limits, and no divisor is 0.
pub record IsFormulaText (text : List ℕ) (terms : Terms) : Type 0 where
  pub tree : Tree
  pub bound : IsBound tree
  pub whole : 1 ≤ binding tree
  pub written : lexemes text ≡ marks (parts_of tree)
  pub parts : terms ≡ record { factors = []; parts = parts_of tree }
  pub limits : IsWithinLimits (parts_of tree)
  pub positive : ArePositive (parts_of tree)
