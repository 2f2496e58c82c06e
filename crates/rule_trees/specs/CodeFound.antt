-- What a checker's code says of a row of the table: the claims of the parts, where all that is asked holds.
use Rattle.std.specs.Prelude.{◌≡◌, ℕ, Bool, true, false, List, Option, Some, None, Result, Ok, Err}
use Rattle.rule_trees.specs.RuleTree.{Row, next}

abbrev pub Finds : {Claim : Type 0} → Row Claim → Option (List Claim) → Type 0
Finds row None = row.holds → ⊥
Finds row (Some cs) = row.holds × (row.parts ≡ cs)

-- the answer at a node without parts
abbrev pub leaf_answer : Bool → ℕ → Result ℕ ℕ
leaf_answer true at = Ok (next at)
leaf_answer false at = Err at
