pub mod RuleTree
pub mod CodeFound
pub mod CodeTree
pub mod CodeNodes
