-- A step is its program and its tree.
use Rattle.std.proofs.Common.{◌≡◌, ap₂}
use Rattle.rule_trees.specs.RuleTree.{Tree}
use Rattle.acceptance.specs.Certificate.{Step}

pub same_step : {Program Rule : Type 0} (p q : Program) (t v : Tree Rule) → p ≡ q → t ≡ v →
    (let s : Step Program Rule = record { program = p; tree = t } in s) ≡ (let s : Step Program Rule = record { program = q; tree = v } in s)
same_step {Program} {Rule} p q t v e f =
    ap₂ (λ x y. let s : Step Program Rule = record { program = x; tree = y } in s) e f
