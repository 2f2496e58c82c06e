-- A rule without parts has no trees.
use Rattle.std.proofs.Common.{rules, ◌≡◌, length}
use Rattle.monad_lang.specs.CodeProgram.{mon_of}
use Rattle.rule_eq.specs.CodeRule.{point_in}
use Rattle.rule_eq.proofs.Walked.{parts_at, leaf_done, leaf_bad}
use Rattle.rule_eq.proofs.kernel.checked_leaf.Goals as goal

pub returns-then-is_empty : goal.returns-then-is_empty
returns-then-is_empty c =
    let none : length (parts_at c.args.tree.now) ≡ 0 = search rules in
    leaf_done c.args.tree.now (point_in c.args.setting c.args.facts.now c.args.inside.now) (mon_of c.args.left.now) (mon_of c.args.right.now)
    c.requires.leaf c.requires.asked c.args.at c.next.result none c.next.ensures

pub returns-else-is_empty : goal.returns-else-is_empty
returns-else-is_empty c =
    let some : length (parts_at c.args.tree.now) ≡ 0 → ⊥ = search rules in
    leaf_bad c.args.tree.now (point_in c.args.setting c.args.facts.now c.args.inside.now) (mon_of c.args.left.now) (mon_of c.args.right.now)
    c.requires.leaf c.requires.asked c.args.at some
