-- What the rules of an accepted tree show follows.
use Rattle.std.proofs.Common.{subst}
use Rattle.expression_lang.specs.CodeExpression.{exp_of}
use Rattle.ac_expr.specs.CodeChain.{facts_of, scope_of_facts}
use Rattle.rule_trees.specs.RuleTree.{Checked}
use Rattle.rule_trees.proofs.Checking.{checked_accepts}
use Rattle.triple_lang.specs.Entail.{shown}
use Rattle.entailment.specs.Table.{table}
use Rattle.triple_lang.specs.CodeEntail.{tree_of}
use Rattle.entailment.proofs.ShownHolds.{shown_holds}
use Rattle.entailment.proofs.verdicts.entails.Goals as goal

pub returns-in-Ok-clause-follows : goal.returns-in-Ok-clause-follows
returns-in-Ok-clause-follows g c vs laid known =
    let scope = scope_of_facts c.args.facts.now in
    let facts = facts_of g.S.Sequence.parts c.args.facts.now in
    let tree = tree_of c.args.tree.now in
    let claim = exp_of c.args.claim.now in
    let found = subst (λ r. Checked (table c.args.lifted scope) tree (shown facts claim) 0 r) c.in-Ok.is c.checked_among.ensures in
    let accepted = checked_accepts (table c.args.lifted scope) tree (shown facts claim) 0 c.in-Ok.field-0 found in
    shown_holds c.args.lifted scope vs laid known tree facts claim accepted c.requires
