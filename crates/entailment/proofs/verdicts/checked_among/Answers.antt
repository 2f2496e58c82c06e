-- The layout, the names and the globals of facts are their scope.
use Rattle.std.proofs.Common.{◌≡◌, true, sym, subst}
use Rattle.expression_lang.specs.CodeExpression.{exp_of}
use Rattle.expression_lang.specs.Sort.{Scope, sort_of, is_truth}
use Rattle.ac_expr.specs.CodeChain.{facts_of, scope_of_facts}
use Rattle.rule_trees.specs.RuleTree.{Checked}
use Rattle.triple_lang.specs.Entail.{shown}
use Rattle.entailment.specs.Table.{table}
use Rattle.triple_lang.specs.CodeEntail.{tree_of}
use Rattle.entailment.proofs.Scopes.{scope_is}
use Rattle.entailment.proofs.verdicts.checked_among.Goals as goal

pub checked-requires : goal.checked-requires
checked-requires g c =
    let here = scope_is (scope_of_facts c.args.facts.now) c.layout_of.result.now c.globals_of.result.now c.layout_of.ensures c.globals_of.ensures in
    subst (λ (h : Scope). is_truth (sort_of h (exp_of c.args.claim.now)) ≡ true) (sym here) c.requires

pub returns : goal.returns
returns g c =
    let here = scope_is (scope_of_facts c.args.facts.now) c.layout_of.result.now c.globals_of.result.now c.layout_of.ensures c.globals_of.ensures in
    let claim = shown (facts_of g.S.Sequence.parts c.args.facts.now) (exp_of c.args.claim.now) in
    subst (λ (h : Scope). Checked (table c.args.lifted h) (tree_of c.args.tree.now) claim 0 c.checked.result) here c.checked.ensures
