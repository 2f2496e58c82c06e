-- The globals are those of the unit, and the rules stand among those of programs.
use Rattle.std.proofs.Common.{List, subst}
use Rattle.c_values.specs.declared.values.GlobalVar as G
use Rattle.expression_lang.specs.CodeExpression.{exp_of}
use Rattle.expression_lang.specs.CodeSort.{scope_by}
use Rattle.ac_expr.specs.CodeChain.{facts_of}
use Rattle.rule_trees.specs.RuleTree.{Checked}
use Rattle.triple_lang.specs.Entail as E
use Rattle.entailment.specs.Table as T
use Rattle.triple_lang.specs.CodeEntail as C
use Rattle.hoare_check.specs.CodePosed.{ground_of}
use Rattle.hoare_check.proofs.AsShown.{shown_among}
use Rattle.hoare_check.proofs.assertions.shown.Goals as goal

pub returns : goal.returns
returns g c =
    let k = ground_of c.args.ground.now in
    let ns = g.N.Scope.scalars c.args.names.now in
    let facts = facts_of g.S.Sequence.parts c.args.facts.now in
    let claim = exp_of c.args.claim.now in
    let tree = C.tree_of c.args.tree.now in
    shown_among k ns tree facts claim c.args.at c.checked.result
    (subst (λ (gs : List G.GlobalVar). Checked (T.table k.lifted (scope_by k.unit.layout ns gs)) tree (E.shown facts claim) c.args.at c.checked.result)
    c.deref.ensures.value c.checked.ensures)
