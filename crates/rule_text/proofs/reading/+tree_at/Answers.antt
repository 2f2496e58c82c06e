use Rattle.std.proofs.Common.{arith}
use Rattle.std.proofs.lemmas.Result.{err_from_is_err_and}
use Rattle.ac_sx.specs.CodeSx.{tree_of, trees_in}
use Rattle.rule_trees.specs.CodeTree as code
use Rattle.rule_text.specs.RuleReading.{trees_at}
use Rattle.rule_text.proofs.NodesRead.{front_refused, part_refused, part_read, node_read}
use Rattle.rule_text.proofs.reading.+tree_at.Goals as goal

pub returns-in_err-rule : goal.returns-in_err-rule
returns-in_err-rule g t c =
    let bad = front_refused g.R.RuleReading.words c.in_err-rule.field-0.0 c.args.at c.in-Some-headed.word.now (trees_in c.in-Some-headed.parts.now) (tree_of c.args.tree.now) c.in_default.ensures c.in-Some-headed.ensures.parts c.in_err-rule.ensures.read in
    let p = err_from_is_err_and c.from_residual.result c.from_residual.ensures.1 in
    rw (p.1, p.2) bad

pub returns-in_err-part : goal.returns-in_err-part
returns-in_err-part g t c =
    let bad =
    part_refused g.R.RuleReading.words c.in_err-part.field-0.0 c.args.at c.parts.here c.in_ok-rule.inner c.in-Some-headed.word.now (trees_in c.in-Some-headed.parts.now) (trees_in c.in_ok-rule.others.now) (trees_in c.parts.rest.now) (trees_in c.in-Some-first.others.now)
    (tree_of c.args.tree.now) (tree_of c.in-Some-first.part.now) (g.R.RuleReading.plain_of c.in_ok-rule.rule) (code.trees_in g.R.RuleReading.plain_of c.parts.parts.items) c.in_default.ensures c.in-Some-headed.ensures.parts c.in_ok-rule.ensures.read c.in-Some-first.ensures.parts
    c.in_err-part.ensures c.parts.invariant.same in
    let p = err_from_is_err_and c.from_residual-in_err-part.result c.from_residual-in_err-part.ensures.1 in
    rw (p.1, p.2) bad

pub parts-preserved : goal.parts-preserved
parts-preserved g t c = record {
  same =
      part_read g.R.RuleReading.words g.R.RuleReading.plain_of c.parts.parts.items c.push.new.self.items c.in_ok-part.part c.parts.here c.in_ok-part.behind (trees_in c.parts.rest.now) (trees_in c.in-Some-first.others.now) (tree_of c.in-Some-first.part.now)
      (trees_at g.R.RuleReading.words c.in_ok-rule.inner (trees_in c.in_ok-rule.others.now)) c.in-Some-first.ensures.parts c.in_ok-push.ensures.items c.in_ok-part.ensures c.parts.invariant.same;
  smaller = omega (arith, c.in-Some-first.ensures.smaller, c.parts.invariant.smaller);
}

pub returns : goal.returns
returns g t c =
    node_read g.R.RuleReading.words g.R.RuleReading.plain_of c.args.at c.parts.here c.in_ok-rule.inner c.in-Some-headed.word.now (trees_in c.in-Some-headed.parts.now) (trees_in c.in_ok-rule.others.now) (trees_in c.parts.rest.now) (tree_of c.args.tree.now)
    (record { rule = c.in_ok-rule.rule; parts = c.parts.parts }) c.in_default.ensures c.in-Some-headed.ensures.parts c.in_ok-rule.ensures.read c.in_default-first.ensures.parts c.parts.invariant.same
