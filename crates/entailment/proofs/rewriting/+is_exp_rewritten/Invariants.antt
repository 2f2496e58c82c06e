-- What is left of the children is rewritten where the whole is, and its parts are children.
use Rattle.std.proofs.Common.{◌↔◌, length}
use Rattle.expression_lang.specs.Expression.{Exp}
use Rattle.expression_lang.specs.CodeExpression.{exp_of}
use Rattle.ac_expr.specs.Heads.{children}
use Rattle.ac_expr.specs.CodeApart.{IsAmong, size}
use Rattle.ac_expr.specs.CodeHeads.{children_in}
use Rattle.entailment.specs.Rewritten.{IsRewritten, AreRewritten}
use Rattle.entailment.proofs.rewriting.+is_exp_rewritten.Given as goal

abbrev pub invariant-along : goal.invariant-along
invariant-along l = record {
  same : AreRewritten (exp_of l.from) (exp_of l.to) (children_in l.ones) (children_in l.others)
      ↔ IsRewritten (exp_of l.from) (exp_of l.to) (exp_of l.e) (exp_of l.rest);
  among : (x : Exp) → IsAmong x (children_in l.ones) → IsAmong x (children (exp_of l.e));
}

abbrev pub decreases-along : goal.decreases-along
decreases-along l = length (children_in l.ones)

abbrev pub decreases-is_exp_rewritten : goal.decreases-is_exp_rewritten
decreases-is_exp_rewritten l = size (exp_of l.e.now)
