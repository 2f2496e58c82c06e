-- The conditions put aside, before what is left, are the whole.
use Rattle.std.proofs.Common.{◌≡◌, map}
use Rattle.expression_lang.specs.declared.expression.Exp.{size-Exp}
use Rattle.expression_lang.specs.CodeExpression.{exp_of}
use Rattle.word_abstract.specs.CodeGuards.{all_hold}
use Rattle.word_abstract.specs.CodeAbstracted.{abstracted_in}
use Rattle.word_abstract.specs.CodeScenes.{guard_there, guard_behind}
use Rattle.word_abstract.proofs.lists.guard_at.Given as goal

abbrev pub invariant-along : goal.invariant-along
invariant-along l = all_hold (map abstracted_in l.before.items) (guard_behind l.at l.own.items (exp_of l.rest)) ≡ guard_there l.at (exp_of l.e)

abbrev pub decreases-along : goal.decreases-along
decreases-along l = size-Exp l.rest
