-- What is written, the part that is left, and the endings put aside are the whole; the steps so far, and those left, are the path's.
use Rattle.std.proofs.Common.{◌≡◌, ◌≤◌, ◌+◌, ◌*◌, ◌++◌, max}
use Rattle.std.specs.Prelude.{codes}
use Rattle.expression_lang.specs.declared.expression.Exp.{size-Exp}
use Rattle.expression_lang.specs.declared.paths.Path.{size-Path}
use Rattle.expression_lang.specs.CodeExpression.{exp_of, path_of}
use Rattle.abs_print.specs.Texts.{each_after}
use Rattle.abs_print.specs.Expressions.{exp_text, step_texts}
use Rattle.abs_print.specs.CodeEndings.{endings_text}
use Rattle.abs_print.proofs.expressions.+expressions.Given as goal

abbrev pub invariant-push_exp-along : goal.invariant-push_exp-along
invariant-push_exp-along l = record {
  same : l.out.items ++ (exp_text (exp_of l.rest) ++ endings_text l.endings.items) ≡ l.fn.out.items ++ exp_text (exp_of l.fn.e);
  smaller : size-Exp l.rest ≤ size-Exp l.fn.e;
}

abbrev pub decreases-push_exp-along : goal.decreases-push_exp-along
decreases-push_exp-along l = size-Exp l.rest

abbrev pub invariant-push_steps-steps : goal.invariant-push_steps-steps
invariant-push_steps-steps l = record {
  same : l.out.items ++ each_after (codes " ") (step_texts (path_of l.rest)) ≡ l.fn.out.items ++ each_after (codes " ") (step_texts (path_of l.fn.path));
  smaller : size-Path l.rest ≤ size-Path l.fn.path;
}

abbrev pub decreases-push_steps-steps : goal.decreases-push_steps-steps
decreases-push_steps-steps l = size-Path l.rest

abbrev pub decreases-push_exp : goal.decreases-push_exp
decreases-push_exp l = 4 * size-Exp l.e.now + 1

abbrev pub decreases-push_front : goal.decreases-push_front
decreases-push_front l = 4 * size-Exp l.e.now

abbrev pub decreases-push_two : goal.decreases-push_two
decreases-push_two l = 4 * size-Exp l.a.now + 2

abbrev pub decreases-push_if : goal.decreases-push_if
decreases-push_if l = 4 * max (size-Exp l.c.now) (size-Exp l.a.now) + 2

abbrev pub decreases-push_padd : goal.decreases-push_padd
decreases-push_padd l = 4 * size-Exp l.p.now + 2

abbrev pub decreases-push_place : goal.decreases-push_place
decreases-push_place l = 4 * max (size-Exp l.p.now) (size-Path l.path.now) + 2

abbrev pub decreases-push_global : goal.decreases-push_global
decreases-push_global l = 4 * size-Path l.path.now + 2

abbrev pub decreases-push_sel : goal.decreases-push_sel
decreases-push_sel l = 4 * max (size-Exp l.whole.now) (size-Path l.path.now) + 2

abbrev pub decreases-push_upd : goal.decreases-push_upd
decreases-push_upd l = 4 * max (size-Exp l.whole.now) (size-Path l.path.now) + 2

abbrev pub decreases-push_list_of_steps : goal.decreases-push_list_of_steps
decreases-push_list_of_steps l = 4 * size-Path l.path.now + 1

abbrev pub decreases-push_steps : goal.decreases-push_steps
decreases-push_steps l = 4 * size-Path l.path.now + 1

abbrev pub decreases-push_element : goal.decreases-push_element
decreases-push_element l = 4 * size-Exp l.index.now + 2
