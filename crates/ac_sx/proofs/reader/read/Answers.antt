use Rattle.std.proofs.Common.{ap, sym, ◌∙◌}
use Rattle.std.specs.Prelude.{option_map}
use Rattle.ac_sx.specs.CodeSx.{tree_of}
use Rattle.ac_sx.proofs.Answered.{found_tree, some_tree, only_tree, not_broken, not_deep, error_told, broken_refused, deep_refused, not_refused}
use Rattle.ac_sx.proofs.reader.read.Goals as goal

pub returns-in_err-recognise-clause-only : goal.returns-in_err-recognise-clause-only
returns-in_err-recognise-clause-only c = λ tree is low same. absurd (not_refused c.args.text.now tree c.in_err-recognise.field-0.0 (sym c.recognise.ensures ∙ c.in_err-recognise.was) is low same)

pub returns-in_err-recognise-clause-fault : goal.returns-in_err-recognise-clause-fault
returns-in_err-recognise-clause-fault c = error_told c.from_residual.result c.args.text.now c.in_err-recognise.field-0.0 c.from_residual.ensures.1 (sym c.recognise.ensures ∙ c.in_err-recognise.was)

pub returns-in_err-recognise-clause-no_text : goal.returns-in_err-recognise-clause-no_text
returns-in_err-recognise-clause-no_text c = λ at cause. broken_refused c.from_residual.result c.args.text.now c.in_err-recognise.field-0.0 at c.from_residual.ensures.1 (sym c.recognise.ensures ∙ c.in_err-recognise.was) cause

pub returns-in_err-recognise-clause-deep : goal.returns-in_err-recognise-clause-deep
returns-in_err-recognise-clause-deep c = λ at cause. deep_refused c.from_residual.result c.args.text.now c.in_err-recognise.field-0.0 at c.from_residual.ensures.1 (sym c.recognise.ensures ∙ c.in_err-recognise.was) cause

pub unreachable-requires : goal.unreachable-requires
unreachable-requires c = some_tree c.args.text.now c.in_ok-recognise.field-0 (sym c.recognise.ensures ∙ c.in_ok-recognise.was) (sym (ap (option_map tree_of) c.in-None.is) ∙ c.in_ok-tree.ensures)

pub returns-clause-found : goal.returns-clause-found
returns-clause-found c = found_tree c.args.text.now c.in_ok-recognise.field-0 (tree_of c.in-Some.tree) (sym c.recognise.ensures ∙ c.in_ok-recognise.was) (sym (ap (option_map tree_of) c.in-Some.is) ∙ c.in_ok-tree.ensures)

pub returns-clause-only : goal.returns-clause-only
returns-clause-only c = λ tree is low same. only_tree c.args.text.now tree (tree_of c.in-Some.tree) is same (sym (ap (option_map tree_of) c.in-Some.is) ∙ c.in_ok-tree.ensures)

pub returns-clause-no_text : goal.returns-clause-no_text
returns-clause-no_text c = λ at cause. not_broken c.args.text.now c.in_ok-recognise.field-0 at (sym c.recognise.ensures ∙ c.in_ok-recognise.was) cause

pub returns-clause-deep : goal.returns-clause-deep
returns-clause-deep c = λ at cause. not_deep c.args.text.now c.in_ok-recognise.field-0 at (sym c.recognise.ensures ∙ c.in_ok-recognise.was) cause
