-- What is made is the translation.
use Rattle.monad_lang.specs.CodeProgram.{mon_of}
use Rattle.rule_eq.specs.CodeRule.{tree_of}
use Rattle.rule_walks.specs.CodeWalks.{made_in}
use Rattle.polish.specs.CodePoint.{root_point}
use Rattle.polish.proofs.Made.{taken_there, gives_there, tidy_there, forms_there}
use Rattle.polish.proofs.translation.translate.Goals as goal

pub returns-clause-taken : goal.returns-clause-taken
returns-clause-taken c = λ laid given g.
    taken_there (root_point c.args.unit c.args.parameters.now) (mon_of c.args.left.now)
    (made_in c.in_ok-program.field-0) (tree_of c.in_ok-tree.tree) c.in_ok-program.ensures c.in_ok-tree.ensures laid given g

pub returns-clause-sorted : goal.returns-clause-sorted
returns-clause-sorted c = λ laid given g.
    gives_there (root_point c.args.unit c.args.parameters.now) (mon_of c.args.left.now)
    (made_in c.in_ok-program.field-0) (tree_of c.in_ok-tree.tree) c.in_ok-program.ensures c.in_ok-tree.ensures laid given g

pub returns-clause-tidy : goal.returns-clause-tidy
returns-clause-tidy c =
    tidy_there (root_point c.args.unit c.args.parameters.now) (mon_of c.args.left.now)
    (made_in c.in_ok-program.field-0) (tree_of c.in_ok-tree.tree) c.in_ok-program.ensures c.in_ok-tree.ensures

pub returns-clause-forms : goal.returns-clause-forms
returns-clause-forms c =
    forms_there (root_point c.args.unit c.args.parameters.now) (mon_of c.args.left.now)
    (made_in c.in_ok-program.field-0) (tree_of c.in_ok-tree.tree) c.in_ok-program.ensures c.in_ok-tree.ensures
