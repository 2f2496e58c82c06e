-- Exceptions taken out of a command: the rule that is taken at each node, the command in which nothing is thrown, and the tree
-- of rules that leads there. The plain rule is taken where the first part or the body is quiet, else `catch_skip` where the
-- handler is skip, else the rule with a test.
use Rattle.std.specs.Prelude.{Bool, true, false, List}
use Rattle.expression_lang.specs.Expression.{Exp, And, Not}
use Rattle.simpl_lang.specs.Command as C
use Rattle.simpl_lang.specs.Command.{Simpl}
use Rattle.rule_trees.specs.RuleTree.{Tree, node, no_trees, tree}
use Rattle.rule_exn.specs.Quiet.{quiet}
use Rattle.rule_exn.specs.Rule.{Rule, Skip, Set, Pick, Call, Throw, SeqPlain, SeqTest, Cond, Guard, WhilePlain, WhileTest, CatchPlain, CatchTest, CatchSkip}
use Rattle.rule_exn.specs.Table.{is_thrown, raised, cleared, unless_thrown}

-- a right side, and the tree that takes a left side to it
pub record Eliminated : Type 0 where
  pub right : Simpl
  pub tree : Tree Rule

abbrev pub leaf : Rule → Simpl → Eliminated
leaf rule c = record { right = c; tree = node rule no_trees }

abbrev pub over_one : Rule → Simpl → Eliminated → Eliminated
over_one rule c a = record { right = c; tree = node rule (tree a.tree no_trees) }

abbrev pub over_two : Rule → Simpl → Eliminated → Eliminated → Eliminated
over_two rule c a b = record { right = c; tree = node rule (tree a.tree (tree b.tree no_trees)) }

abbrev pub in_sequence : Bool → Eliminated → Eliminated → Eliminated
in_sequence true a b = over_two SeqPlain (C.Seq a.right b.right) a b
in_sequence false a b = over_two SeqTest (C.Seq a.right (C.Cond is_thrown C.Skip b.right)) a b

-- the handler runs with the flag cleared
abbrev pub caught_by_test : Eliminated → Eliminated → Eliminated
caught_by_test a b = over_two CatchTest (C.Seq a.right (C.Cond is_thrown (C.Seq cleared b.right) C.Skip)) a b

abbrev pub caught : Bool → Simpl → Eliminated → Eliminated → Eliminated
caught true handler a b = over_one CatchPlain a.right a
caught false C.Skip a b = over_one CatchSkip (C.Seq a.right cleared) a
caught false handler a b = caught_by_test a b

abbrev pub repeated : Bool → List C.Condition → Exp → Eliminated → Eliminated
repeated true gs e a = over_one WhilePlain (C.While gs e a.right) a
repeated false gs e a = over_one WhileTest (C.While (unless_thrown gs) (And (Not is_thrown) e) a.right) a

abbrev pub exceptions_eliminated : Simpl → Eliminated
exceptions_eliminated C.Skip = leaf Skip C.Skip
exceptions_eliminated C.Throw = leaf Throw raised
exceptions_eliminated (C.Set x e) = leaf Set (C.Set x e)
exceptions_eliminated (C.SetGlobal x path e) = leaf Set (C.SetGlobal x path e)
exceptions_eliminated (C.Store t p path e) = leaf Set (C.Store t p path e)
exceptions_eliminated (C.Pick x) = leaf Pick (C.Pick x)
exceptions_eliminated (C.Call x f es) = leaf Call (C.Call x f es)
exceptions_eliminated (C.Seq a b) = in_sequence (quiet a) (exceptions_eliminated a) (exceptions_eliminated b)
exceptions_eliminated (C.Cond e a b) =
    let left = exceptions_eliminated a in
    let right = exceptions_eliminated b in over_two Cond (C.Cond e left.right right.right) left right
exceptions_eliminated (C.Guard g a) = let inner = exceptions_eliminated a in over_one Guard (C.Guard g inner.right) inner
exceptions_eliminated (C.Catch a b) = caught (quiet a) b (exceptions_eliminated a) (exceptions_eliminated b)
exceptions_eliminated (C.While gs e a) = repeated (quiet a) gs e (exceptions_eliminated a)
