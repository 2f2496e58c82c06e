-- What expressions and programs are lifted to, with their trees; of a program, also whether there was nothing to do. And how that
-- of a whole is made of that of its parts.
use Rattle.std.specs.Prelude.{Bool, false, not, ◌&&◌, List, [], if◌then◌else◌}
use Rattle.c_values.specs.Name.{Name}
use Rattle.c_values.specs.Types.{CType}
use Rattle.expression_lang.specs.Expression as E
use Rattle.expression_lang.specs.Expression.{Exp}
use Rattle.expression_lang.specs.Form.{has, is_load}
use Rattle.expression_lang.specs.CodeShape.{Two, AndTwo, OrTwo, ImpTwo, RootTest, TaggedRoot, PtrOkRoot, PlaceHead, AtPlace, LoadPlace, ReadPlace}
use Rattle.monad_lang.specs.Program as M
use Rattle.monad_lang.specs.Program.{Mon, Start}
use Rattle.monad_lang.specs.Form.{start_has}
use Rattle.rule_trees.specs.RuleTree.{Tree, Trees, node, no_trees, tree}
use Rattle.rule_heap.specs.Rule as R
use Rattle.rule_heap.specs.Rule.{Rule}
use Rattle.rule_heap.specs.ExpLifted.{exp_lifted, exp_tree, leaf, over_two, over_three}
use Rattle.rule_heap.specs.HeapLifted.{on_heaps, heap_tree, is_plain, is_ptrok}

-- expressions

pub record LiftedExp : Type 0 where
  pub right : Exp
  pub tree : Tree Rule

abbrev pub lifted_exp : Exp → LiftedExp
lifted_exp e = record { right = exp_lifted e; tree = exp_tree e }

-- the rule at a head
abbrev pub two_rule : Two → Rule
two_rule AndTwo = R.And
two_rule OrTwo = R.Or
two_rule ImpTwo = R.Imp
two_rule _ = R.Op

abbrev pub root_rule : RootTest → Rule
root_rule TaggedRoot = R.Tagged
root_rule PtrOkRoot = R.PtrOk

abbrev pub place_rule : PlaceHead → Rule
place_rule LoadPlace = R.Load
place_rule _ = R.Op

-- a load becomes a read
abbrev pub place_lifted : PlaceHead → PlaceHead
place_lifted AtPlace = AtPlace
place_lifted LoadPlace = ReadPlace
place_lifted ReadPlace = ReadPlace

-- there is no load in it, and no test that a pointer may point
abbrev pub is_plain_exp : Exp → Bool
is_plain_exp e = not (has is_load e) && not (has is_ptrok e)

abbrev pub are_plain_starts : List Start → Bool
are_plain_starts xs = not (start_has is_load xs) && not (start_has is_ptrok xs)

-- programs

pub record Lifted : Type 0 where
  pub right : Mon
  pub tree : Tree Rule
  pub plain : Bool

abbrev pub lifted : Mon → Lifted
lifted m = record { right = on_heaps m; tree = heap_tree m; plain = is_plain m }

-- where there is nothing to do, by the rule for that
abbrev pub made : Bool → Mon → Tree Rule → Lifted
made plain right t = record { right = right; tree = if plain then leaf R.Same else t; plain = plain }

abbrev pub bound : Lifted → List Name → Lifted → Lifted
bound a xs b = made (a.plain && b.plain) (M.Bind a.right xs b.right) (over_two R.Bind a.tree b.tree)

abbrev pub tested : Bool → LiftedExp → Lifted → Lifted → Lifted
tested plain e a b = made ((plain && a.plain) && b.plain) (M.If e.right a.right b.right) (over_three R.If e.tree a.tree b.tree)

-- the trees of starts, a guard and a test come before that of the body
abbrev pub looped : Bool → List Start → Exp → Exp → (Trees Rule → Trees Rule) → Lifted → Lifted
looped plain starts guard test before a =
    made (plain && a.plain) (M.Loop starts guard test a.right) (node R.Loop (before (tree a.tree no_trees)))

-- a test that a pointer may point and that of its tag, and then a program
abbrev pub pointed : CType → LiftedExp → Lifted → Lifted
pointed t p a = made false (M.Bind (M.Guard (E.Tagged t p.right)) [] a.right) (over_two R.Pointer p.tree a.tree)
