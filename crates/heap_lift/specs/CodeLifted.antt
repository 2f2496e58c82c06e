-- What the code's lifted programs stand for, and programs whose last program is apart, with the other parts lifted.
use Rattle.std.specs.Prelude.{◌≡◌, ◌<◌, ℕ, List, [], ◌∷◌, ◌&&◌}
use Rattle.c_values.specs.Name.{Name}
use Rattle.c_values.specs.CodeTypes.{type_of}
use Rattle.expression_lang.specs.Expression as E
use Rattle.expression_lang.specs.CodeExpression.{exp_of}
use Rattle.monad_lang.specs.declared.program.Mon.{size-Mon}
use Rattle.monad_lang.specs.Program as M
use Rattle.monad_lang.specs.Program.{Mon}
use Rattle.monad_lang.specs.CodeProgram.{mon_of}
use Rattle.monad_lang.specs.CodeFront as apart
use Rattle.rule_trees.specs.RuleTree.{node, no_trees, tree}
use Rattle.rule_heap.specs.CodeRule.{rule_of, tree_of}
use Rattle.heap_lift.specs.declared.programs.Lifted as L
use Rattle.heap_lift.specs.declared.fronts.Front as F
use Rattle.heap_lift.specs.declared.pairs.Pair as P
use Rattle.heap_lift.specs.declared.translation.Peel as Q
use Rattle.heap_lift.specs.CodeTrees.{with_trees}
use Rattle.heap_lift.specs.Lifted.{Lifted, lifted, made}

abbrev pub lifted_in : L.Lifted → Lifted
lifted_in l = record { right = mon_of l.right.value; tree = tree_of l.tree; plain = l.is_plain }

abbrev pub with_front : F.Front → Lifted → Lifted
with_front front last =
    made (front.is_plain && last.plain) (apart.with_front front.program last.right)
    (node (rule_of front.rule) (with_trees front.trees.items (tree last.tree no_trees)))

-- the first front first
abbrev pub with_fronts : List F.Front → Lifted → Lifted
with_fronts [] last = last
with_fronts (x ∷ xs) last = with_front x (with_fronts xs last)

abbrev pub peeled_in : Q.Peel → Lifted
peeled_in (Q.TheVariants.Ended l) = lifted_in l.value
peeled_in (Q.TheVariants.Last front last) = with_front front (lifted (mon_of last.now))

abbrev pub LastIsSmaller : Q.Peel → ℕ → Type 0
LastIsSmaller (Q.TheVariants.Ended l) n = Unit {0}
LastIsSmaller (Q.TheVariants.Last front last) n = size-Mon last.now < n

-- a program, names and a program that are a pair of tests, and what comes then
abbrev pub IsPair : P.Pair → Mon → List Name → Mon → Type 0
IsPair pair m xs n =
    (m ≡ M.Guard (E.PtrOk (type_of pair.ty.now) (exp_of pair.pointer.now))) × (xs ≡ [])
    × (n ≡ M.Bind (M.Guard (E.Tagged (type_of pair.ty.now) (exp_of pair.pointer.now))) [] (mon_of pair.rest.now))

abbrev pub IsNoPointerTest : Mon → Type 0
IsNoPointerTest (M.Guard (E.PtrOk t p)) = ⊥
IsNoPointerTest _ = Unit {0}

abbrev pub IsNoTagTest : Mon → Type 0
IsNoTagTest (M.Bind (M.Guard (E.Tagged t p)) [] n) = ⊥
IsNoTagTest _ = Unit {0}
