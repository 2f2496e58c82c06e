-- Programs lifted to typed heaps: each load becomes a read and each store a write, and of a test that a pointer may
-- point, directly before that of its tag, the tag's stays; the tree of rules that leads there; and the condition for
-- it: each load and store stands where it is known that its root is covered and each index in range, by facts of the
-- right side.
use Rattle.std.specs.Prelude.{◌≡◌, Bool, true, false, not, ◌&&◌, List, [], ◌∷◌, if◌then◌else◌}
use Rattle.c_values.specs.Name.{Name}
use Rattle.c_values.specs.Types.{same_type}
use Rattle.c_values.specs.Layout.{Layout}
use Rattle.expression_lang.specs.Expression as E
use Rattle.expression_lang.specs.Expression.{Exp}
use Rattle.ac_expr.specs.Heads.{hole}
use Rattle.ac_expr.specs.Fact.{Fact, Whole, NotTrue}
use Rattle.ac_expr.specs.SameExp.{same_exp}
use Rattle.monad_lang.specs.Program as M
use Rattle.expression_lang.specs.Sort.{Level, is_lifted}
use Rattle.monad_lang.specs.Program.{Mon, Start, FinalFn, FinalUnit}
use Rattle.monad_lang.specs.Form.{program_has, is_bytes, is_heaps, no_place}
use Rattle.program_facts.specs.Flow.{facts_after}
use Rattle.rule_trees.specs.RuleTree.{Tree, Trees, node, no_trees, tree}
use Rattle.rule_heap.specs.Rule as R
use Rattle.rule_heap.specs.Rule.{Rule}
use Rattle.rule_heap.specs.Table.{IsPlace}
use Rattle.monad_lang.specs.Calls.{calls_only}
use Rattle.rule_heap.specs.ExpLifted.{exp_lifted, path_lifted, exp_tree, path_trees, leaf, over_one, over_two, IsReady, IsPathReady}

-- the right side

abbrev pub exps_lifted : List Exp → List Exp
exps_lifted [] = []
exps_lifted (e ∷ es) = exp_lifted e ∷ exps_lifted es

abbrev pub starts_lifted : List Start → List Start
starts_lifted [] = []
starts_lifted (x ∷ xs) = record { name = x.name; exp = exp_lifted x.exp } ∷ starts_lifted xs

abbrev pub place_lifted : M.Place → M.Place
place_lifted (M.Stored t p path) = M.Written t (exp_lifted p) (path_lifted path)
place_lifted (M.Written t p path) = M.Written t (exp_lifted p) (path_lifted path)
place_lifted (M.Global x path) = M.Global x (path_lifted path)

-- a test that a pointer may point, and then that of its tag
abbrev pub is_pair : Mon → List Name → Mon → Bool
is_pair (M.Guard (E.PtrOk t p)) [] (M.Bind (M.Guard (E.Tagged u q)) [] m) = same_type u t && same_exp q p
is_pair _ _ _ = false

abbrev pub on_heaps : Mon → Mon
on_heaps (M.Ret es) = M.Ret (exps_lifted es)
on_heaps (M.Bind m xs n) = if is_pair m xs n then on_heaps n else M.Bind (on_heaps m) xs (on_heaps n)
on_heaps (M.Guard e) = M.Guard (exp_lifted e)
on_heaps (M.If e m n) = M.If (exp_lifted e) (on_heaps m) (on_heaps n)
on_heaps (M.Write place e) = M.Write (place_lifted place) (exp_lifted e)
on_heaps (M.Loop starts guard test m) = M.Loop (starts_lifted starts) (exp_lifted guard) (exp_lifted test) (on_heaps m)
on_heaps (M.Call f es) = M.Call f (exps_lifted es)
on_heaps (M.Pick k) = M.Pick k

-- the tree

abbrev pub is_ptrok : Exp → Bool
is_ptrok (E.PtrOk t p) = true
is_ptrok _ = false

-- nothing is to be done: no load, no store and no such test is in it
abbrev pub is_plain : Mon → Bool
is_plain m = is_heaps m && not (program_has is_ptrok no_place m)

abbrev pub exp_trees : List Exp → Trees Rule → Trees Rule
exp_trees [] more = more
exp_trees (e ∷ es) more = tree (exp_tree e) (exp_trees es more)

abbrev pub start_trees : List Start → Trees Rule → Trees Rule
start_trees [] more = more
start_trees (x ∷ xs) more = tree (exp_tree x.exp) (start_trees xs more)

abbrev pub place_tree : M.Place → Tree Rule → Tree Rule
place_tree (M.Stored t p path) e = node R.Write (tree (exp_tree p) (path_trees path (tree e no_trees)))
place_tree (M.Written t p path) e = leaf R.Same
place_tree (M.Global x path) e = node R.Global (path_trees path (tree e no_trees))

-- the tree of a program, and that of its second part if it has one
pub record TreesOf : Type 0 where
  pub here : Tree Rule
  pub second : Tree Rule

-- what a test of a pointer looks at
abbrev pub root_of : Mon → Exp
root_of (M.Guard (E.PtrOk t p)) = p
root_of m = hole

abbrev pub bind_tree : Bool → Mon → Tree Rule → TreesOf → Tree Rule
bind_tree true m first n = over_two R.Pointer (exp_tree (root_of m)) n.second
bind_tree false m first n = over_two R.Bind first n.here

abbrev pub same_or : Mon → Tree Rule → Tree Rule
same_or m t = if is_plain m then leaf R.Same else t

abbrev pub alone : Mon → Tree Rule → TreesOf
alone m t = record { here = same_or m t; second = leaf R.Same }

abbrev pub trees_of : Mon → TreesOf
trees_of (M.Ret es) = alone (M.Ret es) (node R.Ret (exp_trees es no_trees))
trees_of (M.Bind m xs n) = record {
  here = same_or (M.Bind m xs n) (bind_tree (is_pair m xs n) m (trees_of m).here (trees_of n));
  second = (trees_of n).here;
}
trees_of (M.Guard e) = alone (M.Guard e) (over_one R.Guard (exp_tree e))
trees_of (M.If e m n) =
    alone (M.If e m n) (node R.If (tree (exp_tree e) (tree (trees_of m).here (tree (trees_of n).here no_trees))))
trees_of (M.Write place e) = alone (M.Write place e) (place_tree place (exp_tree e))
trees_of (M.Loop starts guard test m) =
    alone (M.Loop starts guard test m)
    (node R.Loop (start_trees starts (tree (exp_tree guard) (tree (exp_tree test) (tree (trees_of m).here no_trees)))))
trees_of (M.Call f es) = alone (M.Call f es) (node R.Call (exp_trees es no_trees))
trees_of (M.Pick k) = alone (M.Pick k) (leaf R.Pick)

abbrev pub heap_tree : Mon → Tree Rule
heap_tree m = (trees_of m).here

-- the condition

abbrev pub AreReady : Layout → List Fact → List Exp → Type 0
AreReady l fs [] = Unit {0}
AreReady l fs (e ∷ es) = IsReady l fs e × AreReady l fs es

abbrev pub AreStartsReady : Layout → List Fact → List Start → Type 0
AreStartsReady l fs [] = Unit {0}
AreStartsReady l fs (x ∷ xs) = IsReady l fs x.exp × AreStartsReady l fs xs

abbrev pub IsPlaceReady : Layout → List Fact → M.Place → Type 0
IsPlaceReady l fs (M.Stored t p path) =
    IsPlace l fs t (exp_lifted p) (path_lifted path) × IsReady l fs p × IsPathReady l fs path
IsPlaceReady l fs (M.Written t p path) = ⊥
IsPlaceReady l fs (M.Global x path) = IsPathReady l fs path

abbrev pub Where : Bool → Type 0 → Type 0 → Type 0
Where true P Q = P
Where false P Q = Q

abbrev pub IsHeapReady : Layout → List Fact → Mon → Type 0
IsHeapReady l fs (M.Ret es) = AreReady l fs es
IsHeapReady l fs (M.Bind m xs n) =
    Where (is_pair m xs n) (IsHeapReady l fs n) (IsHeapReady l fs m × IsHeapReady l (facts_after (on_heaps m) xs fs) n)
IsHeapReady l fs (M.Guard e) = IsReady l fs e
IsHeapReady l fs (M.If e m n) =
    IsReady l fs e × IsHeapReady l (Whole (exp_lifted e) ∷ fs) m × IsHeapReady l (NotTrue (exp_lifted e) ∷ fs) n
IsHeapReady l fs (M.Write place e) = IsPlaceReady l fs place × IsReady l fs e
IsHeapReady l fs (M.Loop starts guard test m) =
    AreStartsReady l fs starts × IsReady l [] guard × IsReady l (Whole (exp_lifted guard) ∷ []) test
    × IsHeapReady l (Whole (exp_lifted test) ∷ Whole (exp_lifted guard) ∷ []) m
IsHeapReady l fs (M.Call f es) = AreReady l fs es
IsHeapReady l fs (M.Pick k) = Unit {0}

-- a function of a unit: its program where it is lifted
abbrev pub function_on_heaps : FinalFn → FinalFn
function_on_heaps f = record {
  name = f.name;
  level = f.level;
  params = f.params;
  results = f.results;
  body = if is_lifted f.level then on_heaps f.body else f.body;
}

abbrev pub functions_on_heaps : List FinalFn → List FinalFn
functions_on_heaps [] = []
functions_on_heaps (f ∷ fs) = function_on_heaps f ∷ functions_on_heaps fs

abbrev pub unit_on_heaps : FinalUnit → FinalUnit
unit_on_heaps u = record { layout = u.layout; globals = u.globals; functions = functions_on_heaps u.functions }

-- each function is at its level; and a lifted one's program is on bytes, calls lifted functions alone and is ready,
-- from no facts
pub record IsLiftable (l : Layout) (levels : Name → Level) (m : Mon) : Type 0 where
  pub bytes : is_bytes m ≡ true
  pub calls : calls_only (λ x. is_lifted (levels x)) m ≡ true
  pub ready : IsHeapReady l [] m

abbrev pub IsFunctionReady : Layout → (Name → Level) → FinalFn → Type 0
IsFunctionReady l levels f = (f.level ≡ levels f.name) × (is_lifted f.level ≡ true → IsLiftable l levels f.body)

abbrev pub AreFunctionsReady : Layout → (Name → Level) → List FinalFn → Type 0
AreFunctionsReady l levels [] = Unit {0}
AreFunctionsReady l levels (f ∷ fs) = IsFunctionReady l levels f × AreFunctionsReady l levels fs
