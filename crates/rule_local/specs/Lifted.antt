-- Locals lifted out of a flat command: which names each sequence and each loop hands on, by liveness from the end; the program
-- that binds them, and the tree of rules that leads there. A sequence hands on what its first part assigns and its second part
-- looks at, a loop the least names that meet the loop's condition, all in the order of the function's locals.
use Rattle.std.specs.Prelude.{◌≡◌, ℕ, zero, suc, Bool, true, false, not, ◌&&◌, List, [], ◌∷◌, length, Option, Some, None, if◌then◌else◌}
use Rattle.c_values.specs.Name.{Name, is_among}
use Rattle.expression_lang.specs.Expression.{Exp}
use Rattle.expression_lang.specs.Sort.{Kind, BoolKind}
use Rattle.expression_lang.specs.Signature.{Binder, Signature, names_of}
use Rattle.simpl_lang.specs.Command as C
use Rattle.simpl_lang.specs.Command.{Simpl, SimplFn, SimplUnit, kind_of}
use Rattle.simpl_lang.specs.Form.{is_flat}
use Rattle.monad_lang.specs.Program as M
use Rattle.monad_lang.specs.Program.{Mon, FinalFn, FinalUnit}
use Rattle.monad_lang.specs.Names.{is_free}
use Rattle.rule_trees.specs.RuleTree.{Tree, node, no_trees, tree}
use Rattle.rule_local.specs.Assigned.{assigns}
use Rattle.rule_local.specs.Rule.{Rule, Skip, Set, Dead, Global, Memory, Pick, Seq, Cond, Guard, While, Call, Void, Start, Context}
use Rattle.rule_local.specs.Table.{vars, vars_with, as_starts, conj, word_kind, picked_kind, zeros, is_needed}
use Rattle.rule_local.specs.Units.{outputs_of, context_of}

-- a right side, and the tree that takes a left side to it
pub record Lifted : Type 0 where
  pub right : Mon
  pub tree : Tree Rule

abbrev pub leaf : Rule → Mon → Lifted
leaf rule m = record { right = m; tree = node rule no_trees }

abbrev pub over_one : Rule → Mon → Lifted → Lifted
over_one rule m a = record { right = m; tree = node rule (tree a.tree no_trees) }

abbrev pub over_two : Rule → Mon → Lifted → Lifted → Lifted
over_two rule m a b = record { right = m; tree = node rule (tree a.tree (tree b.tree no_trees)) }

-- those of the names that pass a test
abbrev pub chosen : (Name → Bool) → List Name → List Name
chosen test [] = []
chosen test (x ∷ xs) = if test x then x ∷ chosen test xs else chosen test xs

abbrev pub all_among : List Name → List Name → Bool
all_among [] us = true
all_among (x ∷ xs) us = is_among x us && all_among xs us

-- more names as long as there are any, in so many steps; then all
abbrev pub settled : ℕ → (List Name → List Name) → List Name → List Name → List Name
settled zero more all us = all
settled (suc n) more all us = if all_among (more us) us then us else settled n more all (more us)

-- what a loop hands on, where its body is lifted so. Each step but the last adds one of the locals.
abbrev pub handed_on : List Name → List C.Condition → Exp → Simpl → (List Name → Mon) → List Name → List Name
handed_on xs gs e a body vs =
    settled (suc (length xs)) (λ us. chosen (λ y. assigns y a && is_needed (conj gs) e (body us) vs y) xs) (chosen (λ y. assigns y a) xs) []

abbrev pub kind_there : Option Kind → Kind
kind_there (Some k) = k
kind_there None = BoolKind

-- a set is dead where the local isn't looked at afterwards
abbrev pub set_lifted : Bool → Name → Exp → List Name → Lifted
set_lifted true x e vs = leaf Set (M.Ret (vars_with x e vs))
set_lifted false x e vs = leaf Dead (M.Ret (vars vs))

abbrev pub seq_lifted : List Name → (List Name → Lifted) → Lifted → Lifted
seq_lifted us first second = over_two Seq (M.Bind (first us).right us second.right) (first us) second

abbrev pub while_lifted : List C.Condition → Exp → List Name → List Name → (List Name → Lifted) → Lifted
while_lifted gs e vs us body = over_one While (M.Bind (M.Loop (as_starts us) (conj gs) e (body us).right) us (M.Ret (vars vs))) (body us)

-- of a function with these locals, and for these outputs
abbrev pub lifted : List Binder → Simpl → List Name → Lifted
lifted bs C.Skip vs = leaf Skip (M.Ret (vars vs))
lifted bs (C.Set x e) vs = set_lifted (is_among x vs) x e vs
lifted bs (C.SetGlobal x path e) vs = leaf Global (M.Bind (M.Write (M.Global x path) e) [] (M.Ret (vars vs)))
lifted bs (C.Store t p path e) vs = leaf Memory (M.Bind (M.Write (M.Stored t p path) e) [] (M.Ret (vars vs)))
lifted bs (C.Pick x) vs = leaf Pick (M.Bind (M.Pick (kind_there (picked_kind (kind_of bs x)))) (x ∷ []) (M.Ret (vars vs)))
lifted bs (C.Seq a b) vs =
    let second = lifted bs b vs in seq_lifted (chosen (λ y. assigns y a && is_free y second.right) (names_of bs)) (λ us. lifted bs a us) second
lifted bs (C.Cond e a b) vs =
    let left = lifted bs a vs in
    let right = lifted bs b vs in over_two Cond (M.If e left.right right.right) left right
lifted bs (C.Guard g a) vs = let inner = lifted bs a vs in over_one Guard (M.Bind (M.Guard g.exp) [] inner.right) inner
lifted bs (C.While gs e a) vs = while_lifted gs e vs (handed_on (names_of bs) gs e a (λ us. (lifted bs a us).right) vs) (λ us. lifted bs a us)
lifted bs (C.Call (Some x) f es) vs = leaf Call (M.Bind (M.Call f es) (x ∷ []) (M.Ret (vars vs)))
lifted bs (C.Call None f es) vs = leaf Void (M.Bind (M.Call f es) [] (M.Ret (vars vs)))
-- no flat command throws
lifted bs C.Throw vs = leaf Skip (M.Ret (vars vs))
lifted bs (C.Catch a b) vs = lifted bs a vs

abbrev pub zeros_there : Option (List Exp) → List Exp
zeros_there (Some zs) = zs
zeros_there None = []

-- the locals that are looked at before they are set, and are no parameters, begin with zeros
abbrev pub begun : Context → List Name → Lifted → Lifted
begun ctx [] inner = inner
begun ctx (x ∷ xs) inner = over_one Start (M.Bind (M.Ret (zeros_there (zeros ctx.locals (x ∷ xs)))) (x ∷ xs) inner.right) inner

-- the body of a function
abbrev pub locals_lifted : Context → Simpl → List Name → Lifted
locals_lifted ctx a vs =
    let inner = lifted ctx.locals a vs in begun ctx (chosen (λ y. is_free y inner.right && not (is_among y ctx.parameters)) (names_of ctx.locals)) inner

-- a function of a unit. Its names are still words.
abbrev pub in_words : List Binder → List Binder
in_words [] = []
in_words (b ∷ bs) = record { name = b.name; kind = word_kind b.kind } ∷ in_words bs

abbrev pub result_in_words : Option Kind → List Kind
result_in_words None = []
result_in_words (Some k) = word_kind k ∷ []

abbrev pub function_lifted : SimplFn → Signature → FinalFn
function_lifted f s =
    record { name = f.name; level = f.level; params = in_words s.params; results = result_in_words s.result; body = (locals_lifted (context_of f s) f.body (outputs_of s.result)).right }

abbrev pub functions_lifted : List SimplFn → List Signature → List FinalFn
functions_lifted (f ∷ fs) (s ∷ ss) = function_lifted f s ∷ functions_lifted fs ss
functions_lifted _ _ = []

abbrev pub unit_lifted : SimplUnit → FinalUnit
unit_lifted u = record { layout = u.layout; globals = u.globals; functions = functions_lifted u.functions u.signatures }

abbrev pub AllFlat : List SimplFn → Type 0
AllFlat [] = Unit {0}
AllFlat (f ∷ fs) = (is_flat f.body ≡ true) × AllFlat fs
