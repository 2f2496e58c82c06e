-- Rows of the table, worked: a set that is looked at and one that isn't, a sequence, a loop and a start; and a loop that leaves out what it
-- assigns and looks at again, which is no row.
use Rattle.std.proofs.Common.{◌≡◌, Bool, true, false, not, ◌&&◌, ◌||◌, [], ◌∷◌, codes, refl, sym, subst}
use Rattle.std.proofs.lemmas.Bool.{false≢true, or_left}
use Rattle.c_values.specs.Name.{Name, same_name, is_among}
use Rattle.c_values.proofs.Laid.{name_is}
use Rattle.expression_lang.specs.Expression.{Exp, Var, TruthLit, Not}
use Rattle.expression_lang.specs.Sort.{BoolKind}
use Rattle.expression_lang.specs.Signature.{binder}
use Rattle.simpl_lang.specs.Command as C
use Rattle.monad_lang.specs.Program as M
use Rattle.rule_trees.specs.RuleTree.{Tree, node, no_trees, tree}
use Rattle.rule_local.specs.Rule.{Rule, Set, Dead, Seq, While, Start, Context}
use Rattle.rule_local.specs.Table.{row, Takes, TakesWhole}
use Rattle.rule_local.specs.Lifted.{lifted, locals_lifted}

abbrev x : Name
x = codes "x"

abbrev y : Name
y = codes "y"

abbrev here : Context
here = record { locals = binder x BoolKind ∷ binder y BoolKind ∷ []; parameters = x ∷ [] }

abbrev leaf : Rule → Tree Rule
leaf rule = node rule no_trees

abbrev no : Exp
no = TruthLit false

-- the expression stands where the local would
set_row : Takes here (leaf Set) (C.Set x (Not (Var y))) (M.Ret (Not (Var y) ∷ Var y ∷ [])) (x ∷ y ∷ [])
set_row = (((refl, refl), tt), tt)

dead_row : Takes here (leaf Dead) (C.Set x (Not (Var y))) (M.Ret (Var y ∷ [])) (y ∷ [])
dead_row = (((refl, refl), tt), tt)

-- what the first part sets and the second looks at is handed on
seq_row : Takes here (node Seq (tree (leaf Set) (tree (leaf Set) no_trees))) (C.Seq (C.Set x no) (C.Set y (Var x))) (M.Bind (M.Ret (no ∷ [])) (x ∷ []) (M.Ret (Var x ∷ []))) (y ∷ [])
seq_row = (((λ z h k. or_left (same_name z x) false h), tt), ((((refl, refl), tt), tt), ((((refl, refl), tt), tt), tt)))

-- the loop tests x again
loop_row : Takes here (node While (tree (leaf Set) no_trees)) (C.While [] (Var x) (C.Set x no))
    (M.Bind (M.Loop (record { name = x; exp = Var x } ∷ []) (TruthLit true) (Var x) (M.Ret (no ∷ []))) (x ∷ []) (M.Ret [])) []
loop_row = (((refl, refl, refl, refl, (λ z h k. or_left (same_name z x) false h)), tt), ((((refl, refl), tt), tt), tt))

left_out : (row here false [] While (C.While [] (Var x) (C.Set x no)) (M.Bind (M.Loop [] (TruthLit true) (Var x) (M.Ret [])) [] (M.Ret []))).holds → ⊥
left_out h = false≢true (h.4 x refl refl)

not_x : (z : Name) → is_among z (y ∷ []) ≡ true → is_among z (x ∷ []) ≡ false
not_x z h = subst (λ k. is_among k (x ∷ []) ≡ false) (sym (name_is z y (only (same_name z y) h))) refl
  where
    only : (b : Bool) → (b || false) ≡ true → b ≡ true
    only true h = refl
    only false h = h

none_free : {P : Type 0} → (b : Bool) → (not (b || false) && (b || false)) ≡ true → P
none_free true h = absurd (false≢true h)
none_free false h = absurd (false≢true h)

-- y is no parameter, and begins as `#f`
start_row : TakesWhole here (node Start (tree (leaf Dead) no_trees)) (C.Set x no) (M.Bind (M.Ret (no ∷ [])) (y ∷ []) (M.Ret (Var y ∷ []))) (y ∷ [])
start_row = (((refl, refl, not_x), (λ z. none_free (same_name z y))), ((((refl, refl), tt), tt), tt))

-- a loop that sets y to x and clears x
abbrev loop : C.Simpl
loop = C.While [] (Var x) (C.Seq (C.Set y (Var x)) (C.Set x no))

abbrev from : Name → M.Start
from z = record { name = z; exp = Var z }

-- both are handed on where y is looked at afterwards
both_handed_on : (lifted here.locals loop (y ∷ [])).right
    ≡ M.Bind (M.Loop (from x ∷ from y ∷ []) (TruthLit true) (Var x) (M.Bind (M.Ret (Var x ∷ [])) (y ∷ []) (M.Ret (no ∷ Var y ∷ [])))) (x ∷ y ∷ []) (M.Ret (Var y ∷ []))
both_handed_on = refl

-- and x alone where it isn't
one_handed_on : (lifted here.locals loop []).right ≡ M.Bind (M.Loop (from x ∷ []) (TruthLit true) (Var x) (M.Bind (M.Ret []) [] (M.Ret (no ∷ [])))) (x ∷ []) (M.Ret [])
one_handed_on = refl

-- y begins as `#f`
y_begins : (locals_lifted here loop (y ∷ [])).right ≡ M.Bind (M.Ret (no ∷ [])) (y ∷ []) (lifted here.locals loop (y ∷ [])).right
y_begins = refl

-- where no local needs to begin with a zero none does
none_begins : (locals_lifted here loop []).right ≡ (lifted here.locals loop []).right
none_begins = refl
