-- What it is for generation to be exact for expressions, places and arguments: they are defined where no condition is
-- refused, with the value that their Simpl expression has, and else undefined by the kind of the first that is refused.
use Rattle.std.proofs.Common.{◌≡◌, ℕ, true, List, ◌++◌, Option, Some, None, Ok, Err}
use Rattle.c_values.specs.Name.{Name}
use Rattle.c_values.specs.Types.{CType}
use Rattle.c_values.specs.Value as V
use Rattle.c_values.specs.Layout.{Layout, GlobalVar, Shape, shape_of, is_object, is_scalar, global_type}
use Rattle.c_values.specs.Path.{Step, HasShape}
use Rattle.c_values.proofs.Leads.{Leads}
use Rattle.expression_lang.specs.Evaluation.{Env, State, holds}
use Rattle.expression_lang.specs.Evaluation as E
use Rattle.expression_lang.specs.Signature.{values_of}
use Rattle.expression_lang.specs.GuardKind.{GuardKind}
use Rattle.c_lang.specs.Typed as C
use Rattle.c_lang.specs.WellTyped.{Scope}
use Rattle.c_meaning.specs.CValue.{Context, Defined, ◌>>=◌, Located, InMemory, InGlobal, is_true, value, values, located, accessible}
use Rattle.generation.specs.Guards.{exp, exps, truth, path_of, guards, argument_guards, place_guards, accesses}
use Rattle.generation.specs.Refused.{refused}
use Rattle.c_meaning.specs.Fitting.{AreOfTypes}

-- defined with an answer that has P where no condition is refused, and undefined by the kind of the first that is
abbrev pub Same : {A : Type 0} → Defined A → Option GuardKind → (A → Type 0) → Type 0
Same (Ok a) o P = (o ≡ None) × P a
Same (Err k) o P = o ≡ Some k

-- the value of the Simpl expression, and its truth
pub record IsValueOf (l : Layout) (env : Env) (s : State) (e : C.Expr) (v : V.Value) : Type 0 where
  pub is : E.value l env s (exp l e) ≡ v
  pub shaped : HasShape (shape_of l (C.type_of e)) v
  pub truth : is_scalar (C.type_of e) ≡ true → holds l env s (truth l e) ≡ is_true v

abbrev pub IsExactValue : Scope → Context → Env → C.Expr → Type 0
IsExactValue g c env e = Same (value c e) (refused g.layout env c.state (guards g.layout c.level e)) (λ v. IsValueOf g.layout env c.state e v)

-- the steps lead from a shape to a part of this type
pub record EndsAt (l : Layout) (s : Shape) (ps : List Step) (t : CType) : Type 0 where
  pub at : ℕ
  pub leads : Leads s ps at (shape_of l t)

-- where the pointer and the steps of the Simpl expression are
pub record IsInMemory (l : Layout) (env : Env) (s : State) (t : CType) (p : C.Expr) (path : C.Path) (u : CType) (w : Located) : Type 0 where
  pub is : w ≡ InMemory t (V.word_in (E.value l env s (exp l p))) (E.steps l env s (path_of l path))
  pub object : is_object l t ≡ true
  pub ends : EndsAt l (shape_of l t) (E.steps l env s (path_of l path)) u

pub record IsInGlobal (l : Layout) (globals : List GlobalVar) (env : Env) (s : State) (x : Name) (path : C.Path) (u : CType) (w : Located) : Type 0 where
  pub root : CType
  pub found : global_type globals x ≡ Some root
  pub is : w ≡ InGlobal x (E.steps l env s (path_of l path))
  pub ends : EndsAt l (shape_of l root) (E.steps l env s (path_of l path)) u

abbrev pub IsAt : Scope → Env → State → C.Place → Located → Type 0
IsAt g env s (C.Through t p path u) w = IsInMemory g.layout env s t p path u w
IsAt g env s (C.InGlobal x path u) w = IsInGlobal g.layout g.globals env s x path u w

abbrev pub IsExactPlace : Scope → Context → Env → C.Place → Type 0
IsExactPlace g c env p = Same (located c p) (refused g.layout env c.state (place_guards g.layout c.level p)) (λ w. IsAt g env c.state p w)

-- a place that is accessed
abbrev pub IsExactAccess : Scope → Context → Env → C.Place → Type 0
IsExactAccess g c env p =
    Same (located c p >>= λ w. accessible c w (Ok w)) (refused g.layout env c.state (place_guards g.layout c.level p ++ accesses g.layout c.level p)) (λ w. IsAt g env c.state p w)

abbrev pub AreExactValues : Scope → Context → Env → List C.Variable → List C.Expr → Type 0
AreExactValues g c env params es =
    Same (values c es) (refused g.layout env c.state (argument_guards g.layout c.level es))
    (λ vs. (values_of g.layout env c.state (exps g.layout es) ≡ vs) × AreOfTypes g.layout params vs)
