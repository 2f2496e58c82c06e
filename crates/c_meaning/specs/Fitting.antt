-- Where typed trees are run: values of the types that the names are declared with, from states that can be.
use Rattle.std.specs.Prelude.{◌≡◌, List, [], ◌∷◌, Option, Some, None}
use Rattle.c_values.specs.Name.{Name}
use Rattle.c_values.specs.Types.{CType}
use Rattle.c_values.specs.Value.{Value}
use Rattle.c_values.specs.Layout.{Layout, GlobalVar, scalar_width}
use Rattle.c_values.specs.Path.{IsBits}
use Rattle.expression_lang.specs.Evaluation.{Env}
use Rattle.expression_lang.specs.States.{IsState}
use Rattle.expression_lang.specs.Machine.{Returned}
use Rattle.c_lang.specs.Typed as C
use Rattle.c_lang.specs.WellTyped.{Scope, variable_type}
use Rattle.c_meaning.specs.CValue.{Context}

-- a word of a scalar type
abbrev pub IsOfType : Layout → CType → Value → Type 0
IsOfType l t v = IsBits (scalar_width l.target t) v

abbrev pub AreOfTypes : Layout → List C.Variable → List Value → Type 0
AreOfTypes l [] [] = Unit {0}
AreOfTypes l (x ∷ xs) (v ∷ vs) = IsOfType l x.type v × AreOfTypes l xs vs
AreOfTypes l [] (v ∷ vs) = ⊥
AreOfTypes l (x ∷ xs) [] = ⊥

-- what a function gives is of its result's type
abbrev pub IsResultOf : Layout → Option CType → Option Value → Type 0
IsResultOf l None None = Unit {0}
IsResultOf l (Some t) (Some v) = IsOfType l t v
IsResultOf l _ _ = ⊥

pub record IsReturned (l : Layout) (globals : List GlobalVar) (result : Option CType) (r : Returned) : Type 0 where
  pub value : IsResultOf l result r.result
  pub state : IsState l globals r.state

-- each local has a value of its type, and the state can be
pub record Fits (g : Scope) (c : Context) : Type 0 where
  pub layout : c.layout ≡ g.layout
  pub variables : (x : Name) (t : CType) → variable_type g.variables x ≡ Some t → IsOfType g.layout t (c.locals x)
  pub state : IsState g.layout g.globals c.state

-- two environments have the same values for the locals that are declared
abbrev pub AgreeOn : List C.Variable → Env → Env → Type 0
AgreeOn vs a b = (x : Name) (t : CType) → variable_type vs x ≡ Some t → b x ≡ a x
