-- Units of commands in which no operation on numbers is wide: wherever one of their expressions is evaluated, the exact
-- results of its operations have magnitudes below 2^128.
use Rattle.std.specs.Prelude.{◌≡◌, List, [], ◌∷◌, None}
use Rattle.c_values.specs.Layout.{GlobalVar}
use Rattle.expression_lang.specs.Expression.{Exp, Path, Here, IntoField, IntoElement}
use Rattle.expression_lang.specs.Sort.{Scope}
use Rattle.expression_lang.specs.Evaluation.{Env, State}
use Rattle.expression_lang.specs.States.{IsEnvironment, IsState}
use Rattle.expression_lang.specs.Wide.{wide}
use Rattle.simpl_lang.specs.Command.{Condition, Simpl, Skip, Throw, Set, SetGlobal, Store, Pick, Seq, Cond, Guard, Catch, While, Call, SimplFn, SimplUnit}
use Rattle.simpl_lang.specs.Sorted.{scope_of}

module _ (g : Scope) (vs : List GlobalVar) where
  abbrev pub IsNarrow : Exp → Type 0
  IsNarrow e = (env : Env) (s : State) → IsEnvironment g env → IsState g.layout vs s → wide g.layout env s e ≡ None

  -- the indices of a path
  abbrev pub IsNarrowAlong : Path → Type 0
  IsNarrowAlong Here = Unit {0}
  IsNarrowAlong (IntoField k path) = IsNarrowAlong path
  IsNarrowAlong (IntoElement e path) = IsNarrow e × IsNarrowAlong path

  abbrev pub AreNarrow : List Exp → Type 0
  AreNarrow [] = Unit {0}
  AreNarrow (e ∷ es) = IsNarrow e × AreNarrow es

  abbrev pub AreConditionsNarrow : List Condition → Type 0
  AreConditionsNarrow [] = Unit {0}
  AreConditionsNarrow (c ∷ cs) = IsNarrow c.exp × AreConditionsNarrow cs

  abbrev pub IsCommandNarrow : Simpl → Type 0
  IsCommandNarrow Skip = Unit {0}
  IsCommandNarrow Throw = Unit {0}
  IsCommandNarrow (Set x e) = IsNarrow e
  IsCommandNarrow (SetGlobal x path e) = IsNarrowAlong path × IsNarrow e
  IsCommandNarrow (Store t p path e) = IsNarrow p × IsNarrowAlong path × IsNarrow e
  IsCommandNarrow (Pick x) = Unit {0}
  IsCommandNarrow (Seq a b) = IsCommandNarrow a × IsCommandNarrow b
  IsCommandNarrow (Cond e a b) = IsNarrow e × IsCommandNarrow a × IsCommandNarrow b
  IsCommandNarrow (Guard c a) = IsNarrow c.exp × IsCommandNarrow a
  IsCommandNarrow (Catch a b) = IsCommandNarrow a × IsCommandNarrow b
  IsCommandNarrow (While cs e a) = AreConditionsNarrow cs × IsNarrow e × IsCommandNarrow a
  IsCommandNarrow (Call x f es) = AreNarrow es

abbrev pub AreFnsNarrow : SimplUnit → List SimplFn → Type 0
AreFnsNarrow u [] = Unit {0}
AreFnsNarrow u (f ∷ fs) = IsCommandNarrow (scope_of u f) u.globals f.body × AreFnsNarrow u fs

abbrev pub IsUnitNarrow : SimplUnit → Type 0
IsUnitNarrow u = AreFnsNarrow u u.functions
