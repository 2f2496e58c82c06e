-- What the code finds of two expressions with one head that aren't the same: the one child that differs, and the fact that is one
-- more at it.
use Rattle.std.specs.Prelude.{◌≢◌, ◌↔◌, List, ◌∷◌}
use Rattle.expression_lang.specs.Expression.{Exp}
use Rattle.expression_lang.specs.CodeExpression.{exp_of}
use Rattle.expression_lang.specs.Sort.{Scope}
use Rattle.ac_expr.specs.Fact.{Fact, Whole, NotTrue}
use Rattle.ac_expr.specs.Heads.{children}
use Rattle.ac_expr.specs.Step.{OneStepApart, OneOfThem, child_facts}
use Rattle.ac_expr.specs.CodeApart.{IsAmong}
use Rattle.ac_expr.specs.declared.differences.Turn as T

abbrev pub TurnSays : T.Turn → Scope → List Fact → Exp → Exp → Type 0
TurnSays T.TheVariants.Nowhere g fs a b = OneOfThem g (child_facts fs a) (children a) (children b) → ⊥
TurnSays (T.TheVariants.Child x y) g fs a b =
    OneOfThem g (child_facts fs a) (children a) (children b) ↔ OneStepApart g fs (exp_of x.now) (exp_of y.now)
TurnSays (T.TheVariants.Where e x y) g fs a b =
    OneOfThem g (child_facts fs a) (children a) (children b) ↔ OneStepApart g (Whole (exp_of e.now) ∷ fs) (exp_of x.now) (exp_of y.now)
TurnSays (T.TheVariants.Unless e x y) g fs a b =
    OneOfThem g (child_facts fs a) (children a) (children b) ↔ OneStepApart g (NotTrue (exp_of e.now) ∷ fs) (exp_of x.now) (exp_of y.now)

-- a child of each, and they differ
abbrev pub AreChildren : Exp → Exp → Exp → Exp → Type 0
AreChildren x y a b = IsAmong x (children a) × IsAmong y (children b) × (y ≢ x)

abbrev pub TurnsInside : T.Turn → Exp → Exp → Type 0
TurnsInside T.TheVariants.Nowhere a b = Unit {0}
TurnsInside (T.TheVariants.Child x y) a b = AreChildren (exp_of x.now) (exp_of y.now) a b
TurnsInside (T.TheVariants.Where e x y) a b = AreChildren (exp_of x.now) (exp_of y.now) a b
TurnsInside (T.TheVariants.Unless e x y) a b = AreChildren (exp_of x.now) (exp_of y.now) a b
