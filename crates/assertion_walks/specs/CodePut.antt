-- What the code's values stand for, and expressions with values in place of names, by any table of values.
use Rattle.std.specs.Prelude.{List, map, Option, Some, None}
use Rattle.c_values.specs.Name.{Name}
use Rattle.expression_lang.specs.CodeExpression.{exp_of}
use Rattle.expression_lang.specs.Expression.{Exp, Var}
use Rattle.assertion_walks.specs.declared.putting.Value as V

abbrev pub value_in : V.Value → Exp
value_in (V.TheVariants.Exp e) = exp_of e.now
value_in (V.TheVariants.Name x) = Var x.now

-- a variable's value, where it has one
abbrev pub in_places_by : (Name → Option Exp) → Exp → Option Exp
in_places_by values (Var y) = values y
in_places_by values e = None

-- the first table's value, or else the second's
abbrev pub or_else : Option Exp → Option Exp → Option Exp
or_else (Some e) o = Some e
or_else None o = o

abbrev pub variables : List Name → List Exp
variables xs = map (λ x. Var x) xs
