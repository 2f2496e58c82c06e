-- What the code's units, and names with scalars in them, stand for.
use Rattle.std.specs.Prelude.{List, ◌++◌, map, Option, Some, None, Vec}
use Rattle.std.specs.declared.alloc.Global.{Global}
use Rattle.c_values.specs.Name.{Name}
use Rattle.expression_lang.specs.Sort.{Scalar}
use Rattle.expression_lang.specs.Sorted.{names_with}
use Rattle.expression_lang.specs.CodeSort.{scalar_of, scope_by}
use Rattle.expression_lang.specs.CodeSignature.{signature_of}
use Rattle.expression_lang.specs.declared.sort.Scalar as A
use Rattle.program_sorts.specs.CodeSorts.{sort_for}
use Rattle.monad_lang.specs.Program as M
use Rattle.monad_lang.specs.Program.{Mon}
use Rattle.monad_lang.specs.Sorted.{Setting}
use Rattle.expression_steps.specs.declared.points.Binding as B
use Rattle.expression_steps.specs.declared.points.Scoped as P
use Rattle.expression_steps.specs.CodePoint as points
use Rattle.expression_steps.specs.CodePoint.{names_of, scalars_of}
use Rattle.given_scalars.specs.declared.around.Around as N
use Rattle.given_scalars.specs.declared.unit.Unit as U

-- a unit where these names are in scope
abbrev pub setting_over : U.Unit → (Name → Option Scalar) → Setting
setting_over u names = record {
  scope = scope_by u.layout.now names u.globals.now;
  functions = map signature_of u.functions.now;
  sort_for = sort_for u.phase;
}

abbrev pub setting_in : P.Scoped → U.Unit → Setting
setting_in names u = setting_over u (λ x. points.names_in names x)

-- the scalars of names around a program and of its own
abbrev pub names_in : {S : Type 0} → (S → Name → Option Scalar) → N.Around S → Name → Option Scalar
names_in outer (N.Outer names) x = outer names.now x
names_in outer (N.Within' p around bs) x = names_with (names_of bs.now) (scalars_of bs.now) (λ y. names_in outer around y) x

abbrev pub setting_around : {S : Type 0} → (S → Name → Option Scalar) → N.Around S → U.Unit → Setting
setting_around outer names u = setting_over u (λ x. names_in outer names x)

-- with more names
abbrev pub setting_within : {S : Type 0} → (S → Name → Option Scalar) → N.Around S → List B.Binding → U.Unit → Setting
setting_within outer names bs u = setting_over u (λ x. names_with (names_of bs) (scalars_of bs) (λ y. names_in outer names y) x)

abbrev pub scalars_in : Vec A.Scalar Global → List Scalar
scalars_in v = map scalar_of v.items

abbrev pub IsNoBind : Mon → Type 0
IsNoBind (M.Bind m xs n) = ⊥
IsNoBind m = Unit {0}

-- scalars that come before others, where there are others
abbrev pub scalars_before : List Scalar → Option (List Scalar) → Option (List Scalar)
scalars_before xs None = None
scalars_before xs (Some ys) = Some (xs ++ ys)
