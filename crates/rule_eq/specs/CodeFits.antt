-- What the kernel needs of two sides: the right one is well-sorted where it stands, and the left one whatever names are in scope.
use Rattle.std.specs.Prelude.{◌≡◌, List, Option, Some}
use Rattle.c_values.specs.Name.{Name}
use Rattle.expression_lang.specs.Sort.{Scalar}
use Rattle.monad_lang.specs.Program.{Mon}
use Rattle.monad_lang.specs.Sorted.{Setting, scalars_given}
use Rattle.monad_sorts.specs.CodeTold.{with_names}

abbrev pub IsSorted : Setting → Mon → Type 0
IsSorted t m = (given : List Scalar) × (scalars_given t m ≡ Some given)

abbrev pub IsSomewhereSorted : Setting → Mon → Type 0
IsSomewhereSorted t m = (names : Name → Option Scalar) × IsSorted (with_names names t) m

pub record Fits (t : Setting) (a b : Mon) : Type 0 where
  pub left : IsSomewhereSorted t a
  pub right : IsSorted t b
