-- What is in scope, as the code has it: in a triple's assertions, and behind a program.
use Rattle.std.specs.Prelude.{List, ◌++◌, None, map}
use Rattle.c_values.specs.Name.{Name}
use Rattle.expression_lang.specs.Sort.{sort_of_kind}
use Rattle.expression_lang.specs.Sorted.{names_with}
use Rattle.monad_lang.specs.Program.{Mon, FinalFn}
use Rattle.monad_lang.specs.Sorted.{Setting}
use Rattle.monad_sorts.specs.CodeTold.{names_given, values_told}
use Rattle.exactness.specs.Triple.{Assertions, Logical, logical_names, logical_sorts, result_names}
use Rattle.triple_lang.specs.Deriv.{Names}

-- the logical variables, and other names
abbrev pub with_logicals : List Logical → Names → Names
with_logicals xs ns = names_with (logical_names xs) (logical_sorts xs) ns

-- the result, where there is one, and the logical variables
abbrev pub names_afterwards : FinalFn → Assertions → Names
names_afterwards f t =
    names_with (result_names f.results ++ logical_names t.logicals) (map sort_of_kind f.results ++ logical_sorts t.logicals) (λ x. None)

-- what is told of a program's values under names, and other names
abbrev pub names_told : Setting → Mon → List Name → Names → Names
names_told t m xs ns = names_given xs (values_told t m) ns
