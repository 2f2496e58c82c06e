-- Whether the local that holds a function's result is among its locals, where there is a result.
use Rattle.std.specs.Prelude.{Bool, true, List, Option, Some, None}
use Rattle.c_values.specs.Name.{is_among}
use Rattle.expression_lang.specs.Sort.{Kind}
use Rattle.expression_lang.specs.Signature.{Binder, names_of}
use Rattle.simpl_lang.specs.Exec.{result_local}

abbrev pub has_result : List Binder → Option Kind → Bool
has_result bs None = true
has_result bs (Some k) = is_among result_local (names_of bs)
