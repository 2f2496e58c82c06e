-- What the code's calls and right sides stand for.
use Rattle.std.specs.Prelude.{map, string_bytes}
use Rattle.std.specs.Option.{option_map}
use Rattle.c_values.specs.CodeTypes.{type_of}
use Rattle.typing_statements.specs.declared.calls.Called as K
use Rattle.typing_statements.specs.declared.calls.Right as R
use Rattle.typing_statements.specs.declared.calls.Right.TheVariants as V
use Rattle.typing_rules.specs.Calls.{Called, Right, Computed, Resulting}
use Rattle.c_lang.specs.CodeTyped.{expr_of}

abbrev pub called_of : K.Called → Called
called_of c = record {
  number = c.number;
  function = string_bytes c.function;
  result = option_map type_of c.result;
  arguments = map expr_of c.arguments.items;
}

abbrev pub right_of : R.Right → Right
right_of (V.Computed e) = Computed (expr_of e)
right_of (V.Resulting c) = Resulting (called_of c)
