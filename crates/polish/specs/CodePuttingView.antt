-- Values that the code takes.
use Rattle.std.specs.Prelude.{map, string_bytes}
use Rattle.expression_lang.specs.CodeExpression.{exp_of}
use Rattle.rule_eq.specs.Table.{Taken}
use Rattle.polish.specs.declared.putting.Taken as T

abbrev pub taken_in : T.Taken → Taken
taken_in k = record { exp = exp_of k.exp.now; name = k.name.now; exps = map exp_of k.exps.items; names = map string_bytes k.names.items }
