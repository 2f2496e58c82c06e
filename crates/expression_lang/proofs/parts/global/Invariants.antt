-- No global so far has the name.
use Rattle.std.proofs.Common.{◌≡◌, map, drop}
use Rattle.c_values.specs.Layout.{global_type}
use Rattle.c_values.specs.CodeValue.{global_of}
use Rattle.expression_lang.proofs.parts.global.Given as goal

abbrev pub invariant-loop-global : goal.invariant-loop-global
invariant-loop-global l = global_type (map global_of (drop l.global-index l.globals)) l.name ≡ global_type (map global_of l.globals) l.name
