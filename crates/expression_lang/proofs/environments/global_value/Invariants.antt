-- No global so far has the name.
use Rattle.std.proofs.Common.{◌≡◌, drop}
use Rattle.expression_lang.specs.CodeState.{globals_of}
use Rattle.expression_lang.proofs.environments.global_value.Given as goal

abbrev pub invariant-globals : goal.invariant-globals
invariant-globals l = globals_of (drop l.k l.vars) (drop l.k l.globals) l.name ≡ globals_of l.vars l.globals l.name
