-- The views so far, and those to come, are the whole.
use Rattle.std.proofs.Common.{◌≡◌, ◌++◌, drop, map}
use Rattle.c_values.specs.CodeValue.{value_of}
use Rattle.expression_lang.specs.CodeSignature.{binder_of}
use Rattle.expression_lang.specs.Signature.{kinds_of}
use Rattle.expression_lang.specs.View.{views_at}
use Rattle.run_start.proofs.views.views_of.Given as goal

abbrev pub invariant-parameters : goal.invariant-parameters
invariant-parameters l =
    map value_of l.views.items ++ views_at (kinds_of (map binder_of (drop l.parameter-index l.parameters))) (map value_of l.rest)
    ≡ views_at (kinds_of (map binder_of l.fn.parameters)) (map value_of l.fn.values)
