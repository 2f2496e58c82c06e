-- Those so far have scalars.
use Rattle.std.proofs.Common.{◌≡◌, map, drop}
use Rattle.expression_lang.specs.CodeExpression.{exp_of}
use Rattle.monad_sorts.specs.CodeSorted.{all_scalars}
use Rattle.monad_sorts.specs.CodeInside.{setting_in, scalars_in}
use Rattle.monad_sorts.proofs.sorted.have_scalars.Given as goal

abbrev pub invariant-values : goal.invariant-values
invariant-values l =
    all_scalars (setting_in l.setting (scalars_in l.inside)).scope (map exp_of (drop l.e-index l.es))
    ≡ all_scalars (setting_in l.setting (scalars_in l.inside)).scope (map exp_of l.es)
