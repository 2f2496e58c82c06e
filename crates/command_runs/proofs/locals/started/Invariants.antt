-- The locals so far, and those that the other binders get, are all.
use Rattle.std.proofs.Common.{◌≡◌, true, length, ◌++◌, map}
use Rattle.c_values.specs.CodeValue.{value_of}
use Rattle.expression_lang.specs.Sort.{are_kinds}
use Rattle.expression_lang.specs.Signature.{kinds_of}
use Rattle.expression_lang.specs.CodeSignature.{binder_of}
use Rattle.command_runs.specs.Locals.{started}
use Rattle.command_runs.specs.CodeRun.{table_of}
use Rattle.command_runs.proofs.locals.started.Given as goal

abbrev pub invariant-binders : goal.invariant-binders
invariant-binders l = record {
  so_far : table_of l.locals.items ++ started (map binder_of l.rest) (map value_of l.values) ≡ started (map binder_of l.binders) (map value_of l.arguments);
  kinds : are_kinds (kinds_of (map binder_of l.rest)) ≡ true;
}

abbrev pub decreases-binders : goal.decreases-binders
decreases-binders l = length l.rest
