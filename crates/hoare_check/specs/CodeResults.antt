-- Names of values, as the code has them.
use Rattle.std.specs.Prelude.{List, [], ◌∷◌, map, string_bytes}
use Rattle.c_values.specs.Name.{Name}
use Rattle.expression_lang.specs.Signature as S
use Rattle.expression_lang.specs.CodeSignature.{binder_of}
use Rattle.monad_lang.specs.Run.{start_names}
use Rattle.monad_lang.specs.CodeProgram.{start_of}
use Rattle.exactness.specs.Triple.{logical_names, result_name}
use Rattle.triple_lang.specs.CodeDeriv.{logical_of}
use Rattle.hoare_check.specs.declared.value_names.Results as R

abbrev pub names_of : R.Results → List Name
names_of (R.TheVariants.Names xs) = map string_bytes xs.now
names_of (R.TheVariants.Starts xs) = start_names (map start_of xs.now)
names_of (R.TheVariants.Parameters xs) = S.names_of (map binder_of xs.now)
names_of (R.TheVariants.Logicals xs) = logical_names (map logical_of xs.now)
names_of R.TheVariants.Result = result_name ∷ []
names_of R.TheVariants.None = []
