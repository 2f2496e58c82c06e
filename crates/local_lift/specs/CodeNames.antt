-- Names of locals, as the code has them.
use Rattle.std.specs.Prelude.{List, map}
use Rattle.c_values.specs.Name.{Name}
use Rattle.expression_lang.specs.declared.signatures.Binder as B
use Rattle.expression_lang.specs.CodeSignature.{binder_of}
use Rattle.expression_lang.specs.Signature.{names_of}

abbrev pub names : List B.Binder → List Name
names bs = names_of (map binder_of bs)
