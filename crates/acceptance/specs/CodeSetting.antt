-- The setting that the kernel of equality has: the parameters are in scope, with what their kinds say.
use Rattle.std.specs.Prelude.{List, map, None}
use Rattle.c_values.specs.Layout.{Layout, GlobalVar}
use Rattle.expression_lang.specs.Sort.{sort_of_kind}
use Rattle.expression_lang.specs.Sorted.{names_with}
use Rattle.expression_lang.specs.Signature.{Binder, Signature, names_of, kinds_of}
use Rattle.monad_lang.specs.Sorted.{Setting}
use Rattle.monad_sorts.specs.CodeTold.{setting_over}

abbrev pub setting_there : Layout → List GlobalVar → List Signature → List Binder → Setting
setting_there l gs fs ps = setting_over sort_of_kind l gs fs (names_with (names_of ps) (map sort_of_kind (kinds_of ps)) (λ x. None))
