-- What the steps of functions need of them and of their signatures, one for each: the local that holds a result is there, and parameters
-- have kinds that are.
use Rattle.std.specs.Prelude.{Bool, true, false, ◌&&◌, List, [], ◌∷◌}
use Rattle.expression_lang.specs.Sort.{are_kinds}
use Rattle.expression_lang.specs.Signature.{Signature, kinds_of}
use Rattle.simpl_lang.specs.Command.{SimplFn}
use Rattle.acceptance.specs.CodeOutputs.{has_result}

abbrev pub is_ready : SimplFn → Signature → Bool
is_ready f s = has_result f.locals s.result && are_kinds (kinds_of s.params)

abbrev pub are_ready : List SimplFn → List Signature → Bool
are_ready [] [] = true
are_ready (f ∷ fs) (s ∷ ss) = is_ready f s && are_ready fs ss
are_ready _ _ = false
