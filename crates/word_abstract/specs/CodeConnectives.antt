-- Where the second side of a connective stands: where the first holds, or where it doesn't.
use Rattle.std.specs.Prelude.{Bool, true, false, Option, Some, None}
use Rattle.expression_lang.specs.CodeShape.{Two, AndTwo, OrTwo, ImpTwo}

abbrev pub connective : Two → Option Bool
connective AndTwo = Some true
connective ImpTwo = Some true
connective OrTwo = Some false
connective h = None
