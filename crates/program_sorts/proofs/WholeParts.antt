-- The parts of an expression's value are those of a complete type.
use Rattle.std.proofs.Common.{◌≡◌, Option, Some, sym}
use Rattle.c_values.specs.Layout.{IsLayout}
use Rattle.expression_lang.specs.Expression.{Exp}
use Rattle.expression_lang.specs.Sort.{Scope, Sort, PartsSort, sort_of}
use Rattle.expression_lang.proofs.WholeShapes.{parts_complete}
use Rattle.program_sorts.specs.CodeSorts.{HasCompleteParts}

pub sort_whole : (g : Scope) (e : Exp) (o : Option Sort) → IsLayout g.layout → o ≡ sort_of g e → HasCompleteParts g.layout o
sort_whole g e (Some (PartsSort t)) h is = parts_complete g h e t (sym is)
sort_whole _ _ _ _ _ = tt
