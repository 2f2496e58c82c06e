-- Words of the code that finds the sorts of a program's expressions.
use Rattle.std.specs.Prelude.{◌≡◌, true, Option, Some, None}
use Rattle.c_values.specs.Layout.{Layout, shape_of, is_complete}
use Rattle.expression_lang.specs.Sort.{Scalar, Sort, Of, PartsSort, Kind, word_sort_of, sort_of_kind}
use Rattle.program_sorts.specs.declared.phases.Phase as P

-- what names of a kind have
abbrev pub sort_for : P.Phase → Kind → Scalar
sort_for P.TheVariants.OnWords k = word_sort_of k
sort_for P.TheVariants.OnNumbers k = sort_of_kind k

-- where a value has parts, they are those of a complete type
abbrev pub HasCompleteParts : Layout → Option Sort → Type 0
HasCompleteParts l None = Unit {0}
HasCompleteParts l (Some (Of s)) = Unit {0}
HasCompleteParts l (Some (PartsSort t)) = is_complete (shape_of l t) ≡ true
