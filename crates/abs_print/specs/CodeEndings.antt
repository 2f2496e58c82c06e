-- What the code writes of lists behind their last parts.
use Rattle.std.specs.Prelude.{List, [], ◌∷◌, ◌++◌, codes}
use Rattle.std.specs.Fmt.{decimal}
use Rattle.expression_text.specs.Numbers.{number_text}
use Rattle.abs_print.specs.declared.endings.Ending as R
use Rattle.abs_print.specs.Texts.{Text}

abbrev pub ending_text : R.Ending → Text
ending_text R.TheVariants.List = codes ")"
ending_text (R.TheVariants.Length n) = codes " " ++ (decimal n ++ codes ")")
ending_text (R.TheVariants.AtMost n) = codes " <= " ++ (number_text n ++ codes ")")

-- the last first
abbrev pub endings_text : List R.Ending → Text
endings_text [] = []
endings_text (x ∷ xs) = endings_text xs ++ ending_text x
