-- What the code's standings stand for.
use Rattle.word_abstract.specs.declared.standing.Standing as S
use Rattle.word_abstract.specs.CodeMeaning.{Standing, At, Constant, Fixed, Chosen, Extended}
use Rattle.word_abstract.specs.CodeViews.{base_of}
use Rattle.word_abstract.specs.CodeAbstracted.{abstracted_in}

abbrev pub standing_in : S.Standing → Standing
standing_in (S.At b n x) = At (base_of b) n (abstracted_in x)
standing_in (S.Constant w) = Constant w
standing_in (S.Fixed x) = Fixed (abstracted_in x)
standing_in (S.Chosen' t p a q b) = Chosen (abstracted_in t) (standing_in a) (standing_in b)
standing_in (S.Extended n x) = Extended n (abstracted_in x)
