-- What the code's views and bases stand for.
use Rattle.rule_word.specs.Bases.{Base, Words, Naturals, Integers}
use Rattle.word_abstract.specs.declared.views.Seen as S
use Rattle.word_abstract.specs.declared.views.Base as B
use Rattle.word_abstract.specs.CodeMeaning.{Seen, AsWord, AsNatural, AsInteger}

abbrev pub seen_of : S.Seen → Seen
seen_of S.TheVariants.AsWord = AsWord
seen_of S.TheVariants.AsNatural = AsNatural
seen_of S.TheVariants.AsInteger = AsInteger

abbrev pub base_of : B.Base → Base
base_of B.TheVariants.Words = Words
base_of B.TheVariants.Naturals = Naturals
base_of B.TheVariants.Integers = Integers
