-- Which programs are of their levels' forms: on bytes no read or write of typed heaps, else no load or store, and at the level of
-- numbers no sum, difference, product, quotient, negation or order of words.
use Rattle.std.specs.Prelude.{◌≡◌, true, List, [], ◌∷◌}
use Rattle.monad_lang.specs.Program.{FinalFn}
use Rattle.rule_word.specs.Ready.{is_form_of}

abbrev pub AreOfTheirForms : List FinalFn → Type 0
AreOfTheirForms [] = Unit {0}
AreOfTheirForms (f ∷ fs) = (is_form_of f.level f.body ≡ true) × AreOfTheirForms fs
