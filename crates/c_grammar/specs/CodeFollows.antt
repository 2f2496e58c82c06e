-- What a step of the parser leaves on its stack, whose top is at the end of the vector.
use Rattle.std.specs.Prelude.{◌≡◌, List, ◌++◌}
use Rattle.c_grammar.specs.declared.symbol.Symbol.{Symbol}
use Rattle.c_grammar.specs.declared.choose.Answer.{Answer}
use Rattle.c_grammar.specs.declared.choose.Answer.TheVariants.{Refused, Passed, Taken}
use Rattle.c_grammar.specs.CodeChoice.{Choice, Refuse, Pass, Take}

-- the answer and the stack behind a choice
abbrev pub Follows : Choice → Answer → List Symbol → List Symbol → Type 0
Follows Refuse answer old new = answer ≡ Refused
Follows (Pass before) answer old new = (answer ≡ Passed) × (new ≡ old)
Follows (Take before more) answer old new = (answer ≡ Taken) × (new ≡ more ++ old)
