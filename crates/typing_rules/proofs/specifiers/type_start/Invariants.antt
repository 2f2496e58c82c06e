-- What is left begins its type where the whole does.
use Rattle.std.proofs.Common.{◌≡◌}
use Rattle.c_grammar.specs.CodeTree.{words_of}
use Rattle.typing_rules.specs.Expressions.{type_start}
use Rattle.typing_rules.proofs.specifiers.type_start.Given as goal

abbrev pub invariant-loop-rest : goal.invariant-loop-rest
invariant-loop-rest l = type_start (words_of l.rest) ≡ type_start (words_of l.fn.words)
