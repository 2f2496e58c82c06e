-- Those that are listed, and those that are left, are all.
use Rattle.std.proofs.Common.{◌≡◌, ◌++◌, length, map, string_bytes}
use Rattle.expression_lang.specs.CodeExpression.{kind_of}
use Rattle.expression_lang.specs.CodeSort.{scalar_of}
use Rattle.expression_lang.specs.CodeSignature.{binder_of}
use Rattle.rule_word.specs.Scopes.{names_in}
use Rattle.rule_word.specs.ProgramsAbstracted as P
use Rattle.word_abstract.proofs.kinds.kinds_for.Given as goal

abbrev pub invariant-names : goal.invariant-names
invariant-names l =
    map kind_of l.kinds.items ++ P.kinds_for (λ x. names_in (λ k. k) (map binder_of l.locals) x) (map string_bytes l.rest) (map scalar_of l.left)
    ≡ P.kinds_for (λ x. names_in (λ k. k) (map binder_of l.locals) x) (map string_bytes l.names) (map scalar_of l.scalars)

abbrev pub decreases-names : goal.decreases-names
decreases-names l = length l.left
