-- Those that are listed, and those that are left, are all.
use Rattle.std.proofs.Common.{◌≡◌, List, length, map, string_bytes}
use Rattle.expression_lang.specs.CodeExpression.{kind_of}
use Rattle.expression_lang.specs.Signature.{Binder, names_of, kinds_of}
use Rattle.expression_lang.specs.CodeSignature.{binder_of}
use Rattle.rule_word.specs.Scopes.{with_kinds}
use Rattle.word_abstract.proofs.passing.bound_also.Given as goal

abbrev pub invariant-names : goal.invariant-names
invariant-names l = (bs : List Binder) →
    with_kinds (map string_bytes l.rest) (map kind_of l.left) (with_kinds (names_of (map binder_of l.all.items)) (kinds_of (map binder_of l.all.items)) bs)
    ≡ with_kinds (map string_bytes l.more) (map kind_of l.kinds) (with_kinds (names_of (map binder_of l.fn.names.items)) (kinds_of (map binder_of l.fn.names.items)) bs)

abbrev pub decreases-names : goal.decreases-names
decreases-names l = length l.rest
