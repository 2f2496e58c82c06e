-- What is found, or is behind, is what is there.
use Rattle.std.proofs.Common.{◌≡◌, map, length, string_bytes}
use Rattle.std.specs.Option.{option_map}
use Rattle.expression_lang.specs.CodeExpression.{kind_of}
use Rattle.rule_word.specs.CodeNames.{kind_among}
use Rattle.rule_word.proofs.kinds.among_names.Given as goal

abbrev pub invariant-names : goal.invariant-names
invariant-names l =
    kind_among (map string_bytes l.rest) (map kind_of l.left) l.name (option_map kind_of l.found)
    ≡ kind_among (map string_bytes l.names) (map kind_of l.kinds) l.name (option_map kind_of l.initial.found)

abbrev pub decreases-names : goal.decreases-names
decreases-names l = length l.rest
