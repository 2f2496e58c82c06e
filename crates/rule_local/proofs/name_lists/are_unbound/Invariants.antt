-- What is left is unbound where all are.
use Rattle.std.proofs.Common.{◌↔◌, map, length, string_bytes}
use Rattle.expression_lang.specs.CodeSignature.{binder_of}
use Rattle.expression_lang.specs.Signature.{names_of}
use Rattle.rule_local.specs.Table.{AreNone}
use Rattle.rule_local.proofs.name_lists.are_unbound.Given as goal

abbrev pub invariant-along : goal.invariant-along
invariant-along l = AreNone (map string_bytes l.rest) (names_of (map binder_of l.binders)) ↔ AreNone (map string_bytes l.names) (names_of (map binder_of l.binders))

abbrev pub decreases-along : goal.decreases-along
decreases-along l = length l.rest
