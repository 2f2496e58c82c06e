-- The binders that are left give the name the kind that all do.
use Rattle.std.proofs.Common.{◌≡◌, None, map, length}
use Rattle.expression_lang.specs.CodeSignature.{binder_of}
use Rattle.expression_lang.specs.Signature.{names_of, kinds_of}
use Rattle.rule_word.specs.CodeNames.{kind_among}
use Rattle.rule_word.proofs.kinds.among_binders.Given as goal

abbrev pub invariant-binders : goal.invariant-binders
invariant-binders l =
    kind_among (names_of (map binder_of l.rest)) (kinds_of (map binder_of l.rest)) l.name None
    ≡ kind_among (names_of (map binder_of l.binders)) (kinds_of (map binder_of l.binders)) l.name None

abbrev pub decreases-binders : goal.decreases-binders
decreases-binders l = length l.rest
