use Rattle.std.proofs.Common.{true, map}
use Rattle.expression_lang.specs.CodeSignature.{binder_of}
use Rattle.expression_lang.specs.Signature.{names_of}
use Rattle.simpl_lang.specs.CodeCommand.{simpl_of}
use Rattle.rule_local.proofs.Lost.{none_lost}
use Rattle.rule_local.proofs.carried.assigns_only.Goals as goal

pub returns : goal.returns
returns c = none_lost (names_of (map binder_of c.args.binders.now)) (λ y. true) (simpl_of c.args.c.now) c.assigns_some.result c.assigns_some.ensures
