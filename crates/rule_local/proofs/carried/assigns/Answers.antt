use Rattle.std.proofs.Common.{◌∙◌}
use Rattle.simpl_lang.specs.CodeCommand.{simpl_of}
use Rattle.rule_local.proofs.Lost.{assigns_is}
use Rattle.rule_local.proofs.carried.assigns.Goals as goal

pub returns : goal.returns
returns c = c.assigns_some.ensures ∙ assigns_is c.args.name.now (simpl_of c.args.c.now)
