use Rattle.std.proofs.Common.{map}
use Rattle.expression_lang.specs.CodeSignature.{binder_of}
use Rattle.expression_lang.specs.Signature.{names_of}
use Rattle.monad_lang.specs.CodeProgram.{mon_of}
use Rattle.rule_local.proofs.NoStrays.{no_strays}
use Rattle.rule_local.proofs.strays.are_free_parameters.Goals as goal

pub returns : goal.returns
returns c = no_strays (names_of (map binder_of c.args.parameters.now)) (mon_of c.args.m.now) c.any.result c.any.ensures
