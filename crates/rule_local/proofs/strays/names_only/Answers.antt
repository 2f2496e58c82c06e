use Rattle.std.proofs.Common.{map}
use Rattle.expression_lang.specs.CodeSignature.{binder_of}
use Rattle.expression_lang.specs.Signature.{names_of}
use Rattle.monad_lang.specs.CodeProgram.{mon_of}
use Rattle.rule_local.proofs.NoStrays.{all_known}
use Rattle.rule_local.proofs.strays.names_only.Goals as goal

pub returns : goal.returns
returns c = λ h. all_known (names_of (map binder_of c.args.binders.now)) (mon_of c.args.m.now) c.any.result c.any.ensures h
