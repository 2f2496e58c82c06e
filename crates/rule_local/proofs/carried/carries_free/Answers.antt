use Rattle.std.proofs.Common.{map, string_bytes}
use Rattle.simpl_lang.specs.CodeCommand.{simpl_of}
use Rattle.monad_lang.specs.CodeProgram.{mon_of}
use Rattle.monad_lang.specs.Names.{is_free}
use Rattle.rule_local.proofs.Lost.{none_lost}
use Rattle.rule_local.proofs.carried.carries_free.Goals as goal

pub returns : goal.returns
returns c = none_lost (map string_bytes c.args.handed_on.now) (λ y. is_free y (mon_of c.args.program.now)) (simpl_of c.args.c.now) c.assigns_some.result c.assigns_some.ensures
