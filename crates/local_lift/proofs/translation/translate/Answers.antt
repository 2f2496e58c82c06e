use Rattle.std.proofs.Common.{map, string_bytes}
use Rattle.simpl_lang.specs.CodeCommand.{simpl_of}
use Rattle.monad_lang.specs.CodeProgram.{mon_of}
use Rattle.rule_local.specs.CodeRule.{tree_of, context_of}
use Rattle.local_lift.proofs.BodyLifted.{same_lifted, lifted_is_taken, lifted_is_bytes}
use Rattle.local_lift.proofs.translation.translate.Goals as goal

pub returns-clause-lifted : goal.returns-clause-lifted
returns-clause-lifted c =
    λ r. same_lifted (context_of c.args.context) (simpl_of c.args.left.now) (map string_bytes c.args.outputs.now) (mon_of c.in_ok-right.field-0.right.value) (tree_of c.in_ok-right.field-0.tree) (c.in_ok-right.ensures r.kinds) r

pub returns-clause-taken : goal.returns-clause-taken
returns-clause-taken c =
    λ r. lifted_is_taken (context_of c.args.context) (simpl_of c.args.left.now) (map string_bytes c.args.outputs.now) (mon_of c.in_ok-right.field-0.right.value) (tree_of c.in_ok-right.field-0.tree) (c.in_ok-right.ensures r.kinds) r

pub returns-clause-bytes : goal.returns-clause-bytes
returns-clause-bytes c =
    λ r. lifted_is_bytes (context_of c.args.context) (simpl_of c.args.left.now) (map string_bytes c.args.outputs.now) (mon_of c.in_ok-right.field-0.right.value) (tree_of c.in_ok-right.field-0.tree) (c.in_ok-right.ensures r.kinds) r
