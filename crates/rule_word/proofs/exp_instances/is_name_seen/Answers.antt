-- A name is seen as its kind says.
use Rattle.std.proofs.Common.{IsTrue}
use Rattle.expression_lang.specs.CodeExpression.{kind_of}
use Rattle.rule_word.specs.CodeKinds.{binders_in}
use Rattle.rule_word.proofs.PassedNames.{seen_named, seen_unnamed}
use Rattle.rule_word.proofs.exp_instances.is_name_seen.Goals as goal

pub returns-in-Some : goal.returns-in-Some
returns-in-Some c =
    seen_named (binders_in c.args.names.now) c.args.name.now c.args.view (kind_of c.in-Some.kind) (IsTrue c.is_view_for.result) c.in-Some.ensures c.is_view_for.ensures

pub returns-in-None : goal.returns-in-None
returns-in-None c = seen_unnamed (binders_in c.args.names.now) c.args.name.now c.args.view c.in-None.ensures
