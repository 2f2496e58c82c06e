-- No argument is left.
use Rattle.std.proofs.Common.{◌∙◌, arith, length, map}
use Rattle.std.proofs.lemmas.Iterator.Adapters.{YieldsList-from_vec}
use Rattle.std.proofs.lemmas.Iterator.Consumers.{YieldsList-end}
use Rattle.std.proofs.lemmas.List.{at_drop_all}
use Rattle.c_values.specs.CodeTypes.{type_of}
use Rattle.typing_rules.specs.Calls.{passed}
use Rattle.c_lang.specs.CodeTyped.{expr_of}
use Rattle.typing_statements.proofs.Arguments.{passed_done, ruled_behind}
use Rattle.typing_statements.proofs.calls.passed.Goals as goal

pub returns : goal.returns
returns c =
    let given = c.into_iter-e-iterator.ensures.into_iter_gives in
    let items = c.args.arguments.items in
    let all = YieldsList-end (YieldsList-from_vec items given.0 (given.1 ∙ c.args.arguments.ok.0)) c.loop-e.yielded c.loop-e.e-iterator c.loop-e.yielded_by c.next.result c.next.new.self c.in-None.is c.next.ensures.steps in
    c.loop-e.invariant
    ∙ at_drop_all (λ es. ruled_behind (map expr_of c.loop-e.passed.items) (passed c.args.layout.now (map type_of c.loop-e.rest.now) (map expr_of es))) items (length c.loop-e.yielded) (omega (arith, all.1))
    ∙ passed_done c.args.layout.now (map expr_of c.loop-e.passed.items) (map type_of c.loop-e.rest.now)
