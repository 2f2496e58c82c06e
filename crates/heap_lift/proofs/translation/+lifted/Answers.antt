use Rattle.std.proofs.Common.{rules, ◌≡◌, false, map, string_bytes}
use Rattle.c_values.specs.CodeTypes.{type_of}
use Rattle.expression_lang.specs.CodeExpression.{exp_of}
use Rattle.monad_lang.specs.Program as M
use Rattle.monad_lang.specs.CodeProgram.{mon_of, start_of}
use Rattle.rule_heap.specs.HeapLifted.{is_pair}
use Rattle.heap_lift.specs.CodeLifted.{lifted_in, IsPair}
use Rattle.heap_lift.proofs.ProgramLaws.{done_bind, done_pair, done_if, done_loop}
use Rattle.heap_lift.proofs.translation.+lifted.Goals as goal

pub peeled-returns-in_ok-front-in-Some-clause-same : goal.peeled-returns-in_ok-front-in-Some-clause-same
peeled-returns-in_ok-front-in-Some-clause-same t c =
    let here : mon_of c.args.m.now ≡ M.Bind (mon_of c.deref.result.now) (map string_bytes c.deref-in-Bind.result.now) (mon_of c.deref-in-Bind-2.result.now) = search rules in
    let pair : IsPair c.in-Some.pair (mon_of c.deref.result.now) (map string_bytes c.deref-in-Bind.result.now) (mon_of c.deref-in-Bind-2.result.now) = search rules in
    done_pair c.in_ok-front-in-Some.front (type_of c.in-Some.pair.ty.now) (exp_of c.in-Some.pair.pointer.now) (mon_of c.args.m.now) (mon_of c.deref.result.now) (mon_of c.in-Some.pair.rest.now) (mon_of c.deref-in-Bind-2.result.now)
    (map string_bytes c.deref-in-Bind.result.now) here pair c.in_ok-front-in-Some.ensures

pub peeled-returns-in_ok-bound-in-None-clause-same : goal.peeled-returns-in_ok-bound-in-None-clause-same
peeled-returns-in_ok-bound-in-None-clause-same t c =
    let here : mon_of c.args.m.now ≡ M.Bind (mon_of c.deref-in-None.result.now) (map string_bytes c.deref-in-None-2.result.now) (mon_of c.deref-in-None-3.result.now) = search rules in
    let other : is_pair (mon_of c.deref-in-None.result.now) (map string_bytes c.deref-in-None-2.result.now) (mon_of c.deref-in-None-3.result.now) ≡ false = search rules in
    done_bind c.in_ok-bound-in-None.field-0 (lifted_in c.in_ok-first-in-None.first.value) (mon_of c.args.m.now) (mon_of c.deref-in-None.result.now) (mon_of c.deref-in-None-3.result.now)
    (map string_bytes c.deref-in-None-2.result.now) here other c.in_ok-first-in-None.ensures c.in_ok-bound-in-None.ensures

pub peeled-returns-in_ok-tested-in-If-clause-same : goal.peeled-returns-in_ok-tested-in-If-clause-same
peeled-returns-in_ok-tested-in-If-clause-same t c =
    let here : mon_of c.args.m.now ≡ M.If (exp_of c.in-If.test) (mon_of c.deref-in-If.result.now) (mon_of c.deref-in-If-2.result.now) = search rules in
    done_if c.in_ok-tested-in-If.field-0 (lifted_in c.in_ok-first-in-If.first.value) (exp_of c.in-If.test) (mon_of c.args.m.now) (mon_of c.deref-in-If.result.now) (mon_of c.deref-in-If-2.result.now)
    here c.in_ok-first-in-If.ensures c.in_ok-tested-in-If.ensures

pub peeled-returns-in_ok-looped-in-Loop-clause-same : goal.peeled-returns-in_ok-looped-in-Loop-clause-same
peeled-returns-in_ok-looped-in-Loop-clause-same t c =
    let here : mon_of c.args.m.now ≡ M.Loop (map start_of c.deref-in-Loop.result.now) (exp_of c.in-Loop.guard) (exp_of c.in-Loop.test) (mon_of c.deref-in-Loop-2.result.now) = search rules in
    done_loop c.in_ok-looped-in-Loop.field-0 (map start_of c.deref-in-Loop.result.now) (exp_of c.in-Loop.guard) (exp_of c.in-Loop.test) (mon_of c.args.m.now) (mon_of c.deref-in-Loop-2.result.now) here c.in_ok-looped-in-Loop.ensures
