use Rattle.std.proofs.Common.{rules, arith, ◌≡◌, [], map, string_bytes}
use Rattle.c_values.specs.CodeTypes.{type_of}
use Rattle.expression_lang.specs.Expression as E
use Rattle.expression_lang.specs.CodeExpression.{exp_of}
use Rattle.monad_lang.specs.Program as M
use Rattle.monad_lang.specs.CodeProgram.{mon_of}
use Rattle.heap_lift.proofs.ListLaws.{mapped_none}
use Rattle.heap_lift.proofs.PairLaws.{other_type_no_pair, other_root_no_pair}
use Rattle.heap_lift.proofs.pairs.pair_of.Goals as goal

pub returns-then-not-equal_types-clause-none : goal.returns-then-not-equal_types-clause-none
returns-then-not-equal_types-clause-none c =
    let test : mon_of c.args.first.now ≡ M.Guard (E.PtrOk (type_of c.in_ok-ty.ty.now) (exp_of c.in_ok-ty.pointer.now)) = search rules in
    let none : map string_bytes c.args.names.now ≡ [] = mapped_none string_bytes c.args.names.now (grind arith) in
    let tag : mon_of c.args.last.now ≡ M.Bind (M.Guard (E.Tagged (type_of c.in_ok-tag.tag.ty.now) (exp_of c.in_ok-tag.tag.pointer.now))) [] (mon_of c.in_ok-tag.tag.rest.now) = search rules in
    let other : type_of c.in_ok-tag.tag.ty.now ≡ type_of c.in_ok-ty.ty.now → ⊥ = λ e. search rules in
    other_type_no_pair (type_of c.in_ok-ty.ty.now) (type_of c.in_ok-tag.tag.ty.now) (exp_of c.in_ok-ty.pointer.now) (exp_of c.in_ok-tag.tag.pointer.now) (mon_of c.in_ok-tag.tag.rest.now) (mon_of c.args.first.now) (mon_of c.args.last.now)
    (map string_bytes c.args.names.now) test none tag other

pub returns-then-not-same-clause-none : goal.returns-then-not-same-clause-none
returns-then-not-same-clause-none c =
    let test : mon_of c.args.first.now ≡ M.Guard (E.PtrOk (type_of c.in_ok-ty.ty.now) (exp_of c.in_ok-ty.pointer.now)) = search rules in
    let none : map string_bytes c.args.names.now ≡ [] = mapped_none string_bytes c.args.names.now (grind arith) in
    let tag : mon_of c.args.last.now ≡ M.Bind (M.Guard (E.Tagged (type_of c.in_ok-tag.tag.ty.now) (exp_of c.in_ok-tag.tag.pointer.now))) [] (mon_of c.in_ok-tag.tag.rest.now) = search rules in
    let other : exp_of c.in_ok-tag.tag.pointer.now ≡ exp_of c.in_ok-ty.pointer.now → ⊥ = λ e. search rules in
    other_root_no_pair (type_of c.in_ok-ty.ty.now) (type_of c.in_ok-tag.tag.ty.now) (exp_of c.in_ok-ty.pointer.now) (exp_of c.in_ok-tag.tag.pointer.now) (mon_of c.in_ok-tag.tag.rest.now) (mon_of c.args.first.now) (mon_of c.args.last.now)
    (map string_bytes c.args.names.now) test none tag other
