-- In a loop none of whose starts has the name, and which doesn't bind it, the name is free where the guard, the test or the
-- body has it.
use Rattle.std.proofs.Common.{rules, subst, arith, ◌<◌, ◌≡◌, Bool, true, false, not, ◌&&◌, ◌||◌, map, refl, sym, ap, ◌∙◌}
use Rattle.c_values.specs.Name.{is_among}
use Rattle.expression_lang.specs.CodeExpression.{exp_of}
use Rattle.expression_lang.specs.Mentions.{names}
use Rattle.expression_lang.specs.declared.expression.Exp as E
use Rattle.monad_lang.specs.declared.program.Mon as M
use Rattle.monad_lang.specs.declared.program.Mon.{size-Mon}
use Rattle.monad_lang.specs.declared.program.Mon.TheBlock.{the_depth}
use Rattle.monad_lang.specs.Run.{start_names}
use Rattle.monad_lang.specs.CodeProgram.{start_of, mon_of}
use Rattle.monad_lang.specs.Names.{is_in_start, is_free}
use Rattle.monad_lang.proofs.free_names.+is_free.Goals as goal
use denote.Hole.Rolled.{depth}
use denote.Hole.Carrier.{fold}

in_turn : (s a b c d : Bool) → s ≡ false → a ≡ false → (b || c) ≡ true → (s || (not a && (b || c || d))) ≡ true
in_turn false false true c d h k e = refl
in_turn false false false true d h k e = refl
in_turn _ _ _ _ d h k e = cc

in_body : (s a b c d : Bool) → s ≡ false → a ≡ false → (b || c) ≡ false → (s || (not a && (b || c || d))) ≡ d
in_body false false false false d h k e = refl
in_body _ _ _ _ d h k e = cc

after_loop : (starts : _) (guard test : E.Exp) (p : _) (body : M.Mon) → size-Mon body < size-Mon (M.Loop' starts guard test p body)
unfolding the_depth depth fold
after_loop starts guard test p body = omega arith

body_is_smaller : (m : M.Mon) (starts : _) (guard test : E.Exp) (body : _) → m ≡ M.Loop starts guard test body → size-Mon body.value < size-Mon m
body_is_smaller m starts guard test body e = subst (λ q. size-Mon body.value < size-Mon q) (sym e) (after_loop starts guard test _ body.value)

pub returns-then-is_in_either : goal.returns-then-is_in_either
returns-then-is_in_either t c =
    let none : is_in_start c.args.name.now (map start_of c.in-Loop.starts.items) ≡ false = search rules in
    let unbound : is_among c.args.name.now (start_names (map start_of c.in-Loop.starts.items)) ≡ false = search rules in
    let there : (names c.args.name.now (exp_of c.in-Loop.guard) || names c.args.name.now (exp_of c.in-Loop.turn)) ≡ true = search rules in
    sym (in_turn _ _ (names c.args.name.now (exp_of c.in-Loop.guard)) (names c.args.name.now (exp_of c.in-Loop.turn)) (is_free c.args.name.now (mon_of c.in-Loop.last.value)) none unbound there)
    ∙ sym (ap (λ m. is_free c.args.name.now (mon_of m)) c.in-Loop.is)
    ∙ c.along.invariant.same

pub along-preserved : goal.along-preserved
along-preserved t c =
    let none : is_in_start c.args.name.now (map start_of c.in-Loop.starts.items) ≡ false = search rules in
    let unbound : is_among c.args.name.now (start_names (map start_of c.in-Loop.starts.items)) ≡ false = search rules in
    let not_there : (names c.args.name.now (exp_of c.in-Loop.guard) || names c.args.name.now (exp_of c.in-Loop.turn)) ≡ false = search rules in
    record {
      same = ap (λ m. is_free c.args.name.now (mon_of m)) c.deref-rest-in-Loop.ensures
          ∙ sym (in_body _ _ (names c.args.name.now (exp_of c.in-Loop.guard)) (names c.args.name.now (exp_of c.in-Loop.turn)) (is_free c.args.name.now (mon_of c.in-Loop.last.value)) none unbound not_there)
          ∙ sym (ap (λ m. is_free c.args.name.now (mon_of m)) c.in-Loop.is)
          ∙ c.along.invariant.same;
      smaller = let h = body_is_smaller c.along.rest.now c.in-Loop.starts c.in-Loop.guard c.in-Loop.turn c.in-Loop.last c.in-Loop.is in omega (arith, ap size-Mon c.deref-rest-in-Loop.ensures);
    }
