use Rattle.std.proofs.Common.{rules, arith, ◌≡◌, ◌&&◌, true, false, Option, Some, map, string_bytes, refl, sym, ap, ◌∙◌}
use Rattle.std.specs.Option.{option_map}
use Rattle.c_values.specs.Name.{Name, are_distinct}
use Rattle.expression_lang.specs.Sort.{Scalar}
use Rattle.expression_lang.specs.Sorted.{names_with}
use Rattle.expression_lang.specs.CodeExpression.{exp_of}
use Rattle.expression_lang.specs.CodeSort.{scalar_of}
use Rattle.monad_lang.specs.Program as M
use Rattle.monad_lang.specs.CodeProgram.{mon_of, start_of}
use Rattle.monad_lang.specs.Run.{start_names}
use Rattle.monad_lang.specs.Sorted.{Setting, setting_with, scalars_given, start_scalars, one_for_each}
use Rattle.expression_steps.specs.CodePoint.{names_of, scalars_of as bound_scalars}
use Rattle.given_scalars.specs.CodeScalars.{names_in, scalars_in, setting_over, setting_around, setting_within}
use Rattle.given_scalars.proofs.SortedLaws.{loop_given, further_on, not_further}
use Rattle.given_scalars.proofs.sorted.+sorted.Goals as goal

pub last_given-returns-in_ok-others-in-Loop : goal.last_given-returns-in_ok-others-in-Loop
last_given-returns-in_ok-others-in-Loop g t c =
    let unit = c.args.unit in
    let T : (Name → Option Scalar) → Setting = λ N. setting_over unit N in
    let starts = map start_of c.deref-in-Loop-2.result.now in
    let here : mon_of c.args.m.now ≡ M.Loop starts (exp_of c.in-Loop.guard) (exp_of c.in-Loop.test) (mon_of c.deref-in-Loop-6.result.now) = search rules in
    let begun : start_scalars (setting_around g.N.Scope.scalars c.args.names.now unit).scope starts ≡ Some (scalars_in c.in-Some-3.scalars) = search rules in
    let named : setting_within g.N.Scope.scalars c.args.names.now c.in_ok-bound-in-Loop.bound.items unit ≡ setting_with (start_names starts) (scalars_in c.in-Some-3.scalars) (setting_around g.N.Scope.scalars c.args.names.now unit) =
    ap T (c.in_ok-bound-in-Loop.ensures (λ y. names_in g.N.Scope.scalars c.args.names.now y)) ∙ ap (λ ss. setting_with (start_names starts) (map scalar_of ss) (setting_around g.N.Scope.scalars c.args.names.now unit)) c.deref-in-Loop-3.ensures.value in
    c.where_same.ensures
    ∙ loop_given (setting_around g.N.Scope.scalars c.args.names.now unit) starts (exp_of c.in-Loop.guard) (exp_of c.in-Loop.test) (mon_of c.deref-in-Loop-6.result.now) (scalars_in c.in-Some-3.scalars)
    (setting_within g.N.Scope.scalars c.args.names.now c.in_ok-bound-in-Loop.bound.items unit) c.is_turn_behind-turns.result (option_map scalars_in c.in_ok-others-in-Loop.others) begun named (search rules) (search rules)
    ∙ ap (scalars_given (setting_around g.N.Scope.scalars c.args.names.now unit)) (sym here)

pub scalars_around-returns-then-not-are_names_for : goal.scalars_around-returns-then-not-are_names_for
scalars_around-returns-then-not-are_names_for g t c =
    let unit = c.args.unit in
    let here = setting_within g.N.Scope.scalars c.args.names.now c.along.bound.items unit in
    let xs = map string_bytes c.in-Some.parts.names.now in
    let first : mon_of c.along.rest.now ≡ M.Bind (mon_of c.in-Some.parts.first.now) xs (mon_of c.in-Some.parts.last.now) = search rules in
    let given : Some (scalars_in c.in-Some-2.scalars) ≡ scalars_given here (mon_of c.in-Some.parts.first.now) = search rules in
    let uneven : false ≡ (one_for_each xs (scalars_in c.in-Some-2.scalars) && are_distinct xs) = search rules in
    not_further here (mon_of c.in-Some.parts.first.now) xs (mon_of c.in-Some.parts.last.now) (scalars_in c.in-Some-2.scalars) (scalars_given (setting_around g.N.Scope.scalars c.args.names.now unit) (mon_of c.args.m.now))
    given uneven (ap (scalars_given here) (sym first) ∙ c.along.invariant.same)

pub scalars_around-along-preserved : goal.scalars_around-along-preserved
scalars_around-along-preserved g t c = record {
  same =
      let unit = c.args.unit in
      let T : (Name → Option Scalar) → Setting = λ N. setting_over unit N in
      let here = setting_within g.N.Scope.scalars c.args.names.now c.along.bound.items unit in
      let names : Name → Option Scalar = names_with (names_of c.along.bound.items) (bound_scalars c.along.bound.items) (λ y. names_in g.N.Scope.scalars c.args.names.now y) in
      let next : Name → Option Scalar = names_with (names_of c.in_ok-bound.bound.items) (bound_scalars c.in_ok-bound.bound.items) (λ y. names_in g.N.Scope.scalars c.args.names.now y) in
      let xs = map string_bytes c.in-Some.parts.names.now in
      let first : mon_of c.along.rest.now ≡ M.Bind (mon_of c.in-Some.parts.first.now) xs (mon_of c.in-Some.parts.last.now) = search rules in
      let given : Some (scalars_in c.in-Some-2.scalars) ≡ scalars_given here (mon_of c.in-Some.parts.first.now) = search rules in
      let even : true ≡ (one_for_each xs (scalars_in c.in-Some-2.scalars) && are_distinct xs) = search rules in
      let named = c.in_ok-bound.ensures (λ y. names_in g.N.Scope.scalars c.args.names.now y) in
      let behind : next ≡ names_with xs (scalars_in c.in-Some-2.scalars) names = search (rules, named) in
      further_on T names next (mon_of c.in-Some.parts.first.now) xs (mon_of c.in-Some.parts.last.now) (scalars_in c.in-Some-2.scalars) (scalars_given (setting_around g.N.Scope.scalars c.args.names.now unit) (mon_of c.args.m.now))
      refl behind given even (ap (scalars_given here) (sym first) ∙ c.along.invariant.same);
  smaller = omega (arith, c.along.invariant.smaller, c.in-Some.ensures.last);
}
