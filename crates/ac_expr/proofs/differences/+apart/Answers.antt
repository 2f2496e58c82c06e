-- A step here, or the child that differs decides.
use Rattle.std.proofs.Common.{rules, ◌≡◌, ◌<◌, ◌∷◌, inl, inr, refl, sym, subst, arith}
use Rattle.std.proofs.lemmas.Bool.{false≢true}
use Rattle.expression_lang.specs.CodeExpression.{exp_of}
use Rattle.expression_lang.specs.CodeSort.{scope_by}
use Rattle.ac_expr.specs.Fact.{Whole, NotTrue}
use Rattle.ac_expr.specs.Step.{OneStepApart}
use Rattle.ac_expr.specs.CodeApart.{size}
use Rattle.ac_expr.specs.CodeChain.{facts_of}
use Rattle.ac_expr.proofs.Apart.{is_apart}
use Rattle.ac_expr.proofs.ApartThere.{other_heads, nowhere, by_child, child_smaller, never}
use Rattle.ac_expr.proofs.StepSorts.{child_sorted}
use Rattle.ac_expr.proofs.differences.+apart.Goals as goal

pub returns-then-is_step : goal.returns-then-is_step
returns-then-is_step g t c = (λ yes. c.down.invariant.same.0 (is_apart (scope_by c.args.l.now (g.N.Scope.scalars c.args.names.now) c.args.globals.now) (facts_of g.S.Sequence.parts c.args.facts.now) (exp_of c.down.left.now) (exp_of c.down.right.now) (inl (c.is_step.ensures.0 c.if-is_step.true))), λ apart. refl)

pub returns-then-is_step-2 : goal.returns-then-is_step-2
returns-then-is_step-2 g t c = (λ yes. c.down.invariant.same.0 (is_apart (scope_by c.args.l.now (g.N.Scope.scalars c.args.names.now) c.args.globals.now) (facts_of g.S.Sequence.parts c.args.facts.now) (exp_of c.down.left.now) (exp_of c.down.right.now) (inr (inl (c.is_step-in-down.ensures.0 c.if-is_step-2.true)))), λ apart. refl)

pub returns-then-not-same_head : goal.returns-then-not-same_head
returns-then-not-same_head g t c = (
  λ yes. absurd (false≢true yes),
  λ apart. absurd (other_heads (scope_by c.args.l.now (g.N.Scope.scalars c.args.names.now) c.args.globals.now) (facts_of g.S.Sequence.parts c.args.facts.now) (exp_of c.down.left.now) (exp_of c.down.right.now) (never c.is_step.result c.is_step.ensures c.if-is_step.false) (never c.is_step-in-down.result c.is_step-in-down.ensures c.if-is_step-2.false) (never c.same_head.result c.same_head.ensures c.if-not-same_head.true) (c.down.invariant.same.1 apart)),
)

pub returns-in-Nowhere : goal.returns-in-Nowhere
returns-in-Nowhere g t c = (
  λ yes. absurd (false≢true yes),
  λ apart. absurd (nowhere (scope_by c.args.l.now (g.N.Scope.scalars c.args.names.now) c.args.globals.now) (facts_of g.S.Sequence.parts c.args.facts.now) (exp_of c.down.left.now) (exp_of c.down.right.now) (never c.is_step.result c.is_step.ensures c.if-is_step.false) (never c.is_step-in-down.result c.is_step-in-down.ensures c.if-is_step-2.false) (c.in-Nowhere.ensures.says (scope_by c.args.l.now (g.N.Scope.scalars c.args.names.now) c.args.globals.now) (facts_of g.S.Sequence.parts c.args.facts.now)) (c.down.invariant.same.1 apart)),
)

pub down-preserved : goal.down-preserved
down-preserved g t c =
    let i = c.in-Child.ensures.inside in
    let says = by_child (scope_by c.args.l.now (g.N.Scope.scalars c.args.names.now) c.args.globals.now) (facts_of g.S.Sequence.parts c.args.facts.now) (exp_of c.down.left.now) (exp_of c.down.right.now) (never c.is_step.result c.is_step.ensures c.if-is_step.false) (never c.is_step-in-down.result c.is_step-in-down.ensures c.if-is_step-2.false) (facts_of g.S.Sequence.parts c.args.facts.now) (exp_of c.in-Child.x.now) (exp_of c.in-Child.y.now) (c.same_head.ensures.0 c.if-not-same_head.false) (c.in-Child.ensures.says (scope_by c.args.l.now (g.N.Scope.scalars c.args.names.now) c.args.globals.now) (facts_of g.S.Sequence.parts c.args.facts.now)) in
    record {
      differ = i.2;
      same = (λ k. c.down.invariant.same.0 (says.0 k), λ k. says.1 (c.down.invariant.same.1 k));
      sorted_left = child_sorted (scope_by c.args.l.now (g.N.Scope.scalars c.args.names.now) c.args.globals.now) (exp_of c.down.left.now) (exp_of c.in-Child.x.now) c.down.invariant.sorted_left i.0;
      sorted_right = child_sorted (scope_by c.args.l.now (g.N.Scope.scalars c.args.names.now) c.args.globals.now) (exp_of c.down.right.now) (exp_of c.in-Child.y.now) c.down.invariant.sorted_right i.1;
      smaller = omega (arith, child_smaller (exp_of c.down.left.now) (exp_of c.in-Child.x.now) i.0, c.down.invariant.smaller);
    }

pub are_apart-requires : goal.are_apart-requires
are_apart-requires g t c κs within =
    let i = c.in-Where.ensures.inside in (
      subst (λ n. size (exp_of c.in-Where.x.now) < n) c.decreases (omega (arith, child_smaller (exp_of c.down.left.now) (exp_of c.in-Where.x.now) i.0, c.down.invariant.smaller)),
      (within.0, (within.1, (i.2, (child_sorted (scope_by c.args.l.now (g.N.Scope.scalars c.args.names.now) c.args.globals.now) (exp_of c.down.left.now) (exp_of c.in-Where.x.now) c.down.invariant.sorted_left i.0, child_sorted (scope_by c.args.l.now (g.N.Scope.scalars c.args.names.now) c.args.globals.now) (exp_of c.down.right.now) (exp_of c.in-Where.y.now) c.down.invariant.sorted_right i.1)))),
    )

pub returns-in-Where : goal.returns-in-Where
returns-in-Where g t c =
    let says = by_child (scope_by c.args.l.now (g.N.Scope.scalars c.args.names.now) c.args.globals.now) (facts_of g.S.Sequence.parts c.args.facts.now) (exp_of c.down.left.now) (exp_of c.down.right.now) (never c.is_step.result c.is_step.ensures c.if-is_step.false) (never c.is_step-in-down.result c.is_step-in-down.ensures c.if-is_step-2.false) (Whole (exp_of c.in-Where.e.now) ∷ (facts_of g.S.Sequence.parts c.args.facts.now)) (exp_of c.in-Where.x.now) (exp_of c.in-Where.y.now) (c.same_head.ensures.0 c.if-not-same_head.false) (c.in-Where.ensures.says (scope_by c.args.l.now (g.N.Scope.scalars c.args.names.now) c.args.globals.now) (facts_of g.S.Sequence.parts c.args.facts.now)) in
    let known : facts_of g.S.Sequence.parts c.with-known.result ≡ Whole (exp_of c.in-Where.e.now) ∷ (facts_of g.S.Sequence.parts c.args.facts.now) = search rules in
    let there = c.are_apart.ensures in (
      λ yes. c.down.invariant.same.0 (says.0 (subst (λ fs. OneStepApart (scope_by c.args.l.now (g.N.Scope.scalars c.args.names.now) c.args.globals.now) fs (exp_of c.in-Where.x.now) (exp_of c.in-Where.y.now)) known (there.0 yes))),
      λ apart. there.1 (subst (λ fs. OneStepApart (scope_by c.args.l.now (g.N.Scope.scalars c.args.names.now) c.args.globals.now) fs (exp_of c.in-Where.x.now) (exp_of c.in-Where.y.now)) (sym known) (says.1 (c.down.invariant.same.1 apart))),
    )

pub are_apart-requires-in-Unless : goal.are_apart-requires-in-Unless
are_apart-requires-in-Unless g t c κs within =
    let i = c.in-Unless.ensures.inside in (
      subst (λ n. size (exp_of c.in-Unless.x.now) < n) c.decreases (omega (arith, child_smaller (exp_of c.down.left.now) (exp_of c.in-Unless.x.now) i.0, c.down.invariant.smaller)),
      (within.0, (within.1, (i.2, (child_sorted (scope_by c.args.l.now (g.N.Scope.scalars c.args.names.now) c.args.globals.now) (exp_of c.down.left.now) (exp_of c.in-Unless.x.now) c.down.invariant.sorted_left i.0, child_sorted (scope_by c.args.l.now (g.N.Scope.scalars c.args.names.now) c.args.globals.now) (exp_of c.down.right.now) (exp_of c.in-Unless.y.now) c.down.invariant.sorted_right i.1)))),
    )

pub returns-in-Unless : goal.returns-in-Unless
returns-in-Unless g t c =
    let says = by_child (scope_by c.args.l.now (g.N.Scope.scalars c.args.names.now) c.args.globals.now) (facts_of g.S.Sequence.parts c.args.facts.now) (exp_of c.down.left.now) (exp_of c.down.right.now) (never c.is_step.result c.is_step.ensures c.if-is_step.false) (never c.is_step-in-down.result c.is_step-in-down.ensures c.if-is_step-2.false) (NotTrue (exp_of c.in-Unless.e.now) ∷ (facts_of g.S.Sequence.parts c.args.facts.now)) (exp_of c.in-Unless.x.now) (exp_of c.in-Unless.y.now) (c.same_head.ensures.0 c.if-not-same_head.false) (c.in-Unless.ensures.says (scope_by c.args.l.now (g.N.Scope.scalars c.args.names.now) c.args.globals.now) (facts_of g.S.Sequence.parts c.args.facts.now)) in
    let known : facts_of g.S.Sequence.parts c.with-known-in-Unless.result ≡ NotTrue (exp_of c.in-Unless.e.now) ∷ (facts_of g.S.Sequence.parts c.args.facts.now) = search rules in
    let there = c.are_apart-in-Unless.ensures in (
      λ yes. c.down.invariant.same.0 (says.0 (subst (λ fs. OneStepApart (scope_by c.args.l.now (g.N.Scope.scalars c.args.names.now) c.args.globals.now) fs (exp_of c.in-Unless.x.now) (exp_of c.in-Unless.y.now)) known (there.0 yes))),
      λ apart. there.1 (subst (λ fs. OneStepApart (scope_by c.args.l.now (g.N.Scope.scalars c.args.names.now) c.args.globals.now) fs (exp_of c.in-Unless.x.now) (exp_of c.in-Unless.y.now)) (sym known) (says.1 (c.down.invariant.same.1 apart))),
    )

pub down-smaller : goal.down-smaller
down-smaller g t c = child_smaller (exp_of c.down.left.now) (exp_of c.in-Child.x.now) c.in-Child.ensures.inside.0
