-- The parts of the head are its own.
use Rattle.std.proofs.Common.{rules, ◌≡◌, ◌↔◌, sym, subst, IsTrue}
use Rattle.c_values.specs.CodeNumber.{number_op_of}
use Rattle.expression_lang.specs.Expression.{Not, And, Or, Imp, If, Eq, Arith, ToWord, ToNat, ToInt}
use Rattle.expression_lang.specs.CodeExpression.{exp_of}
use Rattle.expression_lang.specs.CodeSort.{scope_by}
use Rattle.ac_expr.specs.CodeApart.{IsSomeSorted}
use Rattle.ac_expr.specs.CodeChain.{facts_of}
use Rattle.ac_expr.specs.Step.{Shortens}
use Rattle.ac_expr.proofs.steps.shortens.Goals as goal

pub returns-in-Not : goal.returns-in-Not
returns-in-Not g c =
    let e : exp_of c.args.a.now ≡ Not (exp_of c.deref.result.now) = search rules in
    subst (λ x. IsTrue c.drops_not.result ↔ Shortens (scope_by c.args.l.now (g.N.Scope.scalars c.args.names.now) c.args.globals.now) (facts_of g.S.Sequence.parts c.args.facts.now) x (exp_of c.args.b.now)) (sym e)
    (c.drops_not.ensures (scope_by c.args.l.now (g.N.Scope.scalars c.args.names.now) c.args.globals.now) (facts_of g.S.Sequence.parts c.args.facts.now))

pub returns-in-And : goal.returns-in-And
returns-in-And g c =
    let e : exp_of c.args.a.now ≡ And (exp_of c.deref-in-And.result.now) (exp_of c.deref-in-And-2.result.now) = search rules in
    subst (λ x. IsTrue c.drops_and.result ↔ Shortens (scope_by c.args.l.now (g.N.Scope.scalars c.args.names.now) c.args.globals.now) (facts_of g.S.Sequence.parts c.args.facts.now) x (exp_of c.args.b.now)) (sym e)
    (c.drops_and.ensures (scope_by c.args.l.now (g.N.Scope.scalars c.args.names.now) c.args.globals.now) (facts_of g.S.Sequence.parts c.args.facts.now))

pub returns-in-Or : goal.returns-in-Or
returns-in-Or g c =
    let e : exp_of c.args.a.now ≡ Or (exp_of c.deref-in-Or.result.now) (exp_of c.deref-in-Or-2.result.now) = search rules in
    subst (λ x. IsTrue c.drops_or.result ↔ Shortens (scope_by c.args.l.now (g.N.Scope.scalars c.args.names.now) c.args.globals.now) (facts_of g.S.Sequence.parts c.args.facts.now) x (exp_of c.args.b.now)) (sym e)
    (c.drops_or.ensures (scope_by c.args.l.now (g.N.Scope.scalars c.args.names.now) c.args.globals.now) (facts_of g.S.Sequence.parts c.args.facts.now))

pub returns-in-Imp : goal.returns-in-Imp
returns-in-Imp g c =
    let e : exp_of c.args.a.now ≡ Imp (exp_of c.deref-in-Imp.result.now) (exp_of c.deref-in-Imp-2.result.now) = search rules in
    subst (λ x. IsTrue c.drops_imp.result ↔ Shortens (scope_by c.args.l.now (g.N.Scope.scalars c.args.names.now) c.args.globals.now) (facts_of g.S.Sequence.parts c.args.facts.now) x (exp_of c.args.b.now)) (sym e)
    (c.drops_imp.ensures (scope_by c.args.l.now (g.N.Scope.scalars c.args.names.now) c.args.globals.now) (facts_of g.S.Sequence.parts c.args.facts.now))

pub returns-in-If : goal.returns-in-If
returns-in-If g c =
    let e : exp_of c.args.a.now ≡ If (exp_of c.deref-in-If.result.now) (exp_of c.deref-in-If-2.result.now) (exp_of c.deref-in-If-3.result.now) = search rules in
    subst (λ x. IsTrue c.drops_if.result ↔ Shortens (scope_by c.args.l.now (g.N.Scope.scalars c.args.names.now) c.args.globals.now) (facts_of g.S.Sequence.parts c.args.facts.now) x (exp_of c.args.b.now)) (sym e)
    (c.drops_if.ensures (scope_by c.args.l.now (g.N.Scope.scalars c.args.names.now) c.args.globals.now) (facts_of g.S.Sequence.parts c.args.facts.now))

pub returns-in-Eq : goal.returns-in-Eq
returns-in-Eq g c =
    let e : exp_of c.args.a.now ≡ Eq (exp_of c.deref-in-Eq.result.now) (exp_of c.deref-in-Eq-2.result.now) = search rules in
    subst (λ x. IsTrue c.drops_eq.result ↔ Shortens (scope_by c.args.l.now (g.N.Scope.scalars c.args.names.now) c.args.globals.now) (facts_of g.S.Sequence.parts c.args.facts.now) x (exp_of c.args.b.now)) (sym e)
    (c.drops_eq.ensures (scope_by c.args.l.now (g.N.Scope.scalars c.args.names.now) c.args.globals.now) (facts_of g.S.Sequence.parts c.args.facts.now))

pub returns-in-Arith : goal.returns-in-Arith
returns-in-Arith g c =
    let e : exp_of c.args.a.now ≡ Arith (number_op_of c.in-Arith.op) (exp_of c.deref-in-Arith.result.now) (exp_of c.deref-in-Arith-2.result.now) = search rules in
    subst (λ x. IsTrue c.drops_arith.result ↔ Shortens (scope_by c.args.l.now (g.N.Scope.scalars c.args.names.now) c.args.globals.now) (facts_of g.S.Sequence.parts c.args.facts.now) x (exp_of c.args.b.now)) (sym e)
    (c.drops_arith.ensures (scope_by c.args.l.now (g.N.Scope.scalars c.args.names.now) c.args.globals.now) (facts_of g.S.Sequence.parts c.args.facts.now))

pub returns-in-ToWord : goal.returns-in-ToWord
returns-in-ToWord g c =
    let e : exp_of c.args.a.now ≡ ToWord c.in-ToWord.width (exp_of c.deref-in-ToWord.result.now) = search rules in
    subst (λ x. IsTrue c.drops_word.result ↔ Shortens (scope_by c.args.l.now (g.N.Scope.scalars c.args.names.now) c.args.globals.now) (facts_of g.S.Sequence.parts c.args.facts.now) x (exp_of c.args.b.now)) (sym e)
    (c.drops_word.ensures (facts_of g.S.Sequence.parts c.args.facts.now))

pub drops_nat-requires : goal.drops_nat-requires
drops_nat-requires g c =
    let e : exp_of c.args.a.now ≡ ToNat (exp_of c.deref-in-ToNat.result.now) = search rules in (
      scope_by c.args.l.now (g.N.Scope.scalars c.args.names.now) c.args.globals.now,
      subst (λ x. IsSomeSorted (scope_by c.args.l.now (g.N.Scope.scalars c.args.names.now) c.args.globals.now) x) e c.requires,
    )

pub returns-in-ToNat : goal.returns-in-ToNat
returns-in-ToNat g c =
    let e : exp_of c.args.a.now ≡ ToNat (exp_of c.deref-in-ToNat.result.now) = search rules in
    subst (λ x. IsTrue c.drops_nat.result ↔ Shortens (scope_by c.args.l.now (g.N.Scope.scalars c.args.names.now) c.args.globals.now) (facts_of g.S.Sequence.parts c.args.facts.now) x (exp_of c.args.b.now)) (sym e)
    (c.drops_nat.ensures (scope_by c.args.l.now (g.N.Scope.scalars c.args.names.now) c.args.globals.now))

pub drops_int-requires : goal.drops_int-requires
drops_int-requires g c =
    let e : exp_of c.args.a.now ≡ ToInt (exp_of c.deref-in-ToInt.result.now) = search rules in (
      scope_by c.args.l.now (g.N.Scope.scalars c.args.names.now) c.args.globals.now,
      subst (λ x. IsSomeSorted (scope_by c.args.l.now (g.N.Scope.scalars c.args.names.now) c.args.globals.now) x) e c.requires,
    )

pub returns-in-ToInt : goal.returns-in-ToInt
returns-in-ToInt g c =
    let e : exp_of c.args.a.now ≡ ToInt (exp_of c.deref-in-ToInt.result.now) = search rules in
    subst (λ x. IsTrue c.drops_int.result ↔ Shortens (scope_by c.args.l.now (g.N.Scope.scalars c.args.names.now) c.args.globals.now) (facts_of g.S.Sequence.parts c.args.facts.now) x (exp_of c.args.b.now)) (sym e)
    (c.drops_int.ensures (scope_by c.args.l.now (g.N.Scope.scalars c.args.names.now) c.args.globals.now))
