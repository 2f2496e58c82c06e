-- What the code's claims, sites and answers stand for.
use Rattle.std.specs.Prelude.{ℕ, false, Option, Result, Ok, Err}
use Rattle.c_values.specs.Name.{Name}
use Rattle.expression_lang.specs.Expression.{Exp, NumberLit, TruthLit, Le, Eq}
use Rattle.expression_lang.specs.CodeExpression.{exp_of}
use Rattle.expression_lang.specs.Sort.{Scalar, Scope}
use Rattle.expression_lang.specs.CodeSort.{scope_by}
use Rattle.rule_trees.specs.declared.numbers.At as A
use Rattle.entailment.specs.declared.claim.Claim as C
use Rattle.entailment.specs.declared.site.Site as S

-- the assertion that a claim stands for
abbrev pub claim_of : C.Claim → Exp
claim_of (C.TheVariants.Whole e) = exp_of e.now
claim_of (C.TheVariants.AtLeast e low) = Le (NumberLit low) (exp_of e.now)
claim_of (C.TheVariants.AtMost e high) = Le (exp_of e.now) (NumberLit high)
claim_of (C.TheVariants.Equal a b) = Eq (exp_of a.now) (exp_of b.now)
claim_of C.TheVariants.Nothing = TruthLit false

-- what is in scope at a site
abbrev pub scope_at : {N : Type 0} → (N → Name → Option Scalar) → S.Site N → Scope
scope_at scalars s = scope_by s.layout.now (scalars s.names.now) s.globals.now

abbrev pub verdict_of : Result (Unit {0}) A.At → Result (Unit {0}) ℕ
verdict_of (Ok done) = Ok done
verdict_of (Err at) = Err at.0
