-- An expression that has a sort where no name is in scope has one where none is bound.
use Rattle.std.proofs.Common.{◌≡◌, true, [], Option, Some, None, refl, subst, sym, ◌∙◌}
use Rattle.std.specs.Option.{IsSome, is_some, option_map}
use Rattle.std.proofs.lemmas.Bool.{false≢true}
use Rattle.c_values.specs.Name.{Name}
use Rattle.expression_lang.specs.Sort.{Scalar, Sort, sort_of}
use Rattle.expression_lang.specs.CodeExpression.{exp_of}
use Rattle.expression_lang.specs.CodeSort.{scope_by, sort_value}
use Rattle.expression_lang.specs.declared.sort.Sort as S
use Rattle.language_tests.proofs.expressions.is_sorted.Goals as goal

mapped : (o : Option S.Sort) → is_some o ≡ true → IsSome (option_map sort_value o)
mapped (Some s) h = refl
mapped None h = absurd (false≢true h)

pub returns : goal.returns
returns c h =
    subst (λ (names : Name → Option Scalar). IsSome (sort_of (scope_by c.args.l.now names []) (exp_of c.args.e.now)))
    c.new-names.ensures
    (subst (λ (o : Option Sort). IsSome o) c.sort_of.ensures (mapped c.sort_of.result (sym c.is_some.ensures ∙ h)))
