-- Where nothing is bound, the names are those that there are.
use Rattle.std.proofs.Common.{[], subst, sym}
use Rattle.std.specs.Option.{IsSome}
use Rattle.std.proofs.lemmas.List.{nil_from_length}
use Rattle.c_values.specs.Layout.{global_type}
use Rattle.expression_lang.specs.Sort.{sort_of}
use Rattle.expression_lang.specs.CodeExpression.{exp_of}
use Rattle.expression_lang.specs.CodeSort.{names_of}
use Rattle.expression_lang.specs.CodeState.{Bindings, scalars_with}
use Rattle.rule_tests.proofs.chain.values.+is_sorted_behind.Goals as goal

pub returns-in-None-clause-sorted : goal.returns-in-None-clause-sorted
returns-in-None-clause-sorted t c h =
    subst
    (λ (bs : Bindings). IsSome (sort_of (record { layout = c.args.l.now; names = scalars_with bs (λ x. names_of c.args.names.now x); globals = global_type [] }) (exp_of c.args.e.now)))
    (sym (nil_from_length c.args.bindings.now c.in-None.ensures.cases))
    (c.has_sort.ensures h)
