-- One more parameter behind those so far.
use Rattle.std.proofs.Common.{◌≡◌, ◌+◌, [], ◌∷◌, ◌++◌, take, map, ap, sym, ◌∙◌, List}
use Rattle.std.proofs.lemmas.List.{take_more}
use Rattle.typing_declarations.specs.declared.parameters.Parameter as P
use Rattle.typing_declarations.specs.CodeParameters.{parameter_of}
use Rattle.typing_scope.specs.CodeScope.{scope_of}
use Rattle.typing_rules.specs.Functions.{add_parameter, add_parameters}
use Rattle.typing_declarations.proofs.NamedParameters.{declared_behind}
use Rattle.c_types.proofs.functions.declare_parameters.Goals as goal

pub loop-param-preserved : goal.loop-param-preserved
loop-param-preserved c =
    let so_far = take c.loop-param.param-index c.args.params.now in
    let item = c.param-item.result in
    let more = take_more c.args.params.now c.loop-param.param-index item c.loop-param-test.true in
    let more_item : take (c.loop-param.param-index + 1) c.args.params.now ≡ so_far ++ (item ∷ []) = cc (more, c.param-item.is) in
    c.in_ok-add_parameter.ensures
    ∙ ap (λ s. add_parameter (parameter_of item) s) c.loop-param.invariant
    ∙ sym (declared_behind so_far item (scope_of c.args.scope.now))
    ∙ ap (λ (ps : List P.Parameter). add_parameters (map parameter_of ps) (scope_of c.args.scope.now)) (sym more_item)
