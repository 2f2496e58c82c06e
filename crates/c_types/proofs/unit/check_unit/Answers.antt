-- The functions and declarations are all of the text's, and their answer is the text's.
use Rattle.std.proofs.Common.{◌≡◌, List, map, subst}
use Rattle.std.proofs.lemmas.Result.{err_from_is_err_and}
use Rattle.std.specs.HashSet.{contains_text}
use Rattle.std.specs.List.{filter_map}
use Rattle.c_values.specs.CodeTypes.{target_of}
use Rattle.c_values.specs.Name.{Name, is_among}
use Rattle.c_grammar.specs.CodeTree.{decl_of, unit_of as text_of}
use Rattle.c_grammar.specs.declared.tree.Decl.{Decl}
use Rattle.typing_rules.specs.CodeAnswers.{IsFaultOf}
use Rattle.typing_rules.specs.Checked.{Good}
use Rattle.typing_rules.specs.Unit.{body_name, externals}
use Rattle.c_lang.specs.CodeTyped.{function_of, unit_of}
use Rattle.typing_scope.specs.CodeScope.{scope_of}
use Rattle.c_types.proofs.TextAnswer.{text_bad, text_typed}
use Rattle.c_types.proofs.unit.check_unit.Goals as goal

pub returns-in_err-functions-clause-first_bad : goal.returns-in_err-functions-clause-first_bad
returns-in_err-functions-clause-first_bad c =
    let names = c.in_ok-with_body.with_body in
    let scope = scope_of c.in_ok-scope.scope in
    let fault = c.in_err-functions.field-0.0 in
    let p = err_from_is_err_and c.from_residual-in_err-functions.result c.from_residual-in_err-functions.ensures.1 in
    rw (p.1, p.2)
    (text_bad (target_of c.args.target) (text_of c.args.unit.now) (λ x. contains_text names x) scope fault c.in_ok-scope.ensures
    (subst (λ (es : List Decl). (x : Name) → contains_text names x ≡ is_among x (filter_map body_name (map decl_of es))) c.as_slice.ensures.value c.in_ok-with_body.ensures)
    (subst (λ (es : List Decl). IsFaultOf fault (externals (map decl_of es) scope)) c.as_slice-2.ensures.value c.in_err-functions.ensures))

pub returns-clause-typed : goal.returns-clause-typed
returns-clause-typed c =
    let names = c.in_ok-with_body.with_body in
    let scope = scope_of c.in_ok-scope.scope in
    let after = scope_of c.externals_typed.new.scope in
    let functions = map function_of c.in_ok-functions.functions.items in
    text_typed (target_of c.args.target) (text_of c.args.unit.now) (λ x. contains_text names x) scope after functions (unit_of c.in_ok-typed_unit.field-0) c.in_ok-scope.ensures
    (subst (λ (es : List Decl). (x : Name) → contains_text names x ≡ is_among x (filter_map body_name (map decl_of es))) c.as_slice.ensures.value c.in_ok-with_body.ensures)
    (subst (λ (es : List Decl). externals (map decl_of es) scope ≡ Good (functions, after)) c.as_slice-2.ensures.value c.in_ok-functions.ensures)
    c.in_ok-typed_unit.ensures
