-- A place is put together of its parts.
use Rattle.std.proofs.Common.{rules, ◌≡◌, sym, ap, ◌∙◌}
use Rattle.c_values.specs.CodeTypes.{type_of}
use Rattle.expression_lang.specs.CodeExpression.{exp_of, path_of}
use Rattle.ac_expr.specs.Substituted.{substituted, path_substituted}
use Rattle.monad_lang.specs.Program as M
use Rattle.monad_lang.specs.CodeProgram.{place_of}
use Rattle.program_facts.specs.Substituted.{place_substituted}
use Rattle.value_putting.proofs.Parts.{stored_put, written_put}
use Rattle.value_putting.proofs.expressions.in_place.Goals as goal

pub returns-in_ok-copy_of-in-Stored : goal.returns-in_ok-copy_of-in-Stored
returns-in_ok-copy_of-in-Stored c =
    let x = c.args.name.now in
    let e = exp_of c.args.value.now in
    let here : place_of c.args.place.now ≡ M.Stored (type_of c.in-Stored.ty) (exp_of c.in-Stored.pointer) (path_of c.in-Stored.path) = ap place_of c.in-Stored.is in
    let t : type_of c.in_ok-copy_of-in-Stored.field-0 ≡ type_of c.in-Stored.ty = search rules in
    let p : exp_of c.into_inner.result ≡ substituted c.args.name.now (exp_of c.args.value.now) (exp_of c.in-Stored.pointer) = search rules in
    let path : path_of c.in_ok-path-in-Stored.path ≡ path_substituted c.args.name.now (exp_of c.args.value.now) (path_of c.in-Stored.path) = search rules in
    stored_put x e _ _ _ _ _ _ t p path ∙ ap (λ q. place_substituted x e q) (sym here)

pub returns-in_ok-copy_of-in-Written : goal.returns-in_ok-copy_of-in-Written
returns-in_ok-copy_of-in-Written c =
    let x = c.args.name.now in
    let e = exp_of c.args.value.now in
    let here : place_of c.args.place.now ≡ M.Written (type_of c.in-Written.ty) (exp_of c.in-Written.pointer) (path_of c.in-Written.path) = ap place_of c.in-Written.is in
    let t : type_of c.in_ok-copy_of-in-Written.field-0 ≡ type_of c.in-Written.ty = search rules in
    let p : exp_of c.into_inner-in-Written.result ≡ substituted c.args.name.now (exp_of c.args.value.now) (exp_of c.in-Written.pointer) = search rules in
    let path : path_of c.in_ok-path-in-Written.path ≡ path_substituted c.args.name.now (exp_of c.args.value.now) (path_of c.in-Written.path) = search rules in
    written_put x e _ _ _ _ _ _ t p path ∙ ap (λ q. place_substituted x e q) (sym here)
