-- A program that is decided to give values of its results' kinds does.
use Rattle.std.proofs.Common.{◌&&◌, map, ap, ◌∙◌}
use Rattle.c_values.specs.CodeValue.{global_of}
use Rattle.expression_lang.specs.CodeExpression.{kind_of}
use Rattle.program_sorts.specs.CodeSorts.{sort_for}
use Rattle.monad_lang.specs.Sorted.{has_few, signature_of}
use Rattle.monad_lang.specs.CodeProgram.{mon_of, final_unit_of, final_fn_of}
use Rattle.monad_sorts.specs.CodeTold.{setting_over, setting_by, setting_for}
use Rattle.monad_sorts.specs.CodeSorted.{gives}
use Rattle.monad_sorts.specs.CodeInside.{parameters_in, no_names}
use Rattle.monad_sorts.proofs.SortedIs.{gives_is}
use Rattle.monad_sorts.proofs.well_formed.is_program_sorted.Goals as goal

pub returns : goal.returns
returns c =
    let f = sort_for c.args.phase in
    let l = c.args.u.now.layout in
    let u = final_unit_of c.args.u.now in
    let body = mon_of c.args.f.now.body in
    let ks = map kind_of c.args.f.now.results.items in
    let t = setting_for f u (final_fn_of c.args.f.now) in
    let functions = map signature_of (map final_fn_of c.deref-3.result.now) in
    let names = parameters_in c.args.phase c.deref.result.now no_names in
    c.gives.ensures
    ∙ ap (λ rs. has_few (map kind_of rs)
    && gives (setting_over f l (map global_of c.deref-2.result.now) functions names) (map f (map kind_of rs)) body)
    c.deref-4.ensures.value
    ∙ ap (λ gs. has_few ks && gives (setting_over f l (map global_of gs) functions names) (map f ks) body) c.deref-2.ensures.value
    ∙ ap (λ gs. has_few ks
    && gives (setting_over f l u.globals (map signature_of (map final_fn_of gs)) names) (map f ks) body) c.deref-3.ensures.value
    ∙ ap (λ ps. has_few ks && gives (setting_by f u (parameters_in c.args.phase ps no_names)) (map f ks) body)
    c.deref.ensures.value
    ∙ ap (λ b. has_few ks && b) (gives_is t (map f ks) body)
