-- A program that is decided to give values of its result's kind does.
use Rattle.std.proofs.Common.{map, [], ◌∷◌, sym, ap, ◌∙◌}
use Rattle.std.specs.Option.{option_map}
use Rattle.c_values.specs.CodeValue.{global_of}
use Rattle.expression_lang.specs.Sorted.{result_scalars}
use Rattle.expression_lang.specs.CodeExpression.{kind_of}
use Rattle.expression_lang.specs.CodeSignature.{signature_of}
use Rattle.program_sorts.specs.CodeSorts.{sort_for}
use Rattle.monad_lang.specs.Sorted.{are_scalars, scalars_given, setting_signed}
use Rattle.monad_lang.specs.CodeProgram.{mon_of}
use Rattle.monad_sorts.specs.CodeTold.{setting_over}
use Rattle.monad_sorts.specs.CodeSorted.{gives}
use Rattle.monad_sorts.specs.CodeInside.{parameters_in, no_names}
use Rattle.monad_sorts.proofs.SortedIs.{gives_is}
use Rattle.monad_sorts.proofs.well_formed.is_body_sorted.Goals as goal

pub returns-in-None : goal.returns-in-None
returns-in-None c =
    let f = sort_for c.args.phase in
    let l = c.args.layout.now in
    let gs = map global_of c.args.globals.now in
    let fs = map signature_of c.args.functions.now in
    let s = signature_of c.args.signature.now in
    let body = mon_of c.args.body.now in
    let t = setting_signed f l gs fs s in
    c.gives.ensures
    ∙ ap (λ ps. gives (setting_over f l gs fs (parameters_in c.args.phase ps no_names)) [] body) c.deref.ensures.value
    ∙ gives_is t [] body
    ∙ ap (λ k. are_scalars (result_scalars f (option_map kind_of k)) (scalars_given t body)) (sym c.in-None.is)

pub returns-in-Some : goal.returns-in-Some
returns-in-Some c =
    let f = sort_for c.args.phase in
    let l = c.args.layout.now in
    let gs = map global_of c.args.globals.now in
    let fs = map signature_of c.args.functions.now in
    let s = signature_of c.args.signature.now in
    let body = mon_of c.args.body.now in
    let t = setting_signed f l gs fs s in
    let ss = f (kind_of c.in-Some.kind) ∷ [] in
    c.gives-in-Some.ensures
    ∙ ap (λ ps. gives (setting_over f l gs fs (parameters_in c.args.phase ps no_names)) ss body) c.deref.ensures.value
    ∙ gives_is t ss body
    ∙ ap (λ k. are_scalars (result_scalars f (option_map kind_of k)) (scalars_given t body)) (sym c.in-Some.is)
