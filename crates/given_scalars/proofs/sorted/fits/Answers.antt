-- An object's part takes what its place is asked for.
use Rattle.std.proofs.Common.{◌≡◌, Bool, sym, ap, ◌∙◌}
use Rattle.c_values.specs.CodeTypes.{type_of}
use Rattle.expression_lang.specs.CodeExpression.{exp_of, path_of}
use Rattle.expression_lang.specs.Sort.{Scope}
use Rattle.expression_lang.specs.Sorted.{program_sort, fits_place}
use Rattle.monad_lang.specs.Program as M
use Rattle.monad_lang.specs.Program.{Place}
use Rattle.monad_lang.specs.CodeProgram.{place_of}
use Rattle.monad_lang.specs.Sorted.{place_sort}
use Rattle.given_scalars.specs.CodeScalars.{setting_around}
use Rattle.given_scalars.proofs.sorted.fits.Goals as goal

pub returns-in-Stored : goal.returns-in-Stored
returns-in-Stored g c =
    let s : Scope = (setting_around g.N.Scope.scalars c.args.names.now c.args.unit).scope in
    let says : Place → Bool = λ p. fits_place (place_sort s p) (program_sort s (exp_of c.args.value.now)) in
    let here : place_of c.args.place.now ≡ M.Stored (type_of c.in-Stored.ty) (exp_of c.in-Stored.pointer) (path_of c.in-Stored.path) = ap place_of c.in-Stored.is in
    c.fits_object.ensures ∙ ap says (sym here)

pub returns-in-Written : goal.returns-in-Written
returns-in-Written g c =
    let s : Scope = (setting_around g.N.Scope.scalars c.args.names.now c.args.unit).scope in
    let says : Place → Bool = λ p. fits_place (place_sort s p) (program_sort s (exp_of c.args.value.now)) in
    let here : place_of c.args.place.now ≡ M.Written (type_of c.in-Written.ty) (exp_of c.in-Written.pointer) (path_of c.in-Written.path) = ap place_of c.in-Written.is in
    c.fits_object-in-Written.ensures ∙ ap says (sym here)
