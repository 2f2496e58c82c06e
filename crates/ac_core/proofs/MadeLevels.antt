-- A certificate that is made has the levels that its functions were generated at.
use Rattle.std.proofs.Common.{◌≡◌, List, [], ◌∷◌, map, refl, ap}
use Rattle.c_values.specs.Name.{Name}
use Rattle.c_values.specs.Layout.{Layout}
use Rattle.expression_lang.specs.Sort.{Level}
use Rattle.ac_expr.specs.SameExp.{same_exp}
use Rattle.simpl_lang.specs.Command.{SimplUnit}
use Rattle.c_lang.specs.Typed.{TypedFn, TypedUnit}
use Rattle.generation.specs.Generate.{function_of, signature_of, generated}
use Rattle.pipeline.specs.Made.{tidy_last, all_steps_with, tidy_certificate}

each_level : (u : SimplUnit) (l : Layout) (levels : Name → Level) (fs : List TypedFn) →
    map (λ c. c.level) (all_steps_with tidy_last same_exp u (map (λ f. function_of l (levels f.name) f) fs) (map (λ f. signature_of l (levels f.name) f) fs))
    ≡ map (λ f. levels f.name) fs
each_level u l levels [] = refl
each_level u l levels (f ∷ fs) = ap (λ ks. levels f.name ∷ ks) (each_level u l levels fs)

pub levels_made : (u : TypedUnit) (levels : Name → Level) →
    map (λ c. c.level) (tidy_certificate same_exp (generated u levels)) ≡ map (λ f. levels f.name) u.functions
levels_made u levels = each_level (generated u levels) u.layout levels u.functions
