-- What names are bound to beside others.
use Rattle.std.proofs.Common.{◌≡◌, false, List, [], ◌∷◌, refl, ◌∙◌}
use Rattle.std.proofs.lemmas.Bool.{cond-false, or_parts}
use Rattle.c_values.specs.Name.{Name, same_name, with_name, is_among}
use Rattle.c_values.specs.Value.{Value}
use Rattle.c_values.proofs.Laid.{other_name}
use Rattle.expression_lang.specs.Evaluation.{Env}
use Rattle.expression_lang.specs.Signature.{bound}

pub name_stays : (x y : Name) (v : Value) (env : Env) → same_name y x ≡ false → with_name x v env y ≡ env y
name_stays x y v env h = cond-false (same_name x y) v (env y) (other_name y x h)

pub bound_stays : (y : Name) (xs : List Name) (vs : List Value) (env : Env) → is_among y xs ≡ false → bound xs vs env y ≡ env y
bound_stays y [] vs env h = refl
bound_stays y (x ∷ xs) [] env h = refl
bound_stays y (x ∷ xs) (v ∷ vs) env h =
    let d = or_parts (same_name y x) (is_among y xs) h in
    bound_stays y xs vs (with_name x v env) d.1 ∙ name_stays x y v env d.0
