-- Values and their scalars, in bindings and among globals.
use Rattle.std.proofs.Common.{◌<◌, ◌^◌, refl, sym, subst, ◌≡◌, Some, ap, Bool, true, false, cond, Option, [], ◌∷◌, List, map, ◌++◌}
use Rattle.std.specs.Prelude.{string_bytes}
use Rattle.c_values.specs.Value.{Value, Bits, Number, Truth, Parts}
use Rattle.c_values.specs.Name.{Name, same_name, with_name}
use Rattle.c_values.specs.CodeValue.{value_of, global_of}
use Rattle.c_values.specs.Types.{CType}
use Rattle.c_values.specs.Layout.{Layout, shape_of, global_type}
use Rattle.c_values.specs.Path.{HasShape}
use Rattle.c_values.specs.CodeTypes.{type_of}
use Rattle.expression_lang.specs.Sort.{WordSort, NumberSort, TruthSort}
use Rattle.expression_lang.specs.States.{IsOfSort}
use Rattle.expression_lang.specs.CodeState.{IsScalar, scalar_of_value, Bindings, env_with, scalars_with, AreScalars, globals_of, AreOfTypes}
use Rattle.expression_lang.specs.Evaluation.{Env}
use Rattle.expression_lang.specs.Sort as S
use Rattle.c_values.specs.declared.values.Value as V
use Rattle.c_values.specs.declared.values.GlobalVar as G

pub scalar_here : (c : S.Scalar) (v : Value) → IsOfSort c v → IsScalar v
scalar_here (WordSort n) (Bits w) h = record { has_width = refl; fits = subst (λ k. w.bits < 2 ^ k) (sym h.has_width) h.fits }
scalar_here NumberSort (Number z) h = tt
scalar_here TruthSort (Truth b) h = tt
scalar_here _ _ h = absurd h

pub scalar_is : (c : S.Scalar) (v : Value) → IsOfSort c v → scalar_of_value v ≡ Some c
scalar_is (WordSort n) (Bits w) h = ap (λ k. Some (WordSort k)) h.has_width
scalar_is NumberSort (Number z) h = refl
scalar_is TruthSort (Truth b) h = refl
scalar_is _ _ h = absurd h

pub scalar_has : (v : Value) (c : S.Scalar) → IsScalar v → scalar_of_value v ≡ Some c → IsOfSort c v
scalar_has (Bits w) c h e = let same : WordSort w.width ≡ c = cc in subst (λ d. IsOfSort d (Bits w)) same h
scalar_has (Number n) c h e = let same : NumberSort ≡ c = cc in subst (λ d. IsOfSort d (Number n)) same tt
scalar_has (Truth b) c h e = let same : TruthSort ≡ c = cc in subst (λ d. IsOfSort d (Truth b)) same tt
scalar_has (Parts vs) c h e = absurd h

pub either_has : (b : Bool) (o p : Option S.Scalar) (v w : Value) (c : S.Scalar) → (o ≡ Some c → IsOfSort c v) → (p ≡ Some c → IsOfSort c w) → cond b o p ≡ Some c → IsOfSort c (cond b v w)
either_has true o p v w c h k e = h e
either_has false o p v w c h k e = k e

pub names_have : (bs : Bindings) (names : Name → Option S.Scalar) (env : Env) → AreScalars bs → ((x : Name) (c : S.Scalar) → names x ≡ Some c → IsOfSort c (env x)) →
    (x : Name) (c : S.Scalar) → scalars_with bs names x ≡ Some c → IsOfSort c (env_with bs env x)
names_have [] names env h k x c e = k x c e
names_have (b ∷ bs) names env h k x c e =
    names_have bs (with_name (string_bytes b.0) (scalar_of_value (value_of b.1)) names) (with_name (string_bytes b.0) (value_of b.1) env) h.1
    (λ y d. either_has (same_name (string_bytes b.0) y) (scalar_of_value (value_of b.1)) (names y) (value_of b.1) (env y) d (scalar_has (value_of b.1) d h.0) (k y d)) x c e

pub either_type : (l : Layout) (b : Bool) (t : CType) (o : Option CType) (v w : Value) (u : CType) → HasShape (shape_of l t) v → (o ≡ Some u → HasShape (shape_of l u) w) →
    cond b (Some t) o ≡ Some u → HasShape (shape_of l u) (cond b v w)
either_type l true t o v w u h k e = let same : t ≡ u = cc in subst (λ r. HasShape (shape_of l r) v) same h
either_type l false t o v w u h k e = k e

pub globals_have : (l : Layout) (vars : List G.GlobalVar) (vs : List V.Value) → AreOfTypes l vars vs → (x : Name) (t : CType) →
    global_type (map global_of vars) x ≡ Some t → HasShape (shape_of l t) (globals_of vars vs x)
globals_have l [] vs h x t e = absurd cc
globals_have l (g ∷ gs) [] h x t e = absurd h
globals_have l (g ∷ gs) (v ∷ vs) h x t e =
    either_type l (same_name (string_bytes g.name) x) (type_of g.ty) (global_type (map global_of gs) x) (value_of v) (globals_of gs vs x) t h.0 (globals_have l gs vs h.1 x t) e

pub env_behind : (old more : Bindings) (env : Env) → env_with (old ++ more) env ≡ env_with more (env_with old env)
env_behind [] more env = refl
env_behind (b ∷ bs) more env = env_behind bs more (with_name (string_bytes b.0) (value_of b.1) env)
