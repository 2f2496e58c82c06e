-- Each function at its level, by position and by name.
use Rattle.std.proofs.Common.{◌≡◌, List, [], ◌∷◌, map, refl, sym, ap, ◌∙◌}
use Rattle.c_values.specs.Name.{Name}
use Rattle.expression_lang.specs.Sort.{Level}
use Rattle.c_lang.specs.Typed.{TypedFn}
use Rattle.simpl_gen.specs.CodeAtLevels.{at_levels}

at_own_levels : {A : Type 0} (make : Level → TypedFn → A) (levels : Name → Level) (fs : List TypedFn) →
    at_levels make fs (map (λ f. levels f.name) fs) ≡ map (λ f. make (levels f.name) f) fs
at_own_levels make levels [] = refl
at_own_levels make levels (f ∷ fs) = ap (λ xs. make (levels f.name) f ∷ xs) (at_own_levels make levels fs)

pub by_name : {A : Type 0} (make : Level → TypedFn → A) (levels : Name → Level) (fs : List TypedFn) (ks : List Level) →
    map (λ f. levels f.name) fs ≡ ks → at_levels make fs ks ≡ map (λ f. make (levels f.name) f) fs
by_name make levels fs ks e = ap (λ ls. at_levels make fs ls) (sym e) ∙ at_own_levels make levels fs
