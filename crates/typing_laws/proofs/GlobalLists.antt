-- The globals so far with one changed, or one more.
use Rattle.std.proofs.Common.{◌≡◌, Bool, true, false, not, cond, List, [], ◌∷◌, map, Option, Some, option_map, refl, sym, ap, ◌∙◌, subst}
use Rattle.std.proofs.lemmas.Bool.{true≢false, not_from_false, not-true, or_from}
use Rattle.c_values.specs.Name.{Name, same_name, is_among, are_distinct}
use Rattle.c_values.specs.Types.{CType}
use Rattle.c_values.specs.Layout.{Layout, is_object}
use Rattle.typing_rules.specs.File.{GlobalSoFar, global_named, with_global}
use Rattle.typing_rules.specs.Scope.{Entity, Global, Names}
use Rattle.typing_laws.proofs.Tests.{both, left, right, neither, name_is, name_itself, none_some, some_same}
use Rattle.typing_laws.proofs.Scopes.{GlobalsFit, IsScalarIfSet, AreScalars, global_type_in}

abbrev pub global_names : List GlobalSoFar → List Name
global_names gs = map (λ g. g.name) gs

module _ (g : GlobalSoFar) where
  pub named_with : (gs : List GlobalSoFar) (y : Name) → global_named (with_global g gs) y ≡ cond (same_name g.name y) (Some g) (global_named gs y)
  named_with [] y = refl
  named_with (h ∷ hs) y = by_same (same_name h.name g.name) refl (named_with hs y)
    where
      replaced : h.name ≡ g.name → (b c : Bool) → same_name g.name y ≡ b → same_name h.name y ≡ c → cond b (Some g) (global_named hs y) ≡ cond b (Some g) (cond c (Some h) (global_named hs y))
      replaced e false true k m = absurd (true≢false (sym m ∙ ap (λ z. same_name z y) e ∙ k))
      replaced _ _ _ _ _ = refl

      further : same_name h.name g.name ≡ false → (b c : Bool) → same_name g.name y ≡ b → same_name h.name y ≡ c → (o p : Option GlobalSoFar) → p ≡ cond b (Some g) o → cond c (Some h) p ≡ cond b (Some g) (cond c (Some h) o)
      further e true true k m o p i = absurd (true≢false (sym (name_itself h.name) ∙ ap (λ z. same_name h.name z) (name_is h.name y m ∙ sym (name_is g.name y k)) ∙ e))
      further e true false k m o p i = i
      further e false true k m o p i = refl
      further e false false k m o p i = i

      by_same : (b : Bool) → same_name h.name g.name ≡ b → global_named (with_global g hs) y ≡ cond (same_name g.name y) (Some g) (global_named hs y) →
          global_named (cond b (g ∷ hs) (h ∷ with_global g hs)) y ≡ cond (same_name g.name y) (Some g) (cond (same_name h.name y) (Some h) (global_named hs y))
      by_same true e i = replaced (name_is h.name g.name e) (same_name g.name y) (same_name h.name y) refl refl
      by_same false e i = further e (same_name g.name y) (same_name h.name y) refl refl (global_named hs y) (global_named (with_global g hs) y) i

  among_with : (gs : List GlobalSoFar) (y : Name) → is_among y (global_names gs) ≡ false → same_name y g.name ≡ false → is_among y (global_names (with_global g gs)) ≡ false
  among_with [] y h c = or_from (same_name y g.name) false c refl
  among_with (h ∷ hs) y k c = let p = neither (same_name y h.name) (is_among y (global_names hs)) k in by_same (same_name h.name g.name) p.0 p.1 (among_with hs y p.1 c)
    where
      by_same : (b : Bool) → same_name y h.name ≡ false → is_among y (global_names hs) ≡ false → is_among y (global_names (with_global g hs)) ≡ false → is_among y (global_names (cond b (g ∷ hs) (h ∷ with_global g hs))) ≡ false
      by_same true a r i = or_from (same_name y g.name) (is_among y (global_names hs)) c r
      by_same false a r i = or_from (same_name y h.name) (is_among y (global_names (with_global g hs))) a i

  pub distinct_with : (gs : List GlobalSoFar) → are_distinct (global_names gs) ≡ true → are_distinct (global_names (with_global g gs)) ≡ true
  distinct_with [] h = refl
  distinct_with (h ∷ hs) k = by_same (same_name h.name g.name) refl (distinct_with hs rest)
    where
      new : is_among h.name (global_names hs) ≡ false
      new = not-true (is_among h.name (global_names hs)) (left (not (is_among h.name (global_names hs))) (are_distinct (global_names hs)) k)

      rest : are_distinct (global_names hs) ≡ true
      rest = right (not (is_among h.name (global_names hs))) (are_distinct (global_names hs)) k

      by_same : (b : Bool) → same_name h.name g.name ≡ b → are_distinct (global_names (with_global g hs)) ≡ true → are_distinct (global_names (cond b (g ∷ hs) (h ∷ with_global g hs))) ≡ true
      by_same true e i = subst (λ x. are_distinct (x ∷ global_names hs) ≡ true) (name_is h.name g.name e) k
      by_same false e i = both (not_from_false (is_among h.name (global_names (with_global g hs))) (among_with hs h.name new e)) i

  pub globals_with : (l : Layout) (file : Names) (gs : List GlobalSoFar) → file g.name ≡ Some (Global g.type) → is_object l g.type ≡ true → GlobalsFit l file gs → GlobalsFit l file (with_global g gs)
  globals_with l file [] e o h = (e, o, tt)
  globals_with l file (k ∷ ks) e o h = by_same (same_name k.name g.name) (globals_with l file ks e o h.2)
    where
      by_same : (b : Bool) → GlobalsFit l file (with_global g ks) → GlobalsFit l file (cond b (g ∷ ks) (k ∷ with_global g ks))
      by_same true i = (e, o, h.2)
      by_same false i = (h.0, h.1, i)

-- what is found with an initialiser is a scalar
pub found_scalar : (gs : List GlobalSoFar) (x : Name) (g : GlobalSoFar) → AreScalars gs → global_named gs x ≡ Some g → IsScalarIfSet g
found_scalar [] x g h e = absurd (none_some e)
found_scalar (k ∷ ks) x g h e = by_same (same_name k.name x) (found_scalar ks x g h.1) e
  where
    by_same : (b : Bool) → (global_named ks x ≡ Some g → IsScalarIfSet g) → cond b (Some k) (global_named ks x) ≡ Some g → IsScalarIfSet g
    by_same true r d = subst IsScalarIfSet (some_same d) h.0
    by_same false r d = r d

pub scalars_with : (g : GlobalSoFar) (gs : List GlobalSoFar) → IsScalarIfSet g → AreScalars gs → AreScalars (with_global g gs)
scalars_with g [] own h = (own, tt)
scalars_with g (k ∷ ks) own h = by_same (same_name k.name g.name) (scalars_with g ks own h.1)
  where
    by_same : (b : Bool) → AreScalars (with_global g ks) → AreScalars (cond b (g ∷ ks) (k ∷ with_global g ks))
    by_same true i = (own, h.1)
    by_same false i = (h.0, i)

-- what is found fits
pub found_fits : (l : Layout) (file : Names) (gs : List GlobalSoFar) (x : Name) (g : GlobalSoFar) → GlobalsFit l file gs → global_named gs x ≡ Some g → (g.name ≡ x) × (file g.name ≡ Some (Global g.type)) × (is_object l g.type ≡ true)
found_fits l file [] x g h e = absurd (none_some e)
found_fits l file (k ∷ ks) x g h e = by_same (same_name k.name x) refl (found_fits l file ks x g h.2) e
  where
    by_same : (b : Bool) → same_name k.name x ≡ b → (global_named ks x ≡ Some g → (g.name ≡ x) × (file g.name ≡ Some (Global g.type)) × (is_object l g.type ≡ true)) → cond b (Some k) (global_named ks x) ≡ Some g →
        (g.name ≡ x) × (file g.name ≡ Some (Global g.type)) × (is_object l g.type ≡ true)
    by_same true c r d = subst (λ f. (f.name ≡ x) × (file f.name ≡ Some (Global f.type)) × (is_object l f.type ≡ true)) (some_same d) (name_is k.name x c, h.0, h.1)
    by_same false c r d = r d

-- the types of names that are known, with the global
pub known_with : (g : GlobalSoFar) (gs : List GlobalSoFar) (file : Names) → file g.name ≡ Some (Global g.type) →
    ((y : Name) (u : CType) → file y ≡ Some (Global u) → same_name g.name y ≡ false → global_type_in gs y ≡ Some u) → (y : Name) (u : CType) → file y ≡ Some (Global u) → global_type_in (with_global g gs) y ≡ Some u
known_with g gs file own others y u e = ap (λ o. option_map (λ f. f.type) o) (named_with g gs y) ∙ by_same (same_name g.name y) refl
  where
    type_same : (t v : CType) → ◌≡◌ {A = Option Entity} (Some (Global t)) (Some (Global v)) → t ≡ v
    type_same t v c = cc

    by_same : (b : Bool) → same_name g.name y ≡ b → option_map (λ f. f.type) (cond b (Some g) (global_named gs y)) ≡ Some u
    by_same true c = ap Some (type_same g.type u (sym own ∙ ap file (name_is g.name y c) ∙ e))
    by_same false c = others y u e c
