-- Functions that are listed alike: their names agree, each has its level, and a verdict on what is generated is of no list.
use Rattle.std.proofs.Common.{◌≡◌, ℕ, ◌+◌, ◌<◌, Bool, true, false, cond, List, [], ◌∷◌, map, length, Some, None, inl, inr, refl, sym, ap, ap₂, subst, ◌∙◌, arith}
use Rattle.std.specs.Prelude.{Ok, Err}
use Rattle.std.proofs.lemmas.Bool.{and_from, cond-true}
use Rattle.std.proofs.lemmas.Simd.{map-map}
use Rattle.c_values.specs.Name.{Name, same_name}
use Rattle.c_values.proofs.Laid.{name_is, same_name-refl}
use Rattle.expression_lang.specs.Sort.{Level}
use Rattle.expression_lang.specs.Signature.{Signature}
use Rattle.simpl_lang.specs.Command.{SimplFn, SimplUnit}
use Rattle.simpl_lang.specs.Sorted.{same_level}
use Rattle.simpl_lang.proofs.SameKinds.{same_level-refl}
use Rattle.c_lang.specs.Typed.{TypedUnit, TypedFn}
use Rattle.generation.specs.Generate.{function_of, generated}
use Rattle.acceptance.specs.Certificate.{Steps}
use Rattle.acceptance.specs.Verdict.{Place}
use Rattle.acceptance.specs.UnitVerdict.{of_list, of_function, UnitAnswer, is_listed, listed, AreFunctionsVerdict, AfterList, IsUnitVerdict}
use Rattle.unit_translation.specs.CodeTranslated.{level_at}
use Rattle.checking.specs.Checked.{names_in, function_names, level_in, listed_apart}
use Rattle.checking.specs.Refused.{generated_names}
use Rattle.checking.specs.Levels.{levels_listed}

-- names

pub names_agree : (at : ℕ) (xs ys : List Name) → listed_apart at xs ys ≡ None → xs ≡ ys
names_agree at [] [] h = refl
names_agree at [] (y ∷ ys) h = absurd cc
names_agree at (x ∷ xs) [] h = absurd cc
names_agree at (x ∷ xs) (y ∷ ys) h = by (same_name x y) refl (names_agree (at + 1) xs ys) h
  where
    by : (b : Bool) → same_name x y ≡ b → (listed_apart (at + 1) xs ys ≡ None → xs ≡ ys) →
        cond b (listed_apart (at + 1) xs ys) (Some (at, x)) ≡ None → x ∷ xs ≡ y ∷ ys
    by true e rest k = ap₂ (λ z zs. z ∷ zs) (name_is x y e) (rest k)
    by false e rest k = absurd cc

head_is : (x y : Name) (xs ys : List Name) → x ∷ xs ≡ y ∷ ys → x ≡ y
head_is x y xs ys e = cc

rest_is : (x y : Name) (xs ys : List Name) → x ∷ xs ≡ y ∷ ys → xs ≡ ys
rest_is x y xs ys e = cc

-- the same names don't differ
pub none_apart : (at : ℕ) (xs : List Name) → listed_apart at xs xs ≡ None
none_apart at [] = refl
none_apart at (x ∷ xs) =
    cond-true (same_name x x) (listed_apart (at + 1) xs xs) (Some (at, x)) (same_name-refl x) ∙ none_apart (at + 1) xs

-- levels

level_is_at : (fs : List TypedFn) (cs : List Steps) → function_names fs ≡ names_in cs → (x : Name) →
    level_in cs x ≡ level_at fs (levels_listed cs) x
level_is_at [] [] e x = refl
level_is_at [] (c ∷ cs) e x = absurd cc
level_is_at (f ∷ fs) [] e x = absurd cc
level_is_at (f ∷ fs) (c ∷ cs) e x =
    ap₂ (λ n l. cond (same_name n x) c.level l) (sym (head_is f.name c.name (function_names fs) (names_in cs) e))
    (level_is_at fs cs (rest_is f.name c.name (function_names fs) (names_in cs) e) x)

same_levels : (fs : List TypedFn) (l k : Name → Level) → ((x : Name) → l x ≡ k x) → map (λ (f : TypedFn). l f.name) fs ≡ map (λ (f : TypedFn). k f.name) fs
same_levels [] l k h = refl
same_levels (f ∷ fs) l k h = ap₂ (λ y ys. y ∷ ys) (h f.name) (same_levels fs l k h)

pub levels_agree : (fs : List TypedFn) (cs : List Steps) (ks : List Level) → function_names fs ≡ names_in cs → ks ≡ levels_listed cs →
    map (λ (f : TypedFn). level_at fs ks f.name) fs ≡ ks → map (λ (f : TypedFn). level_in cs f.name) fs ≡ ks
levels_agree fs cs ks e k h =
    same_levels fs (level_in cs) (level_at fs ks) (λ x. level_is_at fs cs e x ∙ ap (λ js. level_at fs js x) (sym k)) ∙ h

-- the list

-- functions under the same names and at the same levels
pub alike_listed : (at : ℕ) (fs : List SimplFn) (cs : List Steps) → generated_names fs ≡ names_in cs →
    map (λ (f : SimplFn). f.level) fs ≡ levels_listed cs → listed at fs cs ≡ Ok tt
alike_listed at [] [] e k = refl
alike_listed at [] (c ∷ cs) e k = absurd cc
alike_listed at (f ∷ fs) [] e k = absurd cc
alike_listed at (f ∷ fs) (c ∷ cs) e k =
    let l : f.level ≡ c.level = cc in
    let ls : map (λ (f : SimplFn). f.level) fs ≡ levels_listed cs = cc in
    cond-true (is_listed f c) (listed (at + 1) fs cs) (Err at)
    (and_from (same_name f.name c.name) (same_level f.level c.level)
    (subst (λ x. same_name f.name x ≡ true) (head_is f.name c.name (generated_names fs) (names_in cs) e) (same_name-refl f.name))
    (subst (λ x. same_level f.level x ≡ true) l (same_level-refl f.level)))
    ∙ alike_listed (at + 1) fs cs (rest_is f.name c.name (generated_names fs) (names_in cs) e) ls

-- what is generated at levels has the text's names, and these levels

pub names_generated : (u : TypedUnit) (levels : Name → Level) → generated_names (generated u levels).functions ≡ function_names u.functions
names_generated u levels = map-map (λ (f : SimplFn). f.name) (λ (f : TypedFn). function_of u.layout (levels f.name) f) u.functions

pub levels_generated : (u : TypedUnit) (levels : Name → Level) →
    map (λ (f : SimplFn). f.level) (generated u levels).functions ≡ map (λ (f : TypedFn). levels f.name) u.functions
levels_generated u levels = map-map (λ (f : SimplFn). f.level) (λ (f : TypedFn). function_of u.layout (levels f.name) f) u.functions

-- verdicts

pub no_list : (u : SimplUnit) (cs : List Steps) (at : ℕ) → listed 0 u.functions cs ≡ Ok tt → IsUnitVerdict u cs (Err (of_list at)) → ⊥
no_list u cs at e h =
    never 0 u.functions u.signatures cs at
    (subst (λ a. AfterList a (AreFunctionsVerdict u 0 u.functions u.signatures cs) (Err (of_list at))) e h)
  where
    never : (k : ℕ) (fs : List SimplFn) (ss : List Signature) (cs : List Steps) (at : ℕ) → AreFunctionsVerdict u k fs ss cs (Err (of_list at)) → ⊥
    never k [] [] [] at h = absurd cc
    never k (f ∷ fs) (s ∷ ss) (c ∷ cs) at (inl x) = let e = x.2 in absurd cc
    never k (f ∷ fs) (s ∷ ss) (c ∷ cs) at (inr x) = never (k + 1) fs ss cs at x.1
    never k [] [] (c ∷ cs) at h = absurd h
    never k [] (s ∷ ss) cs at h = absurd h
    never k (f ∷ fs) [] cs at h = absurd h
    never k (f ∷ fs) (s ∷ ss) [] at h = absurd h

pub position_there : (u : SimplUnit) (cs : List Steps) (at : ℕ) (place : Place) → listed 0 u.functions cs ≡ Ok tt →
    IsUnitVerdict u cs (Err (of_function at place)) → at < length cs
position_there u cs at place e h =
    let w = within 0 u.functions u.signatures cs
    (subst (λ a. AfterList a (AreFunctionsVerdict u 0 u.functions u.signatures cs) (Err (of_function at place))) e h) in
    omega (arith, w)
  where
    here : {p q : Place} (k : ℕ) → ◌≡◌ {A = UnitAnswer} (Err (of_function at p)) (Err (of_function k q)) → at ≡ k
    here k e = cc

    within : (k : ℕ) (fs : List SimplFn) (ss : List Signature) (cs : List Steps) → AreFunctionsVerdict u k fs ss cs (Err (of_function at place)) → at < k + length cs
    within k [] [] [] h = absurd cc
    within k (f ∷ fs) (s ∷ ss) (c ∷ cs) (inl x) = omega (arith, here k x.2)
    within k (f ∷ fs) (s ∷ ss) (c ∷ cs) (inr x) = omega (arith, within (k + 1) fs ss cs x.1)
    within k [] [] (c ∷ cs) h = absurd h
    within k [] (s ∷ ss) cs h = absurd h
    within k (f ∷ fs) [] cs h = absurd h
    within k (f ∷ fs) (s ∷ ss) [] h = absurd h
