-- What holds of a scope while a text is checked: its layout can be, what names stand for is in the file or among variables,
-- and its globals are objects with names of their own.
use Rattle.std.proofs.Common.{◌≡◌, Bool, true, false, cond, List, [], ◌∷◌, map, Option, Some, None, is_some, option_map, ℤ, ◌⊎◌, inl, inr, refl, sym, ap, ◌∙◌, subst}
use Rattle.std.proofs.lemmas.Bool.{false≢true, true≢false, cond-true}
use Rattle.c_values.specs.Name.{Name, same_name, with_name, are_distinct}
use Rattle.c_values.specs.Types.{Target, Int, CType}
use Rattle.c_values.specs.Number.{is_of_type}
use Rattle.c_values.specs.Layout.{Layout, IsLayout, is_object, is_scalar}
use Rattle.typing_rules.specs.File.{GlobalSoFar, global_named}
use Rattle.typing_rules.specs.Scope.{Scope, Entity, Enumerator, Global, Function, Local, Hidden, Names, entity, outer}
use Rattle.typing_laws.proofs.Tests.{none_some, some_same, name_is, name_itself}
use Rattle.typing_laws.proofs.Growth.{IsGrown, object_kept}

-- which own names stand for variables of which types
abbrev pub Variables : Type 1
Variables = Name → CType → Type 0

-- the names of the file
abbrev pub file_names : List Names → Names
file_names [] x = None
file_names (names ∷ []) x = names x
file_names (names ∷ more ∷ blocks) x = file_names (more ∷ blocks) x

abbrev pub EntityFits : Variables → Names → Target → Name → Entity → Type 0
EntityFits V file t x (Enumerator n) = is_of_type t Int n ≡ true
EntityFits V file t x (Global u) = file x ≡ Some (Global u)
EntityFits V file t x (Function r ps) = file x ≡ Some (Function r ps)
EntityFits V file t x (Local own u) = V own u
EntityFits V file t x Hidden = Unit {0}

abbrev pub NamesFit : Variables → Names → Target → Names → Type 0
NamesFit V file t names = (x : Name) (e : Entity) → names x ≡ Some e → EntityFits V file t x e

abbrev pub EntitiesFit : Variables → Names → Target → List Names → Type 0
EntitiesFit V file t [] = Unit {0}
EntitiesFit V file t (names ∷ blocks) = NamesFit V file t names × EntitiesFit V file t blocks

-- the type of a global
abbrev pub global_type_in : List GlobalSoFar → Name → Option CType
global_type_in gs x = option_map (λ g. g.type) (global_named gs x)

-- each is a global of the file, and an object
abbrev pub GlobalsFit : Layout → Names → List GlobalSoFar → Type 0
GlobalsFit l file [] = Unit {0}
GlobalsFit l file (g ∷ gs) = (file g.name ≡ Some (Global g.type)) × (is_object l g.type ≡ true) × GlobalsFit l file gs

-- one with an initialiser is a scalar
abbrev pub IsScalarIfSet : GlobalSoFar → Type 0
IsScalarIfSet g = (n : ℤ) → g.initial ≡ Some n → is_scalar g.type ≡ true

abbrev pub AreScalars : List GlobalSoFar → Type 0
AreScalars [] = Unit {0}
AreScalars (g ∷ gs) = IsScalarIfSet g × AreScalars gs

abbrev pub has_block : List Names → Bool
has_block [] = false
has_block (names ∷ blocks) = true

pub record IsFit (V : Variables) (l : Layout) (blocks : List Names) (gs : List GlobalSoFar) : Type 0 where
  pub layout : IsLayout l
  pub some : has_block blocks ≡ true
  pub entities : EntitiesFit V (file_names blocks) l.target blocks
  pub globals : GlobalsFit l (file_names blocks) gs
  pub known : (x : Name) (t : CType) → file_names blocks x ≡ Some (Global t) → global_type_in gs x ≡ Some t
  pub distinct : are_distinct (map (λ g. g.name) gs) ≡ true
  pub initials : AreScalars gs

abbrev pub Fits : Variables → Scope → Type 0
Fits V s = IsFit V s.layout s.blocks s.file.globals

-- what a name stands for fits
pub entity_fits : (V : Variables) (file : Names) (t : Target) (blocks : List Names) (x : Name) (e : Entity) → EntitiesFit V file t blocks → entity blocks x ≡ Some e → EntityFits V file t x e
entity_fits V file t [] x e h c = absurd (none_some c)
entity_fits V file t (names ∷ blocks) x e h c = by_cases (names x) refl (λ k. entity_fits V file t blocks x e h.1 k) c
  where
    by_cases : (o : Option Entity) → names x ≡ o → (entity blocks x ≡ Some e → EntityFits V file t x e) → cond (is_some o) o (entity blocks x) ≡ Some e → EntityFits V file t x e
    by_cases None k rest d = rest d
    by_cases (Some f) k rest d = h.0 x e (k ∙ d)

abbrev pub Keeps : Names → Names → Type 0
Keeps file file' = (x : Name) (e : Entity) → file x ≡ Some e → file' x ≡ Some e

entity_kept : (V W : Variables) (file file' : Names) (t : Target) (x : Name) (e : Entity) → ((y : Name) (u : CType) → V y u → W y u) → Keeps file file' → EntityFits V file t x e → EntityFits W file' t x e
entity_kept V W file file' t x (Enumerator n) v k h = h
entity_kept V W file file' t x (Global u) v k h = k x (Global u) h
entity_kept V W file file' t x (Function r ps) v k h = k x (Function r ps) h
entity_kept V W file file' t x (Local own u) v k h = v own u h
entity_kept V W file file' t x Hidden v k h = tt

entities_kept : (V W : Variables) (file file' : Names) (t : Target) (blocks : List Names) → ((y : Name) (u : CType) → V y u → W y u) → Keeps file file' → EntitiesFit V file t blocks → EntitiesFit W file' t blocks
entities_kept V W file file' t [] v k h = tt
entities_kept V W file file' t (names ∷ blocks) v k h =
    ((λ x e c. entity_kept V W file file' t x e v k (h.0 x e c)), entities_kept V W file file' t blocks v k h.1)

-- with more variables
pub fits_more : (V W : Variables) (l : Layout) (blocks : List Names) (gs : List GlobalSoFar) → ((y : Name) (u : CType) → V y u → W y u) → IsFit V l blocks gs → IsFit W l blocks gs
fits_more V W l blocks gs v h = record {
  layout = h.layout;
  some = h.some;
  globals = h.globals;
  known = h.known;
  distinct = h.distinct;
  initials = h.initials;
  entities = entities_kept V W (file_names blocks) (file_names blocks) l.target blocks v (λ x e c. c) h.entities;
}

globals_grown : (l m : Layout) (file : Names) (gs : List GlobalSoFar) → IsGrown l m → GlobalsFit l file gs → GlobalsFit m file gs
globals_grown l m file [] k h = tt
globals_grown l m file (g ∷ gs) k h = (h.0, object_kept l m g.type k h.1, globals_grown l m file gs k h.2)

-- with a later layout
pub fits_grown : (V : Variables) (l m : Layout) (blocks : List Names) (gs : List GlobalSoFar) → IsGrown l m → IsLayout m → IsFit V l blocks gs → IsFit V m blocks gs
fits_grown V l m blocks gs k n h = record {
  layout = n;
  some = h.some;
  known = h.known;
  distinct = h.distinct;
  initials = h.initials;
  entities = subst (λ t. EntitiesFit V (file_names blocks) t blocks) (sym k.target) h.entities;
  globals = globals_grown l m (file_names blocks) gs k h.globals;
}

-- a block around those of the file
pub file_inside : (names : Names) (blocks : List Names) → has_block blocks ≡ true → file_names (names ∷ blocks) ≡ file_names blocks
file_inside names [] h = absurd (false≢true h)
file_inside names (more ∷ blocks) h = refl

-- a block begins
pub fits_opened : (V : Variables) (l : Layout) (blocks : List Names) (gs : List GlobalSoFar) → IsFit V l blocks gs → IsFit V l ((λ x. None) ∷ blocks) gs
fits_opened V l [] gs h = absurd (false≢true h.some)
fits_opened V l (names ∷ blocks) gs h = record {
  layout = h.layout;
  some = refl;
  globals = h.globals;
  known = h.known;
  distinct = h.distinct;
  initials = h.initials;
  entities = ((λ x e c. absurd (none_some c)), h.entities);
}

-- and ends
pub fits_closed : (V : Variables) (l : Layout) (blocks before : List Names) (gs : List GlobalSoFar) → outer blocks ≡ before → has_block before ≡ true → IsFit V l blocks gs → IsFit V l before gs
fits_closed V l [] before gs e b h = absurd (false≢true h.some)
fits_closed V l (names ∷ []) before gs e b h = absurd (false≢true (ap has_block e ∙ b))
fits_closed V l (names ∷ more ∷ blocks) before gs e b h = subst (λ bs. IsFit V l bs gs) e (record {
  layout = h.layout;
  some = refl;
  globals = h.globals;
  known = h.known;
  distinct = h.distinct;
  initials = h.initials;
  entities = h.entities.1;
})

-- a name that stands for nothing else in a block
abbrev pub IsFree : Names → Name → Entity → Type 0
IsFree names x e = (f : Entity) → names x ≡ Some f → f ≡ e

pub free_from : (names : Names) (x : Name) (e : Entity) → is_some (names x) ≡ false → IsFree names x e
free_from names x e h f k = absurd (true≢false (ap is_some (sym k) ∙ h))

-- a name is declared: what it stands for, and what others do
declared_cases : (names : Names) (x y : Name) (e f : Entity) → with_name x (Some e) names y ≡ Some f → ((x ≡ y) × (e ≡ f)) ⊎ (names y ≡ Some f)
declared_cases names x y e f h = by_cases (same_name x y) refl h
  where
    by_cases : (b : Bool) → same_name x y ≡ b → cond b (Some e) (names y) ≡ Some f → ((x ≡ y) × (e ≡ f)) ⊎ (names y ≡ Some f)
    by_cases true c k = inl (name_is x y c, some_same k)
    by_cases false c k = inr k

pub declared_here : (names : Names) (x : Name) (e : Entity) → with_name x (Some e) names x ≡ Some e
declared_here names x e = cond-true (same_name x x) (Some e) (names x) (name_itself x)

declared_keeps : (names : Names) (x : Name) (e : Entity) → IsFree names x e → Keeps names (with_name x (Some e) names)
declared_keeps names x e free y f h = by_cases (same_name x y) refl
  where
    by_cases : (b : Bool) → same_name x y ≡ b → cond b (Some e) (names y) ≡ Some f
    by_cases true c = ap Some (sym (free f (ap names (name_is x y c) ∙ h)))
    by_cases false c = h

pub file_keeps : (names : Names) (blocks : List Names) (x : Name) (e : Entity) → IsFree names x e → Keeps (file_names (names ∷ blocks)) (file_names (with_name x (Some e) names ∷ blocks))
file_keeps names [] x e free = declared_keeps names x e free
file_keeps names (more ∷ blocks) x e free = λ y f h. h

-- a name of the innermost block more
pub entities_declared : (V : Variables) (t : Target) (names : Names) (blocks : List Names) (x : Name) (e : Entity) → IsFree names x e →
    EntityFits V (file_names (with_name x (Some e) names ∷ blocks)) t x e → EntitiesFit V (file_names (names ∷ blocks)) t (names ∷ blocks) →
    EntitiesFit V (file_names (with_name x (Some e) names ∷ blocks)) t (with_name x (Some e) names ∷ blocks)
entities_declared V t names blocks x e free own h =
    let file = file_names (names ∷ blocks) in
    let file' = file_names (with_name x (Some e) names ∷ blocks) in
    let kept = entities_kept V V file file' t (names ∷ blocks) (λ y u v. v) (file_keeps names blocks x e free) h in
    ((λ y f c. by_cases y f (declared_cases names x y e f c) (kept.0 y f)), kept.1)
  where
    by_cases : (y : Name) (f : Entity) → ((x ≡ y) × (e ≡ f)) ⊎ (names y ≡ Some f) → (names y ≡ Some f → EntityFits V (file_names (with_name x (Some e) names ∷ blocks)) t y f) →
        EntityFits V (file_names (with_name x (Some e) names ∷ blocks)) t y f
    by_cases y f (inl c) k = subst (λ z. EntityFits V (file_names (with_name x (Some e) names ∷ blocks)) t z f) c.0 (subst (λ w. EntityFits V (file_names (with_name x (Some e) names ∷ blocks)) t x w) c.1 own)
    by_cases y f (inr c) k = k c

pub globals_kept : (l : Layout) (file file' : Names) (gs : List GlobalSoFar) → Keeps file file' → GlobalsFit l file gs → GlobalsFit l file' gs
globals_kept l file file' [] k h = tt
globals_kept l file file' (g ∷ gs) k h = (k g.name (Global g.type) h.0, h.1, globals_kept l file file' gs k h.2)

file_cases : (names : Names) (blocks : List Names) (x y : Name) (e f : Entity) → file_names (with_name x (Some e) names ∷ blocks) y ≡ Some f → ((x ≡ y) × (e ≡ f)) ⊎ (file_names (names ∷ blocks) y ≡ Some f)
file_cases names [] x y e f h = declared_cases names x y e f h
file_cases names (more ∷ blocks) x y e f h = inr h

-- what is no global is declared in a block
pub fits_declared : (V : Variables) (l : Layout) (names : Names) (blocks : List Names) (gs : List GlobalSoFar) (x : Name) (e : Entity) → IsFree names x e →
    ((t : CType) → e ≡ Global t → ⊥) → EntityFits V (file_names (with_name x (Some e) names ∷ blocks)) l.target x e → IsFit V l (names ∷ blocks) gs → IsFit V l (with_name x (Some e) names ∷ blocks) gs
fits_declared V l names blocks gs x e free other own h = record {
  layout = h.layout;
  some = refl;
  distinct = h.distinct;
  initials = h.initials;
  entities = entities_declared V l.target names blocks x e free own h.entities;
  globals = globals_kept l (file_names (names ∷ blocks)) (file_names (with_name x (Some e) names ∷ blocks)) gs (file_keeps names blocks x e free) h.globals;
  known = λ y t c. by_cases y t (file_cases names blocks x y e (Global t) c);
}
  where
    by_cases : (y : Name) (t : CType) → ((x ≡ y) × (e ≡ Global t)) ⊎ (file_names (names ∷ blocks) y ≡ Some (Global t)) → global_type_in gs y ≡ Some t
    by_cases y t (inl c) = absurd (other t c.1)
    by_cases y t (inr c) = h.known y t c
