-- Declarations outside functions.
use Rattle.std.proofs.Common.{◌≡◌, Bool, true, false, not, cond, ◌&&◌, ◌||◌, List, [], ◌∷◌, Option, Some, None, is_some, ℤ, refl, sym, ap, ◌∙◌, subst}
use Rattle.std.proofs.lemmas.Bool.{false≢true}
use Rattle.c_values.specs.Name.{Name, same_name, with_name}
use Rattle.c_values.specs.Types.{CType, Integer, Void, Ptr, Struct, Array}
use Rattle.c_values.specs.Layout.{Layout, is_object, is_scalar}
use Rattle.c_values.specs.CodeSameType.{type_is}
use Rattle.typing_rules.specs.File.{GlobalSoFar, global_named, with_global}
use Rattle.typing_rules.specs.Scope.{Scope, Entity, Global, Names, entity, is_declared_here, with_entity, outer}
use Rattle.typing_rules.specs.Checked.{Checked, Ruling, Ruled, Refused, ◌>=>◌}
use Rattle.typing_rules.specs.Constant.{constant_value}
use Rattle.typing_rules.specs.Operators.{converted}
use Rattle.c_lang.specs.Typed as C
use Rattle.typing_rules.specs.Declarations.{Declared, is_incomplete, points_to_array, is_large}
use Rattle.typing_rules.specs.Globals.{has_type, is_defined, is_initialised, global_rule, declared_global, add_global, known_value, initial_rule, with_initial}
use Rattle.typing_laws.proofs.Tests.{neither, not_false, none_some}
use Rattle.typing_laws.proofs.Rulings.{Rules, refused_or}
use Rattle.typing_laws.proofs.Rulings as R
use Rattle.typing_laws.proofs.Growth.{grown_itself}
use Rattle.typing_laws.proofs.Scopes.{IsFit, IsScalarIfSet, Keeps, IsFree, file_names, file_keeps, entities_declared, declared_here, globals_kept}
use Rattle.typing_laws.proofs.Later.{later_itself}
use Rattle.typing_laws.proofs.Steps.{Anything, Reaches}
use Rattle.typing_laws.proofs.Declared.{still_here}
use Rattle.typing_laws.proofs.Outcomes.{Gives, gives_step, gives_weaker}
use Rattle.typing_laws.proofs.GlobalLists.{distinct_with, globals_with, found_fits, found_scalar, scalars_with, known_with}
use Rattle.typing_laws.proofs.Files.{Nothing, IsFile, IsNext, next_of_step, entity_alone}

-- a declaration behind a scope
abbrev pub Next : {A : Type 0} → Scope → A → Scope → Type 0
Next s a t = IsNext s t

pub next_itself : (s : Scope) → IsFile s → IsNext s s
next_itself s h = record { later = later_itself s; file = h }

object_from : (l : Layout) (t : CType) → is_incomplete l t ≡ false → is_large l t ≡ false → is_object l t ≡ true
object_from l (Array t n) h k = not_false (is_object l (Array t n)) k
object_from l (Integer i) h k = not_false (is_object l (Integer i)) h
object_from l Void h k = not_false (is_object l Void) h
object_from l (Ptr t) h k = not_false (is_object l (Ptr t)) h
object_from l (Struct x) h k = not_false (is_object l (Struct x)) h

-- what the rule of a global says
pub record IsGlobal (d : Declared) (s : Scope) (t : CType) : Type 0 where
  pub object : is_object s.layout t ≡ true
  pub free : has_type t (entity s.blocks d.name) ≡ true

pub global_ruled : (is_extern : Bool) (d : Declared) (s : Scope) → Rules (IsGlobal d s) (global_rule is_extern d s)
global_ruled is_extern d s =
    refused_or (is_some (s.typedefs d.name) || not (has_type d.type (entity s.blocks d.name)) || not is_extern && is_defined (global_named s.file.globals d.name)) _ _ (λ a.
    refused_or (is_incomplete s.layout d.type) _ _ (λ b.
    refused_or (points_to_array d.type) _ _ (λ c.
    refused_or (is_large s.layout d.type) _ _ (λ e.
    let p = neither (is_some (s.typedefs d.name) || not (has_type d.type (entity s.blocks d.name))) (not is_extern && is_defined (global_named s.file.globals d.name)) a in
    R.ruled (record {
      object = object_from s.layout d.type b e;
      free = not_false (has_type d.type (entity s.blocks d.name)) (neither (is_some (s.typedefs d.name)) (not (has_type d.type (entity s.blocks d.name))) p.0).1;
    })))))

has_type_is : (t : CType) (f : Entity) → has_type t (Some f) ≡ true → f ≡ Global t
has_type_is t (Global u) h = ap Global (type_is u t h)
has_type_is _ _ h = absurd (false≢true h)

global_same : (t u : CType) → ◌≡◌ {A = Entity} (Global t) (Global u) → t ≡ u
global_same t u h = cc

-- a global behind one of its declarations has the name and the type
declared_is : (l : Layout) (names : Names) (gs : List GlobalSoFar) (is_extern : Bool) (x : Name) (t : CType) (o : Option GlobalSoFar) → global_named gs x ≡ o → ((f : Entity) → names x ≡ Some f → f ≡ Global t) → IsFit Nothing l (names ∷ []) gs →
    ((declared_global is_extern x t o).name ≡ x) × ((declared_global is_extern x t o).type ≡ t)
declared_is l names gs is_extern x t None e free h = (refl, refl)
declared_is l names gs is_extern x t (Some g) e free h =
    let f = found_fits l names gs x g h.globals e in
    (f.0, global_same g.type t (free (Global g.type) (ap names (sym f.0) ∙ f.1)))

-- the file's block and the globals with a global more, or again
record HasGlobal (l : Layout) (bs : List Names) (gs : List GlobalSoFar) (x : Name) (t : CType) (g : GlobalSoFar) : Type 0 where
  fits : IsFit Nothing l (with_entity x (Global t) bs) (with_global g gs)
  keeps : Keeps (file_names bs) (file_names (with_entity x (Global t) bs))
  outer : outer (with_entity x (Global t) bs) ≡ outer bs
  here : (y : Name) → is_declared_here bs y ≡ true → is_declared_here (with_entity x (Global t) bs) y ≡ true
  named : file_names (with_entity x (Global t) bs) x ≡ Some (Global t)

-- a declaration without an initialiser
declared_scalar : (is_extern : Bool) (x : Name) (t : CType) (o : Option GlobalSoFar) → ((g : GlobalSoFar) → o ≡ Some g → IsScalarIfSet g) → IsScalarIfSet (declared_global is_extern x t o)
declared_scalar is_extern x t None h n e = absurd (none_some e)
declared_scalar is_extern x t (Some g) h n e = h g refl n e

global_top : (l : Layout) (bs : List Names) (gs : List GlobalSoFar) (is_extern : Bool) (x : Name) (t : CType) → outer bs ≡ [] → has_type t (entity bs x) ≡ true → is_object l t ≡ true → IsFit Nothing l bs gs →
    HasGlobal l bs gs x t (declared_global is_extern x t (global_named gs x))
global_top l [] gs is_extern x t e a o h = absurd (false≢true h.some)
global_top l (names ∷ more ∷ bs) gs is_extern x t e a o h = absurd (nothing e)
  where
    nothing : ◌≡◌ {A = List Names} (more ∷ bs) [] → ⊥
    nothing c = cc
global_top l (names ∷ []) gs is_extern x t e a o h =
    let free : IsFree names x (Global t) = λ f c. has_type_is t f (subst (λ p. has_type t p ≡ true) (entity_alone names x f c) a) in
    let g = declared_global is_extern x t (global_named gs x) in
    let own = declared_is l names gs is_extern x t (global_named gs x) refl free h in
    let file = with_name x (Some (Global t)) names in
    let keeps = file_keeps names [] x (Global t) free in
    let named : file g.name ≡ Some (Global g.type) = subst (λ u. file g.name ≡ Some (Global u)) (sym own.1) (ap file own.0 ∙ declared_here names x (Global t)) in
    record {
      fits = record {
        layout = h.layout;
        some = refl;
        entities = entities_declared Nothing l.target names [] x (Global t) free (declared_here names x (Global t)) h.entities;
        globals = globals_with g l file gs named (subst (λ u. is_object l u ≡ true) (sym own.1) o) (globals_kept l names file gs keeps h.globals);
        known = known_with g gs file named (λ y u c d. h.known y u (elsewhere y u (subst (λ z. same_name z y ≡ false) own.0 d) c));
        distinct = distinct_with g gs h.distinct;
        initials = scalars_with g gs (declared_scalar is_extern x t (global_named gs x) (λ k e. found_scalar gs x k h.initials e)) h.initials;
      };
      keeps = keeps;
      outer = refl;
      here = still_here names x (Global t);
      named = declared_here names x (Global t);
    }
  where
    elsewhere : (y : Name) (u : CType) → same_name x y ≡ false → with_name x (Some (Global t)) names y ≡ Some (Global u) → names y ≡ Some (Global u)
    elsewhere y u d c = subst (λ b. cond b (Some (Global t)) (names y) ≡ Some (Global u)) d c

-- a scope with the global behind one more of its declarations
pub record HasNamed (s : Scope) (x : Name) (t : CType) (u : Scope) : Type 0 where
  pub next : IsNext s u
  pub named : file_names u.blocks x ≡ Some (Global t)

pub global_added : (s : Scope) (is_extern : Bool) (x : Name) (t : CType) → IsFile s → has_type t (entity s.blocks x) ≡ true → is_object s.layout t ≡ true → HasNamed s x t (add_global is_extern x t s)
global_added s is_extern x t h a o =
    let i = global_top s.layout s.blocks s.file.globals is_extern x t h.alone a o h.fits in
    record {
      next = record {
        later = record { layout = grown_itself s.layout; outer = i.outer; some = λ c. i.fits.some; names = i.keeps; here = i.here; with_body = refl; so_far = λ y c. c };
        file = record { fits = i.fits; alone = i.outer ∙ h.alone };
      };
      named = i.named;
    }

-- what the rule of an initialiser says
pub initial_ruled : (x : Name) (t : CType) (e : C.Expr) (s : Scope) → Rules (λ n. is_scalar t ≡ true) (initial_rule x t e s)
initial_ruled x t e s =
    refused_or (is_initialised (global_named s.file.globals x)) _ _ (λ a.
    refused_or (not (is_scalar t)) _ _ (λ b.
    rules_always (converted s.layout t e >=> λ c. known_value (constant_value s.layout c)) (not_false (is_scalar t) b)))
  where
    rules_always : {A : Type 0} {P : Type 0} (r : Ruling A) → P → Rules (λ a. P) r
    rules_always (Ruled a) p = R.ruled p
    rules_always (Refused kind) p = R.refused

-- a global, a scalar, gets the value that it begins with
pub initial_set : (s : Scope) (x : Name) (t : CType) (n : ℤ) (o : Option GlobalSoFar) → global_named s.file.globals x ≡ o → file_names s.blocks x ≡ Some (Global t) → is_scalar t ≡ true → IsFile s → IsNext s (with_initial n o s)
initial_set s x t n None e named scalar h = next_itself s h
initial_set s x t n (Some g) e named scalar h =
    let f = found_fits s.layout (file_names s.blocks) s.file.globals x g h.fits.globals e in
    let new = record g { initial = Some n } in
    record {
      later = record { layout = grown_itself s.layout; outer = refl; some = λ c. c; names = λ y k c. c; here = λ y c. c; with_body = refl; so_far = λ y c. c };
      file = record {
        fits = record {
          layout = h.fits.layout;
          some = h.fits.some;
          entities = h.fits.entities;
          globals = globals_with new s.layout (file_names s.blocks) s.file.globals f.1 f.2 h.fits.globals;
          known = known_with new s.file.globals (file_names s.blocks) f.1 (λ y u c d. h.fits.known y u c);
          distinct = distinct_with new s.file.globals h.fits.distinct;
          initials = scalars_with new s.file.globals (λ m c. subst (λ u. is_scalar u ≡ true) (type_same t g.type (sym named ∙ ap (file_names s.blocks) (sym f.0) ∙ f.1)) scalar) h.fits.initials;
        };
        alone = h.alone;
      };
    }
  where
    type_same : (u v : CType) → ◌≡◌ {A = Option Entity} (Some (Global u)) (Some (Global v)) → u ≡ v
    type_same u v c = cc

-- a judgement that declares nothing of the file
pub plainly : {A : Type 0} {s : Scope} (c : Checked (A × Scope)) → IsFile s → Reaches Nothing Anything s c → Gives (Next s) c
plainly {A} {s} c h r = gives_weaker c (gives_step c r) (λ a t k. next_of_step s t a h k)
