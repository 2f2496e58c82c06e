-- Scopes outside functions: one block, in which no name stands for a local.
use Rattle.std.proofs.Common.{◌≡◌, Bool, true, not, cond, ◌||◌, List, [], ◌∷◌, Option, Some, None, is_some, refl, sym, ap, ap₂, ◌∙◌, subst, ℕ, length}
use Rattle.std.proofs.lemmas.Bool.{false≢true}
use Rattle.c_values.specs.Name.{Name}
use Rattle.c_values.specs.Types.{CType, Struct, Array, same_type}
use Rattle.c_values.specs.Layout.{Layout}
use Rattle.c_values.specs.CodeSameType.{type_is}
use Rattle.c_grammar.specs.Tree as tree
use Rattle.c_lang.specs.WellTyped as W
use Rattle.typing_rules.specs.File.{GlobalSoFar}
use Rattle.typing_rules.specs.Scope.{Scope, Entity, Global, Function, Names, entity, is_declared_here, with_entity, outer, opened, closed}
use Rattle.typing_rules.specs.Checked.{in_block}
use Rattle.typing_rules.specs.Declarations.{Declared, has_incomplete_elements}
use Rattle.typing_rules.specs.Expressions.{declarator, dimensions}
use Rattle.typing_rules.specs.Functions.{Parameter, parameters, types, result_type, same_result, same_types, agrees, is_result, function_rule, add_function}
use Rattle.typing_rules.specs.Unit.{declared_name}
use Rattle.typing_laws.specs.Written.{Each, IsParam, IsDeclarator}
use Rattle.typing_laws.proofs.Tests.{left, right, neither, not_false}
use Rattle.typing_laws.proofs.Rulings.{Rules, refused_or}
use Rattle.typing_laws.proofs.Rulings as R
use Rattle.typing_laws.proofs.Growth.{grown_itself}
use Rattle.typing_laws.proofs.Scopes.{Variables, Fits, IsFit, Keeps, IsFree, EntitiesFit, file_names, fits_more, file_keeps, fits_declared, declared_here}
use Rattle.typing_laws.proofs.Later.{IsLater, later_twice, opened_later, block_opened, block_closed}
use Rattle.typing_laws.proofs.Steps.{IsStep, Fact}
use Rattle.typing_laws.proofs.Declared.{still_here}
use Rattle.typing_laws.proofs.Operands.{dimensions_reached}
use Rattle.typing_laws.proofs.Outcomes.{Gives, gives, gives_then, gives_step}
use Rattle.typing_laws.proofs.Parameters.{Every, AreParameters, parameters_given}

-- no name stands for a variable
abbrev pub Nothing : Variables
Nothing x t = ⊥

pub record IsFile (s : Scope) : Type 0 where
  pub fits : Fits Nothing s
  pub alone : outer s.blocks ≡ []

pub record IsNext (s t : Scope) : Type 0 where
  pub later : IsLater s t
  pub file : IsFile t

pub next_twice : {s t u : Scope} → IsNext s t → IsNext t u → IsNext s u
next_twice {s} {t} {u} h k = record { later = later_twice s t u h.later k.later; file = k.file }

pub next_of_step : {A : Type 0} {T : Fact A} (s t : Scope) (a : A) → IsFile s → IsStep Nothing T s a t → IsNext s t
next_of_step s t a h k = record { later = k.later; file = record { fits = k.fits; alone = k.later.outer ∙ h.alone } }

-- what names stand for in blocks that are the same
fits_restored : (V U : Variables) (l m : Layout) (bs : List Names) (gs hs : List GlobalSoFar) → m.target ≡ l.target → IsFit V l bs gs → IsFit U m bs hs → IsFit V m bs hs
fits_restored V U l m bs gs hs e h k = record {
  layout = k.layout;
  some = k.some;
  globals = k.globals;
  known = k.known;
  distinct = k.distinct;
  initials = k.initials;
  entities = subst (λ t. EntitiesFit V (file_names bs) t bs) (sym e) h.entities;
}

-- behind a block of a file
pub file_closed : (U : Variables) (s t : Scope) → IsFile s → IsLater (opened s) t → Fits U t → IsNext s (closed t)
file_closed U s t h l k =
    let later = opened_later s t h.fits.some l in
    let own = subst (λ bs. IsFit Nothing s.layout bs s.file.globals) (sym l.outer) h.fits in
    record {
      later = later;
      file = record {
        fits = fits_restored Nothing U s.layout t.layout (outer t.blocks) s.file.globals t.file.globals l.layout.target own (block_closed U s t h.fits.some l k);
        alone = later.outer ∙ h.alone;
      };
    }

every_fits : (s : Scope) → IsFile s → Fits Every (opened s)
every_fits s h = block_opened Every s (fits_more Nothing Every s.layout s.blocks s.file.globals (λ x t v. tt) h.fits)

-- parameters in a block of their own
pub record HasParameters (has_body : Bool) (n : ℕ) (s : Scope) (ps : List Parameter) (t : Scope) : Type 0 where
  pub next : IsNext s t
  pub are : AreParameters has_body (opened s) ps
  pub as_many : length ps ≡ n

pub parameters_in_block : (has_body : Bool) (ps : List tree.Param) → Each IsParam ps → (s : Scope) → IsFile s → Gives (HasParameters has_body (length ps) s) (in_block (parameters has_body ps) s)
parameters_in_block has_body ps i s h =
    gives_then (parameters has_body ps (opened s)) _ (parameters_given has_body ps i (opened s) (every_fits s h)) (λ qs t k.
    gives (qs, closed t) (record { next = file_closed Every s t h k.step.later k.step.fits; are = k.are; as_many = k.as_many }))

-- a declarator of the file, by its name
pub record HasHead (x : Name) (s : Scope) (head : Declared) (t : Scope) : Type 0 where
  pub next : IsNext s t
  pub name : head.name ≡ x

pub head_given : (a : CType) (d : tree.Declarator) → IsDeclarator d → (s : Scope) → IsFile s → Gives (HasHead (declared_name d) s) (declarator a d s)
head_given a (tree.Declare stars at x ns) i s h =
    gives_then (dimensions [] ns s) _ (gives_step (dimensions [] ns s) (dimensions_reached Nothing [] ns i.1 s h.fits)) (λ ls t k.
    gives _ (record { next = next_of_step s t ls h k; name = refl }))

-- what is declared in the file's block
pub record IsTop (l : Layout) (bs : List Names) (gs : List GlobalSoFar) (x : Name) (e : Entity) : Type 0 where
  pub fits : IsFit Nothing l (with_entity x e bs) gs
  pub keeps : Keeps (file_names bs) (file_names (with_entity x e bs))
  pub outer : outer (with_entity x e bs) ≡ outer bs
  pub here : (y : Name) → is_declared_here bs y ≡ true → is_declared_here (with_entity x e bs) y ≡ true
  pub named : file_names (with_entity x e bs) x ≡ Some e

same_result_is : (q r : Option CType) → same_result q r ≡ true → q ≡ r
same_result_is None None h = refl
same_result_is (Some t) (Some u) h = ap Some (type_is t u h)
same_result_is _ _ h = absurd (false≢true h)

same_types_are : (ts us : List CType) → same_types ts us ≡ true → ts ≡ us
same_types_are [] [] h = refl
same_types_are [] (u ∷ us) h = absurd (false≢true h)
same_types_are (t ∷ ts) [] h = absurd (false≢true h)
same_types_are (t ∷ ts) (u ∷ us) h = ap₂ (λ a as'. a ∷ as') (type_is t u (left (same_type t u) (same_types ts us) h)) (same_types_are ts us (right (same_type t u) (same_types ts us) h))

agrees_is : (f : Entity) (r : Option CType) (ts : List CType) → agrees (Some f) r ts ≡ true → f ≡ Function r ts
agrees_is (Function q qs) r ts h = ap₂ Function (same_result_is q r (left (same_result q r) (same_types qs ts) h)) (same_types_are qs ts (right (same_result q r) (same_types qs ts) h))
agrees_is _ _ _ h = absurd (false≢true h)

pub entity_alone : (names : Names) (x : Name) (f : Entity) → names x ≡ Some f → entity (names ∷ []) x ≡ Some f
entity_alone names x f h = subst (λ o. cond (is_some o) o None ≡ Some f) (sym h) refl

function_top : (l : Layout) (bs : List Names) (gs : List GlobalSoFar) (x : Name) (r : Option CType) (ts : List CType) → outer bs ≡ [] → agrees (entity bs x) r ts ≡ true → IsFit Nothing l bs gs → IsTop l bs gs x (Function r ts)
function_top l [] gs x r ts e a h = absurd (false≢true h.some)
function_top l (names ∷ more ∷ bs) gs x r ts e a h = absurd (nothing e)
  where
    nothing : ◌≡◌ {A = List Names} (more ∷ bs) [] → ⊥
    nothing c = cc
function_top l (names ∷ []) gs x r ts e a h =
    let free : IsFree names x (Function r ts) = λ f c. agrees_is f r ts (subst (λ o. agrees o r ts ≡ true) (entity_alone names x f c) a) in
    record {
      fits = fits_declared Nothing l names [] gs x (Function r ts) free no_global (declared_here names x (Function r ts)) h;
      keeps = file_keeps names [] x (Function r ts) free;
      outer = refl;
      here = still_here names x (Function r ts);
      named = declared_here names x (Function r ts);
    }
  where
    no_global : (t : CType) → Function r ts ≡ Global t → ⊥
    no_global t c = cc

-- a function more, or again
pub record HasFunction (s : Scope) (x : Name) (r : Option CType) (ts : List CType) : Type 0 where
  pub next : IsNext s (add_function x r ts s)
  pub named : file_names (add_function x r ts s).blocks x ≡ Some (Function r ts)

pub function_added : (s : Scope) (x : Name) (r : Option CType) (ts : List CType) → IsFile s → agrees (entity s.blocks x) r ts ≡ true → HasFunction s x r ts
function_added s x r ts h a =
    let i = function_top s.layout s.blocks s.file.globals x r ts h.alone a h.fits in
    record {
      next = record {
        later = record { layout = grown_itself s.layout; outer = i.outer; some = λ c. i.fits.some; names = i.keeps; here = i.here; with_body = refl; so_far = λ y c. c };
        file = record { fits = i.fits; alone = i.outer ∙ h.alone };
      };
      named = i.named;
    }

result_scalar : (t : CType) → is_result t ≡ true → W.is_result (result_type t) ≡ true
result_scalar (Struct x) h = absurd (false≢true h)
result_scalar (Array t n) h = absurd (false≢true h)
result_scalar _ _ = refl

-- what the rule of a function's declarator says
pub record IsResult (d : Declared) (ps : List Parameter) (s : Scope) (r : Option CType) : Type 0 where
  pub scalar : W.is_result r ≡ true
  pub agrees : agrees (entity s.blocks d.name) r (types ps) ≡ true

pub function_ruled : (d : Declared) (ps : List Parameter) (s : Scope) → Rules (IsResult d ps s) (function_rule d ps s)
function_ruled d ps s =
    refused_or (is_some (s.typedefs d.name) || not (agrees (entity s.blocks d.name) (result_type d.type) (types ps))) _ _ (λ e.
    refused_or (has_incomplete_elements s.layout d.type) _ _ (λ i.
    refused_or (not (is_result d.type)) _ _ (λ c.
    R.ruled (record {
      scalar = result_scalar d.type (not_false (is_result d.type) c);
      agrees = not_false (agrees (entity s.blocks d.name) (result_type d.type) (types ps)) (neither (is_some (s.typedefs d.name)) (not (agrees (entity s.blocks d.name) (result_type d.type) (types ps))) e).1;
    }))))
