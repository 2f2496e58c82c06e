-- A later scope, and the whole in which a scope comes to stand.
use Rattle.std.proofs.Common.{◌≡◌, true, List, [], ◌∷◌, map, Option, Some, refl, sym, ap, ◌∙◌, subst, false}
use Rattle.std.proofs.lemmas.Bool.{false≢true, true≢false, false_from_ne_true}
use Rattle.c_values.specs.Name.{Name}
use Rattle.c_values.specs.Types.{CType}
use Rattle.c_values.specs.Layout.{global_type}
use Rattle.typing_rules.specs.Scope.{Scope, Global, Function, Names, is_declared_here, outer, opened, closed}
use Rattle.c_lang.specs.Typed as C
use Rattle.c_lang.specs.WellTyped.{variable_type, is_type}
use Rattle.c_lang.specs.WellTyped as W
use Rattle.typing_laws.proofs.Growth.{IsGrown, grown_itself, grown_twice}
use Rattle.typing_laws.proofs.Places.{IsSound}
use Rattle.typing_laws.proofs.Scopes.{Variables, Fits, IsFit, Keeps, file_names, has_block, fits_opened, fits_closed, file_inside}

-- the blocks around the innermost stay, and the file's names too
pub record IsLater (s t : Scope) : Type 0 where
  pub layout : IsGrown s.layout t.layout
  pub outer : outer t.blocks ≡ outer s.blocks
  pub some : has_block s.blocks ≡ true → has_block t.blocks ≡ true
  pub names : Keeps (file_names s.blocks) (file_names t.blocks)
  pub here : (x : Name) → is_declared_here s.blocks x ≡ true → is_declared_here t.blocks x ≡ true
  pub with_body : t.file.with_body ≡ s.file.with_body
  pub so_far : (x : Name) → s.file.with_body_so_far x ≡ true → t.file.with_body_so_far x ≡ true

pub later_itself : (s : Scope) → IsLater s s
later_itself s = record { layout = grown_itself s.layout; outer = refl; some = λ h. h; names = λ x e h. h; here = λ x h. h; with_body = refl; so_far = λ x h. h }

pub later_twice : (s t u : Scope) → IsLater s t → IsLater t u → IsLater s u
later_twice s t u h k = record {
  layout = grown_twice s.layout t.layout u.layout h.layout k.layout;
  outer = k.outer ∙ h.outer;
  some = λ b. k.some (h.some b);
  names = λ x e c. k.names x e (h.names x e c);
  here = λ x c. k.here x (h.here x c);
  with_body = k.with_body ∙ h.with_body;
  so_far = λ x c. k.so_far x (h.so_far x c);
}

-- what has no body has had none
pub not_before : (s t : Scope) (x : Name) → IsLater s t → t.file.with_body_so_far x ≡ false → s.file.with_body_so_far x ≡ false
not_before s t x h c = false_from_ne_true (s.file.with_body_so_far x) (λ e. true≢false (sym (h.so_far x e) ∙ c))

-- a function of the unit by its name, with its type
pub record IsFunction (fs : List C.TypedFn) (x : Name) (r : Option CType) (ps : List CType) : Type 0 where
  pub function : C.TypedFn
  pub found : C.typed_fn fs x ≡ Some function
  pub result : function.result ≡ r
  pub params : map (λ v. v.type) function.params ≡ ps

-- a scope of a function of a unit that has all that is declared in this one
pub record IsWithin (V : Variables) (s : Scope) (g : W.Scope) : Type 0 where
  pub sound : IsSound g
  pub grown : IsGrown s.layout g.layout
  pub variables : (x : Name) (t : CType) → V x t → is_type (variable_type g.variables x) t ≡ true
  pub globals : (x : Name) (t : CType) → file_names s.blocks x ≡ Some (Global t) → global_type g.globals x ≡ Some t
  pub functions : (x : Name) (r : Option CType) (ps : List CType) → file_names s.blocks x ≡ Some (Function r ps) → s.file.with_body x ≡ true → IsFunction g.functions x r ps

pub within_before : {V : Variables} {s t : Scope} {g : W.Scope} → IsLater s t → IsWithin V t g → IsWithin V s g
within_before {s} {t} {g} h k = record {
  sound = k.sound;
  grown = grown_twice s.layout t.layout g.layout h.layout k.grown;
  variables = k.variables;
  globals = λ x u c. k.globals x u (h.names x (Global u) c);
  functions = λ x r ps c b. k.functions x r ps (h.names x (Function r ps) c) (ap (λ f. f x) h.with_body ∙ b);
}

pub within_fewer : {V U : Variables} {s : Scope} {g : W.Scope} → ((x : Name) (t : CType) → V x t → U x t) → IsWithin U s g → IsWithin V s g
within_fewer v k = record { sound = k.sound; grown = k.grown; variables = λ x t c. k.variables x t (v x t c); globals = k.globals; functions = k.functions }

-- a block that begins, and what is behind it
pub opened_later : (s : Scope) → (t : Scope) → has_block s.blocks ≡ true → IsLater (opened s) t → IsLater s (closed t)
opened_later s t b h = record {
  layout = h.layout;
  outer = ap outer h.outer;
  some = λ c. ap has_block h.outer ∙ c;
  names = subst (λ bs. Keeps (file_names s.blocks) (file_names bs)) (sym h.outer) (λ x e c. c);
  here = λ x c. ap (λ bs. is_declared_here bs x) h.outer ∙ c;
  with_body = h.with_body;
  so_far = h.so_far;
}

pub block_opened : (V : Variables) (s : Scope) → Fits V s → Fits V (opened s)
block_opened V s h = fits_opened V s.layout s.blocks s.file.globals h

pub block_closed : (V : Variables) (s t : Scope) → has_block s.blocks ≡ true → IsLater (opened s) t → Fits V t → Fits V (closed t)
block_closed V s t b h k = subst (λ bs. IsFit V t.layout bs t.file.globals) (sym h.outer) (fits_closed V t.layout t.blocks s.blocks t.file.globals h.outer b k)

file_outer : (blocks : List Names) → has_block (outer blocks) ≡ true → file_names blocks ≡ file_names (outer blocks)
file_outer [] h = absurd (false≢true h)
file_outer (names ∷ blocks) h = file_inside names blocks h

pub within_closed : {V : Variables} {g : W.Scope} (s t : Scope) → has_block s.blocks ≡ true → IsLater (opened s) t → IsWithin V (closed t) g → IsWithin V t g
within_closed s t b h k =
    let e = file_outer t.blocks (ap has_block h.outer ∙ b) in
    record {
      sound = k.sound;
      grown = k.grown;
      variables = k.variables;
      globals = λ x u c. k.globals x u (ap (λ f. f x) (sym e) ∙ c);
      functions = λ x r ps c d. k.functions x r ps (ap (λ f. f x) (sym e) ∙ c) d;
    }
