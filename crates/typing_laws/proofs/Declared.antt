-- The rules of declarations within types keep a scope, and make it later.
use Rattle.std.proofs.Common.{◌≡◌, ℕ, Bool, true, false, not, cond, ◌==◌, ◌&&◌, ◌||◌, length, List, [], ◌∷◌, Option, Some, None, is_some, ℤ, refl, sym, ap, ◌∙◌, subst}
use Rattle.std.proofs.lemmas.Bool.{false≢true}
use Rattle.c_values.specs.Name.{Name, same_name, with_name}
use Rattle.c_values.specs.Types.{Int, CType, Struct}
use Rattle.c_values.specs.Number.{is_of_type}
use Rattle.c_values.specs.Growth.{with_struct, can_follow, struct_named}
use Rattle.c_values.specs.Layout.{Layout, Member, StructDef, is_object}
use Rattle.typing_rules.specs.File.{GlobalSoFar}
use Rattle.typing_rules.specs.Scope.{Scope, Tag, StructTag, EnumTag, Entity, Enumerator, Global, Names, is_declared_here, with_entity, declare, outer}
use Rattle.typing_rules.specs.Checked.{Good, Ruling, declaring}
use Rattle.typing_rules.specs.Declarations as D
use Rattle.typing_laws.proofs.Tests.{neither, not_false}
use Rattle.typing_laws.proofs.Rulings.{Rules, ruled, refused, refused_or, rules_then}
use Rattle.typing_laws.proofs.Growth.{IsGrown, grown_itself, struct_grows, struct_layout}
use Rattle.typing_laws.proofs.Scopes.{Variables, Fits, IsFit, Keeps, EntityFits, file_names, has_block, free_from, file_keeps, fits_declared, fits_grown}
use Rattle.typing_laws.proofs.Later.{IsLater, later_itself, later_twice}
use Rattle.typing_laws.proofs.Steps.{IsStill, still_itself, still_twice, Reaches, good, bad, Anything}

-- a scope that fits, later than another, with no variable more
pub record Follows (V : Variables) (s t : Scope) : Type 0 where
  pub later : IsLater s t
  pub still : IsStill s.progress t.progress
  pub fits : Fits V t

pub follows_itself : (V : Variables) (s : Scope) → Fits V s → Follows V s s
follows_itself V s h = record { later = later_itself s; still = still_itself s.progress; fits = h }

pub follows_twice : {V : Variables} {s t u : Scope} → Follows V s t → Follows V t u → Follows V s u
follows_twice {s} {t} {u} h k = record { later = later_twice s t u h.later k.later; still = still_twice h.still k.still; fits = k.fits }

-- with other tags, counts and types
pub same_names : (V : Variables) (s t : Scope) → t.layout ≡ s.layout → t.blocks ≡ s.blocks → t.file ≡ s.file → t.progress ≡ s.progress → Fits V s → Follows V s t
same_names V s t l b f p h = record {
  later = record {
    layout = subst (IsGrown s.layout) (sym l) (grown_itself s.layout);
    outer = ap outer b;
    some = λ c. ap has_block b ∙ c;
    names = subst (λ bs. Keeps (file_names s.blocks) (file_names bs)) (sym b) (λ x e c. c);
    here = λ x c. ap (λ bs. is_declared_here bs x) b ∙ c;
    with_body = ap (λ k. k.with_body) f;
    so_far = λ x c. ap (λ k. k.with_body_so_far x) f ∙ c;
  };
  still = record { declared = ap (λ q. q.declared) p; locals = ap (λ q. q.locals) p };
  fits = subst (λ m. IsFit V m t.blocks t.file.globals) (sym l) (subst (λ bs. IsFit V s.layout bs t.file.globals) (sym b) (subst (λ k. IsFit V s.layout s.blocks k.globals) (sym f) h));
}

pub reach_declaring : {A : Type 0} {V : Variables} (at : ℕ) (s : Scope) (r : Ruling (A × Scope)) → Rules (λ p. Follows V s p.1) r → Reaches V Anything s (declaring at r)
reach_declaring at s _ (ruled {a} h) = good a (record { later = h.later; still = h.still; fits = h.fits; typed = λ g w. tt })
reach_declaring at s _ refused = bad

pub reach_changed : {A : Type 0} {V : Variables} (s t : Scope) (a : A) → Follows V s t → Reaches V Anything s (Good (a, t))
reach_changed s t a h = good (a, t) (record { later = h.later; still = h.still; fits = h.fits; typed = λ g w. tt })

with_tag_follows : (V : Variables) (t : Tag) (x : Name) (s : Scope) → Fits V s → Follows V s (D.with_tag t x s)
with_tag_follows V t x s h = same_names V s (D.with_tag t x s) refl refl refl refl h

pub mention_follows : (V : Variables) (x : Option Name) (s : Scope) → Fits V s → Follows V s (D.mention x s)
mention_follows V None s h = follows_itself V s h
mention_follows V (Some x) s h = by_cases (is_some (s.tags x))
  where
    by_cases : (b : Bool) → Follows V s (cond b s (D.with_tag StructTag x s))
    by_cases true = follows_itself V s h
    by_cases false = with_tag_follows V StructTag x s h

pub struct_tag_follows : (V : Variables) (x : Name) (s : Scope) → Fits V s → Rules (λ p. Follows V s p.1) (D.struct_tag x s)
struct_tag_follows V x s h = refused_or (D.is_enum_tag (s.tags x)) _ _ (λ e. ruled (mention_follows V (Some x) s h))

defined_follows : (V : Variables) (d : StructDef) (s : Scope) → Fits V s → Rules (Follows V s) (D.defined d s)
defined_follows V d s h =
    refused_or (D.is_enum_tag (s.tags d.name) || is_some (struct_named s.layout.structs d.name)) _ _ (λ e.
    refused_or (not (can_follow s.layout d)) _ _ (λ c.
    refused_or (not (is_object (with_struct s.layout d) (Struct d.name))) _ _ (λ o.
    ruled (grows (not_false (can_follow s.layout d) c) (not_false (is_object (with_struct s.layout d) (Struct d.name)) o)))))
  where
    grows : can_follow s.layout d ≡ true → is_object (with_struct s.layout d) (Struct d.name) ≡ true → Follows V s (record s { layout = with_struct s.layout d })
    grows c o =
        let k = struct_grows s.layout d c in
        record {
          later = record { layout = k; outer = refl; some = λ b. b; names = λ x e b. b; here = λ x b. b; with_body = refl; so_far = λ x b. b };
          still = still_itself s.progress;
          fits = fits_grown V s.layout (with_struct s.layout d) s.blocks s.file.globals k (struct_layout s.layout d h.layout c o) h;
        }

pub struct_body_follows : (V : Variables) (x : Option Name) (ms : List Member) (s : Scope) → Fits V s → Rules (λ p. Follows V s p.1) (D.struct_body x ms s)
struct_body_follows V x ms s h =
    rules_then (D.defined (record { name = D.tag_name s.unnamed x; members = ms }) s) _ (defined_follows V (record { name = D.tag_name s.unnamed x; members = ms }) s h)
    (λ t k. ruled (follows_twice k (same_names V t (D.counted x t) refl refl refl refl k.fits)))

enumerate_follows : (V : Variables) (x : Option Name) (s : Scope) → Fits V s → Follows V s (D.enumerate x s)
enumerate_follows V None s h = follows_itself V s h
enumerate_follows V (Some x) s h = with_tag_follows V EnumTag x s h

pub enum_body_follows : (V : Variables) (x : Option Name) (s : Scope) → Fits V s → Rules (λ p. Follows V s p.1) (D.enum_body x s)
enum_body_follows V x s h = refused_or (D.is_tagged x s) _ _ (λ e. ruled (enumerate_follows V x s h))

-- what a block with a name more has
pub record IsDeclared (V : Variables) (l : Layout) (bs : List Names) (gs : List GlobalSoFar) (x : Name) (e : Entity) : Type 0 where
  pub fits : IsFit V l (with_entity x e bs) gs
  pub keeps : Keeps (file_names bs) (file_names (with_entity x e bs))
  pub outer : outer (with_entity x e bs) ≡ outer bs
  pub here : (y : Name) → is_declared_here bs y ≡ true → is_declared_here (with_entity x e bs) y ≡ true

pub still_here : (names : Names) (x : Name) (e : Entity) (y : Name) → is_some (names y) ≡ true → is_some (with_name x (Some e) names y) ≡ true
still_here names x e y h = by_cases (same_name x y)
  where
    by_cases : (b : Bool) → is_some (cond b (Some e) (names y)) ≡ true
    by_cases true = refl
    by_cases false = h

block_declared : (V : Variables) (l : Layout) (bs : List Names) (gs : List GlobalSoFar) (x : Name) (e : Entity) → is_declared_here bs x ≡ false → ((t : CType) → e ≡ Global t → ⊥) →
    ((file : Names) → EntityFits V file l.target x e) → IsFit V l bs gs → IsDeclared V l bs gs x e
block_declared V l [] gs x e new other own h = absurd (false≢true h.some)
block_declared V l (names ∷ bs) gs x e new other own h =
    let free = free_from names x e new in
    record { fits = fits_declared V l names bs gs x e free other (own (file_names (with_name x (Some e) names ∷ bs))) h; keeps = file_keeps names bs x e free; outer = refl; here = still_here names x e }

-- a name that no block has is declared, and is no global
pub declare_follows : (V : Variables) (x : Name) (e : Entity) (s : Scope) → is_declared_here s.blocks x ≡ false → ((t : CType) → e ≡ Global t → ⊥) →
    ((file : Names) → EntityFits V file s.layout.target x e) → Fits V s → Follows V s (declare x e s)
declare_follows V x e s new other own h =
    let d = block_declared V s.layout s.blocks s.file.globals x e new other own h in
    record {
      later = record { layout = grown_itself s.layout; outer = d.outer; some = λ c. d.fits.some; names = d.keeps; here = d.here; with_body = refl; so_far = λ y c. c };
      still = still_itself s.progress;
      fits = d.fits;
    }

pub enumerator_follows : (V : Variables) (x : Name) (n : ℤ) (s : Scope) → Fits V s → Rules (λ p. Follows V s p.1) (D.enumerator x n s)
enumerator_follows V x n s h =
    refused_or (D.has_name_here s x) _ _ (λ new.
    refused_or (not (is_of_type s.layout.target Int n)) _ _ (λ c.
    let here = (neither (is_declared_here s.blocks x) (length s.blocks == 1 && is_some (s.typedefs x)) new).0 in
    ruled (declare_follows V x (Enumerator n) s here no_global (λ file. not_false (is_of_type s.layout.target Int n) c) h)))
  where
    no_global : (t : CType) → Enumerator n ≡ Global t → ⊥
    no_global t e = cc
