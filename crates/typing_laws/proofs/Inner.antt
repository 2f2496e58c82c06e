-- The innermost block of a body: a local gets its name, and the locals of a group are hidden.
use Rattle.std.proofs.Common.{◌≡◌, Bool, true, false, cond, List, [], ◌∷◌, Option, Some, None, is_some, option_map, refl, subst}
use Rattle.std.proofs.lemmas.Bool.{false≢true}
use Rattle.c_values.specs.Name.{Name, same_name, with_name}
use Rattle.c_values.specs.Types.{Target, CType}
use Rattle.c_values.specs.Layout.{Layout}
use Rattle.typing_rules.specs.File.{GlobalSoFar}
use Rattle.typing_rules.specs.Scope.{Scope, Entity, Local, Hidden, Names, is_declared_here, with_entity, outer, hidden, hide_locals, declare}
use Rattle.typing_laws.proofs.Tests.{none_some, some_same}
use Rattle.typing_laws.proofs.Growth.{grown_itself}
use Rattle.typing_laws.proofs.Scopes.{Variables, Fits, IsFit, Keeps, NamesFit, EntityFits, file_names, has_block}
use Rattle.typing_laws.proofs.Later.{IsLater}
use Rattle.typing_laws.proofs.Declared.{still_here}

inner_replaced : (V : Variables) (l : Layout) (names names' : Names) (bs : List Names) (gs : List GlobalSoFar) → has_block bs ≡ true → IsFit V l (names ∷ bs) gs →
    (NamesFit V (file_names bs) l.target names → NamesFit V (file_names bs) l.target names') → IsFit V l (names' ∷ bs) gs
inner_replaced V l names names' [] gs b h k = absurd (false≢true b)
inner_replaced V l names names' (more ∷ bs) gs b h k = record {
  layout = h.layout;
  some = refl;
  globals = h.globals;
  known = h.known;
  distinct = h.distinct;
  initials = h.initials;
  entities = (k h.entities.0, h.entities.1);
}

-- a scope whose innermost block is another one
pub record IsInner (V : Variables) (l : Layout) (bs cs : List Names) (gs : List GlobalSoFar) : Type 0 where
  pub fits : IsFit V l cs gs
  pub keeps : Keeps (file_names bs) (file_names cs)
  pub outer : outer cs ≡ outer bs
  pub here : (y : Name) → is_declared_here bs y ≡ true → is_declared_here cs y ≡ true

inner_keeps : (names names' : Names) (bs : List Names) → has_block bs ≡ true → Keeps (file_names (names ∷ bs)) (file_names (names' ∷ bs))
inner_keeps names names' [] b = absurd (false≢true b)
inner_keeps names names' (more ∷ bs) b = λ x e h. h

named_fits : (V : Variables) (file : Names) (t : Target) (names : Names) (x own : Name) (u : CType) → V own u → NamesFit V file t names → NamesFit V file t (with_name x (Some (Local own u)) names)
named_fits V file t names x own u v h y e c = by_cases (same_name x y) c
  where
    by_cases : (b : Bool) → cond b (Some (Local own u)) (names y) ≡ Some e → EntityFits V file t y e
    by_cases true k = subst (EntityFits V file t y) (some_same k) v
    by_cases false k = h y e k

hidden_fits : (V : Variables) (file : Names) (t : Target) (names : Names) → NamesFit V file t (λ x. option_map (λ e. Hidden) (names x))
hidden_fits V file t names x e c = by_cases (names x) c
  where
    by_cases : (o : Option Entity) → option_map (λ f. Hidden) o ≡ Some e → EntityFits V file t x e
    by_cases None k = absurd (none_some k)
    by_cases (Some f) k = subst (EntityFits V file t x) (some_same k) tt

still_hidden : (o : Option Entity) → is_some o ≡ true → is_some (option_map (λ e. Hidden) o) ≡ true
still_hidden None h = absurd (false≢true h)
still_hidden (Some e) h = refl

inner_named : (V : Variables) (l : Layout) (bs : List Names) (gs : List GlobalSoFar) (x own : Name) (u : CType) → has_block (outer bs) ≡ true → V own u → IsFit V l bs gs → IsInner V l bs (with_entity x (Local own u) bs) gs
inner_named V l [] gs x own u b v h = absurd (false≢true h.some)
inner_named V l (names ∷ bs) gs x own u b v h = record {
  fits = inner_replaced V l names (with_name x (Some (Local own u)) names) bs gs b h (named_fits V (file_names bs) l.target names x own u v);
  keeps = inner_keeps names (with_name x (Some (Local own u)) names) bs b;
  outer = refl;
  here = still_here names x (Local own u);
}

inner_hidden : (V : Variables) (l : Layout) (bs : List Names) (gs : List GlobalSoFar) → has_block (outer bs) ≡ true → IsFit V l bs gs → IsInner V l bs (hidden bs) gs
inner_hidden V l [] gs b h = absurd (false≢true h.some)
inner_hidden V l (names ∷ bs) gs b h = record {
  fits = inner_replaced V l names (λ x. option_map (λ e. Hidden) (names x)) bs gs b h (λ k. hidden_fits V (file_names bs) l.target names);
  keeps = inner_keeps names (λ x. option_map (λ e. Hidden) (names x)) bs b;
  outer = refl;
  here = λ y c. still_hidden (names y) c;
}

-- a local gets its name
pub local_named : (V : Variables) (s : Scope) (x own : Name) (u : CType) → has_block (outer s.blocks) ≡ true → V own u → Fits V s → IsLater s (declare x (Local own u) s) × Fits V (declare x (Local own u) s)
local_named V s x own u b v h =
    let i = inner_named V s.layout s.blocks s.file.globals x own u b v h in
    (record { layout = grown_itself s.layout; outer = i.outer; some = λ c. i.fits.some; names = i.keeps; here = i.here; with_body = refl; so_far = λ y c. c }, i.fits)

-- locals are hidden
pub locals_hidden : (V : Variables) (s : Scope) → has_block (outer s.blocks) ≡ true → Fits V s → IsLater s (hide_locals s) × Fits V (hide_locals s)
locals_hidden V s b h =
    let i = inner_hidden V s.layout s.blocks s.file.globals b h in
    (record { layout = grown_itself s.layout; outer = i.outer; some = λ c. i.fits.some; names = i.keeps; here = i.here; with_body = refl; so_far = λ y c. c }, i.fits)
