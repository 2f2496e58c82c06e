-- The unit of a text is well-typed.
use Rattle.std.proofs.Common.{◌≡◌, ℕ, Bool, true, false, cond, List, [], ◌∷◌, ◌++◌, map, Option, Some, option_map, filter_map, ◌⊎◌, inl, inr, refl, sym, ap, ◌∙◌, subst, ◌<◌, ◌^◌, lt_of_le_of_lt}
use Rattle.std.proofs.lemmas.Bool.{false≢true, true≢false, or_cases, cond-true, cond-false}
use Rattle.c_values.specs.Name.{Name, same_name, is_among, are_distinct}
use Rattle.c_values.specs.Types.{Target, CType}
use Rattle.c_values.specs.Layout.{Layout, GlobalVar, global_type, is_object}
use Rattle.c_grammar.specs.Tree as tree
use Rattle.typing_rules.specs.File.{GlobalSoFar, global_named}
use Rattle.typing_rules.specs.Scope.{Scope, Entity, Function, Names}
use Rattle.typing_rules.specs.declared.fault.TypeKind.{TypeKind}
use Rattle.typing_rules.specs.Checked.{Checked, Good, Bad}
use Rattle.typing_rules.specs.Unit.{externals, body_name, at_beginning, global_var, unit_in, whole, IsTyped}
use Rattle.c_lang.specs.Typed as C
use Rattle.c_lang.specs.WellTyped.{IsWellTyped, are_globals, are_functions, are_numbered, scope_in}
use Rattle.typing_laws.specs.Written.{Each, AreWritten}
use Rattle.typing_laws.specs.Count.{numbered_in}
use Rattle.typing_laws.proofs.Tests.{both, left, right, name_is, name_itself, none_some, some_same}
use Rattle.typing_laws.proofs.Growth.{grown_itself}
use Rattle.typing_laws.proofs.Initials.{globals_begin}
use Rattle.typing_laws.proofs.Scopes.{GlobalsFit, file_names, global_type_in}
use Rattle.typing_laws.proofs.Later.{IsFunction, IsWithin}
use Rattle.typing_laws.proofs.Variables.{Among}
use Rattle.typing_laws.proofs.Outcomes.{Gives, gives, fails}
use Rattle.typing_laws.proofs.Files.{IsFile}
use Rattle.typing_laws.proofs.Functions.{IsDone}
use Rattle.typing_laws.proofs.Units.{HasAtMost, function_names, HasFunctions, externals_given}

-- in front of a text nothing is declared
pub beginning : (t : Target) (xs : List tree.External) → IsFile (at_beginning t xs)
beginning t xs = record {
  fits = record {
    layout = record { built = refl; small = refl };
    some = refl;
    entities = ((λ x e c. absurd (none_some c)), tt);
    globals = tt;
    known = λ x u c. absurd (none_some c);
    distinct = refl;
    initials = tt;
  };
  alone = refl;
}

types_given : (l : Layout) (gs : List GlobalSoFar) (x : Name) → global_type (map (global_var l) gs) x ≡ global_type_in gs x
types_given l [] x = refl
types_given l (g ∷ gs) x = by_cases (same_name g.name x) (types_given l gs x)
  where
    by_cases : (b : Bool) → global_type (map (global_var l) gs) x ≡ global_type_in gs x → cond b (Some g.type) (global_type (map (global_var l) gs) x) ≡ option_map (λ h. h.type) (cond b (Some g) (global_named gs x))
    by_cases true e = refl
    by_cases false e = e

names_given : (l : Layout) (gs : List GlobalSoFar) → map (λ v. v.name) (map (global_var l) gs) ≡ map (λ g. g.name) gs
names_given l [] = refl
names_given l (g ∷ gs) = ap (λ xs. g.name ∷ xs) (names_given l gs)

objects_given : (l : Layout) (file : Names) (gs : List GlobalSoFar) → GlobalsFit l file gs → are_globals l (map (global_var l) gs) ≡ true
objects_given l file [] h = refl
objects_given l file (g ∷ gs) h = both h.1 (objects_given l file gs h.2)

object_of : (l : Layout) (gs : List GlobalVar) (x : Name) (t : CType) → are_globals l gs ≡ true → global_type gs x ≡ Some t → is_object l t ≡ true
object_of l [] x t h e = absurd (none_some e)
object_of l (g ∷ gs) x t h e = by_cases (same_name g.name x) (object_of l gs x t (right (is_object l g.type) (are_globals l gs) h)) e
  where
    by_cases : (b : Bool) → (global_type gs x ≡ Some t → is_object l t ≡ true) → cond b (Some g.type) (global_type gs x) ≡ Some t → is_object l t ≡ true
    by_cases true r c = subst (λ u. is_object l u ≡ true) (some_same c) (left (is_object l g.type) (are_globals l gs) h)
    by_cases false r c = r c

-- a function of the unit by its name
function_is : (t : Scope) (fs : List C.TypedFn) (x : Name) (r : Option CType) (ps : List CType) → Each (IsDone t) fs → is_among x (function_names fs) ≡ true → file_names t.blocks x ≡ Some (Function r ps) → IsFunction fs x r ps
function_is t [] x r ps h c e = absurd (false≢true c)
function_is t (f ∷ fs) x r ps h c e = by_cases (same_name f.name x) refl (or_cases (same_name x f.name) (is_among x (function_names fs)) c) (λ d. function_is t fs x r ps h.1 d e)
  where
    same_function : (q : Option CType) (qs : List CType) → ◌≡◌ {A = Option Entity} (Some (Function q qs)) (Some (Function r ps)) → (q ≡ r) × (qs ≡ ps)
    same_function q qs k = (cc, cc)

    here : same_name f.name x ≡ true → IsFunction (f ∷ fs) x r ps
    here k =
        let s = same_function f.result (map (λ v. v.type) f.params) (sym h.0.known ∙ ap (file_names t.blocks) (name_is f.name x k) ∙ e) in
        record { function = f; found = cond-true (same_name f.name x) (Some f) (C.typed_fn fs x) k; result = s.0; params = s.1 }

    further : same_name f.name x ≡ false → IsFunction fs x r ps → IsFunction (f ∷ fs) x r ps
    further k i = record { function = i.function; found = cond-false (same_name f.name x) (Some f) (C.typed_fn fs x) k ∙ i.found; result = i.result; params = i.params }

    by_cases : (b : Bool) → same_name f.name x ≡ b → (same_name x f.name ≡ true) ⊎ (is_among x (function_names fs) ≡ true) → (is_among x (function_names fs) ≡ true → IsFunction fs x r ps) → IsFunction (f ∷ fs) x r ps
    by_cases true k d i = here k
    by_cases false k (inl d) i = absurd (true≢false (sym (ap (λ z. same_name z x) (sym (name_is x f.name d)) ∙ name_itself x) ∙ k))
    by_cases false k (inr d) i = further k (i d)

module _ (t : Target) (xs : List tree.External) (fs : List C.TypedFn) (z : Scope) (n : ℕ) (h : HasFunctions (filter_map body_name xs) n (at_beginning t xs) fs z) (small : n < 2 ^ 64) where
  abbrev unit : C.TypedUnit
  unit = unit_in fs z

  globals_typed : are_globals z.layout unit.globals ≡ true
  globals_typed = objects_given z.layout (file_names z.blocks) z.file.globals h.next.file.fits.globals

  within : (f : C.TypedFn) → HasAtMost n f → IsWithin (Among (f.params ++ f.locals)) z (scope_in unit f)
  within f few = record {
    sound = record { layout = h.next.file.fits.layout; objects = λ x u e. object_of z.layout unit.globals x u globals_typed e };
    grown = grown_itself z.layout;
    variables = λ x u c. c (lt_of_le_of_lt few.0 small);
    globals = λ x u c. types_given z.layout z.file.globals x ∙ h.next.file.fits.known x u c;
    functions = λ x r ps c b. function_is z fs x r ps h.done (with_body x b) c;
  }
    where
      with_body : (x : Name) → z.file.with_body x ≡ true → is_among x (function_names fs) ≡ true
      with_body x b = ap (is_among x) h.names ∙ ap (λ p. p x) (sym h.next.later.with_body) ∙ b

  functions_typed : (gs : List C.TypedFn) → Each (IsDone z) gs → Each (HasAtMost n) gs → are_functions unit gs ≡ true
  functions_typed [] k few = refl
  functions_typed (f ∷ gs) k few =
      both (both (both (both k.0.progress.scalars (k.0.progress.distinct (lt_of_le_of_lt few.0.0 small))) k.0.result) (k.0.typed (scope_in unit f) (within f few.0) refl)) (functions_typed gs k.1 few.1)

  functions_numbered : (gs : List C.TypedFn) → Each (HasAtMost n) gs → are_numbered gs ≡ true
  functions_numbered [] few = refl
  functions_numbered (f ∷ gs) few = both (few.0.1 small) (functions_numbered gs few.1)

  unit_typed : IsWellTyped unit
  unit_typed = record {
    layout = h.next.file.fits.layout;
    globals = globals_typed;
    initials = globals_begin z.layout h.next.file.fits.layout (file_names z.blocks) z.file.globals h.next.file.fits.globals h.next.file.fits.initials;
    global_names = ap are_distinct (names_given z.layout z.file.globals) ∙ h.next.file.fits.distinct;
    names = h.distinct;
    functions = functions_typed fs h.done h.few;
    numbers = functions_numbered fs h.few;
  }

unit_same : (u v : C.TypedUnit) → ◌≡◌ {A = Checked C.TypedUnit} (Good u) (Good v) → u ≡ v
unit_same u v e = cc

-- a typed text's unit
pub typed_units_are_well_typed : (t : Target) (xs : List tree.External) (u : C.TypedUnit) → AreWritten xs → IsTyped t xs u → IsWellTyped u
typed_units_are_well_typed t xs u i e = by_outcome (externals xs (at_beginning t xs)) (externals_given xs i.externals (at_beginning t xs) (beginning t xs)) e
  where
    never : (at : ℕ) (kind : TypeKind) → ◌≡◌ {A = Checked C.TypedUnit} (Bad at kind) (Good u) → ⊥
    never at kind k = cc

    by_outcome : (c : Checked (List C.TypedFn × Scope)) → Gives (HasFunctions (filter_map body_name xs) (numbered_in xs) (at_beginning t xs)) c → whole c ≡ Good u → IsWellTyped u
    by_outcome _ (gives p h) k =
        subst IsWellTyped (unit_same (unit_in p.0 p.1) u k) (unit_typed t xs p.0 p.1 (numbered_in xs) h i.few)
    by_outcome _ (fails {at} {kind}) k = absurd (never at kind k)
