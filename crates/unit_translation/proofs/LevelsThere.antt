-- Levels by position are levels by name, since functions have different names.
use Rattle.std.proofs.Common.{◌≡◌, true, false, not, List, [], ◌∷◌, map, length, refl, sym, ap₂, ◌∙◌, arith}
use Rattle.std.proofs.lemmas.Bool.{and_parts, or_parts, not-true, cond-true, cond-false}
use Rattle.std.proofs.lemmas.List.{length-map}
use Rattle.c_values.specs.Name.{Name, same_name, is_among, are_distinct}
use Rattle.c_values.proofs.Laid.{same_name-refl}
use Rattle.c_values.specs.declared.program.Program as P
use Rattle.expression_lang.specs.Sort.{Level}
use Rattle.expression_lang.specs.CodeExpression.{level_of}
use Rattle.c_lang.specs.Typed.{TypedFn}
use Rattle.c_lang.specs.CodeTyped.{function_of, unit_of}
use Rattle.c_lang.specs.WellTyped.{IsWellTyped}
use Rattle.c_lang.specs.declared.tree.TypedFn as F
use Rattle.c_levels.specs.declared.modes.Modes.{Modes}
use Rattle.c_levels.specs.CodeModes.{levels_in, AreLevels}
use Rattle.unit_translation.specs.CodeTranslated.{level_at}

others : (f : TypedFn) (fs : List TypedFn) (k : Level) (ks : List Level) (gs : List TypedFn) →
    is_among f.name (map (λ g. g.name) gs) ≡ false →
    map (λ g. level_at (f ∷ fs) (k ∷ ks) g.name) gs ≡ map (λ g. level_at fs ks g.name) gs
others f fs k ks [] h = refl
others f fs k ks (g ∷ gs) h =
    let p = or_parts (same_name f.name g.name) (is_among f.name (map (λ g. g.name) gs)) h in
    ap₂ (λ x xs. x ∷ xs) (cond-false (same_name f.name g.name) k (level_at fs ks g.name) p.0) (others f fs k ks gs p.1)

pub levels_there : (fs : List TypedFn) (ks : List Level) → are_distinct (map (λ f. f.name) fs) ≡ true →
    length ks ≡ length fs → map (λ f. level_at fs ks f.name) fs ≡ ks
levels_there [] [] h e = refl
levels_there [] (k ∷ ks) h e = absurd (omega (arith, e))
levels_there (f ∷ fs) [] h e = absurd (omega (arith, e))
levels_there (f ∷ fs) (k ∷ ks) h e =
    let p = and_parts (not (is_among f.name (map (λ f. f.name) fs))) (are_distinct (map (λ f. f.name) fs)) h in
    let q : length ks ≡ length fs = omega (arith, e) in
    ap₂ (λ x xs. x ∷ xs) (cond-true (same_name f.name f.name) k (level_at fs ks f.name) (same_name-refl f.name))
    (others f fs k ks fs (not-true (is_among f.name (map (λ f. f.name) fs)) p.0) ∙ levels_there fs ks p.1 q)

abbrev pub levels_of : P.Program F.TypedFn → Modes → Name → Level
levels_of u m = level_at (unit_of u).functions (levels_in m)

-- the levels of modes, by name
pub are_levels : (u : P.Program F.TypedFn) (m : Modes) → IsWellTyped (unit_of u) →
    length m.levels.items ≡ length u.functions.items → AreLevels (unit_of u) m (levels_of u m)
are_levels u m typed e =
    levels_there (unit_of u).functions (levels_in m) typed.names
    (length-map m.levels.items level_of ∙ e ∙ sym (length-map u.functions.items function_of))
