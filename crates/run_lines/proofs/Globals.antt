-- The values of globals in their order are those under their names, which are distinct.
use Rattle.std.proofs.Common.{◌≡◌, true, false, not, cond, List, [], ◌∷◌, ◌++◌, map, refl, ap₂, sym, ◌∙◌}
use Rattle.std.specs.Prelude.{string_bytes}
use Rattle.std.proofs.lemmas.Bool.{and_parts, not-true, or_parts, cond-true, cond-false}
use Rattle.c_values.specs.Name.{Name, same_name, is_among, are_distinct}
use Rattle.c_values.specs.Value.{Value}
use Rattle.c_values.specs.Layout.{Layout}
use Rattle.c_values.specs.declared.values.Value as V
use Rattle.c_values.specs.declared.values.GlobalVar as G
use Rattle.c_values.specs.CodeValue.{value_of, global_of}
use Rattle.c_values.proofs.Laid.{same_name-refl}
use Rattle.expression_lang.specs.CodeState.{AreOfTypes, globals_of}
use Rattle.run_lines.specs.RunLines.{global_line, global_lines}
use Rattle.run_lines.specs.CodeEnds.{each_global_line}

abbrev names : List G.GlobalVar → List Name
names gs = map (λ g. g.name) (map global_of gs)

-- only the values under the names of the globals count
other_lines : (who : Name) (l : Layout) (x : Name) (v : Value) (gs : List G.GlobalVar) (table : Name → Value) → is_among x (names gs) ≡ false →
    global_lines who l (map global_of gs) (λ y. cond (same_name x y) v (table y)) ≡ global_lines who l (map global_of gs) table
other_lines who l x v [] table h = refl
other_lines who l x v (g ∷ gs) table h =
    let p = or_parts (same_name x (string_bytes g.name)) (is_among x (names gs)) h in
    ap₂ (λ w rest. global_line who l (global_of g) w ++ rest) (cond-false (same_name x (string_bytes g.name)) v (table (string_bytes g.name)) p.0) (other_lines who l x v gs table p.1)

pub lines_in_order : (who : Name) (l : Layout) (gs : List G.GlobalVar) (vs : List V.Value) → are_distinct (names gs) ≡ true → AreOfTypes l gs vs →
    each_global_line who l gs vs ≡ global_lines who l (map global_of gs) (globals_of gs vs)
lines_in_order who l [] [] distinct typed = refl
lines_in_order who l (g ∷ gs) (v ∷ vs) distinct typed =
    let p = and_parts (not (is_among (string_bytes g.name) (names gs))) (are_distinct (names gs)) distinct in
    let new = not-true (is_among (string_bytes g.name) (names gs)) p.0 in
    ap₂ (λ w rest. global_line who l (global_of g) w ++ rest)
    (sym (cond-true (same_name (string_bytes g.name) (string_bytes g.name)) (value_of v) (globals_of gs vs (string_bytes g.name)) (same_name-refl (string_bytes g.name))))
    (lines_in_order who l gs vs p.1 typed.1 ∙ sym (other_lines who l (string_bytes g.name) (value_of v) gs (globals_of gs vs) new))
lines_in_order who l [] (v ∷ vs) distinct typed = absurd typed
lines_in_order who l (g ∷ gs) [] distinct typed = absurd typed
