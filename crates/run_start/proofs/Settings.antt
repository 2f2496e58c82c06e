-- The globals begin with values of their types.
use Rattle.std.proofs.Common.{◌≡◌, Bool, true, false, cond, List, [], ◌∷◌, map, Some, None, refl, subst, ap, ◌∙◌}
use Rattle.std.specs.Prelude.{string_bytes}
use Rattle.std.proofs.Math.Path.{fun_ext}
use Rattle.c_values.specs.Name.{Name, same_name}
use Rattle.c_values.specs.Value.{Value}
use Rattle.c_values.specs.Layout.{Layout, GlobalVar, shape_of, global_type}
use Rattle.c_values.specs.Path.{HasShape}
use Rattle.c_values.specs.declared.values.Value as V
use Rattle.c_values.specs.declared.values.GlobalVar as G
use Rattle.c_values.specs.CodeValue.{value_of, global_of}
use Rattle.expression_lang.specs.States.{AreGlobals}
use Rattle.expression_lang.specs.CodeState.{AreOfTypes, globals_of}
use Rattle.expression_text.specs.Names.{is_name}
use Rattle.c_lang.specs.WellTyped.{AreInitialised}
use Rattle.memory_text.specs.ValueText.{is_value}
use Rattle.memory_text.specs.MemoryText.{Setting, after_setting, where_global, global_named, are_chained, goes_on}
use Rattle.run_start.specs.Start.{as_words, values_set, named}
use Rattle.run_start.proofs.Shaped.{value_shaped}

-- each value is of its global's type
abbrev pub AreShaped : Layout → List GlobalVar → List Value → Type 0
AreShaped l [] [] = Unit {0}
AreShaped l (g ∷ gs) (v ∷ vs) = HasShape (shape_of l g.type) v × AreShaped l gs vs
AreShaped l [] (v ∷ vs) = ⊥
AreShaped l (g ∷ gs) [] = ⊥

taken : (a b : Bool) (gs : List GlobalVar) (test : List GlobalVar → Bool) → goes_on (cond a (cond b (Some gs) None) None) test ≡ true → (b ≡ true) × (test gs ≡ true)
taken true true gs test h = (refl, h)
taken _ _ gs test h = absurd cc

pub values_shaped : (l : Layout) (gs : List GlobalVar) (ss : List Setting) → AreInitialised l gs → are_chained (after_setting l) gs ss ≡ true → AreShaped l gs (values_set l gs ss)
values_shaped l [] ss initials h = tt
values_shaped l (g ∷ gs) [] initials h = (initials.0, values_shaped l gs [] initials.1 refl)
values_shaped l (g ∷ gs) (s ∷ ss) initials h = by (same_name g.name s.name) (λ r k. values_shaped l gs r initials.1 k) h
  where
    by : (b : Bool) → ((r : List Setting) → are_chained (after_setting l) gs r ≡ true → AreShaped l gs (values_set l gs r)) →
        goes_on (cond (is_name s.name) (where_global l s (cond b (Some (g, gs)) (global_named gs s.name))) None) (λ r. are_chained (after_setting l) r ss) ≡ true →
        HasShape (shape_of l g.type) (cond {A = Value × List Setting} b (as_words (shape_of l g.type) s.value, ss) (g.initial, s ∷ ss)).0
        × AreShaped l gs (values_set l gs (cond {A = Value × List Setting} b (as_words (shape_of l g.type) s.value, ss) (g.initial, s ∷ ss)).1)
    by true others k =
        let p = taken (is_name s.name) (is_value l.target (shape_of l g.type) s.value) gs (λ r. are_chained (after_setting l) r ss) k in
        (value_shaped l.target (shape_of l g.type) s.value p.0, others ss p.1)
    by false others k = (initials.0, others (s ∷ ss) k)

-- the same of the code's lists
pub typed_values : (l : Layout) (gs : List G.GlobalVar) (vs : List V.Value) → AreShaped l (map global_of gs) (map value_of vs) → AreOfTypes l gs vs
typed_values l [] [] h = tt
typed_values l (g ∷ gs) (v ∷ vs) h = (h.0, typed_values l gs vs h.1)
typed_values l [] (v ∷ vs) h = absurd h
typed_values l (g ∷ gs) [] h = absurd h

pub typed_names : (l : Layout) (gs : List GlobalVar) (vs : List Value) → AreShaped l gs vs → AreGlobals l gs (named gs vs)
typed_names l [] [] h x t e = absurd cc
typed_names l (g ∷ gs) (v ∷ vs) h x t e = by (same_name g.name x) (typed_names l gs vs h.1 x t) e
  where
    by : (b : Bool) → (global_type gs x ≡ Some t → HasShape (shape_of l t) (named gs vs x)) → cond b (Some g.type) (global_type gs x) ≡ Some t → HasShape (shape_of l t) (cond b v (named gs vs x))
    by true others k = let same : g.type ≡ t = cc in subst (λ u. HasShape (shape_of l u) v) same h.0
    by false others k = others k
typed_names l [] (v ∷ vs) h x t e = absurd h
typed_names l (g ∷ gs) [] h x t e = absurd h

named_at : (gs : List G.GlobalVar) (vs : List V.Value) (x : Name) → globals_of gs vs x ≡ named (map global_of gs) (map value_of vs) x
named_at [] vs x = refl
named_at (g ∷ gs) [] x = refl
named_at (g ∷ gs) (v ∷ vs) x = ap (λ w. cond (same_name (string_bytes g.name) x) (value_of v) w) (named_at gs vs x)

pub same_names : (gs : List G.GlobalVar) (vs : List V.Value) (ws : List Value) → map value_of vs ≡ ws → globals_of gs vs ≡ named (map global_of gs) ws
same_names gs vs ws e = fun_ext (λ x. named_at gs vs x) ∙ ap (named (map global_of gs)) e
