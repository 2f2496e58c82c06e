-- Globals of one unit that are those of another.
use Rattle.std.proofs.Common.{◌≡◌, List, [], ◌∷◌, map, refl, sym, ap, subst, ◌∙◌}
use Rattle.c_values.specs.Layout.{Layout}
use Rattle.c_values.specs.declared.values.Value as V
use Rattle.c_values.specs.declared.values.GlobalVar as G
use Rattle.c_values.specs.CodeValue.{value_of, global_of}
use Rattle.expression_lang.specs.CodeState.{globals_of, AreOfTypes}
use Rattle.run_start.specs.Start.{named}
use Rattle.run_start.proofs.Settings.{AreShaped, typed_values, same_names}

pub same_globals : (gs hs : List G.GlobalVar) (vs : List V.Value) → map global_of gs ≡ map global_of hs → globals_of gs vs ≡ globals_of hs vs
same_globals gs hs vs e =
    same_names gs vs (map value_of vs) refl ∙ ap (λ xs. named xs (map value_of vs)) e ∙ sym (same_names hs vs (map value_of vs) refl)

shaped : (l : Layout) (gs : List G.GlobalVar) (vs : List V.Value) → AreOfTypes l gs vs → AreShaped l (map global_of gs) (map value_of vs)
shaped l [] [] h = tt
shaped l (g ∷ gs) (v ∷ vs) h = (h.0, shaped l gs vs h.1)
shaped l [] (v ∷ vs) h = absurd h
shaped l (g ∷ gs) [] h = absurd h

pub of_types_there : (l m : Layout) (gs hs : List G.GlobalVar) (vs : List V.Value) → l ≡ m → map global_of gs ≡ map global_of hs →
    AreOfTypes l gs vs → AreOfTypes m hs vs
of_types_there l m gs hs vs same e h =
    typed_values m hs vs (subst (λ k. AreShaped k (map global_of hs) (map value_of vs)) same (subst (λ xs. AreShaped l xs (map value_of vs)) e (shaped l gs vs h)))
