-- A global takes a value.
use Rattle.std.proofs.Common.{◌≡◌, ℕ, zero, suc, ◌<◌, ◌≤◌, Bool, true, false, cond, List, [], ◌∷◌, length, get_or, set, map, Option, Some, None, refl, sym, ap, ap₂, ◌∙◌, subst, arith}
use Rattle.std.proofs.Math.Path.{fun_ext}
use Rattle.std.proofs.lemmas.Bool.{false≢true, cond-true, cond-false}
use Rattle.std.specs.Option.{option_map}
use Rattle.std.specs.Prelude.{string_bytes}
use Rattle.c_values.specs.declared.values.Value as V
use Rattle.c_values.specs.declared.values.GlobalVar as G
use Rattle.c_values.specs.Name.{Name, same_name, with_name}
use Rattle.c_values.specs.Types.{CType}
use Rattle.c_values.specs.Value.{Value, nothing}
use Rattle.c_values.specs.Layout.{Layout, GlobalVar, shape_of, global_type}
use Rattle.c_values.specs.Path.{Step, upd, HasShape}
use Rattle.c_values.specs.CodeValue.{value_of, global_of}
use Rattle.c_values.proofs.Laid.{name_is, other_name}
use Rattle.expression_lang.specs.CodeState.{globals_of, AreOfTypes}
use Rattle.global_changes.specs.GlobalChange.{position_of, change_at, change_in}

pub by_test : {A : Type 0} (b : Bool) → (b ≡ true → A) → (b ≡ false → A) → A
by_test true f g = f refl
by_test false f g = g refl

-- where a global stands

-- the list where it is changed

pub changed_there : (ps : List Step) (w : Value) (vs : List V.Value) (k : ℕ) (v new : V.Value) → k < length vs → v ≡ get_or vs k v → value_of new ≡ upd (value_of v) ps w →
    map value_of (set vs k new) ≡ change_at ps w k (map value_of vs)
changed_there ps w [] k v new lt e h = absurd (omega arith)
changed_there ps w (u ∷ vs) zero v new lt e h = ap (λ n. n ∷ map value_of vs) (h ∙ ap (λ z. upd (value_of z) ps w) e)
changed_there ps w (u ∷ vs) (suc k) v new lt e h = ap (λ t. value_of u ∷ t) (changed_there ps w vs k v new (omega arith) e h)

pub change_past : (ps : List Step) (w : Value) (k : ℕ) (vs : List Value) → length vs ≤ k → vs ≡ change_at ps w k vs
change_past ps w k [] le = refl
change_past ps w zero (v ∷ vs) le = absurd (omega arith)
change_past ps w (suc k) (v ∷ vs) le = ap (λ t. v ∷ t) (change_past ps w k vs (omega arith))

change_next : (ps : List Step) (w v : Value) (vs : List Value) (o : Option ℕ) → change_in (option_map suc o) ps w (v ∷ vs) ≡ v ∷ change_in o ps w vs
change_next ps w v vs None = refl
change_next ps w v vs (Some k) = refl

-- the values under the names

values_at : List GlobalVar → List Value → Name → Value
values_at (g ∷ gs) (v ∷ vs) y = cond (same_name g.name y) v (values_at gs vs y)
values_at _ _ y = nothing

AreOf : Layout → List GlobalVar → List Value → Type 0
AreOf l [] [] = Unit {0}
AreOf l (g ∷ gs) (v ∷ vs) = HasShape (shape_of l g.type) v × AreOf l gs vs
AreOf l [] (v ∷ vs) = ⊥
AreOf l (g ∷ gs) [] = ⊥

values_same : (vars : List G.GlobalVar) (vs : List V.Value) (y : Name) → globals_of vars vs y ≡ values_at (map global_of vars) (map value_of vs) y
unfolding values_at
values_same [] vs y = refl
values_same (g ∷ gs) [] y = refl
values_same (g ∷ gs) (v ∷ vs) y = ap (cond (same_name (string_bytes g.name) y) (value_of v)) (values_same gs vs y)

are_of : (l : Layout) (vars : List G.GlobalVar) (vs : List V.Value) → AreOfTypes l vars vs → AreOf l (map global_of vars) (map value_of vs)
unfolding AreOf
are_of l [] [] h = tt
are_of l [] (v ∷ vs) h = absurd h
are_of l (g ∷ gs) [] h = absurd h
are_of l (g ∷ gs) (v ∷ vs) h = (h.0, are_of l gs vs h.1)

of_are : (l : Layout) (vars : List G.GlobalVar) (vs : List V.Value) → AreOf l (map global_of vars) (map value_of vs) → AreOfTypes l vars vs
unfolding AreOf
of_are l [] [] h = tt
of_are l [] (v ∷ vs) h = absurd h
of_are l (g ∷ gs) [] h = absurd h
of_are l (g ∷ gs) (v ∷ vs) h = (h.0, of_are l gs vs h.1)

both_tests : (a b : Bool) (n v u r : Value) → (b ≡ true → a ≡ false) → cond b v (cond a n r) ≡ cond a n (cond b v r)
both_tests true true n v u r h = absurd (false≢true (sym (h refl)))
both_tests false true n v u r h = refl
both_tests _ _ _ _ _ _ _ = refl

module _ (l : Layout) (x : Name) (ps : List Step) (w : Value) where
  change_values : (t : CType) (gs : List GlobalVar) (vs : List Value) → AreOf l gs vs → global_type gs x ≡ Some t → (y : Name) →
      values_at gs (change_in (position_of x gs) ps w vs) y ≡ cond (same_name x y) (upd (values_at gs vs x) ps w) (values_at gs vs y)
  unfolding AreOf values_at
  change_values t [] vs h e y = absurd cc
  change_values t (g ∷ gs) [] h e y = absurd h
  change_values t (g ∷ gs) (v ∷ vs) h e y =
      by_test (same_name g.name x)
      (λ b.
      let same : g.name ≡ x = name_is g.name x b in
      ap (λ o. values_at (g ∷ gs) (change_in o ps w (v ∷ vs)) y) (cond-true (same_name g.name x) (Some 0) (option_map suc (position_of x gs)) b)
      ∙ ap (λ n. cond (same_name n y) (upd v ps w) (values_at gs vs y)) same
      ∙ here (same_name x y) (same_name g.name x) b (same_name g.name y) (ap (λ n. same_name n y) same))
      (λ b.
      ap (λ o. values_at (g ∷ gs) (change_in o ps w (v ∷ vs)) y) (cond-false (same_name g.name x) (Some 0) (option_map suc (position_of x gs)) b)
      ∙ ap (λ us. values_at (g ∷ gs) us y) (change_next ps w v vs (position_of x gs))
      ∙ ap (cond (same_name g.name y) v) (change_values t gs vs h.1 (sym (cond-false (same_name g.name x) (Some g.type) (global_type gs x) b) ∙ e) y)
      ∙ both_tests (same_name x y) (same_name g.name y) (upd (values_at gs vs x) ps w) v v (values_at gs vs y)
      (λ q. subst (λ n. same_name x n ≡ false) (name_is g.name y q) (other_name g.name x b))
      ∙ ap (λ n. cond (same_name x y) (upd n ps w) (cond (same_name g.name y) v (values_at gs vs y))) (sym (cond-false (same_name g.name x) v (values_at gs vs x) b)))
    where
      here : (a b : Bool) → b ≡ true → (d : Bool) → d ≡ a → cond a (upd v ps w) (values_at gs vs y) ≡ cond a (upd (cond b v (values_at gs vs x)) ps w) (cond d v (values_at gs vs y))
      here true true q false r = absurd (false≢true r)
      here false true q true r = absurd (false≢true (sym r))
      here a false q d r = absurd (false≢true q)
      here _ _ _ _ _ = refl

  change_types : (gs : List GlobalVar) (vs : List Value) → AreOf l gs vs → ((t : CType) (v : Value) → global_type gs x ≡ Some t → HasShape (shape_of l t) v → HasShape (shape_of l t) (upd v ps w)) →
      AreOf l gs (change_in (position_of x gs) ps w vs)
  unfolding AreOf
  change_types [] vs h k = h
  change_types (g ∷ gs) [] h k = absurd h
  change_types (g ∷ gs) (v ∷ vs) h k =
      by_test (same_name g.name x)
      (λ b.
      subst (λ o. AreOf l (g ∷ gs) (change_in o ps w (v ∷ vs))) (sym (cond-true (same_name g.name x) (Some 0) (option_map suc (position_of x gs)) b))
      (k g.type v (cond-true (same_name g.name x) (Some g.type) (global_type gs x) b) h.0, h.1))
      (λ b.
      subst (λ o. AreOf l (g ∷ gs) (change_in o ps w (v ∷ vs))) (sym (cond-false (same_name g.name x) (Some 0) (option_map suc (position_of x gs)) b))
      (subst (λ us. AreOf l (g ∷ gs) us) (sym (change_next ps w v vs (position_of x gs)))
      (h.0, change_types gs vs h.1 (λ t u e. k t u (cond-false (same_name g.name x) (Some g.type) (global_type gs x) b ∙ e)))))

  module _ (vars : List G.GlobalVar) (olds news : List V.Value) (types : AreOfTypes l vars olds)
      (changed : map value_of news ≡ change_in (position_of x (map global_of vars)) ps w (map value_of olds)) where
    pub globals_changed : (t : CType) → global_type (map global_of vars) x ≡ Some t → globals_of vars news ≡ with_name x (upd (globals_of vars olds x) ps w) (globals_of vars olds)
    globals_changed t e =
        fun_ext (λ y.
        values_same vars news y ∙ ap (λ us. values_at (map global_of vars) us y) changed
        ∙ change_values t (map global_of vars) (map value_of olds) (are_of l vars olds types) e y
        ∙ ap₂ (λ a b. cond (same_name x y) (upd a ps w) b) (sym (values_same vars olds x)) (sym (values_same vars olds y)))

    pub types_changed : ((t : CType) (v : Value) → global_type (map global_of vars) x ≡ Some t → HasShape (shape_of l t) v → HasShape (shape_of l t) (upd v ps w)) → AreOfTypes l vars news
    types_changed k =
        of_are l vars news (subst (λ us. AreOf l (map global_of vars) us) (sym changed) (change_types (map global_of vars) (map value_of olds) (are_of l vars olds types) k))
