-- An expression with another one in place of a name has, where it is evaluated, the value that the expression has where the name holds
-- the other's value.
use Rattle.std.proofs.Common.{◌≡◌, Bool, true, false, not, cond, ◌&&◌, ◌||◌, ◌∷◌, Some, None, pos, refl, sym, ap, ap₂, ◌∙◌}
use Rattle.std.specs.Prelude.{neg_ℤ, ◌*ℤ◌, int_lt, int_le, unwrap_or}
use Rattle.c_values.specs.Name.{Name, same_name}
use Rattle.c_values.specs.Word.{unsigned, signed, word, word_op, word_shift, word_unary, word_test}
use Rattle.c_values.specs.Number.{number_op, is_between}
use Rattle.c_values.specs.Value.{Value, Bits, Number, Truth, word_in, number_in, truth_in, same_value}
use Rattle.c_values.specs.Layout.{Layout, size_of, shape_of}
use Rattle.c_values.specs.Path.{Field, Index, spot, sel, upd}
use Rattle.c_values.proofs.Laid.{name_is}
use Rattle.c_memory.specs.Tags.{is_pointer_ok}
use Rattle.c_memory.specs.Heap.{read_heap, is_tagged}
use Rattle.expression_lang.specs.Expression.{Exp, Var, WordBinary, WordShift, WordUnary, WordCompare, Cast, ToNat, ToInt, ToWord, Arith, Negate, Lt, Le, Between, Eq, And, Or, Imp, Not, If, Padd, At, Load, Read, Tagged, PtrOk, Global, Sel, Upd, Path, Here, IntoField, IntoElement}
use Rattle.expression_lang.specs.Evaluation.{Env, State, value, steps, cast_op, moved, moved_to, if_truth}
use Rattle.expression_lang.specs.Form.{path_has}
use Rattle.expression_lang.specs.Mentions.{is_name, names}
use Rattle.ac_expr.specs.Substituted.{substituted, path_substituted}

module _ (l : Layout) (x : Name) (e : Exp) (env env' : Env) (s : State) (others : (y : Name) → same_name x y ≡ false → env' y ≡ env y) where
  -- where the name is there, it holds the other's value
  abbrev pub Held : Bool → Type 0
  Held b = b ≡ true → env' x ≡ value l env s e

  pub held_left : (a b : Bool) → Held (a || b) → Held a
  held_left true b h k = h refl
  held_left false b h k = absurd cc

  pub held_right : (a b : Bool) → Held (a || b) → Held b
  held_right true b h k = h refl
  held_right false b h k = h k

  name_put : (y : Name) (b : Bool) → same_name x y ≡ b → Held b → value l env s (unwrap_or (cond b (Some e) None) (Var y)) ≡ env' y
  name_put y true i h = sym (h refl) ∙ ap env' (name_is x y i)
  name_put y false i h = sym (others y i)

  two : {C : Type 0} (f : Value → Value → C) (a b : Exp) → Held (names x a || names x b) → (Held (names x a) → value l env s (substituted x e a) ≡ value l env' s a) → (Held (names x b) → value l env s (substituted x e b) ≡ value l env' s b) →
      f (value l env s (substituted x e a)) (value l env s (substituted x e b)) ≡ f (value l env' s a) (value l env' s b)
  two f a b h j k = ap₂ f (j (held_left (names x a) (names x b) h)) (k (held_right (names x a) (names x b) h))

  abbrev in_path : Path → Bool
  in_path path = path_has (is_name x) path

  mutual
    pub value_put : (a : Exp) → Held (names x a) → value l env s (substituted x e a) ≡ value l env' s a
    value_put (Var y) h = name_put y (same_name x y) refl h
    value_put (WordBinary op a b) h = two (λ u v. Bits (word_op op (word_in u) (word_in v))) a b h (value_put a) (value_put b)
    value_put (WordShift op a b) h = two (λ u v. Bits (word_shift op (word_in u) (number_in v))) a b h (value_put a) (value_put b)
    value_put (WordUnary op a) h = ap (λ u. Bits (word_unary op (word_in u))) (value_put a h)
    value_put (WordCompare op a b) h = two (λ u v. Truth (word_test op (word_in u) (word_in v))) a b h (value_put a) (value_put b)
    value_put (Cast op width a) h = ap (λ u. Bits (cast_op op width (word_in u))) (value_put a h)
    value_put (ToNat a) h = ap (λ u. Number (unsigned (word_in u))) (value_put a h)
    value_put (ToInt a) h = ap (λ u. Number (signed (word_in u))) (value_put a h)
    value_put (ToWord width a) h = ap (λ u. Bits (word width (number_in u))) (value_put a h)
    value_put (Arith op a b) h = two (λ u v. Number (number_op op (number_in u) (number_in v))) a b h (value_put a) (value_put b)
    value_put (Negate a) h = ap (λ u. Number (neg_ℤ (number_in u))) (value_put a h)
    value_put (Lt a b) h = two (λ u v. Truth (int_lt (number_in u) (number_in v))) a b h (value_put a) (value_put b)
    value_put (Le a b) h = two (λ u v. Truth (int_le (number_in u) (number_in v))) a b h (value_put a) (value_put b)
    value_put (Between low a high) h = ap (λ u. Truth (is_between low (number_in u) high)) (value_put a h)
    value_put (Eq a b) h = two (λ u v. Truth (same_value u v)) a b h (value_put a) (value_put b)
    value_put (And a b) h = two (λ u v. Truth (truth_in u && truth_in v)) a b h (value_put a) (value_put b)
    value_put (Or a b) h = two (λ u v. Truth (truth_in u || truth_in v)) a b h (value_put a) (value_put b)
    value_put (Imp a b) h = two (λ u v. Truth (not (truth_in u) || truth_in v)) a b h (value_put a) (value_put b)
    value_put (Not a) h = ap (λ u. Truth (not (truth_in u))) (value_put a h)
    value_put (If c a b) h =
        let p = held_left (names x c || names x a) (names x b) h in
        ap (λ u. if_truth (truth_in u) (value l env s (substituted x e a)) (value l env s (substituted x e b))) (value_put c (held_left (names x c) (names x a) p))
        ∙ ap₂ (λ u v. if_truth (truth_in (value l env' s c)) u v) (value_put a (held_right (names x c) (names x a) p)) (value_put b (held_right (names x c || names x a) (names x b) h))
    value_put (Padd t p n) h = two (λ u v. moved l (word_in u) (pos (size_of l t) *ℤ number_in v)) p n h (value_put p) (value_put n)
    value_put (At t p path) h = ap₂ (λ u ps. moved_to l (word_in u) (spot (shape_of l t) ps)) (value_put p (held_left (names x p) (in_path path) h)) (path_put path (held_right (names x p) (in_path path) h))
    value_put (Load t p path) h = ap₂ (λ u ps. read_heap l s.heap t (word_in u).bits ps) (value_put p (held_left (names x p) (in_path path) h)) (path_put path (held_right (names x p) (in_path path) h))
    value_put (Read t p path) h = ap₂ (λ u ps. read_heap l s.heap t (word_in u).bits ps) (value_put p (held_left (names x p) (in_path path) h)) (path_put path (held_right (names x p) (in_path path) h))
    value_put (Tagged t p) h = ap (λ u. Truth (is_tagged l s.heap t (word_in u).bits)) (value_put p h)
    value_put (PtrOk t p) h = ap (λ u. Truth (is_pointer_ok l t (word_in u).bits)) (value_put p h)
    value_put (Global y path) h = ap (λ ps. sel (s.globals y) ps) (path_put path h)
    value_put (Sel a path) h = ap₂ (λ u ps. sel u ps) (value_put a (held_left (names x a) (in_path path) h)) (path_put path (held_right (names x a) (in_path path) h))
    value_put (Upd a path v) h =
        let p = held_left (names x a || in_path path) (names x v) h in
        ap₂ (λ u ps. upd u ps (value l env s (substituted x e v))) (value_put a (held_left (names x a) (in_path path) p)) (path_put path (held_right (names x a) (in_path path) p))
        ∙ ap (λ w. upd (value l env' s a) (steps l env' s path) w) (value_put v (held_right (names x a || in_path path) (names x v) h))
    value_put _ _ = refl

    pub path_put : (path : Path) → Held (path_has (is_name x) path) → steps l env s (path_substituted x e path) ≡ steps l env' s path
    path_put Here h = refl
    path_put (IntoField k path) h = ap (λ ps. Field k ∷ ps) (path_put path h)
    path_put (IntoElement a path) h =
        ap₂ (λ u ps. Index (number_in u) ∷ ps) (value_put a (held_left (names x a) (in_path path) h)) (path_put path (held_right (names x a) (in_path path) h))
