-- An expression with others in place of names has the value that it has where the names are bound to the others' values.
use Rattle.std.proofs.Common.{◌≡◌, Bool, true, false, cond, List, [], ◌∷◌, pos, refl, sym, ap, ap₂, ◌∙◌}
use Rattle.std.proofs.lemmas.Bool.{and_parts, not-true}
use Rattle.std.specs.Prelude.{not, ◌&&◌, ◌||◌, Some, unwrap_or, neg_ℤ, ◌*ℤ◌, int_lt, int_le}
use Rattle.c_values.specs.Name.{Name, same_name, with_name, is_among, are_distinct}
use Rattle.c_values.specs.Word.{unsigned, signed, word, word_op, word_shift, word_unary, word_test}
use Rattle.c_values.specs.Number.{number_op, is_between}
use Rattle.c_values.specs.Value.{Value, Bits, Number, Truth, word_in, number_in, truth_in, same_value}
use Rattle.c_values.specs.Layout.{Layout, size_of, shape_of}
use Rattle.c_values.specs.Path.{Field, Index, spot, sel, upd}
use Rattle.c_values.proofs.Laid.{name_is}
use Rattle.c_memory.specs.Tags.{is_pointer_ok}
use Rattle.c_memory.specs.Heap.{read_heap, is_tagged}
use Rattle.expression_lang.specs.Changed.{changed_path}
use Rattle.expression_lang.specs.Expression.{Exp, Var, WordBinary, WordShift, WordUnary, WordCompare, Cast, ToNat, ToInt, ToWord, Arith, Negate, Lt, Le, Between, Eq, And, Or, Imp, Not, If, Padd, At, Load, Read, Tagged, PtrOk, Global, Sel, Upd, Path, Here, IntoField, IntoElement}
use Rattle.expression_lang.specs.Evaluation.{Env, State, value, steps, cast_op, moved, moved_to, if_truth}
use Rattle.expression_lang.specs.Signature.{values_of, bound}
use Rattle.expression_lang.proofs.Bound.{bound_stays}
use Rattle.assertion_walks.specs.Put.{exp_for, in_places_of, put}

module _ (l : Layout) (env : Env) (s : State) where
  -- a name is bound to the value of its expression, and another name to what it was bound to before
  name_put : (xs : List Name) (es : List Exp) → are_distinct xs ≡ true → (y : Name) (env' : Env) → env' y ≡ env y →
      value l env s (unwrap_or (exp_for xs es y) (Var y)) ≡ bound xs (values_of l env s es) env' y
  name_put [] es d y env' h = sym h
  name_put (x ∷ xs) [] d y env' h = sym h
  name_put (x ∷ xs) (e ∷ es) d y env' h = by_name (λ f i. name_put xs es (and_parts (not (is_among x xs)) (are_distinct xs) d).1 y f i) (same_name x y) refl
    where
      new : Value
      new = value l env s e

      by_name : ((f : Env) → f y ≡ env y → value l env s (unwrap_or (exp_for xs es y) (Var y)) ≡ bound xs (values_of l env s es) f y) → (b : Bool) →
          same_name x y ≡ b →
          value l env s (unwrap_or (cond b (Some e) (exp_for xs es y)) (Var y)) ≡ bound xs (values_of l env s es) (with_name x new env') y
      by_name rest true i =
          let apart : is_among x xs ≡ false = not-true (is_among x xs) (and_parts (not (is_among x xs)) (are_distinct xs) d).0 in
          sym (bound_stays y xs (values_of l env s es) (with_name x new env') (ap (λ z. is_among z xs) (sym (name_is x y i)) ∙ apart)
          ∙ ap (λ b. cond b new (env' y)) i)
      by_name rest false i = rest (with_name x new env') (ap (λ b. cond b new (env' y)) i ∙ h)

  module _ (xs : List Name) (es : List Exp) (distinct : are_distinct xs ≡ true) where
    abbrev env_with : Env
    env_with = bound xs (values_of l env s es) env

    abbrev IsPut : Exp → Type 0
    IsPut a = value l env s (put xs es a) ≡ value l env_with s a

    two : {C : Type 0} (f : Value → Value → C) (a b : Exp) → IsPut a → IsPut b →
        f (value l env s (put xs es a)) (value l env s (put xs es b)) ≡ f (value l env_with s a) (value l env_with s b)
    two f a b h k = ap₂ f h k

    mutual
      pub put_values : (a : Exp) → IsPut a
      put_values (Var y) = name_put xs es distinct y env refl
      put_values (WordBinary op a b) = two (λ u v. Bits (word_op op (word_in u) (word_in v))) a b (put_values a) (put_values b)
      put_values (WordShift op a b) = two (λ u v. Bits (word_shift op (word_in u) (number_in v))) a b (put_values a) (put_values b)
      put_values (WordUnary op a) = ap (λ u. Bits (word_unary op (word_in u))) (put_values a)
      put_values (WordCompare op a b) = two (λ u v. Truth (word_test op (word_in u) (word_in v))) a b (put_values a) (put_values b)
      put_values (Cast op width a) = ap (λ u. Bits (cast_op op width (word_in u))) (put_values a)
      put_values (ToNat a) = ap (λ u. Number (unsigned (word_in u))) (put_values a)
      put_values (ToInt a) = ap (λ u. Number (signed (word_in u))) (put_values a)
      put_values (ToWord width a) = ap (λ u. Bits (word width (number_in u))) (put_values a)
      put_values (Arith op a b) = two (λ u v. Number (number_op op (number_in u) (number_in v))) a b (put_values a) (put_values b)
      put_values (Negate a) = ap (λ u. Number (neg_ℤ (number_in u))) (put_values a)
      put_values (Lt a b) = two (λ u v. Truth (int_lt (number_in u) (number_in v))) a b (put_values a) (put_values b)
      put_values (Le a b) = two (λ u v. Truth (int_le (number_in u) (number_in v))) a b (put_values a) (put_values b)
      put_values (Between low a high) = ap (λ u. Truth (is_between low (number_in u) high)) (put_values a)
      put_values (Eq a b) = two (λ u v. Truth (same_value u v)) a b (put_values a) (put_values b)
      put_values (And a b) = two (λ u v. Truth (truth_in u && truth_in v)) a b (put_values a) (put_values b)
      put_values (Or a b) = two (λ u v. Truth (truth_in u || truth_in v)) a b (put_values a) (put_values b)
      put_values (Imp a b) = two (λ u v. Truth (not (truth_in u) || truth_in v)) a b (put_values a) (put_values b)
      put_values (Not a) = ap (λ u. Truth (not (truth_in u))) (put_values a)
      put_values (If c a b) =
          ap (λ u. if_truth (truth_in u) (value l env s (put xs es a)) (value l env s (put xs es b))) (put_values c)
          ∙ two (λ u v. if_truth (truth_in (value l env_with s c)) u v) a b (put_values a) (put_values b)
      put_values (Padd t p n) = two (λ u v. moved l (word_in u) (pos (size_of l t) *ℤ number_in v)) p n (put_values p) (put_values n)
      put_values (At t p path) = ap₂ (λ u ps. moved_to l (word_in u) (spot (shape_of l t) ps)) (put_values p) (put_steps path)
      put_values (Load t p path) = ap₂ (λ u ps. read_heap l s.heap t (word_in u).bits ps) (put_values p) (put_steps path)
      put_values (Read t p path) = ap₂ (λ u ps. read_heap l s.heap t (word_in u).bits ps) (put_values p) (put_steps path)
      put_values (Tagged t p) = ap (λ u. Truth (is_tagged l s.heap t (word_in u).bits)) (put_values p)
      put_values (PtrOk t p) = ap (λ u. Truth (is_pointer_ok l t (word_in u).bits)) (put_values p)
      put_values (Global y path) = ap (λ ps. sel (s.globals y) ps) (put_steps path)
      put_values (Sel a path) = ap₂ (λ u ps. sel u ps) (put_values a) (put_steps path)
      put_values (Upd a path v) =
          ap₂ (λ u ps. upd u ps (value l env s (put xs es v))) (put_values a) (put_steps path)
          ∙ ap (λ w. upd (value l env_with s a) (steps l env_with s path) w) (put_values v)
      put_values _ = refl

      pub put_steps : (path : Path) → steps l env s (changed_path (in_places_of xs es) path) ≡ steps l env_with s path
      put_steps Here = refl
      put_steps (IntoField k path) = ap (λ ps. Field k ∷ ps) (put_steps path)
      put_steps (IntoElement a path) = ap₂ (λ u ps. Index (number_in u) ∷ ps) (put_values a) (put_steps path)

-- the names are distinct; an expression without a name, or a name without one, has no effect
pub put_value : (l : Layout) (env : Env) (s : State) (xs : List Name) (es : List Exp) (q : Exp) → are_distinct xs ≡ true →
    value l env s (put xs es q) ≡ value l (bound xs (values_of l env s es) env) s q
put_value l env s xs es q distinct = put_values l env s xs es distinct q
