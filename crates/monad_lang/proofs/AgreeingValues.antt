-- Expressions have the same values in environments that agree on their names.
use Rattle.std.proofs.Common.{◌≡◌, Bool, not, ◌&&◌, ◌||◌, List, [], ◌∷◌, pos, refl, ap, ap₂, ◌∙◌}
use Rattle.std.specs.Prelude.{neg_ℤ, ◌*ℤ◌, int_lt, int_le}
use Rattle.c_values.specs.Name.{Name}
use Rattle.c_values.specs.Word.{unsigned, signed, word, word_op, word_shift, word_unary, word_test}
use Rattle.c_values.specs.Number.{number_op, is_between}
use Rattle.c_values.specs.Value.{Value, Bits, Number, Truth, word_in, number_in, truth_in, same_value}
use Rattle.c_values.specs.Layout.{Layout, size_of, shape_of}
use Rattle.c_values.specs.Path.{Field, Index, spot, sel, upd}
use Rattle.c_values.proofs.Laid.{same_name-refl}
use Rattle.c_memory.specs.Tags.{is_pointer_ok}
use Rattle.c_memory.specs.Heap.{read_heap, is_tagged}
use Rattle.expression_lang.specs.Expression.{Exp, Var, WordBinary, WordShift, WordUnary, WordCompare, Cast, ToNat, ToInt, ToWord, Arith, Negate, Lt, Le, Between, Eq, And, Or, Imp, Not, If, Padd, At, Load, Read, Tagged, PtrOk, Global, Sel, Upd, Path, Here, IntoField, IntoElement}
use Rattle.expression_lang.specs.Evaluation.{Env, State, value, steps, cast_op, moved, moved_to, if_truth, holds}
use Rattle.expression_lang.specs.Mentions.{is_name, names}
use Rattle.expression_lang.specs.Signature.{values_of}
use Rattle.expression_lang.specs.Form.{path_has}
use Rattle.monad_lang.specs.Names.{is_in_some}
use Rattle.monad_lang.specs.Agree.{AgreeOn}
use Rattle.monad_lang.proofs.Agreeing.{agree_left, agree_right}

abbrev path_names : Name → Path → Bool
path_names y path = path_has (is_name y) path

module _ (l : Layout) (env env' : Env) (s : State) where
  abbrev Agree : (Name → Bool) → Type 0
  Agree test = AgreeOn test env env'

  abbrev OnExp : Exp → Type 0
  OnExp e = Agree (λ y. names y e)

  abbrev OnPath : Path → Type 0
  OnPath path = Agree (λ y. path_names y path)

  -- of two parts
  two : {C : Type 0} (f : Value → Value → C) (a b : Exp) → Agree (λ y. names y a || names y b) → (OnExp a → value l env s a ≡ value l env' s a) → (OnExp b → value l env s b ≡ value l env' s b) →
      f (value l env s a) (value l env s b) ≡ f (value l env' s a) (value l env' s b)
  two f a b h j k = ap₂ f (j (agree_left (λ y. names y a) (λ y. names y b) env env' h)) (k (agree_right (λ y. names y a) (λ y. names y b) env env' h))

  left_path : (a : Exp) (path : Path) → Agree (λ y. names y a || path_names y path) → OnExp a
  left_path a path h = agree_left (λ y. names y a) (λ y. path_names y path) env env' h

  right_path : (a : Exp) (path : Path) → Agree (λ y. names y a || path_names y path) → OnPath path
  right_path a path h = agree_right (λ y. names y a) (λ y. path_names y path) env env' h

  mutual
    pub value_agrees : (e : Exp) → OnExp e → value l env s e ≡ value l env' s e
    value_agrees (Var y) h = h y (same_name-refl y)
    value_agrees (WordBinary op a b) h = two (λ u v. Bits (word_op op (word_in u) (word_in v))) a b h (value_agrees a) (value_agrees b)
    value_agrees (WordShift op a n) h = two (λ u v. Bits (word_shift op (word_in u) (number_in v))) a n h (value_agrees a) (value_agrees n)
    value_agrees (WordUnary op a) h = ap (λ u. Bits (word_unary op (word_in u))) (value_agrees a h)
    value_agrees (WordCompare op a b) h = two (λ u v. Truth (word_test op (word_in u) (word_in v))) a b h (value_agrees a) (value_agrees b)
    value_agrees (Cast op width a) h = ap (λ u. Bits (cast_op op width (word_in u))) (value_agrees a h)
    value_agrees (ToNat a) h = ap (λ u. Number (unsigned (word_in u))) (value_agrees a h)
    value_agrees (ToInt a) h = ap (λ u. Number (signed (word_in u))) (value_agrees a h)
    value_agrees (ToWord width a) h = ap (λ u. Bits (word width (number_in u))) (value_agrees a h)
    value_agrees (Arith op a b) h = two (λ u v. Number (number_op op (number_in u) (number_in v))) a b h (value_agrees a) (value_agrees b)
    value_agrees (Negate a) h = ap (λ u. Number (neg_ℤ (number_in u))) (value_agrees a h)
    value_agrees (Lt a b) h = two (λ u v. Truth (int_lt (number_in u) (number_in v))) a b h (value_agrees a) (value_agrees b)
    value_agrees (Le a b) h = two (λ u v. Truth (int_le (number_in u) (number_in v))) a b h (value_agrees a) (value_agrees b)
    value_agrees (Between low a high) h = ap (λ u. Truth (is_between low (number_in u) high)) (value_agrees a h)
    value_agrees (Eq a b) h = two (λ u v. Truth (same_value u v)) a b h (value_agrees a) (value_agrees b)
    value_agrees (And a b) h = two (λ u v. Truth (truth_in u && truth_in v)) a b h (value_agrees a) (value_agrees b)
    value_agrees (Or a b) h = two (λ u v. Truth (truth_in u || truth_in v)) a b h (value_agrees a) (value_agrees b)
    value_agrees (Imp a b) h = two (λ u v. Truth (not (truth_in u) || truth_in v)) a b h (value_agrees a) (value_agrees b)
    value_agrees (Not a) h = ap (λ u. Truth (not (truth_in u))) (value_agrees a h)
    value_agrees (If c a b) h =
        let p = agree_left (λ y. names y c || names y a) (λ y. names y b) env env' h in
        ap (λ u. if_truth (truth_in u) (value l env s a) (value l env s b)) (value_agrees c (agree_left (λ y. names y c) (λ y. names y a) env env' p))
        ∙ ap₂ (λ u v. if_truth (truth_in (value l env' s c)) u v) (value_agrees a (agree_right (λ y. names y c) (λ y. names y a) env env' p))
        (value_agrees b (agree_right (λ y. names y c || names y a) (λ y. names y b) env env' h))
    value_agrees (Padd t p n) h = two (λ u v. moved l (word_in u) (pos (size_of l t) *ℤ number_in v)) p n h (value_agrees p) (value_agrees n)
    value_agrees (At t p path) h = ap₂ (λ u ss. moved_to l (word_in u) (spot (shape_of l t) ss)) (value_agrees p (left_path p path h)) (steps_agree path (right_path p path h))
    value_agrees (Load t p path) h = ap₂ (λ u ss. read_heap l s.heap t (word_in u).bits ss) (value_agrees p (left_path p path h)) (steps_agree path (right_path p path h))
    value_agrees (Read t p path) h = ap₂ (λ u ss. read_heap l s.heap t (word_in u).bits ss) (value_agrees p (left_path p path h)) (steps_agree path (right_path p path h))
    value_agrees (Tagged t p) h = ap (λ u. Truth (is_tagged l s.heap t (word_in u).bits)) (value_agrees p h)
    value_agrees (PtrOk t p) h = ap (λ u. Truth (is_pointer_ok l t (word_in u).bits)) (value_agrees p h)
    value_agrees (Global y path) h = ap (λ ss. sel (s.globals y) ss) (steps_agree path h)
    value_agrees (Sel e path) h = ap₂ (λ u ss. sel u ss) (value_agrees e (left_path e path h)) (steps_agree path (right_path e path h))
    value_agrees (Upd e path v) h =
        let p = agree_left (λ y. names y e || path_names y path) (λ y. names y v) env env' h in
        ap₂ (λ u ss. upd u ss (value l env s v)) (value_agrees e (left_path e path p)) (steps_agree path (right_path e path p))
        ∙ ap (λ w. upd (value l env' s e) (steps l env' s path) w) (value_agrees v (agree_right (λ y. names y e || path_names y path) (λ y. names y v) env env' h))
    value_agrees _ _ = refl

    pub steps_agree : (path : Path) → OnPath path → steps l env s path ≡ steps l env' s path
    steps_agree Here h = refl
    steps_agree (IntoField k path) h = ap (λ ss. Field k ∷ ss) (steps_agree path h)
    steps_agree (IntoElement e path) h = ap₂ (λ u ss. Index (number_in u) ∷ ss) (value_agrees e (left_path e path h)) (steps_agree path (right_path e path h))

  pub holds_agrees : (e : Exp) → OnExp e → holds l env s e ≡ holds l env' s e
  holds_agrees e h = ap truth_in (value_agrees e h)

  pub values_agree : (es : List Exp) → Agree (λ y. is_in_some y es) → values_of l env s es ≡ values_of l env' s es
  values_agree [] h = refl
  values_agree (e ∷ es) h =
      ap₂ (λ v vs. v ∷ vs) (value_agrees e (agree_left (λ y. names y e) (λ y. is_in_some y es) env env' h))
      (values_agree es (agree_right (λ y. names y e) (λ y. is_in_some y es) env env' h))
