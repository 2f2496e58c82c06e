-- What names no local x is the same whatever x holds.
use Rattle.std.proofs.Common.{◌≡◌, Bool, false, not, ◌&&◌, ◌||◌, List, [], ◌∷◌, pos, refl, ap, ap₂, ◌∙◌}
use Rattle.std.specs.Prelude.{neg_ℤ, ◌*ℤ◌, int_lt, int_le}
use Rattle.std.proofs.lemmas.Bool.{or_parts}
use Rattle.c_values.specs.Name.{Name}
use Rattle.c_values.specs.Word.{unsigned, signed, word, word_op, word_shift, word_unary, word_test}
use Rattle.c_values.specs.Number.{number_op, is_between}
use Rattle.c_values.specs.Value.{Bits, Number, Truth, word_in, number_in, truth_in, same_value}
use Rattle.c_values.specs.Layout.{Layout, size_of, shape_of}
use Rattle.c_values.specs.Path.{Field, Index, spot, sel, upd}
use Rattle.c_memory.specs.Tags.{is_pointer_ok}
use Rattle.c_memory.specs.Heap.{read_heap, is_tagged}
use Rattle.expression_lang.specs.Expression.{Exp, Var, WordBinary, WordShift, WordUnary, WordCompare, Cast, ToNat, ToInt, ToWord, Arith, Negate, Lt, Le, Between, Eq, And, Or, Imp, Not, If, Padd, At, Load, Read, Tagged, PtrOk, Global, Sel, Upd, Path, Here, IntoField, IntoElement}
use Rattle.expression_lang.specs.Evaluation.{Env, State, value, steps, cast_op, moved, moved_to, if_truth}
use Rattle.expression_lang.specs.Mentions.{names}
use Rattle.expression_lang.specs.Signature.{values_of}
use Rattle.simpl_lang.specs.Names.{AgreeBut, path_names, some_names}

-- of two parts that name no x
both : {A B C : Type 0} (f : A → B → C) {a a' : A} {b b' : B} (p q : Bool) → (p || q) ≡ false → (p ≡ false → a' ≡ a) → (q ≡ false → b' ≡ b) → f a' b' ≡ f a b
both f p q h j k = let e = or_parts p q h in ap₂ f (j e.0) (k e.1)

module _ (l : Layout) (x : Name) (env env' : Env) (agree : AgreeBut x env env') (s : State) where
  mutual
    pub value_same : (e : Exp) → names x e ≡ false → value l env' s e ≡ value l env s e
    value_same (Var y) h = agree y h
    value_same (WordBinary op a b) h = both (λ u v. Bits (word_op op (word_in u) (word_in v))) _ _ h (value_same a) (value_same b)
    value_same (WordShift op a n) h = both (λ u v. Bits (word_shift op (word_in u) (number_in v))) _ _ h (value_same a) (value_same n)
    value_same (WordUnary op a) h = ap (λ u. Bits (word_unary op (word_in u))) (value_same a h)
    value_same (WordCompare op a b) h = both (λ u v. Truth (word_test op (word_in u) (word_in v))) _ _ h (value_same a) (value_same b)
    value_same (Cast op width a) h = ap (λ u. Bits (cast_op op width (word_in u))) (value_same a h)
    value_same (ToNat a) h = ap (λ u. Number (unsigned (word_in u))) (value_same a h)
    value_same (ToInt a) h = ap (λ u. Number (signed (word_in u))) (value_same a h)
    value_same (ToWord width a) h = ap (λ u. Bits (word width (number_in u))) (value_same a h)
    value_same (Arith op a b) h = both (λ u v. Number (number_op op (number_in u) (number_in v))) _ _ h (value_same a) (value_same b)
    value_same (Negate a) h = ap (λ u. Number (neg_ℤ (number_in u))) (value_same a h)
    value_same (Lt a b) h = both (λ u v. Truth (int_lt (number_in u) (number_in v))) _ _ h (value_same a) (value_same b)
    value_same (Le a b) h = both (λ u v. Truth (int_le (number_in u) (number_in v))) _ _ h (value_same a) (value_same b)
    value_same (Between low a high) h = ap (λ u. Truth (is_between low (number_in u) high)) (value_same a h)
    value_same (Eq a b) h = both (λ u v. Truth (same_value u v)) _ _ h (value_same a) (value_same b)
    value_same (And a b) h = both (λ u v. Truth (truth_in u && truth_in v)) _ _ h (value_same a) (value_same b)
    value_same (Or a b) h = both (λ u v. Truth (truth_in u || truth_in v)) _ _ h (value_same a) (value_same b)
    value_same (Imp a b) h = both (λ u v. Truth (not (truth_in u) || truth_in v)) _ _ h (value_same a) (value_same b)
    value_same (Not a) h = ap (λ u. Truth (not (truth_in u))) (value_same a h)
    value_same (If c a b) h =
        let p = or_parts (names x c || names x a) (names x b) h in
        let q = or_parts (names x c) (names x a) p.0 in
        ap (λ u. if_truth (truth_in u) (value l env' s a) (value l env' s b)) (value_same c q.0)
        ∙ ap₂ (λ u v. if_truth (truth_in (value l env s c)) u v) (value_same a q.1) (value_same b p.1)
    value_same (Padd t p n) h = both (λ u v. moved l (word_in u) (pos (size_of l t) *ℤ number_in v)) _ _ h (value_same p) (value_same n)
    value_same (At t p path) h = both (λ u ss. moved_to l (word_in u) (spot (shape_of l t) ss)) _ _ h (value_same p) (steps_same path)
    value_same (Load t p path) h = both (λ u ss. read_heap l s.heap t (word_in u).bits ss) _ _ h (value_same p) (steps_same path)
    value_same (Read t p path) h = both (λ u ss. read_heap l s.heap t (word_in u).bits ss) _ _ h (value_same p) (steps_same path)
    value_same (Tagged t p) h = ap (λ u. Truth (is_tagged l s.heap t (word_in u).bits)) (value_same p h)
    value_same (PtrOk t p) h = ap (λ u. Truth (is_pointer_ok l t (word_in u).bits)) (value_same p h)
    value_same (Global y path) h = ap (λ ss. sel (s.globals y) ss) (steps_same path h)
    value_same (Sel e path) h = both (λ u ss. sel u ss) _ _ h (value_same e) (steps_same path)
    value_same (Upd e path v) h =
        let p = or_parts (names x e || path_names x path) (names x v) h in
        let q = or_parts (names x e) (path_names x path) p.0 in
        ap₂ (λ u ss. upd u ss (value l env' s v)) (value_same e q.0) (steps_same path q.1) ∙ ap (λ w. upd (value l env s e) (steps l env s path) w) (value_same v p.1)
    value_same _ _ = refl

    pub steps_same : (path : Path) → path_names x path ≡ false → steps l env' s path ≡ steps l env s path
    steps_same Here h = refl
    steps_same (IntoField k path) h = ap (λ ss. Field k ∷ ss) (steps_same path h)
    steps_same (IntoElement e path) h = both (λ u ss. Index (number_in u) ∷ ss) _ _ h (value_same e) (steps_same path)

  pub values_same : (es : List Exp) → some_names x es ≡ false → values_of l env' s es ≡ values_of l env s es
  values_same [] h = refl
  values_same (e ∷ es) h = both (λ v vs. v ∷ vs) _ _ h (value_same e) (values_same es)
