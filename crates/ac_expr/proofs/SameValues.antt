-- An expression none of whose parts passes a test has one value in two environments and states that differ only where the test
-- tells: so what doesn't name a name has the value that it had before the name was bound, and what doesn't read has the value that it
-- had before the state changed, as long as the tags stay.
use Rattle.std.proofs.Common.{◌≡◌, Bool, false, not, ◌||◌, ◌∷◌, pos, refl, sym, ap, ap₂, ◌∙◌}
use Rattle.std.specs.Prelude.{neg_ℤ, ◌*ℤ◌, int_lt, int_le, ◌&&◌}
use Rattle.std.proofs.lemmas.Bool.{or_parts, cond-false, true≢false}
use Rattle.c_values.specs.Name.{Name, same_name, with_name}
use Rattle.c_values.specs.Types.{CType}
use Rattle.c_values.specs.Word.{unsigned, signed, word, word_op, word_shift, word_unary, word_test}
use Rattle.c_values.specs.Number.{number_op, is_between}
use Rattle.c_values.specs.Value.{Value, Bits, Number, Truth, word_in, number_in, truth_in, same_value}
use Rattle.c_values.specs.Layout.{Layout, size_of, shape_of}
use Rattle.c_values.specs.Path.{Field, Index, spot, sel, upd}
use Rattle.c_memory.specs.Tags.{is_pointer_ok, is_covered}
use Rattle.c_memory.specs.Heap.{read_heap, heap_tags}
use Rattle.expression_lang.specs.Expression.{Exp, Var, WordBinary, WordShift, WordUnary, WordCompare, Cast, ToNat, ToInt, ToWord, Arith, Negate, Lt, Le, Between, Eq, And, Or, Imp, Not, If, Padd, At, Load, Read, Tagged, PtrOk, Global, Sel, Upd, Path, Here, IntoField, IntoElement}
use Rattle.expression_lang.specs.Evaluation.{Env, State, value, steps, cast_op, moved, moved_to, if_truth}
use Rattle.expression_lang.specs.Form.{has, path_has}
use Rattle.expression_lang.specs.Mentions.{is_name, is_reading, names, reads}

-- where the test tells nothing, both are the same
pub record DifferWhere (test : Exp → Bool) (env env' : Env) (s s' : State) : Type 0 where
  pub name : (x : Name) → test (Var x) ≡ false → env x ≡ env' x
  pub load : (t : CType) (p : Exp) (path : Path) → test (Load t p path) ≡ false → s ≡ s'
  pub read : (t : CType) (p : Exp) (path : Path) → test (Read t p path) ≡ false → s ≡ s'
  pub global : (x : Name) (path : Path) → test (Global x path) ≡ false → s ≡ s'
  pub tags : (t : CType) (p : Exp) → test (Tagged t p) ≡ false → heap_tags s.heap ≡ heap_tags s'.heap

module _ (l : Layout) (test : Exp → Bool) (env env' : Env) (s s' : State) (h : DifferWhere test env env' s s') where
  abbrev first : (x a : Bool) → (x || a) ≡ false → a ≡ false
  first x a n = (or_parts x a n).1

  -- the parts after the test of the whole
  two_free : (x a b : Bool) → ((x || a) || b) ≡ false → (a ≡ false) × (b ≡ false)
  two_free x a b n = let p = or_parts (x || a) b n in ((or_parts x a p.0).1, p.1)

  own : (x a b : Bool) → ((x || a) || b) ≡ false → x ≡ false
  own x a b n = (or_parts x a (or_parts (x || a) b n).0).0

  mutual
    pub value_same : (e : Exp) → has test e ≡ false → value l env s e ≡ value l env' s' e
    value_same (Var y) n = h.name y n
    value_same (WordBinary op a b) n =
        let p = two_free (test (WordBinary op a b)) (has test a) (has test b) n in
        ap₂ (λ u v. Bits (word_op op (word_in u) (word_in v))) (value_same a p.0) (value_same b p.1)
    value_same (WordShift op a b) n =
        let p = two_free (test (WordShift op a b)) (has test a) (has test b) n in
        ap₂ (λ u v. Bits (word_shift op (word_in u) (number_in v))) (value_same a p.0) (value_same b p.1)
    value_same (WordUnary op a) n = ap (λ u. Bits (word_unary op (word_in u))) (value_same a (first (test (WordUnary op a)) (has test a) n))
    value_same (WordCompare op a b) n =
        let p = two_free (test (WordCompare op a b)) (has test a) (has test b) n in
        ap₂ (λ u v. Truth (word_test op (word_in u) (word_in v))) (value_same a p.0) (value_same b p.1)
    value_same (Cast op width a) n = ap (λ u. Bits (cast_op op width (word_in u))) (value_same a (first (test (Cast op width a)) (has test a) n))
    value_same (ToNat a) n = ap (λ u. Number (unsigned (word_in u))) (value_same a (first (test (ToNat a)) (has test a) n))
    value_same (ToInt a) n = ap (λ u. Number (signed (word_in u))) (value_same a (first (test (ToInt a)) (has test a) n))
    value_same (ToWord width a) n = ap (λ u. Bits (word width (number_in u))) (value_same a (first (test (ToWord width a)) (has test a) n))
    value_same (Arith op a b) n =
        let p = two_free (test (Arith op a b)) (has test a) (has test b) n in
        ap₂ (λ u v. Number (number_op op (number_in u) (number_in v))) (value_same a p.0) (value_same b p.1)
    value_same (Negate a) n = ap (λ u. Number (neg_ℤ (number_in u))) (value_same a (first (test (Negate a)) (has test a) n))
    value_same (Lt a b) n =
        let p = two_free (test (Lt a b)) (has test a) (has test b) n in
        ap₂ (λ u v. Truth (int_lt (number_in u) (number_in v))) (value_same a p.0) (value_same b p.1)
    value_same (Le a b) n =
        let p = two_free (test (Le a b)) (has test a) (has test b) n in
        ap₂ (λ u v. Truth (int_le (number_in u) (number_in v))) (value_same a p.0) (value_same b p.1)
    value_same (Between low a high) n = ap (λ u. Truth (is_between low (number_in u) high)) (value_same a (first (test (Between low a high)) (has test a) n))
    value_same (Eq a b) n =
        let p = two_free (test (Eq a b)) (has test a) (has test b) n in
        ap₂ (λ u v. Truth (same_value u v)) (value_same a p.0) (value_same b p.1)
    value_same (And a b) n =
        let p = two_free (test (And a b)) (has test a) (has test b) n in
        ap₂ (λ u v. Truth (truth_in u && truth_in v)) (value_same a p.0) (value_same b p.1)
    value_same (Or a b) n =
        let p = two_free (test (Or a b)) (has test a) (has test b) n in
        ap₂ (λ u v. Truth (truth_in u || truth_in v)) (value_same a p.0) (value_same b p.1)
    value_same (Imp a b) n =
        let p = two_free (test (Imp a b)) (has test a) (has test b) n in
        ap₂ (λ u v. Truth (not (truth_in u) || truth_in v)) (value_same a p.0) (value_same b p.1)
    value_same (Not a) n = ap (λ u. Truth (not (truth_in u))) (value_same a (first (test (Not a)) (has test a) n))
    value_same (If c a b) n =
        let r = or_parts ((test (If c a b) || has test c) || has test a) (has test b) n in
        let p = two_free (test (If c a b)) (has test c) (has test a) r.0 in
        ap (λ u. if_truth (truth_in u) (value l env s a) (value l env s b)) (value_same c p.0)
        ∙ ap₂ (λ u v. if_truth (truth_in (value l env' s' c)) u v) (value_same a p.1) (value_same b r.1)
    value_same (Padd t a b) n =
        let p = two_free (test (Padd t a b)) (has test a) (has test b) n in
        ap₂ (λ u v. moved l (word_in u) (pos (size_of l t) *ℤ number_in v)) (value_same a p.0) (value_same b p.1)
    value_same (At t a path) n =
        let p = two_free (test (At t a path)) (has test a) (path_has test path) n in
        ap₂ (λ u ps. moved_to l (word_in u) (spot (shape_of l t) ps)) (value_same a p.0) (steps_same path p.1)
    value_same (Load t a path) n =
        let p = two_free (test (Load t a path)) (has test a) (path_has test path) n in
        ap₂ (λ u ps. read_heap l s.heap t (word_in u).bits ps) (value_same a p.0) (steps_same path p.1)
        ∙ ap (λ r. read_heap l r.heap t (word_in (value l env' s' a)).bits (steps l env' s' path)) (h.load t a path (own (test (Load t a path)) (has test a) (path_has test path) n))
    value_same (Read t a path) n =
        let p = two_free (test (Read t a path)) (has test a) (path_has test path) n in
        ap₂ (λ u ps. read_heap l s.heap t (word_in u).bits ps) (value_same a p.0) (steps_same path p.1)
        ∙ ap (λ r. read_heap l r.heap t (word_in (value l env' s' a)).bits (steps l env' s' path)) (h.read t a path (own (test (Read t a path)) (has test a) (path_has test path) n))
    value_same (Tagged t a) n =
        let p = or_parts (test (Tagged t a)) (has test a) n in
        ap₂ (λ ts u. Truth (is_covered l ts t (word_in u).bits)) (h.tags t a p.0) (value_same a p.1)
    value_same (PtrOk t a) n = ap (λ u. Truth (is_pointer_ok l t (word_in u).bits)) (value_same a (first (test (PtrOk t a)) (has test a) n))
    value_same (Global x path) n =
        let p = or_parts (test (Global x path)) (path_has test path) n in
        ap₂ (λ r ps. sel (r.globals x) ps) (h.global x path p.0) (steps_same path p.1)
    value_same (Sel a path) n =
        let p = two_free (test (Sel a path)) (has test a) (path_has test path) n in
        ap₂ (λ u ps. sel u ps) (value_same a p.0) (steps_same path p.1)
    value_same (Upd a path b) n =
        let r = or_parts ((test (Upd a path b) || has test a) || path_has test path) (has test b) n in
        let p = two_free (test (Upd a path b)) (has test a) (path_has test path) r.0 in
        ap (λ u. upd u (steps l env s path) (value l env s b)) (value_same a p.0)
        ∙ ap₂ (λ ps v. upd (value l env' s' a) ps v) (steps_same path p.1) (value_same b r.1)
    value_same _ _ = refl

    pub steps_same : (path : Path) → path_has test path ≡ false → steps l env s path ≡ steps l env' s' path
    steps_same Here n = refl
    steps_same (IntoField k path) n = ap (λ ps. Field k ∷ ps) (steps_same path n)
    steps_same (IntoElement e path) n =
        let p = or_parts (has test e) (path_has test path) n in
        ap₂ (λ u ps. Index (number_in u) ∷ ps) (value_same e p.0) (steps_same path p.1)

-- a name that isn't in it
pub unnamed_same : (l : Layout) (x : Name) (v : Value) (env : Env) (s : State) (e : Exp) → names x e ≡ false → value l env s e ≡ value l (with_name x v env) s e
unnamed_same l x v env s e n =
    value_same l (is_name x) env (with_name x v env) s s
    (record {
      name = λ y k. sym (cond-false (same_name x y) v (env y) k);
      load = λ t p path k. refl;
      read = λ t p path k. refl;
      global = λ y path k. refl;
      tags = λ t p k. refl;
    }) e n

-- a state that it doesn't look at but for the tags
pub unread_same : (l : Layout) (env : Env) (s s' : State) → heap_tags s'.heap ≡ heap_tags s.heap → (e : Exp) → reads e ≡ false → value l env s e ≡ value l env s' e
unread_same l env s s' tags e n =
    value_same l is_reading env env s s'
    (record {
      name = λ y k. refl;
      load = λ t p path k. absurd (true≢false k);
      read = λ t p path k. absurd (true≢false k);
      global = λ y path k. absurd (true≢false k);
      tags = λ t p k. sym tags;
    }) e n
