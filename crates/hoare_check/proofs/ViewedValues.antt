-- What has neither loads nor reads has one value on bytes and on the typed heap that views them.
use Rattle.std.proofs.Common.{◌≡◌, Bool, false, not, ◌&&◌, ◌||◌, List, ◌∷◌, pos, refl, ap, ap₂, ◌∙◌}
use Rattle.std.proofs.lemmas.Bool.{or_parts, true≢false}
use Rattle.std.specs.Prelude.{neg_ℤ, ◌*ℤ◌, int_lt, int_le}
use Rattle.c_values.specs.Name.{Name}
use Rattle.c_values.specs.Word.{unsigned, signed, word, word_op, word_shift, word_unary, word_test}
use Rattle.c_values.specs.Number.{number_op, is_between}
use Rattle.c_values.specs.Value.{Bits, Number, Truth, word_in, number_in, truth_in, same_value}
use Rattle.c_values.specs.Layout.{Layout, size_of, shape_of}
use Rattle.c_values.specs.Path.{Field, Index, spot, sel, upd}
use Rattle.c_memory.specs.Tags.{is_pointer_ok, is_covered}
use Rattle.c_memory.specs.Heap.{heap_tags}
use Rattle.expression_lang.specs.Expression.{Exp, WordBinary, WordShift, WordUnary, WordCompare, Cast, ToNat, ToInt, ToWord, Arith, Negate, Lt, Le, Between, Eq, And, Or, Imp, Not, If, Padd, At, Load, Read, Tagged, PtrOk, Global, Sel, Upd, Path, Here, IntoField, IntoElement}
use Rattle.expression_lang.specs.Evaluation.{Env, State, value, steps, cast_op, moved, moved_to, if_truth}
use Rattle.expression_lang.specs.Changed.{changed, changed_path}
use Rattle.expression_lang.specs.Form.{has, path_has, is_load, is_read}
use Rattle.assertion_walks.specs.Put.{in_places_of}

module _ (l : Layout) (env : Env) (s s' : State) (tags : heap_tags s.heap ≡ heap_tags s'.heap) (globals : s.globals ≡ s'.globals) (xs : List Name)
    (es : List Exp) where
  -- a read stays where others are put for names
  abbrev has_read : Exp → Bool
  has_read e = has is_read (changed (in_places_of xs es) e)

  abbrev path_reads : Path → Bool
  path_reads path = path_has is_read (changed_path (in_places_of xs es) path)

  abbrev has_load : Exp → Bool
  has_load e = has is_load e

  abbrev path_loads : Path → Bool
  path_loads path = path_has is_load path

  mutual
    pub viewed_value : (e : Exp) → has_read e ≡ false → has_load e ≡ false → value l env s e ≡ value l env s' e
    viewed_value (WordBinary op a b) n m =
        let p = or_parts (has_read a) (has_read b) n in
        let q = or_parts (has_load a) (has_load b) m in
        ap₂ (λ u v. Bits (word_op op (word_in u) (word_in v))) (viewed_value a p.0 q.0) (viewed_value b p.1 q.1)
    viewed_value (WordShift op a b) n m =
        let p = or_parts (has_read a) (has_read b) n in
        let q = or_parts (has_load a) (has_load b) m in
        ap₂ (λ u v. Bits (word_shift op (word_in u) (number_in v))) (viewed_value a p.0 q.0) (viewed_value b p.1 q.1)
    viewed_value (WordUnary op a) n m = ap (λ u. Bits (word_unary op (word_in u))) (viewed_value a n m)
    viewed_value (WordCompare op a b) n m =
        let p = or_parts (has_read a) (has_read b) n in
        let q = or_parts (has_load a) (has_load b) m in
        ap₂ (λ u v. Truth (word_test op (word_in u) (word_in v))) (viewed_value a p.0 q.0) (viewed_value b p.1 q.1)
    viewed_value (Cast op width a) n m = ap (λ u. Bits (cast_op op width (word_in u))) (viewed_value a n m)
    viewed_value (ToNat a) n m = ap (λ u. Number (unsigned (word_in u))) (viewed_value a n m)
    viewed_value (ToInt a) n m = ap (λ u. Number (signed (word_in u))) (viewed_value a n m)
    viewed_value (ToWord width a) n m = ap (λ u. Bits (word width (number_in u))) (viewed_value a n m)
    viewed_value (Arith op a b) n m =
        let p = or_parts (has_read a) (has_read b) n in
        let q = or_parts (has_load a) (has_load b) m in
        ap₂ (λ u v. Number (number_op op (number_in u) (number_in v))) (viewed_value a p.0 q.0) (viewed_value b p.1 q.1)
    viewed_value (Negate a) n m = ap (λ u. Number (neg_ℤ (number_in u))) (viewed_value a n m)
    viewed_value (Lt a b) n m =
        let p = or_parts (has_read a) (has_read b) n in
        let q = or_parts (has_load a) (has_load b) m in
        ap₂ (λ u v. Truth (int_lt (number_in u) (number_in v))) (viewed_value a p.0 q.0) (viewed_value b p.1 q.1)
    viewed_value (Le a b) n m =
        let p = or_parts (has_read a) (has_read b) n in
        let q = or_parts (has_load a) (has_load b) m in
        ap₂ (λ u v. Truth (int_le (number_in u) (number_in v))) (viewed_value a p.0 q.0) (viewed_value b p.1 q.1)
    viewed_value (Between low a high) n m = ap (λ u. Truth (is_between low (number_in u) high)) (viewed_value a n m)
    viewed_value (Eq a b) n m =
        let p = or_parts (has_read a) (has_read b) n in
        let q = or_parts (has_load a) (has_load b) m in
        ap₂ (λ u v. Truth (same_value u v)) (viewed_value a p.0 q.0) (viewed_value b p.1 q.1)
    viewed_value (And a b) n m =
        let p = or_parts (has_read a) (has_read b) n in
        let q = or_parts (has_load a) (has_load b) m in
        ap₂ (λ u v. Truth (truth_in u && truth_in v)) (viewed_value a p.0 q.0) (viewed_value b p.1 q.1)
    viewed_value (Or a b) n m =
        let p = or_parts (has_read a) (has_read b) n in
        let q = or_parts (has_load a) (has_load b) m in
        ap₂ (λ u v. Truth (truth_in u || truth_in v)) (viewed_value a p.0 q.0) (viewed_value b p.1 q.1)
    viewed_value (Imp a b) n m =
        let p = or_parts (has_read a) (has_read b) n in
        let q = or_parts (has_load a) (has_load b) m in
        ap₂ (λ u v. Truth (not (truth_in u) || truth_in v)) (viewed_value a p.0 q.0) (viewed_value b p.1 q.1)
    viewed_value (Not a) n m = ap (λ u. Truth (not (truth_in u))) (viewed_value a n m)
    viewed_value (If c a b) n m =
        let i = or_parts (has_read c || has_read a) (has_read b) n in
        let j = or_parts (has_load c || has_load a) (has_load b) m in
        let p = or_parts (has_read c) (has_read a) i.0 in
        let q = or_parts (has_load c) (has_load a) j.0 in
        ap (λ u. if_truth (truth_in u) (value l env s a) (value l env s b)) (viewed_value c p.0 q.0)
        ∙ ap₂ (λ u v. if_truth (truth_in (value l env s' c)) u v) (viewed_value a p.1 q.1) (viewed_value b i.1 j.1)
    viewed_value (Padd t a b) n m =
        let p = or_parts (has_read a) (has_read b) n in
        let q = or_parts (has_load a) (has_load b) m in
        ap₂ (λ u v. moved l (word_in u) (pos (size_of l t) *ℤ number_in v)) (viewed_value a p.0 q.0) (viewed_value b p.1 q.1)
    viewed_value (At t a path) n m =
        let p = or_parts (has_read a) (path_reads path) n in
        let q = or_parts (has_load a) (path_loads path) m in
        ap₂ (λ u ps. moved_to l (word_in u) (spot (shape_of l t) ps)) (viewed_value a p.0 q.0) (viewed_steps path p.1 q.1)
    viewed_value (Load t a path) n m = absurd (true≢false m)
    viewed_value (Read t a path) n m = absurd (true≢false n)
    viewed_value (Tagged t a) n m = ap₂ (λ ts u. Truth (is_covered l ts t (word_in u).bits)) tags (viewed_value a n m)
    viewed_value (PtrOk t a) n m = ap (λ u. Truth (is_pointer_ok l t (word_in u).bits)) (viewed_value a n m)
    viewed_value (Global x path) n m = ap₂ (λ g ps. sel (g x) ps) globals (viewed_steps path n m)
    viewed_value (Sel a path) n m =
        let p = or_parts (has_read a) (path_reads path) n in
        let q = or_parts (has_load a) (path_loads path) m in
        ap₂ (λ u ps. sel u ps) (viewed_value a p.0 q.0) (viewed_steps path p.1 q.1)
    viewed_value (Upd a path b) n m =
        let i = or_parts (has_read a || path_reads path) (has_read b) n in
        let j = or_parts (has_load a || path_loads path) (has_load b) m in
        let p = or_parts (has_read a) (path_reads path) i.0 in
        let q = or_parts (has_load a) (path_loads path) j.0 in
        ap (λ u. upd u (steps l env s path) (value l env s b)) (viewed_value a p.0 q.0)
        ∙ ap₂ (λ ps v. upd (value l env s' a) ps v) (viewed_steps path p.1 q.1) (viewed_value b i.1 j.1)
    viewed_value _ _ _ = refl

    viewed_steps : (path : Path) → path_reads path ≡ false → path_loads path ≡ false → steps l env s path ≡ steps l env s' path
    viewed_steps Here n m = refl
    viewed_steps (IntoField k path) n m = ap (λ ps. Field k ∷ ps) (viewed_steps path n m)
    viewed_steps (IntoElement a path) n m =
        let p = or_parts (has_read a) (path_reads path) n in
        let q = or_parts (has_load a) (path_loads path) m in
        ap₂ (λ u ps. Index (number_in u) ∷ ps) (viewed_value a p.0 q.0) (viewed_steps path p.1 q.1)
