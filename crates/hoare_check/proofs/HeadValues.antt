-- The value of an expression by its head and the values of its children, in a state that may differ from the one that gave the
-- children's values.
use Rattle.std.proofs.Common.{◌≡◌, List, [], ◌∷◌, ◌++◌, pos, refl, sym, ap, ap₂, ◌∙◌}
use Rattle.std.specs.Prelude.{not, ◌&&◌, ◌||◌, neg_ℤ, ◌*ℤ◌, int_lt, int_le}
use Rattle.c_values.specs.Word.{unsigned, signed, word, word_op, word_shift, word_unary, word_test}
use Rattle.c_values.specs.Number.{number_op, is_between}
use Rattle.c_values.specs.Value.{Value, Bits, Number, Truth, word_in, number_in, truth_in, same_value, nothing}
use Rattle.c_values.specs.Layout.{Layout, size_of, shape_of}
use Rattle.c_values.specs.Path.{Step, Field, Index, spot, sel, upd}
use Rattle.c_memory.specs.Tags.{is_pointer_ok, is_covered}
use Rattle.c_memory.specs.Heap.{heap_tags, read_heap, is_tagged}
use Rattle.expression_lang.specs.Expression.{Exp, Var, WordLit, NumberLit, TruthLit, WordBinary, WordShift, WordUnary, WordCompare, Cast, ToNat, ToInt, ToWord, Arith, Negate, Lt, Le, Between, Eq, And, Or, Imp, Not, If, Padd, At, Load, Read, Tagged, PtrOk, Global, Sel, Upd, Path, Here, IntoField, IntoElement}
use Rattle.expression_lang.specs.Evaluation.{Env, State, value, steps, cast_op, moved, moved_to, if_truth}
use Rattle.expression_lang.specs.Signature.{values_of}
use Rattle.ac_expr.specs.Heads.{children, head, path_children, path_head}

abbrev pub first : List Value → Value
first [] = nothing
first (v ∷ vs) = v

abbrev others : List Value → List Value
others [] = []
others (v ∷ vs) = vs

abbrev second : List Value → Value
second vs = first (others vs)

abbrev steps_from : Path → List Value → List Step
steps_from Here vs = []
steps_from (IntoField k path) vs = Field k ∷ steps_from path vs
steps_from (IntoElement e path) vs = Index (number_in (first vs)) ∷ steps_from path (others vs)

-- the values that a path leaves
abbrev left_from : Path → List Value → List Value
left_from Here vs = vs
left_from (IntoField k path) vs = left_from path vs
left_from (IntoElement e path) vs = left_from path (others vs)

-- the value of an expression whose children have these values
abbrev pub value_from : Layout → Env → State → Exp → List Value → Value
value_from l env s (Var x) vs = env x
value_from l env s (WordLit w) vs = Bits w
value_from l env s (NumberLit n) vs = Number n
value_from l env s (TruthLit b) vs = Truth b
value_from l env s (WordBinary op a b) vs = Bits (word_op op (word_in (first vs)) (word_in (second vs)))
value_from l env s (WordShift op a b) vs = Bits (word_shift op (word_in (first vs)) (number_in (second vs)))
value_from l env s (WordUnary op a) vs = Bits (word_unary op (word_in (first vs)))
value_from l env s (WordCompare op a b) vs = Truth (word_test op (word_in (first vs)) (word_in (second vs)))
value_from l env s (Cast op width a) vs = Bits (cast_op op width (word_in (first vs)))
value_from l env s (ToNat a) vs = Number (unsigned (word_in (first vs)))
value_from l env s (ToInt a) vs = Number (signed (word_in (first vs)))
value_from l env s (ToWord width a) vs = Bits (word width (number_in (first vs)))
value_from l env s (Arith op a b) vs = Number (number_op op (number_in (first vs)) (number_in (second vs)))
value_from l env s (Negate a) vs = Number (neg_ℤ (number_in (first vs)))
value_from l env s (Lt a b) vs = Truth (int_lt (number_in (first vs)) (number_in (second vs)))
value_from l env s (Le a b) vs = Truth (int_le (number_in (first vs)) (number_in (second vs)))
value_from l env s (Between low a high) vs = Truth (is_between low (number_in (first vs)) high)
value_from l env s (Eq a b) vs = Truth (same_value (first vs) (second vs))
value_from l env s (And a b) vs = Truth (truth_in (first vs) && truth_in (second vs))
value_from l env s (Or a b) vs = Truth (truth_in (first vs) || truth_in (second vs))
value_from l env s (Imp a b) vs = Truth (not (truth_in (first vs)) || truth_in (second vs))
value_from l env s (Not a) vs = Truth (not (truth_in (first vs)))
value_from l env s (If c a b) vs = if_truth (truth_in (first vs)) (second vs) (second (others vs))
value_from l env s (Padd t p n) vs = moved l (word_in (first vs)) (pos (size_of l t) *ℤ number_in (second vs))
value_from l env s (At t p path) vs = moved_to l (word_in (first vs)) (spot (shape_of l t) (steps_from path (others vs)))
value_from l env s (Load t p path) vs = read_heap l s.heap t (word_in (first vs)).bits (steps_from path (others vs))
value_from l env s (Read t p path) vs = read_heap l s.heap t (word_in (first vs)).bits (steps_from path (others vs))
value_from l env s (Tagged t p) vs = Truth (is_tagged l s.heap t (word_in (first vs)).bits)
value_from l env s (PtrOk t p) vs = Truth (is_pointer_ok l t (word_in (first vs)).bits)
value_from l env s (Global x path) vs = sel (s.globals x) (steps_from path vs)
value_from l env s (Sel e path) vs = sel (first vs) (steps_from path (others vs))
value_from l env s (Upd e path v) vs = upd (first vs) (steps_from path (others vs)) (first (left_from path (others vs)))

-- heads

steps_of_head : (path : Path) (vs : List Value) → steps_from (path_head path) vs ≡ steps_from path vs
steps_of_head Here vs = refl
steps_of_head (IntoField k path) vs = ap (λ ps. Field k ∷ ps) (steps_of_head path vs)
steps_of_head (IntoElement e path) vs = ap (λ ps. Index (number_in (first vs)) ∷ ps) (steps_of_head path (others vs))

left_of_head : (path : Path) (vs : List Value) → left_from (path_head path) vs ≡ left_from path vs
left_of_head Here vs = refl
left_of_head (IntoField k path) vs = left_of_head path vs
left_of_head (IntoElement e path) vs = left_of_head path (others vs)

module _ (l : Layout) (env : Env) where
  of_head : (s : State) (e : Exp) (vs : List Value) → value_from l env s (head e) vs ≡ value_from l env s e vs
  of_head s (At t p path) vs = ap (λ ps. moved_to l (word_in (first vs)) (spot (shape_of l t) ps)) (steps_of_head path (others vs))
  of_head s (Load t p path) vs = ap (λ ps. read_heap l s.heap t (word_in (first vs)).bits ps) (steps_of_head path (others vs))
  of_head s (Read t p path) vs = ap (λ ps. read_heap l s.heap t (word_in (first vs)).bits ps) (steps_of_head path (others vs))
  of_head s (Global x path) vs = ap (λ ps. sel (s.globals x) ps) (steps_of_head path vs)
  of_head s (Sel e path) vs = ap (λ ps. sel (first vs) ps) (steps_of_head path (others vs))
  of_head s (Upd e path v) vs = ap₂ (λ ps us. upd (first vs) ps (first us)) (steps_of_head path (others vs)) (left_of_head path (others vs))
  of_head s _ vs = refl

  -- children

  pub steps_of_children : (s : State) (path : Path) → steps_from path (values_of l env s (path_children path)) ≡ steps l env s path
  steps_of_children s Here = refl
  steps_of_children s (IntoField k path) = ap (λ ps. Field k ∷ ps) (steps_of_children s path)
  steps_of_children s (IntoElement e path) = ap (λ ps. Index (number_in (value l env s e)) ∷ ps) (steps_of_children s path)

  steps_before : (s : State) (path : Path) (es : List Exp) → steps_from path (values_of l env s (path_children path ++ es)) ≡ steps l env s path
  steps_before s Here es = refl
  steps_before s (IntoField k path) es = ap (λ ps. Field k ∷ ps) (steps_before s path es)
  steps_before s (IntoElement e path) es = ap (λ ps. Index (number_in (value l env s e)) ∷ ps) (steps_before s path es)

  left_after : (s : State) (path : Path) (es : List Exp) → left_from path (values_of l env s (path_children path ++ es)) ≡ values_of l env s es
  left_after s Here es = refl
  left_after s (IntoField k path) es = left_after s path es
  left_after s (IntoElement e path) es = left_after s path es

  pub value_of_children : (s : State) (e : Exp) → value_from l env s e (values_of l env s (children e)) ≡ value l env s e
  value_of_children s (At t p path) = ap (λ ps. moved_to l (word_in (value l env s p)) (spot (shape_of l t) ps)) (steps_of_children s path)
  value_of_children s (Load t p path) = ap (λ ps. read_heap l s.heap t (word_in (value l env s p)).bits ps) (steps_of_children s path)
  value_of_children s (Read t p path) = ap (λ ps. read_heap l s.heap t (word_in (value l env s p)).bits ps) (steps_of_children s path)
  value_of_children s (Global x path) = ap (λ ps. sel (s.globals x) ps) (steps_of_children s path)
  value_of_children s (Sel e path) = ap (λ ps. sel (value l env s e) ps) (steps_of_children s path)
  value_of_children s (Upd e path v) =
      ap₂ (λ ps us. upd (value l env s e) ps (first us)) (steps_before s path (v ∷ [])) (left_after s path (v ∷ []))
  value_of_children s _ = refl

  -- what an expression itself looks at, beside its children, is the same in the two states
  abbrev pub LooksAlike : State → State → Exp → Type 0
  LooksAlike s s' (Load t p path) = s'.heap ≡ s.heap
  LooksAlike s s' (Read t p path) = s'.heap ≡ s.heap
  LooksAlike s s' (Global x path) = s'.globals x ≡ s.globals x
  LooksAlike s s' e = Unit {0}

  module _ (s s' : State) (tags : heap_tags s'.heap ≡ heap_tags s.heap) where
    from_alike : (e : Exp) (vs : List Value) → LooksAlike s s' e → value_from l env s' e vs ≡ value_from l env s e vs
    from_alike (Load t p path) vs h = ap (λ m. read_heap l m t (word_in (first vs)).bits (steps_from path (others vs))) h
    from_alike (Read t p path) vs h = ap (λ m. read_heap l m t (word_in (first vs)).bits (steps_from path (others vs))) h
    from_alike (Tagged t p) vs h = ap (λ ts. Truth (is_covered l ts t (word_in (first vs)).bits)) tags
    from_alike (Global x path) vs h = ap (λ v. sel v (steps_from path vs)) h
    from_alike _ _ _ = refl

    -- an expression with the head of another has the other's value where its children have the values of the other's children
    pub same_head : (e made : Exp) → head made ≡ head e → values_of l env s (children made) ≡ values_of l env s' (children e) →
        value_from l env s' made (values_of l env s (children made)) ≡ value l env s' e
    same_head e made h k =
        sym (of_head s' made (values_of l env s (children made))) ∙ ap₂ (λ d vs. value_from l env s' d vs) h k ∙ of_head s' e (values_of l env s' (children e))
        ∙ value_of_children s' e

    pub alike_value : (e made : Exp) → head made ≡ head e → values_of l env s (children made) ≡ values_of l env s' (children e) → LooksAlike s s' made →
        value l env s made ≡ value l env s' e
    alike_value e made h k a =
        sym (value_of_children s made) ∙ sym (from_alike made (values_of l env s (children made)) a) ∙ same_head e made h k
