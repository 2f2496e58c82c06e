-- An expression is its head filled with its children, so two expressions with one head have one value where their children do.
use Rattle.std.proofs.Common.{◌≡◌, suc, false, List, [], ◌∷◌, ◌++◌, length, refl, sym, ap, ap₂, ◌∙◌}
use Rattle.std.specs.Prelude.{not, ◌&&◌, ◌||◌, pos, neg_ℤ, ◌*ℤ◌, int_lt, int_le}
use Rattle.c_values.specs.Word.{unsigned, signed, word, word_op, word_shift, word_unary, word_test}
use Rattle.c_values.specs.Number.{number_op, is_between}
use Rattle.c_values.specs.Value.{Value, Bits, Number, Truth, word_in, number_in, truth_in, same_value}
use Rattle.c_values.specs.Layout.{Layout, size_of, shape_of}
use Rattle.c_values.specs.Path.{Step, Field, Index, spot, sel, upd}
use Rattle.c_memory.specs.Tags.{is_pointer_ok, is_covered}
use Rattle.c_memory.specs.Heap.{heap_tags, read_heap}
use Rattle.expression_lang.specs.Expression.{Exp, Var, WordLit, NumberLit, TruthLit, WordBinary, WordShift, WordUnary, WordCompare, Cast, ToNat, ToInt, ToWord, Arith, Negate, Lt, Le, Between, Eq, And, Or, Imp, Not, If, Padd, At, Load, Read, Tagged, PtrOk, Global, Sel, Upd, Path, Here, IntoField, IntoElement}
use Rattle.expression_lang.specs.Evaluation.{Env, State, value, steps, cast_op, moved, moved_to, if_truth}
use Rattle.expression_lang.specs.Signature.{values_of}
use Rattle.ac_expr.specs.Heads.{children, head, hole, path_children, path_head}

-- filling

abbrev pub first : List Exp → Exp
first [] = hole
first (e ∷ es) = e

abbrev pub others : List Exp → List Exp
others [] = []
others (e ∷ es) = es

abbrev pub path_filled : Path → List Exp → Path
path_filled Here es = Here
path_filled (IntoField k path) es = IntoField k (path_filled path es)
path_filled (IntoElement e path) es = IntoElement (first es) (path_filled path (others es))

-- what a path leaves
abbrev pub left_by : Path → List Exp → List Exp
left_by Here es = es
left_by (IntoField k path) es = left_by path es
left_by (IntoElement e path) es = left_by path (others es)

abbrev pub filled : Exp → List Exp → Exp
filled (Var x) es = Var x
filled (WordLit w) es = WordLit w
filled (NumberLit n) es = NumberLit n
filled (TruthLit b) es = TruthLit b
filled (WordBinary op a b) es = WordBinary op (first es) (first (others es))
filled (WordShift op a b) es = WordShift op (first es) (first (others es))
filled (WordUnary op a) es = WordUnary op (first es)
filled (WordCompare op a b) es = WordCompare op (first es) (first (others es))
filled (Cast op width a) es = Cast op width (first es)
filled (ToNat a) es = ToNat (first es)
filled (ToInt a) es = ToInt (first es)
filled (ToWord width a) es = ToWord width (first es)
filled (Arith op a b) es = Arith op (first es) (first (others es))
filled (Negate a) es = Negate (first es)
filled (Lt a b) es = Lt (first es) (first (others es))
filled (Le a b) es = Le (first es) (first (others es))
filled (Between low a high) es = Between low (first es) high
filled (Eq a b) es = Eq (first es) (first (others es))
filled (And a b) es = And (first es) (first (others es))
filled (Or a b) es = Or (first es) (first (others es))
filled (Imp a b) es = Imp (first es) (first (others es))
filled (Not a) es = Not (first es)
filled (If c a b) es = If (first es) (first (others es)) (first (others (others es)))
filled (Padd t p n) es = Padd t (first es) (first (others es))
filled (At t p path) es = At t (first es) (path_filled path (others es))
filled (Load t p path) es = Load t (first es) (path_filled path (others es))
filled (Read t p path) es = Read t (first es) (path_filled path (others es))
filled (Tagged t p) es = Tagged t (first es)
filled (PtrOk t p) es = PtrOk t (first es)
filled (Global x path) es = Global x (path_filled path es)
filled (Sel e path) es = Sel (first es) (path_filled path (others es))
filled (Upd e path v) es = Upd (first es) (path_filled path (others es)) (first (left_by path (others es)))

path_whole : (path : Path) → path_filled (path_head path) (path_children path) ≡ path
path_whole Here = refl
path_whole (IntoField k path) = ap (λ p. IntoField k p) (path_whole path)
path_whole (IntoElement e path) = ap (λ p. IntoElement e p) (path_whole path)

path_before : (path : Path) (es : List Exp) → path_filled (path_head path) (path_children path ++ es) ≡ path
path_before Here es = refl
path_before (IntoField k path) es = ap (λ p. IntoField k p) (path_before path es)
path_before (IntoElement e path) es = ap (λ p. IntoElement e p) (path_before path es)

left_after : (path : Path) (es : List Exp) → left_by (path_head path) (path_children path ++ es) ≡ es
left_after Here es = refl
left_after (IntoField k path) es = left_after path es
left_after (IntoElement e path) es = left_after path es

pub whole : (e : Exp) → filled (head e) (children e) ≡ e
whole (At t p path) = ap (λ q. At t p q) (path_whole path)
whole (Load t p path) = ap (λ q. Load t p q) (path_whole path)
whole (Read t p path) = ap (λ q. Read t p q) (path_whole path)
whole (Global x path) = ap (λ q. Global x q) (path_whole path)
whole (Sel e path) = ap (λ q. Sel e q) (path_whole path)
whole (Upd e path v) = ap₂ (λ q w. Upd e q w) (path_before path (v ∷ [])) (ap first (left_after path (v ∷ [])))
whole e = refl

-- the children of one head are as many

path_many : (path : Path) → length (path_children (path_head path)) ≡ length (path_children path)
path_many Here = refl
path_many (IntoField k path) = path_many path
path_many (IntoElement e path) = ap (λ n. suc n) (path_many path)

many_before : (path : Path) (e : Exp) → length (path_children (path_head path) ++ (hole ∷ [])) ≡ length (path_children path ++ (e ∷ []))
many_before Here e = refl
many_before (IntoField k path) e = many_before path e
many_before (IntoElement a path) e = ap (λ n. suc n) (many_before path e)

many : (e : Exp) → length (children (head e)) ≡ length (children e)
many (At t p path) = ap (λ n. suc n) (path_many path)
many (Load t p path) = ap (λ n. suc n) (path_many path)
many (Read t p path) = ap (λ n. suc n) (path_many path)
many (Global x path) = path_many path
many (Sel e path) = ap (λ n. suc n) (path_many path)
many (Upd e path v) = ap (λ n. suc n) (many_before path v)
many e = refl

pub as_many : (a b : Exp) → head b ≡ head a → length (children b) ≡ length (children a)
as_many a b h = sym (many b) ∙ ap (λ e. length (children e)) h ∙ many a

pub path_as_many : (a b : Path) → path_head b ≡ path_head a → length (path_children b) ≡ length (path_children a)
path_as_many a b h = sym (path_many b) ∙ ap (λ e. length (path_children e)) h ∙ path_many a

-- values

abbrev first_value : List Value → Value
first_value [] = Truth false
first_value (v ∷ vs) = v

module _ (l : Layout) (env env' : Env) (s s' : State) where
  abbrev pub SameValues : List Exp → List Exp → Type 0
  SameValues es es' = values_of l env' s' es' ≡ values_of l env s es

  abbrev pub SameValue : Exp → Exp → Type 0
  SameValue a b = value l env' s' b ≡ value l env s a

  first_same : (es es' : List Exp) → SameValues es es' → SameValue (first es) (first es')
  first_same [] [] h = refl
  first_same (e ∷ es) (e' ∷ es') h = ap first_value h
  first_same [] (e' ∷ es') h = absurd cc
  first_same (e ∷ es) [] h = absurd cc

  abbrev other_values : List Value → List Value
  other_values [] = []
  other_values (v ∷ vs) = vs

  others_same : (es es' : List Exp) → SameValues es es' → SameValues (others es) (others es')
  others_same [] [] h = refl
  others_same (e ∷ es) (e' ∷ es') h = ap other_values h
  others_same [] (e' ∷ es') h = absurd cc
  others_same (e ∷ es) [] h = absurd cc

  path_same : (path : Path) (es es' : List Exp) → SameValues es es' → steps l env' s' (path_filled path es') ≡ steps l env s (path_filled path es)
  path_same Here es es' h = refl
  path_same (IntoField k path) es es' h = ap (λ ps. Field k ∷ ps) (path_same path es es' h)
  path_same (IntoElement e path) es es' h =
      ap₂ (λ v ps. Index (number_in v) ∷ ps) (first_same es es' h) (path_same path (others es) (others es') (others_same es es' h))

  left_same : (path : Path) (es es' : List Exp) → SameValues es es' → SameValues (left_by path es) (left_by path es')
  left_same Here es es' h = h
  left_same (IntoField k path) es es' h = left_same path es es' h
  left_same (IntoElement e path) es es' h = left_same path (others es) (others es') (others_same es es' h)

  -- steps of paths that differ in their indices alone
  pub steps_same : (a b : Path) → path_head b ≡ path_head a → SameValues (path_children a) (path_children b) → steps l env' s' b ≡ steps l env s a
  steps_same a b h k =
      ap (λ p. steps l env' s' p) (sym (path_whole b)) ∙ ap (λ p. steps l env' s' (path_filled p (path_children b))) h
      ∙ path_same (path_head a) (path_children a) (path_children b) k ∙ ap (λ p. steps l env s p) (path_whole a)

  -- what a head itself looks at is the same
  abbrev pub LooksAlike : Exp → Type 0
  LooksAlike (Var x) = env' x ≡ env x
  LooksAlike (Load t p path) = s'.heap ≡ s.heap
  LooksAlike (Read t p path) = s'.heap ≡ s.heap
  LooksAlike e = Unit {0}

  head_looks : (e : Exp) → LooksAlike e → LooksAlike (head e)
  head_looks (Var x) h = h
  head_looks (Load t p path) h = h
  head_looks (Read t p path) h = h
  head_looks (Between low a high) h = tt
  head_looks _ _ = tt

  module _ (tags : heap_tags s'.heap ≡ heap_tags s.heap) (globals : s'.globals ≡ s.globals) where
    filled_same : (e : Exp) (es es' : List Exp) → LooksAlike e → SameValues es es' → SameValue (filled e es) (filled e es')
    filled_same (Var x) es es' n h = n
    filled_same (WordBinary op _ _) es es' n h = ap₂ (λ a b. Bits (word_op op (word_in a) (word_in b))) (first_same es es' h) (first_same (others es) (others es') (others_same es es' h))
    filled_same (WordShift op _ _) es es' n h = ap₂ (λ a b. Bits (word_shift op (word_in a) (number_in b))) (first_same es es' h) (first_same (others es) (others es') (others_same es es' h))
    filled_same (WordUnary op _) es es' n h = ap (λ a. Bits (word_unary op (word_in a))) (first_same es es' h)
    filled_same (WordCompare op _ _) es es' n h = ap₂ (λ a b. Truth (word_test op (word_in a) (word_in b))) (first_same es es' h) (first_same (others es) (others es') (others_same es es' h))
    filled_same (Cast op width _) es es' n h = ap (λ a. Bits (cast_op op width (word_in a))) (first_same es es' h)
    filled_same (ToNat _) es es' n h = ap (λ a. Number (unsigned (word_in a))) (first_same es es' h)
    filled_same (ToInt _) es es' n h = ap (λ a. Number (signed (word_in a))) (first_same es es' h)
    filled_same (ToWord width _) es es' n h = ap (λ a. Bits (word width (number_in a))) (first_same es es' h)
    filled_same (Arith op _ _) es es' n h = ap₂ (λ a b. Number (number_op op (number_in a) (number_in b))) (first_same es es' h) (first_same (others es) (others es') (others_same es es' h))
    filled_same (Negate _) es es' n h = ap (λ a. Number (neg_ℤ (number_in a))) (first_same es es' h)
    filled_same (Lt _ _) es es' n h = ap₂ (λ a b. Truth (int_lt (number_in a) (number_in b))) (first_same es es' h) (first_same (others es) (others es') (others_same es es' h))
    filled_same (Le _ _) es es' n h = ap₂ (λ a b. Truth (int_le (number_in a) (number_in b))) (first_same es es' h) (first_same (others es) (others es') (others_same es es' h))
    filled_same (Between low _ high) es es' n h = ap (λ a. Truth (is_between low (number_in a) high)) (first_same es es' h)
    filled_same (Eq _ _) es es' n h = ap₂ (λ a b. Truth (same_value a b)) (first_same es es' h) (first_same (others es) (others es') (others_same es es' h))
    filled_same (And _ _) es es' n h = ap₂ (λ a b. Truth (truth_in a && truth_in b)) (first_same es es' h) (first_same (others es) (others es') (others_same es es' h))
    filled_same (Or _ _) es es' n h = ap₂ (λ a b. Truth (truth_in a || truth_in b)) (first_same es es' h) (first_same (others es) (others es') (others_same es es' h))
    filled_same (Imp _ _) es es' n h = ap₂ (λ a b. Truth (not (truth_in a) || truth_in b)) (first_same es es' h) (first_same (others es) (others es') (others_same es es' h))
    filled_same (Not _) es es' n h = ap (λ a. Truth (not (truth_in a))) (first_same es es' h)
    filled_same (If _ _ _) es es' n h =
        let two = others_same es es' h in
        ap₂ (λ c v. if_truth (truth_in c) v.0 v.1) (first_same es es' h)
        (pair (first_same (others es) (others es') two) (first_same (others (others es)) (others (others es')) (others_same (others es) (others es') two)))
      where
        pair : {a b c d : Value} → a ≡ b → c ≡ d → ◌≡◌ {A = Value × Value} (a, c) (b, d)
        pair e f = ap₂ (λ x y. (x, y)) e f
    filled_same (Padd t _ _) es es' n h = ap₂ (λ p k. moved l (word_in p) (pos (size_of l t) *ℤ number_in k)) (first_same es es' h) (first_same (others es) (others es') (others_same es es' h))
    filled_same (At t _ path) es es' n h =
        ap₂ (λ p ps. moved_to l (word_in p) (spot (shape_of l t) ps)) (first_same es es' h) (path_same path (others es) (others es') (others_same es es' h))
    filled_same (Load t _ path) es es' n h =
        ap (λ m. read_heap l m t (word_in (value l env' s' (first es'))).bits (steps l env' s' (path_filled path (others es')))) n
        ∙ ap₂ (λ p ps. read_heap l s.heap t (word_in p).bits ps) (first_same es es' h) (path_same path (others es) (others es') (others_same es es' h))
    filled_same (Read t _ path) es es' n h =
        ap (λ m. read_heap l m t (word_in (value l env' s' (first es'))).bits (steps l env' s' (path_filled path (others es')))) n
        ∙ ap₂ (λ p ps. read_heap l s.heap t (word_in p).bits ps) (first_same es es' h) (path_same path (others es) (others es') (others_same es es' h))
    filled_same (Tagged t _) es es' n h = ap₂ (λ ts p. Truth (is_covered l ts t (word_in p).bits)) tags (first_same es es' h)
    filled_same (PtrOk t _) es es' n h = ap (λ p. Truth (is_pointer_ok l t (word_in p).bits)) (first_same es es' h)
    filled_same (Global x path) es es' n h = ap₂ (λ f ps. sel (f x) ps) globals (path_same path es es' h)
    filled_same (Sel _ path) es es' n h = ap₂ sel (first_same es es' h) (path_same path (others es) (others es') (others_same es es' h))
    filled_same (Upd _ path _) es es' n h =
        let o = others_same es es' h in
        ap₂ (λ e w. upd e w.0 w.1) (first_same es es' h) (pair (path_same path (others es) (others es') o) (first_same (left_by path (others es)) (left_by path (others es')) (left_same path (others es) (others es') o)))
      where
        pair : {a b : List Step} {c d : Value} → a ≡ b → c ≡ d → ◌≡◌ {A = List Step × Value} (a, c) (b, d)
        pair e f = ap₂ (λ x y. (x, y)) e f
    filled_same _ _ _ _ _ = refl

    -- two expressions with one head, whose children have the same values
    pub heads_agree : (a b : Exp) → head b ≡ head a → LooksAlike a → SameValues (children a) (children b) → SameValue a b
    heads_agree a b h n k =
        ap (λ e. value l env' s' e) (sym (whole b)) ∙ ap (λ e. value l env' s' (filled e (children b))) h
        ∙ filled_same (head a) (children a) (children b) (head_looks a n) k ∙ ap (λ e. value l env s e) (whole a)
