-- The value of constants alone stands in their place by one step: it has their sort, is one node, and passes no test of heads that
-- no constant passes.
use Rattle.std.proofs.Common.{◌≡◌, ℕ, ◌^◌, ◌<◌, nat_lt, Bool, true, false, ◌&&◌, ◌||◌, Option, Some, None, refl, sym, ap, ◌∙◌, subst, arith}
use Rattle.std.proofs.lemmas.Bool.{and_from, or_parts, lt-ltb}
use Rattle.c_values.specs.Word.{Word, IsWord}
use Rattle.c_values.specs.Value.{Value, Bits, Number, Truth, Parts}
use Rattle.c_values.specs.Layout.{Layout, IsLayout}
use Rattle.c_values.proofs.Options.{none_is}
use Rattle.expression_lang.specs.Expression.{Exp, WordLit, NumberLit, TruthLit, WordBinary, WordShift, WordUnary, WordCompare, Cast, ToNat, ToInt, ToWord, Arith, Negate, Lt, Le, Between, Eq, And, Or, Imp, Not, If, Padd, At, Load, Read, Tagged, PtrOk, Sel, Upd}
use Rattle.expression_lang.specs.Form.{has, is_part_of_value}
use Rattle.expression_lang.specs.Sort.{WordSort, NumberSort, TruthSort, Sort, Of, PartsSort, Scope, sort_of, is_width, word_sort, where_holds}
use Rattle.expression_lang.specs.Signature.{no_env}
use Rattle.expression_lang.proofs.Fine.{HasSort, fine}
use Rattle.ac_expr.specs.Step.{is_open, no_state, constant_value, is_wide, AreConstants, constant, IsItsValue}
use Rattle.ac_expr.specs.CodeConstants.{computed, as_constant}
use Rattle.ac_expr.proofs.ConstantsSound.{right}
use Rattle.expression_steps.specs.Rewritten.{nodes}
use Rattle.expression_steps.specs.Shortened.{folded}
use Rattle.polish.proofs.Cases.{some_same}
use Rattle.polish.proofs.Closed.{closed_sort, weaker, IsGood, closed_good}
use Rattle.polish.proofs.Shorter.{some_nodes}

by_value : (l : Layout) (e r : Exp) (o : Option Value) → computed l e ≡ o → as_constant o ≡ Some r → IsItsValue l e r
by_value l e r None h k = absurd cc
by_value l e r (Some v) h k = let x = right l e v h in (x.constants, ap constant x.value ∙ k)

pub folds : (l : Layout) (e r : Exp) → folded l e ≡ Some r → IsItsValue l e r
folds l (WordLit w) r h = absurd cc
folds l (NumberLit n) r h = absurd cc
folds l (TruthLit b) r h = absurd cc
folds l e r h = by_value l e r (computed l e) refl h

-- a constant

abbrev pub IsConstant : Exp → Type 0
IsConstant (WordLit w) = Unit {0}
IsConstant (NumberLit n) = Unit {0}
IsConstant (TruthLit b) = Unit {0}
IsConstant e = ⊥

pub is_constant : (v : Value) (e : Exp) → constant v ≡ Some e → IsConstant e
is_constant (Bits w) e h = subst IsConstant (some_same (WordLit w) e h) tt
is_constant (Number n) e h = subst IsConstant (some_same (NumberLit n) e h) tt
is_constant (Truth b) e h = subst IsConstant (some_same (TruthLit b) e h) tt
is_constant (Parts vs) e h = absurd cc

pub fold_free : (l : Layout) (test : Exp → Bool) → ((e : Exp) → IsConstant e → has test e ≡ false) → (a b : Exp) →
    folded l a ≡ Some b → has test b ≡ false
fold_free l test c a b h = c b (is_constant (constant_value l a) b (folds l a b h).1)

pub whole_constant : (e : Exp) → IsConstant e → has is_part_of_value e ≡ false
whole_constant (WordLit w) c = refl
whole_constant (NumberLit n) c = refl
whole_constant (TruthLit b) c = refl
whole_constant e c = absurd c

constant_sorts : (g : Scope) (o : Sort) (v : Value) (b : Exp) → HasSort g.layout o v → IsGood o → constant v ≡ Some b →
    sort_of g b ≡ Some o
constant_sorts g (Of (WordSort n)) (Bits w) b h i k =
    subst (λ e. sort_of g e ≡ Some (Of (WordSort n))) (some_same (WordLit w) b k)
    (word_of n w h i)
  where
    word_of : (n : ℕ) (w : Word) → IsWord n w → is_width n ≡ true →
        where_holds (is_width w.width && nat_lt w.bits (2 ^ w.width)) (word_sort w.width) ≡ Some (Of (WordSort n))
    word_of n w h i =
        ap (λ c. where_holds c (word_sort w.width))
        (and_from (is_width w.width) (nat_lt w.bits (2 ^ w.width)) (ap is_width h.has_width ∙ i)
        (lt-ltb w.bits (2 ^ w.width) (subst (λ m. w.bits < 2 ^ m) (sym h.has_width) h.fits)))
        ∙ ap (λ m. word_sort m) h.has_width
constant_sorts g (Of NumberSort) (Number n) b h i k =
    subst (λ e. sort_of g e ≡ Some (Of NumberSort)) (some_same (NumberLit n) b k) refl
constant_sorts g (Of TruthSort) (Truth t) b h i k =
    subst (λ e. sort_of g e ≡ Some (Of TruthSort)) (some_same (TruthLit t) b k) refl
constant_sorts g (PartsSort t) v b h i k = absurd i
constant_sorts _ _ _ _ h _ _ = absurd h

not_open : (l : Layout) (e : Exp) → AreConstants l e → has is_open e ≡ false
not_open l e h =
    weaker (λ x. is_open x || is_wide (constant_value l x)) is_open
    (λ x k. (or_parts (is_open x) (is_wide (constant_value l x)) k).0) e h

-- with no names and no globals in scope
abbrev bare : Layout → Scope
bare l = record { layout = l; names = λ x. None; globals = λ x. None }

typed : (g : Scope) → IsLayout g.layout → (e : Exp) → has is_open e ≡ false → (o : Sort) → sort_of g e ≡ Some o →
    HasSort g.layout o (constant_value g.layout e)
typed g laid e h o k =
    (fine (bare g.layout) laid no_env no_state (λ x c i. none_is i) (λ x t i. none_is i) (tt, tt) e o
    (closed_sort g.layout (λ x. None) g.names (λ x. None) g.globals e h ∙ k)).sort

pub fold_sorts : (g : Scope) → IsLayout g.layout → (a b : Exp) → folded g.layout a ≡ Some b → (o : Sort) →
    sort_of g a ≡ Some o → sort_of g b ≡ Some o
fold_sorts g laid a b h o k =
    let v = folds g.layout a b h in
    let c = not_open g.layout a v.0 in
    constant_sorts g o (constant_value g.layout a) b (typed g laid a c o k) (closed_good g a c o k) v.1

one_node : (l : Layout) (e r : Exp) → folded l e ≡ Some r → nodes r ≡ 1
one_node l e r h = by_constant r (is_constant (constant_value l e) r (folds l e r h).1)
  where
    by_constant : (r : Exp) → IsConstant r → nodes r ≡ 1
    by_constant (WordLit w) c = refl
    by_constant (NumberLit n) c = refl
    by_constant (TruthLit b) c = refl
    by_constant r c = absurd c

pub fold_nodes : (l : Layout) (e r : Exp) → folded l e ≡ Some r → nodes r < nodes e
fold_nodes l (WordBinary op a b) r h =
    omega (arith, one_node l (WordBinary op a b) r h, some_nodes a)
fold_nodes l (WordShift op a n) r h =
    omega (arith, one_node l (WordShift op a n) r h, some_nodes a)
fold_nodes l (WordUnary op a) r h =
    omega (arith, one_node l (WordUnary op a) r h, some_nodes a)
fold_nodes l (WordCompare op a b) r h =
    omega (arith, one_node l (WordCompare op a b) r h, some_nodes a)
fold_nodes l (Cast op width a) r h =
    omega (arith, one_node l (Cast op width a) r h, some_nodes a)
fold_nodes l (ToNat a) r h = omega (arith, one_node l (ToNat a) r h, some_nodes a)
fold_nodes l (ToInt a) r h = omega (arith, one_node l (ToInt a) r h, some_nodes a)
fold_nodes l (ToWord width a) r h =
    omega (arith, one_node l (ToWord width a) r h, some_nodes a)
fold_nodes l (Arith op a b) r h = omega (arith, one_node l (Arith op a b) r h, some_nodes a)
fold_nodes l (Negate a) r h = omega (arith, one_node l (Negate a) r h, some_nodes a)
fold_nodes l (Lt a b) r h = omega (arith, one_node l (Lt a b) r h, some_nodes a)
fold_nodes l (Le a b) r h = omega (arith, one_node l (Le a b) r h, some_nodes a)
fold_nodes l (Between low a high) r h =
    omega (arith, one_node l (Between low a high) r h, some_nodes a)
fold_nodes l (Eq a b) r h = omega (arith, one_node l (Eq a b) r h, some_nodes a)
fold_nodes l (And a b) r h = omega (arith, one_node l (And a b) r h, some_nodes a)
fold_nodes l (Or a b) r h = omega (arith, one_node l (Or a b) r h, some_nodes a)
fold_nodes l (Imp a b) r h = omega (arith, one_node l (Imp a b) r h, some_nodes a)
fold_nodes l (Not a) r h = omega (arith, one_node l (Not a) r h, some_nodes a)
fold_nodes l (If c a b) r h = omega (arith, one_node l (If c a b) r h, some_nodes a)
fold_nodes l (Padd t p n) r h = omega (arith, one_node l (Padd t p n) r h, some_nodes p)
fold_nodes l (At t p path) r h = omega (arith, one_node l (At t p path) r h, some_nodes p)
fold_nodes l (Load t p path) r h = omega (arith, one_node l (Load t p path) r h, some_nodes p)
fold_nodes l (Read t p path) r h = omega (arith, one_node l (Read t p path) r h, some_nodes p)
fold_nodes l (Tagged t p) r h = omega (arith, one_node l (Tagged t p) r h, some_nodes p)
fold_nodes l (PtrOk t p) r h = omega (arith, one_node l (PtrOk t p) r h, some_nodes p)
fold_nodes l (Sel e path) r h = omega (arith, one_node l (Sel e path) r h, some_nodes e)
fold_nodes l (Upd e path v) r h = omega (arith, one_node l (Upd e path v) r h, some_nodes e)
fold_nodes l _ r h = absurd cc
