-- Where two lists of expressions differ in one place alone, the step is there; and an expression is one step apart from itself
-- exactly where a constant is in it.
use Rattle.std.proofs.Common.{◌≡◌, ◌≢◌, ◌↔◌, ◌<◌, ◌+◌, ℕ, zero, suc, Bool, true, false, not, ◌||◌, List, [], ◌∷◌, ◌++◌, Some, inl, inr, refl, sym, ap, ap₂, ◌∙◌, subst, ℤ, arith}
use Rattle.std.proofs.lemmas.Bool.{true≢false, or_cases, or_left, or_right}
use Rattle.std.proofs.Math.Bool.{or-false}
use Rattle.c_values.specs.Word.{Word}
use Rattle.c_values.specs.Value.{Value, Bits, Number, Truth, Parts}
use Rattle.expression_lang.specs.Expression.{Exp, Var, WordLit, NumberLit, TruthLit, WordBinary, WordShift, WordUnary, WordCompare, Cast, ToNat, ToInt, ToWord, Arith, Negate, Lt, Le, Between, Eq, And, Or, Imp, Not, If, Padd, At, Load, Read, Tagged, PtrOk, Global, Sel, Upd, Path, Here, IntoField, IntoElement}
use Rattle.expression_lang.specs.Form.{has, path_has}
use Rattle.expression_lang.specs.Sort.{Scope}
use Rattle.c_values.specs.Number.{Add}
use Rattle.c_values.proofs.Options.{some_is}
use Rattle.ac_expr.specs.Fact.{Fact}
use Rattle.ac_expr.specs.Heads.{head, children, path_children}
use Rattle.ac_expr.specs.Step.{is_open, is_wide, constant, constant_value, Shortens, IsItsValue, IsStep, at_each, child_facts, OneStepApart, shorter, longer, inside, OneOfThem, this, later}
use Rattle.ac_expr.proofs.Apart.{Inside, apart_is, is_apart, one_is, is_one}
use Rattle.ac_expr.proofs.HeadsAgree.{filled, whole}
use Rattle.ac_expr.specs.CodeApart.{is_literal, IsAmong, size, path_size}

-- one of a list

heads_same : (a b : Exp) (as' bs : List Exp) → b ∷ bs ≡ a ∷ as' → b ≡ a
heads_same a b as' bs h = cc

seconds_same : (a b c d : Exp) → b ∷ d ∷ [] ≡ a ∷ c ∷ [] → d ≡ c
seconds_same a b c d h = let i : d ∷ [] ≡ c ∷ [] = cc in heads_same c d [] [] i

module _ (g : Scope) where
  -- the first alone differs
  pub first_alone : (fs : List Fact) (fss : List (List Fact)) (a b : Exp) (as' bs : List Exp) → b ≢ a → bs ≡ as' →
      OneOfThem g (fs ∷ fss) (a ∷ as') (b ∷ bs) ↔ OneStepApart g fs a b
  first_alone fs fss a b as' bs differ e = (forth, λ k. is_one g fs fss a b as' bs (inl (k, e)))
    where
      forth : OneOfThem g (fs ∷ fss) (a ∷ as') (b ∷ bs) → OneStepApart g fs a b
      forth k = elim (one_is g fs fss a b as' bs k) [ inl x ↦ x.0 | inr x ↦ absurd (differ x.0) ]

  -- the first is the same
  pub first_same : (fs : List Fact) (fss : List (List Fact)) (a b : Exp) (as' bs : List Exp) → b ≡ a → bs ≢ as' →
      OneOfThem g (fs ∷ fss) (a ∷ as') (b ∷ bs) ↔ OneOfThem g fss as' bs
  first_same fs fss a b as' bs e differ = (forth, λ k. is_one g fs fss a b as' bs (inr (e, k)))
    where
      forth : OneOfThem g (fs ∷ fss) (a ∷ as') (b ∷ bs) → OneOfThem g fss as' bs
      forth k = elim (one_is g fs fss a b as' bs k) [ inl x ↦ absurd (differ x.1) | inr x ↦ x.1 ]

  -- two differ
  pub two_differ : (fs : List Fact) (fss : List (List Fact)) (a b : Exp) (as' bs : List Exp) → b ≢ a → bs ≢ as' →
      OneOfThem g (fs ∷ fss) (a ∷ as') (b ∷ bs) → ⊥
  two_differ fs fss a b as' bs differ more k = elim (one_is g fs fss a b as' bs k) [ inl x ↦ more x.1 | inr x ↦ differ x.0 ]

  -- one of two
  pub second_of_two : (f0 f1 : List Fact) (a b c d : Exp) → c ≡ a → d ≢ b →
      OneOfThem g (f0 ∷ f1 ∷ []) (a ∷ b ∷ []) (c ∷ d ∷ []) ↔ OneStepApart g f1 b d
  second_of_two f0 f1 a b c d e differ =
      let i = first_same f0 (f1 ∷ []) a c (b ∷ []) (d ∷ []) e (λ k. differ (heads_same b d [] [] k)) in
      let j = first_alone f1 [] b d [] [] differ refl in
      (λ k. j.0 (i.0 k), λ k. i.1 (j.1 k))

  pub first_of_two : (f0 f1 : List Fact) (a b c d : Exp) → c ≢ a → d ≡ b →
      OneOfThem g (f0 ∷ f1 ∷ []) (a ∷ b ∷ []) (c ∷ d ∷ []) ↔ OneStepApart g f0 a c
  first_of_two f0 f1 a b c d differ e = first_alone f0 (f1 ∷ []) a c (b ∷ []) (d ∷ []) differ (ap (λ x. x ∷ []) e)

  pub none_of_two : (f0 f1 : List Fact) (a b c d : Exp) → c ≢ a → d ≢ b →
      OneOfThem g (f0 ∷ f1 ∷ []) (a ∷ b ∷ []) (c ∷ d ∷ []) → ⊥
  none_of_two f0 f1 a b c d differ more = two_differ f0 (f1 ∷ []) a c (b ∷ []) (d ∷ []) differ (λ k. more (heads_same b d [] [] k))

  -- one of three
  pub of_three_same : (f0 f1 f2 : List Fact) (c a b d e f : Exp) → d ≡ c → e ∷ f ∷ [] ≢ a ∷ b ∷ [] →
      OneOfThem g (f0 ∷ f1 ∷ f2 ∷ []) (c ∷ a ∷ b ∷ []) (d ∷ e ∷ f ∷ []) ↔ OneOfThem g (f1 ∷ f2 ∷ []) (a ∷ b ∷ []) (e ∷ f ∷ [])
  of_three_same f0 f1 f2 c a b d e f h differ = first_same f0 (f1 ∷ f2 ∷ []) c d (a ∷ b ∷ []) (e ∷ f ∷ []) h differ

  pub first_of_three : (f0 f1 f2 : List Fact) (c a b d e f : Exp) → d ≢ c → e ≡ a → f ≡ b →
      OneOfThem g (f0 ∷ f1 ∷ f2 ∷ []) (c ∷ a ∷ b ∷ []) (d ∷ e ∷ f ∷ []) ↔ OneStepApart g f0 c d
  first_of_three f0 f1 f2 c a b d e f differ h k =
      first_alone f0 (f1 ∷ f2 ∷ []) c d (a ∷ b ∷ []) (e ∷ f ∷ []) differ (ap₂ (λ x y. x ∷ y ∷ []) h k)

  pub second_of_three : (f0 f1 f2 : List Fact) (c a b d e f : Exp) → d ≡ c → e ≢ a → f ≡ b →
      OneOfThem g (f0 ∷ f1 ∷ f2 ∷ []) (c ∷ a ∷ b ∷ []) (d ∷ e ∷ f ∷ []) ↔ OneStepApart g f1 a e
  second_of_three f0 f1 f2 c a b d e f h differ k =
      let i = of_three_same f0 f1 f2 c a b d e f h (λ m. differ (heads_same a e (b ∷ []) (f ∷ []) m)) in
      let j = first_of_two f1 f2 a b e f differ k in
      (λ m. j.0 (i.0 m), λ m. i.1 (j.1 m))

  pub third_of_three : (f0 f1 f2 : List Fact) (c a b d e f : Exp) → d ≡ c → e ≡ a → f ≢ b →
      OneOfThem g (f0 ∷ f1 ∷ f2 ∷ []) (c ∷ a ∷ b ∷ []) (d ∷ e ∷ f ∷ []) ↔ OneStepApart g f2 b f
  third_of_three f0 f1 f2 c a b d e f h k differ =
      let i = of_three_same f0 f1 f2 c a b d e f h (λ m. differ (seconds_same a e b f m)) in
      let j = second_of_two f1 f2 a b e f k differ in
      (λ m. j.0 (i.0 m), λ m. i.1 (j.1 m))

  pub none_of_three : (f0 f1 f2 : List Fact) (c a b d e f : Exp) → d ≡ c → e ≢ a → f ≢ b →
      OneOfThem g (f0 ∷ f1 ∷ f2 ∷ []) (c ∷ a ∷ b ∷ []) (d ∷ e ∷ f ∷ []) → ⊥
  none_of_three f0 f1 f2 c a b d e f h differ more k =
      none_of_two f1 f2 a b e f differ more ((of_three_same f0 f1 f2 c a b d e f h (λ m. differ (heads_same a e (b ∷ []) (f ∷ []) m))).0 k)

  pub more_than_first : (f0 f1 f2 : List Fact) (c a b d e f : Exp) → d ≢ c → ((e ≡ a) × (f ≡ b) → ⊥) →
      OneOfThem g (f0 ∷ f1 ∷ f2 ∷ []) (c ∷ a ∷ b ∷ []) (d ∷ e ∷ f ∷ []) → ⊥
  more_than_first f0 f1 f2 c a b d e f differ more k =
      two_differ f0 (f1 ∷ f2 ∷ []) c d (a ∷ b ∷ []) (e ∷ f ∷ []) differ (λ m. more (heads_same a e (b ∷ []) (f ∷ []) m, seconds_same a e b f m)) k

  -- along two lists under the same facts
  abbrev pub Under : List Fact → List Exp → List Exp → Type 0
  Under fs es fs' = OneOfThem g (at_each fs es) es fs'

  module _ (fs : List Fact) (ls rs ones others : List Exp) (a b : Exp) (as' bs : List Exp)
      (so_far : Under fs ls rs ↔ Under fs ones others) (at_left : ones ≡ a ∷ as') (at_right : others ≡ b ∷ bs) where
    here : Under fs ones others ≡ Under fs (a ∷ as') (b ∷ bs)
    here = ap₂ (λ x y. Under fs x y) at_left at_right

    forth : Under fs ls rs → Under fs (a ∷ as') (b ∷ bs)
    forth k = subst (λ T. T) here (so_far.0 k)

    back : Under fs (a ∷ as') (b ∷ bs) → Under fs ls rs
    back k = so_far.1 (subst (λ T. T) (sym here) k)

    pub found : b ≢ a → bs ≡ as' → Under fs ls rs ↔ OneStepApart g fs a b
    found differ e = let i = first_alone fs (at_each fs as') a b as' bs differ e in (λ k. i.0 (forth k), λ k. back (i.1 k))

    pub lost : b ≢ a → bs ≢ as' → Under fs ls rs → ⊥
    lost differ more k = two_differ fs (at_each fs as') a b as' bs differ more (forth k)

    pub goes_on : b ≡ a → bs ≢ as' → Under fs ls rs ↔ Under fs as' bs
    goes_on e differ = let i = first_same fs (at_each fs as') a b as' bs e differ in (λ k. i.0 (forth k), λ k. back (i.1 k))

pub rest_differs : (a b : Exp) (as' bs ones others : List Exp) → ones ≡ a ∷ as' → others ≡ b ∷ bs → b ≡ a → others ≢ ones → bs ≢ as'
rest_differs a b as' bs ones others h k e differ i = differ (k ∙ ap₂ (λ x xs. x ∷ xs) e i ∙ sym h)

pub first_among : (a : Exp) (as' ones ls : List Exp) → ones ≡ a ∷ as' → ((x : Exp) → IsAmong x ones → IsAmong x ls) → IsAmong a ls
first_among a as' ones ls h k = k a (subst (λ es. IsAmong a es) (sym h) (inl refl))

pub rest_among : (a : Exp) (as' ones ls : List Exp) → ones ≡ a ∷ as' → ((x : Exp) → IsAmong x ones → IsAmong x ls) → (x : Exp) → IsAmong x as' → IsAmong x ls
rest_among a as' ones ls h k x i = k x (subst (λ es. IsAmong x es) (sym h) (inr i))

-- parts of a head

abbrev pub some_has : (Exp → Bool) → List Exp → Bool
some_has test [] = false
some_has test (e ∷ es) = has test e || some_has test es

or_three : (x a b : Bool) → (x || (a || b)) ≡ ((x || a) || b)
or_three true a b = refl
or_three false a b = refl

path_some : (test : Exp → Bool) (path : Path) → some_has test (path_children path) ≡ path_has test path
path_some test Here = refl
path_some test (IntoField k path) = path_some test path
path_some test (IntoElement e path) = ap (λ b. has test e || b) (path_some test path)

path_and : (test : Exp → Bool) (path : Path) (v : Exp) → some_has test (path_children path ++ (v ∷ [])) ≡ (path_has test path || has test v)
path_and test Here v = or-false (has test v)
path_and test (IntoField k path) v = path_and test path v
path_and test (IntoElement e path) v = ap (λ b. has test e || b) (path_and test path v) ∙ or_three (has test e) (path_has test path) (has test v)

or_one : (x a : Bool) → (x || a) ≡ (x || (a || false))
or_one x a = ap (λ b. x || b) (sym (or-false a))

or_two : (x a b : Bool) → ((x || a) || b) ≡ (x || (a || (b || false)))
or_two x a b = sym (or_three x a b) ∙ ap (λ c. x || (a || c)) (sym (or-false b))

or_more : (x c a b : Bool) → (((x || c) || a) || b) ≡ (x || (c || (a || (b || false))))
or_more x c a b = ap (λ y. (y || a) || b) refl ∙ or_two (x || c) a b ∙ sym (or_three x c (a || (b || false)))

or_path : (x a p q : Bool) → q ≡ p → ((x || a) || p) ≡ (x || (a || q))
or_path x a p q h = sym (or_three x a p) ∙ ap (λ y. x || (a || y)) (sym h)

or_update : (x a p v q : Bool) → q ≡ (p || v) → (((x || a) || p) || v) ≡ (x || (a || q))
or_update x a p v q h = sym (or_three (x || a) p v) ∙ sym (or_three x a (p || v)) ∙ ap (λ y. x || (a || y)) (sym h)

-- it passes, or a child does
pub child_has : (test : Exp → Bool) (e : Exp) → has test e ≡ (test e || some_has test (children e))
child_has test (Var x) = sym (or-false (test (Var x)))
child_has test (WordLit w) = sym (or-false (test (WordLit w)))
child_has test (NumberLit n) = sym (or-false (test (NumberLit n)))
child_has test (TruthLit b) = sym (or-false (test (TruthLit b)))
child_has test (WordUnary op a) = or_one (test (WordUnary op a)) (has test a)
child_has test (Cast op width a) = or_one (test (Cast op width a)) (has test a)
child_has test (ToNat a) = or_one (test (ToNat a)) (has test a)
child_has test (ToInt a) = or_one (test (ToInt a)) (has test a)
child_has test (ToWord width a) = or_one (test (ToWord width a)) (has test a)
child_has test (Negate a) = or_one (test (Negate a)) (has test a)
child_has test (Between low a high) = or_one (test (Between low a high)) (has test a)
child_has test (Not a) = or_one (test (Not a)) (has test a)
child_has test (Tagged t a) = or_one (test (Tagged t a)) (has test a)
child_has test (PtrOk t a) = or_one (test (PtrOk t a)) (has test a)
child_has test (WordBinary op a b) = or_two (test (WordBinary op a b)) (has test a) (has test b)
child_has test (WordShift op a b) = or_two (test (WordShift op a b)) (has test a) (has test b)
child_has test (WordCompare op a b) = or_two (test (WordCompare op a b)) (has test a) (has test b)
child_has test (Arith op a b) = or_two (test (Arith op a b)) (has test a) (has test b)
child_has test (Lt a b) = or_two (test (Lt a b)) (has test a) (has test b)
child_has test (Le a b) = or_two (test (Le a b)) (has test a) (has test b)
child_has test (Eq a b) = or_two (test (Eq a b)) (has test a) (has test b)
child_has test (And a b) = or_two (test (And a b)) (has test a) (has test b)
child_has test (Or a b) = or_two (test (Or a b)) (has test a) (has test b)
child_has test (Imp a b) = or_two (test (Imp a b)) (has test a) (has test b)
child_has test (Padd t a b) = or_two (test (Padd t a b)) (has test a) (has test b)
child_has test (If c a b) = or_more (test (If c a b)) (has test c) (has test a) (has test b)
child_has test (At t p path) = or_path (test (At t p path)) (has test p) (path_has test path) (some_has test (path_children path)) (path_some test path)
child_has test (Load t p path) = or_path (test (Load t p path)) (has test p) (path_has test path) (some_has test (path_children path)) (path_some test path)
child_has test (Read t p path) = or_path (test (Read t p path)) (has test p) (path_has test path) (some_has test (path_children path)) (path_some test path)
child_has test (Global x path) = ap (λ b. test (Global x path) || b) (sym (path_some test path))
child_has test (Sel e path) = or_path (test (Sel e path)) (has test e) (path_has test path) (some_has test (path_children path)) (path_some test path)
child_has test (Upd e path v) = or_update (test (Upd e path v)) (has test e) (path_has test path) (has test v) (some_has test (path_children path ++ (v ∷ []))) (path_and test path v)

-- children are smaller
abbrev AllBelow : ℕ → List Exp → Type 0
AllBelow n [] = Unit {0}
AllBelow n (e ∷ es) = (size e < n) × AllBelow n es

path_below : (path : Path) (n : ℕ) → path_size path < n → AllBelow n (path_children path)
path_below Here n h = tt
path_below (IntoField k path) n h = path_below path n h
path_below (IntoElement e path) n h = (omega arith, path_below path n (omega arith))

path_and_below : (path : Path) (v : Exp) (n : ℕ) → path_size path + size v < n → AllBelow n (path_children path ++ (v ∷ []))
path_and_below Here v n h = (omega arith, tt)
path_and_below (IntoField k path) v n h = path_and_below path v n h
path_and_below (IntoElement e path) v n h = (omega arith, path_and_below path v n (omega arith))

all_smaller : (e : Exp) → AllBelow (size e) (children e)
all_smaller (WordUnary op a) = (omega arith, tt)
all_smaller (Cast op width a) = (omega arith, tt)
all_smaller (ToNat a) = (omega arith, tt)
all_smaller (ToInt a) = (omega arith, tt)
all_smaller (ToWord width a) = (omega arith, tt)
all_smaller (Negate a) = (omega arith, tt)
all_smaller (Between low a high) = (omega arith, tt)
all_smaller (Not a) = (omega arith, tt)
all_smaller (Tagged t a) = (omega arith, tt)
all_smaller (PtrOk t a) = (omega arith, tt)
all_smaller (WordBinary op a b) = (omega arith, (omega arith, tt))
all_smaller (WordShift op a b) = (omega arith, (omega arith, tt))
all_smaller (WordCompare op a b) = (omega arith, (omega arith, tt))
all_smaller (Arith op a b) = (omega arith, (omega arith, tt))
all_smaller (Lt a b) = (omega arith, (omega arith, tt))
all_smaller (Le a b) = (omega arith, (omega arith, tt))
all_smaller (Eq a b) = (omega arith, (omega arith, tt))
all_smaller (And a b) = (omega arith, (omega arith, tt))
all_smaller (Or a b) = (omega arith, (omega arith, tt))
all_smaller (Imp a b) = (omega arith, (omega arith, tt))
all_smaller (Padd t a b) = (omega arith, (omega arith, tt))
all_smaller (If c a b) = (omega arith, (omega arith, (omega arith, tt)))
all_smaller (At t p path) = (omega arith, path_below path (size (At t p path)) (omega arith))
all_smaller (Load t p path) = (omega arith, path_below path (size (Load t p path)) (omega arith))
all_smaller (Read t p path) = (omega arith, path_below path (size (Read t p path)) (omega arith))
all_smaller (Global x path) = path_below path (size (Global x path)) (omega arith)
all_smaller (Sel e path) = (omega arith, path_below path (size (Sel e path)) (omega arith))
all_smaller (Upd e path v) = (omega arith, path_and_below path v (size (Upd e path v)) (omega arith))
all_smaller _ = tt

pub child_smaller : (e x : Exp) → IsAmong x (children e) → size x < size e
child_smaller e x h = by (children e) (all_smaller e) h
  where
    by : (es : List Exp) → AllBelow (size e) es → IsAmong x es → size x < size e
    by [] k i = absurd i
    by (c ∷ es) k (inl i) = subst (λ y. size y < size e) (sym i) k.0
    by (c ∷ es) k (inr i) = by es k.1 i

-- as many lists of facts as children
abbrev AsMany : List (List Fact) → List Exp → Type 0
AsMany [] [] = Unit {0}
AsMany (fs ∷ fss) (e ∷ es) = AsMany fss es
AsMany fss es = ⊥

each_many : (fs : List Fact) (es : List Exp) → AsMany (at_each fs es) es
each_many fs [] = tt
each_many fs (e ∷ es) = each_many fs es

as_many : (fs : List Fact) (e : Exp) → AsMany (child_facts fs e) (children e)
as_many fs (And a b) = tt
as_many fs (Or a b) = tt
as_many fs (Imp a b) = tt
as_many fs (If c a b) = tt
as_many fs e = each_many fs (children e)

pub same_by_children : (a b : Exp) → head b ≡ head a → children b ≡ children a → b ≡ a
same_by_children a b h k = sym (whole b) ∙ ap₂ (λ x es. filled x es) h k ∙ whole a

pub never : {P : Type 0} (b : Bool) → (b ≡ true) ↔ P → b ≡ false → P → ⊥
never b says e k = true≢false (sym (says.1 k) ∙ e)

-- where no step leads from one to the other here
module _ (g : Scope) (fs : List Fact) (a b : Exp) (no_shorter : IsStep g fs a b → ⊥) (no_longer : IsStep g fs b a → ⊥) where
  within : OneStepApart g fs a b → Inside g fs a b
  within k = elim (apart_is g fs a b k) [ inl x ↦ absurd (no_shorter x) | inr x ↦ elim x [ inl y ↦ absurd (no_longer y) | inr y ↦ y ] ]

  pub other_heads : (head b ≡ head a → ⊥) → OneStepApart g fs a b → ⊥
  other_heads differ k = differ (within k).0

  pub nowhere : (OneOfThem g (child_facts fs a) (children a) (children b) → ⊥) → OneStepApart g fs a b → ⊥
  nowhere none k = none (within k).1

  pub by_child : (gs : List Fact) (x y : Exp) → head b ≡ head a → OneOfThem g (child_facts fs a) (children a) (children b) ↔ OneStepApart g gs x y →
      OneStepApart g gs x y ↔ OneStepApart g fs a b
  by_child gs x y e h = (λ k. is_apart g fs a b (inr (inr (e, h.1 k))), λ k. h.0 (within k).1)

-- an expression and itself

module _ (g : Scope) where
  literal_step : (fs : List Fact) (e : Exp) → is_literal e ≡ true → IsStep g fs e e
  literal_step fs (WordLit w) h = inr (refl, refl)
  literal_step fs (NumberLit n) h = inr (narrow (is_wide (Number n)) h, refl)
    where
      narrow : (b : Bool) → not b ≡ true → b ≡ false
      narrow false k = refl
      narrow true k = absurd (true≢false (sym k))
  literal_step fs (TruthLit b) h = inr (refl, refl)
  literal_step fs e h = absurd (true≢false (sym h))

  some_below : (m : ℕ) → ((e : Exp) → size e < m → (fs : List Fact) → has is_literal e ≡ true → OneStepApart g fs e e) →
      (fss : List (List Fact)) (es : List Exp) → AllBelow m es → AsMany fss es → some_has is_literal es ≡ true → OneOfThem g fss es es
  some_below m each fss [] h k i = absurd (true≢false (sym i))
  some_below m each [] (e ∷ es) h k i = absurd k
  some_below m each (fs ∷ fss) (e ∷ es) h k i =
      elim (or_cases (has is_literal e) (some_has is_literal es) i) [
        | inl j ↦ this (each e h.0 fs j)
        | inr j ↦ later (some_below m each fss es h.1 k j)
      ]

  itself_below : (n : ℕ) (e : Exp) → size e < n → (fs : List Fact) → has is_literal e ≡ true → OneStepApart g fs e e
  itself_below zero e lt fs h = absurd (omega arith)
  itself_below (suc n) e lt fs h =
      elim (or_cases (is_literal e) (some_has is_literal (children e)) (sym (child_has is_literal e) ∙ h)) [
        | inl k ↦ shorter (literal_step fs e k)
        | inr k ↦ inside refl (some_below (size e) (λ x below gs i. itself_below n x (omega arith) gs i) (child_facts fs e) (children e) (all_smaller e) (as_many fs e) k)
      ]

  pub apart_from_itself : (fs : List Fact) (e : Exp) → has is_literal e ≡ true → OneStepApart g fs e e
  apart_from_itself fs e h = itself_below (suc (size e)) e (omega arith) fs h

  -- a step leads to another expression, or to a constant
  smaller_not : (a b : Exp) → size a < size b → b ≡ a → ⊥
  smaller_not a b lt e = let s : size b ≡ size a = ap size e in omega arith

  shortens_not : (fs : List Fact) (a e : Exp) → Shortens g fs a e → e ≡ a → ⊥
  shortens_not fs (Not (Not a)) e h k = smaller_not a (Not (Not a)) (omega arith) (sym k ∙ h)
  shortens_not fs (And a b) e (inl h) k = smaller_not b (And a b) (omega arith) (sym k ∙ h.1)
  shortens_not fs (And a b) e (inr (inl h)) k = smaller_not a (And a b) (omega arith) (sym k ∙ h.1)
  shortens_not fs (And a b) e (inr (inr h)) k = let i : And a b ≡ TruthLit false = sym k ∙ h.1 in cc
  shortens_not fs (Or a b) e (inl h) k = smaller_not b (Or a b) (omega arith) (sym k ∙ h.1)
  shortens_not fs (Or a b) e (inr h) k = let i : Or a b ≡ TruthLit true = sym k ∙ h.1 in cc
  shortens_not fs (Imp a b) e (inl h) k = smaller_not b (Imp a b) (omega arith) (sym k ∙ h.1)
  shortens_not fs (Imp a b) e (inr h) k = let i : Imp a b ≡ TruthLit true = sym k ∙ h.1 in cc
  shortens_not fs (If c a b) e (inl h) k = smaller_not a (If c a b) (omega arith) (sym k ∙ h.1)
  shortens_not fs (If c a b) e (inr (inl h)) k = smaller_not b (If c a b) (omega arith) (sym k ∙ h.1)
  shortens_not fs (If c a b) e (inr (inr h)) k = smaller_not a (If c a b) (omega arith) (sym k ∙ h.1)
  shortens_not fs (Eq a b) e h k = let i : Eq a b ≡ TruthLit true = sym k ∙ h.1 in cc
  shortens_not fs (Arith Add a b) e h k = smaller_not a (Arith Add a b) (omega arith) (sym k ∙ h.1)
  shortens_not fs (Not (Eq (If c (WordLit u) (WordLit v)) (WordLit w))) e h k =
      smaller_not c (Not (Eq (If c (WordLit u) (WordLit v)) (WordLit w))) (omega arith) (sym k ∙ h.1)
  shortens_not fs (ToWord n (ToNat a)) e h k = smaller_not a (ToWord n (ToNat a)) (omega arith) (sym k ∙ h.1)
  shortens_not fs (ToWord n (ToInt a)) e h k = smaller_not a (ToWord n (ToInt a)) (omega arith) (sym k ∙ h.1)
  shortens_not fs (ToNat (ToWord n a)) e h k = smaller_not a (ToNat (ToWord n a)) (omega arith) (sym k ∙ h.1)
  shortens_not fs (ToInt (ToWord n a)) e h k = smaller_not a (ToInt (ToWord n a)) (omega arith) (sym k ∙ h.1)
  shortens_not fs a e h k = absurd h

  value_literal : (a e : Exp) → IsItsValue g.layout a e → e ≡ a → has is_literal a ≡ true
  value_literal a e h k = by (constant_value g.layout a) h.1
    where
      is_word : (w : Word) → WordLit w ≡ a → has is_literal a ≡ true
      is_word w i = subst (λ x. has is_literal x ≡ true) i refl

      is_truth : (b : Bool) → TruthLit b ≡ a → has is_literal a ≡ true
      is_truth b i = subst (λ x. has is_literal x ≡ true) i refl

      is_number : (n : ℤ) → NumberLit n ≡ a → has is_literal a ≡ true
      is_number n i =
          subst (λ x. has is_literal x ≡ true) i
          (ap not (subst (λ x. has (λ y. is_open y || is_wide (constant_value g.layout y)) x ≡ false) (sym i) h.0))

      by : (v : Value) → constant v ≡ Some e → has is_literal a ≡ true
      by (Bits w) i = is_word w (some_is i ∙ k)
      by (Number n) i = is_number n (some_is i ∙ k)
      by (Truth b) i = is_truth b (some_is i ∙ k)
      by (Parts vs) i = absurd cc

  step_literal : (fs : List Fact) (a e : Exp) → IsStep g fs a e → e ≡ a → has is_literal a ≡ true
  step_literal fs a e (inl h) k = absurd (shortens_not fs a e h k)
  step_literal fs a e (inr h) k = value_literal a e h k

  mutual
    itself_has : (fs : List Fact) (a b : Exp) → OneStepApart g fs a b → b ≡ a → has is_literal a ≡ true
    itself_has _ _ _ (shorter {fs} {a} {b} h) k = step_literal fs a b h k
    itself_has _ _ _ (longer {fs} {a} {b} h) k = subst (λ e. has is_literal e ≡ true) k (step_literal fs b a h (sym k))
    itself_has _ _ _ (inside {fs} {a} {b} e h) k =
        child_has is_literal a ∙ or_right (is_literal a) (some_has is_literal (children a)) (some_literal (child_facts fs a) (children a) (children b) h (ap children k))

    some_literal : (fss : List (List Fact)) (as' bs : List Exp) → OneOfThem g fss as' bs → bs ≡ as' → some_has is_literal as' ≡ true
    some_literal _ _ _ (this {fs} {fss} {a} {b} {es} h) k =
        let e : b ≡ a = cc in or_left (has is_literal a) (some_has is_literal es) (itself_has fs a b h e)
    some_literal _ _ _ (later {fs} {fss} {e} {as'} {bs} h) k =
        let i : bs ≡ as' = cc in or_right (has is_literal e) (some_has is_literal as') (some_literal fss as' bs h i)

  pub itself_apart : (fs : List Fact) (e : Exp) → OneStepApart g fs e e → has is_literal e ≡ true
  itself_apart fs e h = itself_has fs e e h refl
