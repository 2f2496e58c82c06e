-- What stands in the place of an expression by one step has a text where the expression has one; and so have the programs that steps in the
-- expressions that stand in a program directly lead to.
use Rattle.std.proofs.Common.{◌≡◌, ℕ, zero, Bool, true, false, ◌&&◌, List, [], ◌∷◌, Option, Some, pos, refl, sym, ap, subst}
use Rattle.std.proofs.lemmas.Bool.{and_parts}
use Rattle.c_values.specs.Name.{are_distinct}
use Rattle.c_values.specs.Number.{NumberOp, Add, least, greatest}
use Rattle.expression_lang.specs.Expression.{Exp, Var, WordLit, NumberLit, TruthLit, WordBinary, WordShift, WordUnary, WordCompare, Cast, ToNat, ToInt, ToWord, Arith, Negate, Lt, Le, Between, Eq, And, Or, Imp, Not, If, Padd, At, Load, Read, Tagged, PtrOk, Global, Sel, Upd, Path, Here, IntoField, IntoElement}
use Rattle.expression_lang.specs.Sort.{Scope, sort_of, is_word_of}
use Rattle.expression_lang.specs.Sort as S
use Rattle.expression_text.specs.Names.{is_name}
use Rattle.expression_text.specs.ExpText.{is_width, is_of_two, is_exp, is_path}
use Rattle.expression_text.specs.Lists.{each}
use Rattle.ac_expr.specs.Fact.{Fact, Whole, NotTrue}
use Rattle.ac_expr.specs.SameExp.{same_exp}
use Rattle.monad_lang.specs.Program as M
use Rattle.monad_lang.specs.Program.{Mon, Place, Start}
use Rattle.monad_lang.specs.Run.{start_names}
use Rattle.program_text.specs.MonText.{is_mon, is_start, is_place}
use Rattle.expression_steps.specs.Rewritten.{Choice, first_step, path_step, list_step, start_step, place_step, direct_step_in, scope_started}
use Rattle.expression_steps.specs.Shortened.{folded, where_true, by_right, shorter_and, shorter_or, shorter_imp, shorter_if, is_flag, shorter_unequal, shorter_not, shorter_sum, shorter_arith, shorter_word, shorter_value, shorter, shortened}
use Rattle.expression_steps.specs.Known.{is_known}
use Rattle.polish.proofs.Cases.{some_same, first_case, one_case, two_case, three_case}
use Rattle.made_texts.specs.Few.{binds_few}
use Rattle.made_texts.proofs.Conjunctions.{both}
use Rattle.made_texts.proofs.FoldedTexts.{folded_text}

abbrev HasText : Exp → Type 0
HasText e = is_exp e ≡ true

-- Rows

it_is : (a r : Exp) → ◌≡◌ {A = Option Exp} (Some a) (Some r) → HasText a → HasText r
it_is a r e h = subst HasText (some_same a r e) h

where_text : (b : Bool) (a r : Exp) → where_true b a ≡ Some r → HasText a → HasText r
where_text true a r e h = it_is a r e h
where_text false a r e h = absurd cc

right_text : (a b r : Exp) → by_right a b ≡ Some r → HasText a → HasText r
right_text a (TruthLit true) r e h = it_is a r e h
right_text a b r e h = absurd cc

and_text : (a b r : Exp) → shorter_and a b ≡ Some r → HasText a → HasText b → HasText r
and_text (TruthLit true) b r e h k = it_is b r e k
and_text (TruthLit false) b r e h k = it_is (TruthLit false) r e refl
and_text a b r e h k = right_text a b r e h

or_text : (a b r : Exp) → shorter_or a b ≡ Some r → HasText b → HasText r
or_text (TruthLit true) b r e k = it_is (TruthLit true) r e refl
or_text (TruthLit false) b r e k = it_is b r e k
or_text a b r e k = absurd cc

imp_text : (a b r : Exp) → shorter_imp a b ≡ Some r → HasText b → HasText r
imp_text (TruthLit true) b r e k = it_is b r e k
imp_text (TruthLit false) b r e k = it_is (TruthLit true) r e refl
imp_text a b r e k = absurd cc

if_text : (c a b r : Exp) → shorter_if c a b ≡ Some r → HasText a → HasText b → HasText r
if_text (TruthLit true) a b r e h k = it_is a r e h
if_text (TruthLit false) a b r e h k = it_is b r e k
if_text c a b r e h k = where_text (same_exp b a) a r e h

unequal_text : (a b r : Exp) → shorter_unequal a b ≡ Some r → HasText a → HasText r
unequal_text (If c (WordLit u) (WordLit v)) (WordLit w) r e h =
    where_text (is_flag u v w) c r e (and_parts (is_exp c) (is_exp (WordLit u) && is_exp (WordLit v)) h).0
unequal_text a b r e h = absurd cc

not_text : (a r : Exp) → shorter_not a ≡ Some r → HasText a → HasText r
not_text (Not a) r e h = it_is a r e h
not_text (Eq a b) r e h = unequal_text a b r e (and_parts (is_exp a) (is_exp b) h).0
not_text a r e h = absurd cc

sum_text : (a b r : Exp) → shorter_sum a b ≡ Some r → HasText a → HasText r
sum_text a (NumberLit (pos zero)) r e h = it_is a r e h
sum_text a b r e h = absurd cc

arith_text : (op : NumberOp) (a b r : Exp) → shorter_arith op a b ≡ Some r → HasText a → HasText r
arith_text Add a b r e h = sum_text a b r e h
arith_text op a b r e h = absurd cc

word_text : (g : Scope) (n : ℕ) (a r : Exp) → shorter_word g n a ≡ Some r → HasText a → HasText r
word_text g n (ToNat a) r e h = where_text (is_word_of n (sort_of g a)) a r e h
word_text g n (ToInt a) r e h = where_text (is_word_of n (sort_of g a)) a r e h
word_text g n a r e h = absurd cc

value_text : (fs : List Fact) (sign : Bool) (a r : Exp) → shorter_value fs sign a ≡ Some r → HasText a → HasText r
value_text fs sign (ToWord n a) r e h =
    where_text (S.is_width n && is_known fs (Between (least sign n) a (greatest sign n))) a r e
    (and_parts (is_width n) (is_exp a) h).1
value_text fs sign a r e h = absurd cc

shorter_text : (g : Scope) (fs : List Fact) (a r : Exp) → shorter g fs a ≡ Some r → HasText a → HasText r
shorter_text g fs (And a b) r e h = let p = and_parts (is_exp a) (is_exp b) h in and_text a b r e p.0 p.1
shorter_text g fs (Or a b) r e h = or_text a b r e (and_parts (is_exp a) (is_exp b) h).1
shorter_text g fs (Imp a b) r e h = imp_text a b r e (and_parts (is_exp a) (is_exp b) h).1
shorter_text g fs (If c a b) r e h =
    let p = and_parts (is_exp a) (is_exp b) (and_parts (is_exp c) (is_exp a && is_exp b) h).1 in if_text c a b r e p.0 p.1
shorter_text g fs (Not a) r e h = not_text a r e h
shorter_text g fs (Eq a b) r e h = where_text (same_exp b a) (TruthLit true) r e refl
shorter_text g fs (Arith op a b) r e h =
    arith_text op a b r e (and_parts (is_exp a) (is_exp b) (and_parts (is_of_two op) (is_exp a && is_exp b) h).1).0
shorter_text g fs (ToWord n a) r e h = word_text g n a r e (and_parts (is_width n) (is_exp a) h).1
shorter_text g fs (ToNat a) r e h = value_text fs false a r e h
shorter_text g fs (ToInt a) r e h = value_text fs true a r e h
shorter_text g fs a r e h = absurd cc

-- a choice whose expressions have texts
abbrev pub KeepsTexts : Choice → Type 0
KeepsTexts f = (fs : List Fact) (a r : Exp) → f fs a ≡ Some r → is_exp a ≡ true → is_exp r ≡ true

pub shortened_texts : (g : Scope) → KeepsTexts (shortened g)
shortened_texts g fs a r e h =
    first_case r HasText (folded g.layout a) (shorter g fs a) e (λ i. folded_text g.layout a r i h)
    (λ i. shorter_text g fs a r i h)

-- Steps

module _ (f : Choice) (keeps : KeepsTexts f) where
  mutual
    step_text : (fs : List Fact) (a r : Exp) → first_step f fs a ≡ Some r → HasText a → HasText r
    step_text fs (Var x) r h ok = keeps fs (Var x) r h ok
    step_text fs (WordLit w) r h ok = keeps fs (WordLit w) r h ok
    step_text fs (NumberLit n) r h ok = keeps fs (NumberLit n) r h ok
    step_text fs (TruthLit b) r h ok = keeps fs (TruthLit b) r h ok
    step_text fs (WordBinary op a b) r h ok =
        first_case r HasText _ _ h (λ i. keeps fs (WordBinary op a b) r i ok)
        (λ i. two_case r HasText (λ x y. WordBinary op x y) a b _ _ i
        (λ x j. both _ _ _ _ (λ k. step_text fs a x j k) (λ k. k) ok)
        (λ y j. both _ _ _ _ (λ k. k) (λ k. step_text fs b y j k) ok))
    step_text fs (WordShift op a b) r h ok =
        first_case r HasText _ _ h (λ i. keeps fs (WordShift op a b) r i ok)
        (λ i. two_case r HasText (λ x y. WordShift op x y) a b _ _ i
        (λ x j. both _ _ _ _ (λ k. step_text fs a x j k) (λ k. k) ok)
        (λ y j. both _ _ _ _ (λ k. k) (λ k. step_text fs b y j k) ok))
    step_text fs (WordUnary op a) r h ok =
        first_case r HasText _ _ h (λ i. keeps fs (WordUnary op a) r i ok)
        (λ i. one_case r HasText (λ x. WordUnary op x) _ i
        (λ x j. step_text fs a x j ok))
    step_text fs (WordCompare op a b) r h ok =
        first_case r HasText _ _ h (λ i. keeps fs (WordCompare op a b) r i ok)
        (λ i. two_case r HasText (λ x y. WordCompare op x y) a b _ _ i
        (λ x j. both _ _ _ _ (λ k. step_text fs a x j k) (λ k. k) ok)
        (λ y j. both _ _ _ _ (λ k. k) (λ k. step_text fs b y j k) ok))
    step_text fs (Cast op width a) r h ok =
        first_case r HasText _ _ h (λ i. keeps fs (Cast op width a) r i ok)
        (λ i. one_case r HasText (λ x. Cast op width x) _ i
        (λ x j. both _ _ _ _ (λ k. k) (λ k. step_text fs a x j k) ok))
    step_text fs (ToNat a) r h ok =
        first_case r HasText _ _ h (λ i. keeps fs (ToNat a) r i ok)
        (λ i. one_case r HasText (λ x. ToNat x) _ i
        (λ x j. step_text fs a x j ok))
    step_text fs (ToInt a) r h ok =
        first_case r HasText _ _ h (λ i. keeps fs (ToInt a) r i ok)
        (λ i. one_case r HasText (λ x. ToInt x) _ i
        (λ x j. step_text fs a x j ok))
    step_text fs (ToWord width a) r h ok =
        first_case r HasText _ _ h (λ i. keeps fs (ToWord width a) r i ok)
        (λ i. one_case r HasText (λ x. ToWord width x) _ i
        (λ x j. both _ _ _ _ (λ k. k) (λ k. step_text fs a x j k) ok))
    step_text fs (Arith op a b) r h ok =
        first_case r HasText _ _ h (λ i. keeps fs (Arith op a b) r i ok)
        (λ i. two_case r HasText (λ x y. Arith op x y) a b _ _ i
        (λ x j. both _ _ _ _ (λ k. k) (both _ _ _ _ (λ k. step_text fs a x j k) (λ k. k)) ok)
        (λ y j. both _ _ _ _ (λ k. k) (both _ _ _ _ (λ k. k) (λ k. step_text fs b y j k)) ok))
    step_text fs (Negate a) r h ok =
        first_case r HasText _ _ h (λ i. keeps fs (Negate a) r i ok)
        (λ i. one_case r HasText (λ x. Negate x) _ i
        (λ x j. step_text fs a x j ok))
    step_text fs (Lt a b) r h ok =
        first_case r HasText _ _ h (λ i. keeps fs (Lt a b) r i ok)
        (λ i. two_case r HasText (λ x y. Lt x y) a b _ _ i
        (λ x j. both _ _ _ _ (λ k. step_text fs a x j k) (λ k. k) ok)
        (λ y j. both _ _ _ _ (λ k. k) (λ k. step_text fs b y j k) ok))
    step_text fs (Le a b) r h ok =
        first_case r HasText _ _ h (λ i. keeps fs (Le a b) r i ok)
        (λ i. two_case r HasText (λ x y. Le x y) a b _ _ i
        (λ x j. both _ _ _ _ (λ k. step_text fs a x j k) (λ k. k) ok)
        (λ y j. both _ _ _ _ (λ k. k) (λ k. step_text fs b y j k) ok))
    step_text fs (Between low a high) r h ok =
        first_case r HasText _ _ h (λ i. keeps fs (Between low a high) r i ok)
        (λ i. one_case r HasText (λ x. Between low x high) _ i
        (λ x j. both _ _ _ _ (λ k. k) (both _ _ _ _ (λ k. step_text fs a x j k) (λ k. k)) ok))
    step_text fs (Eq a b) r h ok =
        first_case r HasText _ _ h (λ i. keeps fs (Eq a b) r i ok)
        (λ i. two_case r HasText (λ x y. Eq x y) a b _ _ i
        (λ x j. both _ _ _ _ (λ k. step_text fs a x j k) (λ k. k) ok)
        (λ y j. both _ _ _ _ (λ k. k) (λ k. step_text fs b y j k) ok))
    step_text fs (And a b) r h ok =
        first_case r HasText _ _ h (λ i. keeps fs (And a b) r i ok)
        (λ i. two_case r HasText (λ x y. And x y) a b _ _ i
        (λ x j. both _ _ _ _ (λ k. step_text fs a x j k) (λ k. k) ok)
        (λ y j. both _ _ _ _ (λ k. k) (λ k. step_text (Whole a ∷ fs) b y j k) ok))
    step_text fs (Or a b) r h ok =
        first_case r HasText _ _ h (λ i. keeps fs (Or a b) r i ok)
        (λ i. two_case r HasText (λ x y. Or x y) a b _ _ i
        (λ x j. both _ _ _ _ (λ k. step_text fs a x j k) (λ k. k) ok)
        (λ y j. both _ _ _ _ (λ k. k) (λ k. step_text (NotTrue a ∷ fs) b y j k) ok))
    step_text fs (Imp a b) r h ok =
        first_case r HasText _ _ h (λ i. keeps fs (Imp a b) r i ok)
        (λ i. two_case r HasText (λ x y. Imp x y) a b _ _ i
        (λ x j. both _ _ _ _ (λ k. step_text fs a x j k) (λ k. k) ok)
        (λ y j. both _ _ _ _ (λ k. k) (λ k. step_text (Whole a ∷ fs) b y j k) ok))
    step_text fs (Not a) r h ok =
        first_case r HasText _ _ h (λ i. keeps fs (Not a) r i ok)
        (λ i. one_case r HasText (λ x. Not x) _ i
        (λ x j. step_text fs a x j ok))
    step_text fs (If c a b) r h ok =
        first_case r HasText _ _ h (λ i. keeps fs (If c a b) r i ok)
        (λ i. three_case r HasText (λ x y z. If x y z) c a b _ _ _ i
        (λ x j. both _ _ _ _ (λ k. step_text fs c x j k) (λ k. k) ok)
        (λ y j. both _ _ _ _ (λ k. k) (both _ _ _ _ (λ k. step_text (Whole c ∷ fs) a y j k) (λ k. k)) ok)
        (λ z j. both _ _ _ _ (λ k. k) (both _ _ _ _ (λ k. k) (λ k. step_text (NotTrue c ∷ fs) b z j k)) ok))
    step_text fs (Padd t a b) r h ok =
        first_case r HasText _ _ h (λ i. keeps fs (Padd t a b) r i ok)
        (λ i. two_case r HasText (λ x y. Padd t x y) a b _ _ i
        (λ x j. both _ _ _ _ (λ k. k) (both _ _ _ _ (λ k. step_text fs a x j k) (λ k. k)) ok)
        (λ y j. both _ _ _ _ (λ k. k) (both _ _ _ _ (λ k. k) (λ k. step_text fs b y j k)) ok))
    step_text fs (At t a path) r h ok =
        first_case r HasText _ _ h (λ i. keeps fs (At t a path) r i ok)
        (λ i. two_case r HasText (λ x y. At t x y) a path _ _ i
        (λ x j. both _ _ _ _ (λ k. k) (both _ _ _ _ (λ k. step_text fs a x j k) (λ k. k)) ok)
        (λ y j. both _ _ _ _ (λ k. k) (both _ _ _ _ (λ k. k) (λ k. path_step_text fs path y j k)) ok))
    step_text fs (Load t a path) r h ok =
        first_case r HasText _ _ h (λ i. keeps fs (Load t a path) r i ok)
        (λ i. two_case r HasText (λ x y. Load t x y) a path _ _ i
        (λ x j. both _ _ _ _ (λ k. k) (both _ _ _ _ (λ k. step_text fs a x j k) (λ k. k)) ok)
        (λ y j. both _ _ _ _ (λ k. k) (both _ _ _ _ (λ k. k) (λ k. path_step_text fs path y j k)) ok))
    step_text fs (Read t a path) r h ok =
        first_case r HasText _ _ h (λ i. keeps fs (Read t a path) r i ok)
        (λ i. two_case r HasText (λ x y. Read t x y) a path _ _ i
        (λ x j. both _ _ _ _ (λ k. k) (both _ _ _ _ (λ k. step_text fs a x j k) (λ k. k)) ok)
        (λ y j. both _ _ _ _ (λ k. k) (both _ _ _ _ (λ k. k) (λ k. path_step_text fs path y j k)) ok))
    step_text fs (Tagged t a) r h ok =
        first_case r HasText _ _ h (λ i. keeps fs (Tagged t a) r i ok)
        (λ i. one_case r HasText (λ x. Tagged t x) _ i
        (λ x j. both _ _ _ _ (λ k. k) (λ k. step_text fs a x j k) ok))
    step_text fs (PtrOk t a) r h ok =
        first_case r HasText _ _ h (λ i. keeps fs (PtrOk t a) r i ok)
        (λ i. one_case r HasText (λ x. PtrOk t x) _ i
        (λ x j. both _ _ _ _ (λ k. k) (λ k. step_text fs a x j k) ok))
    step_text fs (Global x path) r h ok =
        first_case r HasText _ _ h (λ i. keeps fs (Global x path) r i ok)
        (λ i. one_case r HasText (λ y. Global x y) _ i
        (λ y j. both _ _ _ _ (λ k. k) (λ k. path_step_text fs path y j k) ok))
    step_text fs (Sel a path) r h ok = keeps fs (Sel a path) r h ok
    step_text fs (Upd a path b) r h ok = keeps fs (Upd a path b) r h ok

    path_step_text : (fs : List Fact) (path r : Path) → path_step f fs path ≡ Some r → is_path path ≡ true → is_path r ≡ true
    path_step_text fs Here r h ok = absurd cc
    path_step_text fs (IntoField k path) r h ok =
        one_case r (λ q. is_path q ≡ true) (λ y. IntoField k y) _ h
        (λ y j. both _ _ _ _ (λ i. i) (λ i. path_step_text fs path y j i) ok)
    path_step_text fs (IntoElement e path) r h ok =
        two_case r (λ q. is_path q ≡ true) (λ x y. IntoElement x y) e path _ _ h
        (λ x j. both _ _ _ _ (λ i. step_text fs e x j i) (λ i. i) ok)
        (λ y j. both _ _ _ _ (λ i. i) (λ i. path_step_text fs path y j i) ok)

  list_text : (fs : List Fact) (es r : List Exp) → list_step f fs es ≡ Some r → each is_exp es ≡ true → each is_exp r ≡ true
  list_text fs [] r h c = absurd cc
  list_text fs (e ∷ es) r h c =
      two_case r (λ q. each is_exp q ≡ true) (λ x xs. x ∷ xs) e es _ _ h
      (λ x j. both _ _ _ _ (λ i. step_text fs e x j i) (λ i. i) c)
      (λ y j. both _ _ _ _ (λ i. i) (λ i. list_text fs es y j i) c)

  abbrev KeepsStarts : List Start → List Start → Type 0
  KeepsStarts ss r = (start_names r ≡ start_names ss) × (each is_start ss ≡ true → each is_start r ≡ true)

  start_text : (fs : List Fact) (ss r : List Start) → start_step f fs ss ≡ Some r → KeepsStarts ss r
  start_text fs [] r h = absurd cc
  start_text fs (s ∷ ss) r h =
      two_case r (KeepsStarts (s ∷ ss)) (λ x xs. record { name = s.name; exp = x } ∷ xs) s.exp ss _ _ h
      (λ x j. (
        refl,
        λ c.
            both (is_start s) (each is_start ss) (is_name s.name && is_exp x) (each is_start ss)
            (λ i. both (is_name s.name) (is_exp s.exp) (is_name s.name) (is_exp x) (λ k. k) (λ k. step_text fs s.exp x j k) i)
            (λ i. i) c,
      ))
      (λ y j.
      let k = start_text fs ss y j in (ap (λ xs. s.name ∷ xs) k.0, λ c. both _ _ _ _ (λ i. i) (λ i. k.1 i) c))

  place_text : (fs : List Fact) (place r : Place) → place_step f fs place ≡ Some r → is_place place ≡ true → is_place r ≡ true
  place_text fs (M.Stored t p path) r h c =
      two_case r (λ q. is_place q ≡ true) (λ x y. M.Stored t x y) p path _ _ h
      (λ x j. both _ _ _ _ (λ i. i) (both _ _ _ _ (λ i. step_text fs p x j i) (λ i. i)) c)
      (λ y j. both _ _ _ _ (λ i. i) (both _ _ _ _ (λ i. i) (λ i. path_step_text fs path y j i)) c)
  place_text fs (M.Written t p path) r h c =
      two_case r (λ q. is_place q ≡ true) (λ x y. M.Written t x y) p path _ _ h
      (λ x j. both _ _ _ _ (λ i. i) (both _ _ _ _ (λ i. step_text fs p x j i) (λ i. i)) c)
      (λ y j. both _ _ _ _ (λ i. i) (both _ _ _ _ (λ i. i) (λ i. path_step_text fs path y j i)) c)
  place_text fs (M.Global x path) r h c =
      one_case r (λ q. is_place q ≡ true) (λ y. M.Global x y) _ h
      (λ y j. both _ _ _ _ (λ i. i) (λ i. path_step_text fs path y j i) c)

module _ (f : Scope → Choice) (keeps : (g : Scope) → KeepsTexts (f g)) (g : Scope) (fs : List Fact) where
  pub direct_text : (m r : Mon) → direct_step_in f g fs m ≡ Some r → is_mon m ≡ true → is_mon r ≡ true
  direct_text (M.Ret es) r h c =
      one_case r (λ q. is_mon q ≡ true) (λ xs. M.Ret xs) _ h (λ x j. list_text (f g) (keeps g) fs es x j c)
  direct_text (M.Guard e) r h c =
      one_case r (λ q. is_mon q ≡ true) (λ x. M.Guard x) _ h (λ x j. step_text (f g) (keeps g) fs e x j c)
  direct_text (M.If e m n) r h c =
      one_case r (λ q. is_mon q ≡ true) (λ x. M.If x m n) _ h
      (λ x j. both _ _ _ _ (λ i. step_text (f g) (keeps g) fs e x j i) (λ i. i) c)
  direct_text (M.Write place e) r h c =
      two_case r (λ q. is_mon q ≡ true) (λ x y. M.Write x y) place e _ _ h
      (λ x j. both _ _ _ _ (λ i. place_text (f g) (keeps g) fs place x j i) (λ i. i) c)
      (λ y j. both _ _ _ _ (λ i. i) (λ i. step_text (f g) (keeps g) fs e y j i) c)
  direct_text (M.Loop starts guard test m) r h c =
      let inner = scope_started starts g in
      three_case r (λ q. is_mon q ≡ true) (λ x y z. M.Loop x y z m) starts guard test _ _ _ h
      (λ x j.
      let k = start_text (f g) (keeps g) fs starts x j in
      both _ _ _ _ (both _ _ _ _ (λ i. k.1 i) (λ i. subst (λ xs. are_distinct xs ≡ true) (sym k.0) i)) (λ i. i) c)
      (λ y j. both _ _ _ _ (λ i. i) (both _ _ _ _ (λ i. step_text (f inner) (keeps inner) [] guard y j i) (λ i. i)) c)
      (λ z j.
      both _ _ _ _ (λ i. i)
      (both _ _ _ _ (λ i. i) (both _ _ _ _ (λ i. step_text (f inner) (keeps inner) (Whole guard ∷ []) test z j i) (λ i. i))) c)
  direct_text (M.Call h' es) r h c =
      one_case r (λ q. is_mon q ≡ true) (λ xs. M.Call h' xs) _ h
      (λ x j. both _ _ _ _ (λ i. i) (λ i. list_text (f g) (keeps g) fs es x j i) c)
  direct_text _ r h c = absurd cc

  pub direct_few : (m r : Mon) → direct_step_in f g fs m ≡ Some r → binds_few m ≡ true → binds_few r ≡ true
  direct_few (M.Ret es) r h c = one_case r (λ q. binds_few q ≡ true) (λ xs. M.Ret xs) _ h (λ x j. refl)
  direct_few (M.Guard e) r h c = one_case r (λ q. binds_few q ≡ true) (λ x. M.Guard x) _ h (λ x j. refl)
  direct_few (M.If e m n) r h c = one_case r (λ q. binds_few q ≡ true) (λ x. M.If x m n) _ h (λ x j. c)
  direct_few (M.Write place e) r h c =
      two_case r (λ q. binds_few q ≡ true) (λ x y. M.Write x y) place e _ _ h (λ x j. refl) (λ y j. refl)
  direct_few (M.Loop starts guard test m) r h c =
      three_case r (λ q. binds_few q ≡ true) (λ x y z. M.Loop x y z m) starts guard test _ _ _ h (λ x j. c) (λ y j. c) (λ z j. c)
  direct_few (M.Call h' es) r h c = one_case r (λ q. binds_few q ≡ true) (λ xs. M.Call h' xs) _ h (λ x j. refl)
  direct_few _ r h c = absurd cc
