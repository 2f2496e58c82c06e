-- Zeros of locals, one by one.
use Rattle.std.proofs.Common.{◌≡◌, true, List, [], ◌∷◌, ◌++◌, Option, Some, None, refl, sym, ap, ◌∙◌}
use Rattle.c_values.specs.Name.{Name}
use Rattle.expression_lang.specs.Expression.{Exp}
use Rattle.expression_lang.specs.Sort.{Kind, is_kind, are_kinds}
use Rattle.expression_lang.specs.Signature.{Binder, kinds_of}
use Rattle.simpl_lang.specs.Command.{kind_of}
use Rattle.simpl_lang.proofs.SameKinds.{local_is_kind}
use Rattle.rule_local.specs.Table.{zero_exp, zero_first, zeros}

pub record FirstZero (o : Option Kind) (r : Option (List Exp)) (es : List Exp) : Type 0 where
  pub kind : Kind
  pub others : List Exp
  pub has_kind : o ≡ Some kind
  pub has_others : r ≡ Some others
  pub all : es ≡ zero_exp kind ∷ others

pub first_zero : (o : Option Kind) (r : Option (List Exp)) (es : List Exp) → zero_first o r ≡ Some es → FirstZero o r es
first_zero (Some k) (Some others) es h =
    let same : Some (zero_exp k ∷ others) ≡ Some es = h in
    let inner : zero_exp k ∷ others ≡ es = cc in record { kind = k; others = others; has_kind = refl; has_others = refl; all = sym inner }
first_zero (Some k) None es h = let clash : None ≡ Some es = h in cc
first_zero None r es h = let clash : None ≡ Some es = h in cc

-- what is made so far, before the zeros that are left, is all
pub record ZerosSo (bs : List Binder) (rest : List Name) (made es : List Exp) : Type 0 where
  pub later : List Exp
  pub are : zeros bs rest ≡ Some later
  pub whole : made ++ later ≡ es

no_more : (xs : List Exp) → xs ≡ xs ++ []
no_more [] = refl
no_more (x ∷ xs) = ap (λ r. x ∷ r) (no_more xs)

pub zeros_all : (bs : List Binder) (made es : List Exp) → ZerosSo bs [] made es → made ≡ es
zeros_all bs made es z = let same : Some [] ≡ Some z.later = z.are in let inner : [] ≡ z.later = cc in no_more made ∙ ap (λ l. made ++ l) inner ∙ z.whole

pub zeros_more : (bs : List Binder) (x : Name) (xs : List Name) (made more es : List Exp) (e : Exp) → are_kinds (kinds_of bs) ≡ true → ((ys : List Exp) → more ++ ys ≡ made ++ e ∷ ys) →
    ((k : Kind) → kind_of bs x ≡ Some k → is_kind k ≡ true → e ≡ zero_exp k) → ZerosSo bs (x ∷ xs) made es → ZerosSo bs xs more es
zeros_more bs x xs made more es e g m h z =
    let f = first_zero (kind_of bs x) (zeros bs xs) z.later z.are in record {
      later = f.others;
      are = f.has_others;
      whole = m f.others ∙ ap (λ d. made ++ d ∷ f.others) (h f.kind f.has_kind (local_is_kind bs x f.kind g f.has_kind)) ∙ ap (λ l. made ++ l) (sym f.all) ∙ z.whole;
    }
