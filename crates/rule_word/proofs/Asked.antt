-- What a rule asks holds by itself where the left side is well-sorted.
use Rattle.std.proofs.Common.{◌≡◌, ℕ, ◌&&◌, List, Option, Some, None}
use Rattle.c_values.specs.Word.{WordTest}
use Rattle.expression_lang.specs.Expression as X
use Rattle.expression_lang.specs.Expression.{Exp}
use Rattle.expression_lang.specs.Sort.{Scope, number_sort, truth_sort, word_sort, is_width, cast_fits, where_holds}
use Rattle.expression_lang.proofs.Inversion.{word_inv, words_inv}
use Rattle.rule_word.specs.Rule.{View, Claim}
use Rattle.rule_word.specs.Scopes.{width_in}
use Rattle.rule_word.specs.Table.{of_width}
use Rattle.rule_word.specs.CodeFits.{Fits}

has_width : (o : Option ℕ) (n : ℕ) (f : ℕ → List Claim) → o ≡ Some n → (of_width o f).holds
has_width (Some m) n f h = tt
has_width None n f h = absurd cc

module _ (g : Scope) where
  pub nat_fits : (e : Exp) (v : View) (f : ℕ → List Claim) → Fits g (X.ToNat e) v → (of_width (width_in g e) f).holds
  nat_fits e v f h = let i = word_inv (width_in g e) (λ n. number_sort) h.0 h.1 in has_width (width_in g e) i.0 f i.1

  pub int_fits : (e : Exp) (v : View) (f : ℕ → List Claim) → Fits g (X.ToInt e) v → (of_width (width_in g e) f).holds
  int_fits e v f h = let i = word_inv (width_in g e) (λ n. number_sort) h.0 h.1 in has_width (width_in g e) i.0 f i.1

  pub order_fits : (test : WordTest) (a b : Exp) (v : View) (f : ℕ → List Claim) → Fits g (X.WordCompare test a b) v → (of_width (width_in g a) f).holds
  order_fits test a b v f h = let i = words_inv (width_in g a) (width_in g b) (λ n. truth_sort) h.0 h.1 in has_width (width_in g a) i.0 f i.1

  pub cast_fits_width : (op : X.CastOp) (m : ℕ) (e : Exp) (v : View) (f : ℕ → List Claim) → Fits g (X.Cast op m e) v → (of_width (width_in g e) f).holds
  cast_fits_width op m e v f h = let i = word_inv (width_in g e) (λ from. where_holds (is_width m && cast_fits op from m) (word_sort m)) h.0 h.1 in has_width (width_in g e) i.0 f i.1
