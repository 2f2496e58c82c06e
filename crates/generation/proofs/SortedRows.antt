-- Sorts of the rows of expressions that generation makes, none of them with a part of a value in it.
use Rattle.std.proofs.Common.{◌≡◌, ℕ, ◌==◌, Bool, true, false, not, ◌&&◌, List, [], ◌∷◌, ◌++◌, Option, Some, None, ℤ, refl, sym, ap, ap₂, ◌∙◌, cond, eq-eqb}
use Rattle.std.proofs.lemmas.Bool.{and_from, or_from, cond-false}
use Rattle.c_values.specs.Name.{Name}
use Rattle.c_values.specs.Types.{CType, address_width}
use Rattle.c_values.specs.Number.{NumberOp}
use Rattle.c_values.specs.Width.{IsWidth}
use Rattle.c_values.specs.Word.{word, WordOp, ShiftOp, UnaryOp, WordTest}
use Rattle.c_values.specs.Layout.{Shape, Record, Row, Fields, is_object, shape_of}
use Rattle.c_values.specs.Path.{Spot, member_spot}
use Rattle.expression_lang.specs.Expression as E
use Rattle.expression_lang.specs.Form.{has, path_has, is_part_of_value}
use Rattle.expression_lang.specs.Sort.{Sort, Scope, is_width, word_width, is_word_of, is_number, is_truth, number_sort, truth_sort, where_holds, of_words, of_word, word_sort, are_same, of_shape, shape_in, of_type, cast_fits, is_unary, sort_at, sort_of, shape_along}
use Rattle.expression_lang.specs.Sorted.{program_sort}
use Rattle.expression_lang.proofs.Sorting.{literal_sorted, width_is, where_true}
use Rattle.expression_lang.proofs.Filled.{word_fits}
use Rattle.simpl_lang.specs.Command.{Condition}
use Rattle.simpl_lang.specs.Sorted.{are_conditions}
use Rattle.generation.specs.Guards.{under}

-- an expression of a program, and its sort
pub record Has (g : Scope) (s : Option Sort) (e : E.Exp) : Type 0 where
  pub plain : has is_part_of_value e ≡ false
  pub sort : sort_of g e ≡ s

abbrev pub HasWord : Scope → ℕ → E.Exp → Type 0
HasWord g n e = Has g (word_sort n) e

abbrev pub HasNumber : Scope → E.Exp → Type 0
HasNumber g e = Has g number_sort e

abbrev pub HasTruth : Scope → E.Exp → Type 0
HasTruth g e = Has g truth_sort e

-- a path from one shape to another
pub record HasPath (g : Scope) (path : E.Path) (s q : Shape) : Type 0 where
  pub plain : path_has is_part_of_value path ≡ false
  pub along : shape_along g path s ≡ Some q

-- conditions are truth values
pub data Truths (g : Scope) : List Condition → Type 0 where
  none : Truths g []
  more : {c : Condition} {cs : List Condition} → HasTruth g c.exp → Truths g cs → Truths g (c ∷ cs)

pub in_program : (g : Scope) (s : Option Sort) (e : E.Exp) → Has g s e → program_sort g e ≡ s
in_program g s e h = cond-false (has is_part_of_value e) _ (sort_of g e) h.plain ∙ h.sort

pub truth_in_program : (g : Scope) (e : E.Exp) → HasTruth g e → is_truth (program_sort g e) ≡ true
truth_in_program g e h = ap is_truth (in_program g truth_sort e h)

pub conditions_sorted : (g : Scope) (cs : List Condition) → Truths g cs → are_conditions g cs ≡ true
conditions_sorted g [] none = refl
conditions_sorted g (c ∷ cs) (more h k) = and_from _ _ (truth_in_program g c.exp h) (conditions_sorted g cs k)

pub truths_append : {g : Scope} {cs ds : List Condition} → Truths g cs → Truths g ds → Truths g (cs ++ ds)
truths_append none k = k
truths_append (more h r) k = more h (truths_append r k)

pub resorted : {g : Scope} {s t : Option Sort} {e : E.Exp} → s ≡ t → Has g s e → Has g t e
resorted p h = record { plain = h.plain; sort = h.sort ∙ p }

module _ (g : Scope) where
  pub literal : (n : ℕ) (z : ℤ) → IsWidth n → HasWord g n (E.WordLit (word n z))
  literal n z w = record { plain = refl; sort = sym (literal_sorted n (word n z).bits n (word n z).bits refl w refl (word_fits n z).fits) }

  pub truth_literal : (b : Bool) → HasTruth g (E.TruthLit b)
  truth_literal b = record { plain = refl; sort = refl }

  module _ (n : ℕ) (a : E.Exp) (h : HasWord g n a) where
    pub binary : (op : WordOp) (b : E.Exp) → HasWord g n b → HasWord g n (E.WordBinary op a b)
    binary op b k = record { plain = or_from _ _ h.plain k.plain; sort = ap₂ (λ s t. of_words (word_width s) (word_width t) word_sort) h.sort k.sort ∙ where_true (n == n) (word_sort n) (eq-eqb n n refl) }

    pub compared : (op : WordTest) (b : E.Exp) → HasWord g n b → HasTruth g (E.WordCompare op a b)
    compared op b k = record { plain = or_from _ _ h.plain k.plain; sort = ap₂ (λ s t. of_words (word_width s) (word_width t) (λ m. truth_sort)) h.sort k.sort ∙ where_true (n == n) truth_sort (eq-eqb n n refl) }

    pub equal : (b : E.Exp) → HasWord g n b → HasTruth g (E.Eq a b)
    equal b k = record { plain = or_from _ _ h.plain k.plain; sort = ap₂ (λ s t. where_holds (are_same s t) truth_sort) h.sort k.sort ∙ where_true (n == n) truth_sort (eq-eqb n n refl) }

    pub shifted : (op : ShiftOp) (b : E.Exp) → HasNumber g b → HasWord g n (E.WordShift op a b)
    shifted op b k = record { plain = or_from _ _ h.plain k.plain; sort = ap₂ (λ s t. where_holds (is_number t) (of_word (word_width s) word_sort)) h.sort k.sort }

    pub unary : (op : UnaryOp) → HasWord g n (E.WordUnary op a)
    unary op = record { plain = h.plain; sort = ap (λ s. of_word (word_width s) word_sort) h.sort }

    pub cast : (op : E.CastOp) (width : ℕ) → IsWidth width → cast_fits op n width ≡ true → HasWord g width (E.Cast op width a)
    cast op width w f = record {
      plain = h.plain;
      sort = ap (λ s. of_word (word_width s) (λ from. where_holds (is_width width && cast_fits op from width) (word_sort width))) h.sort
          ∙ where_true (is_width width && cast_fits op n width) (word_sort width) (and_from _ _ (width_is width w) f);
    }

    pub to_nat : HasNumber g (E.ToNat a)
    to_nat = record { plain = h.plain; sort = ap (λ s. of_word (word_width s) (λ m. number_sort)) h.sort }

    pub to_int : HasNumber g (E.ToInt a)
    to_int = record { plain = h.plain; sort = ap (λ s. of_word (word_width s) (λ m. number_sort)) h.sort }

    pub choice : (c b : E.Exp) → HasTruth g c → HasWord g n b → HasWord g n (E.If c a b)
    choice c b j k = record {
      plain = or_from _ _ (or_from _ _ j.plain h.plain) k.plain;
      sort = ap₂ (λ r s. where_holds (is_truth r && are_same s (sort_of g b)) s) j.sort h.sort ∙ ap (λ t. where_holds (are_same (word_sort n) t) (word_sort n)) k.sort
          ∙ where_true (n == n) (word_sort n) (eq-eqb n n refl);
    }

  module _ (a : E.Exp) (h : HasNumber g a) where
    pub arith : (op : NumberOp) (b : E.Exp) → is_unary op ≡ false → HasNumber g b → HasNumber g (E.Arith op a b)
    arith op b u k = record {
      plain = or_from _ _ h.plain k.plain;
      sort = ap₂ (λ s t. where_holds (not (is_unary op) && is_number s && is_number t) number_sort) h.sort k.sort ∙ ap (λ c. where_holds (not c && true && true) number_sort) u;
    }

    pub negate : HasNumber g (E.Negate a)
    negate = record { plain = h.plain; sort = ap (λ s. where_holds (is_number s) number_sort) h.sort }

    pub between : (low high : ℤ) → HasTruth g (E.Between low a high)
    between low high = record { plain = h.plain; sort = ap (λ s. where_holds (is_number s) truth_sort) h.sort }

    pub at_most : (b : E.Exp) → HasNumber g b → HasTruth g (E.Le a b)
    at_most b k = record { plain = or_from _ _ h.plain k.plain; sort = ap₂ (λ s t. where_holds (is_number s && is_number t) truth_sort) h.sort k.sort }

  module _ (a : E.Exp) (h : HasTruth g a) where
    pub negated : HasTruth g (E.Not a)
    negated = record { plain = h.plain; sort = ap (λ s. where_holds (is_truth s) truth_sort) h.sort }

    module _ (b : E.Exp) (k : HasTruth g b) where
      pub both : HasTruth g (E.And a b)
      both = record { plain = or_from _ _ h.plain k.plain; sort = ap₂ (λ s t. where_holds (is_truth s && is_truth t) truth_sort) h.sort k.sort }

      pub either : HasTruth g (E.Or a b)
      either = record { plain = or_from _ _ h.plain k.plain; sort = ap₂ (λ s t. where_holds (is_truth s && is_truth t) truth_sort) h.sort k.sort }

      pub implied : HasTruth g (E.Imp a b)
      implied = record { plain = or_from _ _ h.plain k.plain; sort = ap₂ (λ s t. where_holds (is_truth s && is_truth t) truth_sort) h.sort k.sort }

    pub all_under : {cs : List Condition} → Truths g cs → Truths g (under a cs)
    all_under none = none
    all_under (more {c} {cs} j k) = more (implied c.exp j) (all_under k)

  abbrev address : ℕ
  address = address_width g.layout.target

  module _ (t : CType) (o : is_object g.layout t ≡ true) (p : E.Exp) (h : HasWord g (address_width g.layout.target) p) where
    pub root : (is_object g.layout t && is_word_of address (word_sort address)) ≡ true
    root = and_from _ _ o (eq-eqb address address refl)

    pub moved : (n : E.Exp) → HasNumber g n → HasWord g (address_width g.layout.target) (E.Padd t p n)
    moved n k = record {
      plain = or_from _ _ h.plain k.plain;
      sort = ap₂ (λ s u. where_holds (is_object g.layout t && is_word_of address s && is_number u) (word_sort address)) h.sort k.sort
          ∙ where_true _ (word_sort address) (and_from _ true root refl);
    }

    pub tagged : HasTruth g (E.Tagged t p)
    tagged = record { plain = h.plain; sort = ap (λ s. where_holds (is_object g.layout t && is_word_of address s) truth_sort) h.sort ∙ where_true _ truth_sort root }

    pub pointer_ok : HasTruth g (E.PtrOk t p)
    pointer_ok = record { plain = h.plain; sort = ap (λ s. where_holds (is_object g.layout t && is_word_of address s) truth_sort) h.sort ∙ where_true _ truth_sort root }

    module _ (path : E.Path) (q : Shape) (k : HasPath g path (shape_of g.layout t) q) where
      pub at : HasWord g (address_width g.layout.target) (E.At t p path)
      at = record {
        plain = or_from _ _ h.plain k.plain;
        sort = ap₂ (λ s r. where_holds (is_object g.layout t && is_word_of address s) (of_shape r (λ z. word_sort address))) h.sort k.along ∙ where_true _ (word_sort address) root;
      }

      pub loaded : Has g (sort_at q) (E.Load t p path)
      loaded = record {
        plain = or_from _ _ h.plain k.plain;
        sort = ap₂ (λ s r. where_holds (is_object g.layout t && is_word_of address s) (of_shape r sort_at)) h.sort k.along ∙ where_true _ (sort_at q) root;
      }

  pub global : (x : Name) (t : CType) → g.globals x ≡ Some t → is_object g.layout t ≡ true → (path : E.Path) (q : Shape) → HasPath g path (shape_of g.layout t) q → Has g (sort_at q) (E.Global x path)
  global x t e o path q k = record {
    plain = k.plain;
    sort = ap (λ r. of_type r (λ u. where_holds (is_object g.layout u) (of_shape (shape_along g path (shape_of g.layout u)) sort_at))) e
        ∙ ap (λ r. where_holds (is_object g.layout t) (of_shape r sort_at)) k.along ∙ where_true _ (sort_at q) o;
  }

  pub here : (s : Shape) → HasPath g E.Here s s
  here s = record { plain = refl; along = refl }

  pub into_field : (x : Name) (n align : ℕ) (fs : Fields) (k : ℕ) (r : Spot) (path : E.Path) (q : Shape) → member_spot fs k ≡ Some r → HasPath g path r.shape q → HasPath g (E.IntoField k path) (Record x n align fs) q
  into_field x n align fs k r path q e h = record { plain = h.plain; along = ap (λ o. shape_in o (λ s. shape_along g path s)) e ∙ h.along }

  pub into_element : (s : Shape) (n : ℕ) (e : E.Exp) (path : E.Path) (q : Shape) → HasNumber g e → HasPath g path s q → HasPath g (E.IntoElement e path) (Row s n) q
  into_element s n e path q h k = record { plain = or_from _ _ h.plain k.plain; along = ap (λ o. cond (is_number o) (shape_along g path s) None) h.sort ∙ k.along }
