-- No part of a value is selected or replaced on the right where none is on the left.
use Rattle.std.proofs.Common.{◌≡◌, Bool, true, false, ◌||◌, List, [], ◌∷◌, length, Option, Some, None, refl, subst, ap, ◌∙◌}
use Rattle.std.proofs.lemmas.Bool.{or_parts, or_from}
use Rattle.c_values.specs.Word.{Wadd, Wsub, Wmul, Wudiv, Wumod, Wsdiv, Wsmod, Wneg, Wult, Wule, Wslt, Wsle}
use Rattle.c_values.specs.Number as N
use Rattle.c_values.proofs.Options.{some_is}
use Rattle.expression_lang.specs.Expression as X
use Rattle.expression_lang.specs.Expression.{Exp, Path}
use Rattle.expression_lang.specs.Form.{has, path_has, is_part_of_value}
use Rattle.ac_expr.specs.Heads.{head, children, path_children}
use Rattle.ac_expr.proofs.HeadsAgree.{first, others, path_filled, filled, whole, as_many}
use Rattle.rule_trees.specs.RuleTree.{AllHold}
use Rattle.rule_word.specs.Rule as R
use Rattle.rule_word.specs.Rule.{Rule, Context, Point, View, AsIs, Unsigned, Signed, Claim, expression, program}
use Rattle.rule_word.specs.Scopes.{words, width_in}
use Rattle.rule_word.specs.Table.{constant, of_width, each, owns, expression_row, table}
use Rattle.rule_word.proofs.SoundExpressions.{one_less}

abbrev pub IsPlain : Exp → Type 0
IsPlain e = has is_part_of_value e ≡ false

abbrev pub ArePlain : List Exp → Type 0
ArePlain [] = Unit {0}
ArePlain (e ∷ es) = IsPlain e × ArePlain es

two_plain : (a b : Exp) → (has is_part_of_value a || has is_part_of_value b) ≡ false → ArePlain (a ∷ b ∷ [])
two_plain a b h = let r = or_parts (has is_part_of_value a) (has is_part_of_value b) h in (r.0, (r.1, tt))

no_part : (b c : Bool) → ((true || b) || c) ≡ false → ⊥
no_part b c h = cc

path_plain : (path : Path) → path_has is_part_of_value path ≡ false → ArePlain (path_children path)
path_plain X.Here h = tt
path_plain (X.IntoField k path) h = path_plain path h
path_plain (X.IntoElement e path) h = let r = or_parts (has is_part_of_value e) (path_has is_part_of_value path) h in (r.0, path_plain path r.1)

pub plain_children : (e : Exp) → IsPlain e → ArePlain (children e)
plain_children (X.WordBinary op a b) h = two_plain a b h
plain_children (X.WordShift op a b) h = two_plain a b h
plain_children (X.WordCompare op a b) h = two_plain a b h
plain_children (X.Arith op a b) h = two_plain a b h
plain_children (X.Lt a b) h = two_plain a b h
plain_children (X.Le a b) h = two_plain a b h
plain_children (X.Eq a b) h = two_plain a b h
plain_children (X.And a b) h = two_plain a b h
plain_children (X.Or a b) h = two_plain a b h
plain_children (X.Imp a b) h = two_plain a b h
plain_children (X.Padd t a b) h = two_plain a b h
plain_children (X.WordUnary op a) h = (h, tt)
plain_children (X.Cast op m a) h = (h, tt)
plain_children (X.ToNat a) h = (h, tt)
plain_children (X.ToInt a) h = (h, tt)
plain_children (X.ToWord m a) h = (h, tt)
plain_children (X.Negate a) h = (h, tt)
plain_children (X.Between low a high) h = (h, tt)
plain_children (X.Not a) h = (h, tt)
plain_children (X.Tagged t a) h = (h, tt)
plain_children (X.PtrOk t a) h = (h, tt)
plain_children (X.If c a b) h = let r = or_parts (has is_part_of_value c || has is_part_of_value a) (has is_part_of_value b) h in let q = or_parts (has is_part_of_value c) (has is_part_of_value a) r.0 in (q.0, (q.1, (r.1, tt)))
plain_children (X.At t a path) h = let r = or_parts (has is_part_of_value a) (path_has is_part_of_value path) h in (r.0, path_plain path r.1)
plain_children (X.Load t a path) h = let r = or_parts (has is_part_of_value a) (path_has is_part_of_value path) h in (r.0, path_plain path r.1)
plain_children (X.Read t a path) h = let r = or_parts (has is_part_of_value a) (path_has is_part_of_value path) h in (r.0, path_plain path r.1)
plain_children (X.Global x path) h = path_plain path h
plain_children (X.Sel a path) h = absurd (no_part (has is_part_of_value a) (path_has is_part_of_value path) h)
plain_children (X.Upd a path b) h = absurd (no_part (has is_part_of_value a || path_has is_part_of_value path) (has is_part_of_value b) h)
plain_children _ _ = tt

first_plain : (es : List Exp) → ArePlain es → IsPlain (first es)
first_plain [] h = refl
first_plain (e ∷ es) h = h.0

rest_plain : (es : List Exp) → ArePlain es → ArePlain (others es)
rest_plain [] h = tt
rest_plain (e ∷ es) h = h.1

path_filled_plain : (path : Path) (es : List Exp) → ArePlain es → path_has is_part_of_value (path_filled path es) ≡ false
path_filled_plain X.Here es h = refl
path_filled_plain (X.IntoField k path) es h = path_filled_plain path es h
path_filled_plain (X.IntoElement e path) es h = or_from _ _ (first_plain es h) (path_filled_plain path (others es) (rest_plain es h))

filled_plain : (e : Exp) (es : List Exp) → is_part_of_value e ≡ false → ArePlain es → IsPlain (filled e es)
filled_plain (X.WordBinary op a b) es i h = or_from _ _ (first_plain es h) (first_plain (others es) (rest_plain es h))
filled_plain (X.WordShift op a b) es i h = or_from _ _ (first_plain es h) (first_plain (others es) (rest_plain es h))
filled_plain (X.WordCompare op a b) es i h = or_from _ _ (first_plain es h) (first_plain (others es) (rest_plain es h))
filled_plain (X.Arith op a b) es i h = or_from _ _ (first_plain es h) (first_plain (others es) (rest_plain es h))
filled_plain (X.Lt a b) es i h = or_from _ _ (first_plain es h) (first_plain (others es) (rest_plain es h))
filled_plain (X.Le a b) es i h = or_from _ _ (first_plain es h) (first_plain (others es) (rest_plain es h))
filled_plain (X.Eq a b) es i h = or_from _ _ (first_plain es h) (first_plain (others es) (rest_plain es h))
filled_plain (X.And a b) es i h = or_from _ _ (first_plain es h) (first_plain (others es) (rest_plain es h))
filled_plain (X.Or a b) es i h = or_from _ _ (first_plain es h) (first_plain (others es) (rest_plain es h))
filled_plain (X.Imp a b) es i h = or_from _ _ (first_plain es h) (first_plain (others es) (rest_plain es h))
filled_plain (X.Padd t a b) es i h = or_from _ _ (first_plain es h) (first_plain (others es) (rest_plain es h))
filled_plain (X.WordUnary op a) es i h = first_plain es h
filled_plain (X.Cast op m a) es i h = first_plain es h
filled_plain (X.ToNat a) es i h = first_plain es h
filled_plain (X.ToInt a) es i h = first_plain es h
filled_plain (X.ToWord m a) es i h = first_plain es h
filled_plain (X.Negate a) es i h = first_plain es h
filled_plain (X.Between low a high) es i h = first_plain es h
filled_plain (X.Not a) es i h = first_plain es h
filled_plain (X.Tagged t a) es i h = first_plain es h
filled_plain (X.PtrOk t a) es i h = first_plain es h
filled_plain (X.If c a b) es i h = let k = rest_plain es h in or_from _ _ (or_from _ _ (first_plain es h) (first_plain (others es) k)) (first_plain (others (others es)) (rest_plain (others es) k))
filled_plain (X.At t a path) es i h = or_from _ _ (first_plain es h) (path_filled_plain path (others es) (rest_plain es h))
filled_plain (X.Load t a path) es i h = or_from _ _ (first_plain es h) (path_filled_plain path (others es) (rest_plain es h))
filled_plain (X.Read t a path) es i h = or_from _ _ (first_plain es h) (path_filled_plain path (others es) (rest_plain es h))
filled_plain (X.Global x path) es i h = path_filled_plain path es h
filled_plain (X.Sel a path) es i h = absurd cc
filled_plain (X.Upd a path b) es i h = absurd cc
filled_plain _ _ _ _ = refl

-- the head of what has no part of a value
head_plain : (e : Exp) → IsPlain e → is_part_of_value (head e) ≡ false
head_plain (X.Between low a high) h = refl
head_plain (X.Sel a path) h = absurd (no_part (has is_part_of_value a) (path_has is_part_of_value path) h)
head_plain (X.Upd a path b) h = absurd (no_part (has is_part_of_value a || path_has is_part_of_value path) (has is_part_of_value b) h)
head_plain _ _ = refl

pub heads_plain : (a b : Exp) → head b ≡ head a → IsPlain a → ArePlain (children b) → IsPlain b
heads_plain a b h i k =
    subst IsPlain (whole b) (filled_plain (head b) (children b) (ap is_part_of_value h ∙ head_plain a i) k)

module _ (ctx : Context) where
  pub record StaysPlain (e a : Exp) : Type 1 where
    pub stays : IsPlain e → IsPlain a

  abbrev pub PlainThere : Claim → Type 1
  PlainThere (expression at e v a) = StaysPlain e a
  PlainThere (program at m m' ks) = Unit {1}

  all_plain : (at : Point) (es as' : List Exp) → length as' ≡ length es → AllHold PlainThere (each at es (owns (words ctx at.names).scope es) as') → ArePlain es → ArePlain as'
  all_plain at [] [] n s h = tt
  all_plain at (e ∷ es) (a ∷ as') n s h = (s.0.stays h.0, all_plain at es as' (one_less (length as') (length es) n) s.1 h.1)
  all_plain at [] (a ∷ as') n s h = absurd cc
  all_plain at (e ∷ es) [] n s h = absurd cc

  both : (at : Point) (a b a' b' : Exp) → StaysPlain a a' → StaysPlain b b' → (has is_part_of_value a || has is_part_of_value b) ≡ false → (has is_part_of_value a' || has is_part_of_value b') ≡ false
  both at a b a' b' s t h = let r = two_plain a b h in or_from _ _ (s.stays r.0) (t.stays r.1.0)

  of_its_width : (o : Option _) (f : _ → List Claim) (P : Type 0) → (of_width o f).holds → AllHold PlainThere (of_width o f).parts → ((n : _) → AllHold PlainThere (f n) → P) → P
  of_its_width None f P h s k = absurd h
  of_its_width (Some n) f P h s k = k n s

  constant_plain : (v : View) (e a : Exp) → constant v e ≡ Some a → IsPlain e → IsPlain a
  constant_plain (AsIs o) (X.WordLit w) a h i = subst IsPlain (some_is h) refl
  constant_plain (AsIs o) (X.NumberLit n) a h i = subst IsPlain (some_is h) refl
  constant_plain (AsIs o) (X.TruthLit b) a h i = subst IsPlain (some_is h) refl
  constant_plain (Unsigned n) (X.WordLit w) a h i = subst IsPlain (some_is h) refl
  constant_plain (Signed n) (X.WordLit w) a h i = subst IsPlain (some_is h) refl
  constant_plain v e a h i = absurd cc

  module _ (at : Point) where
    row_plain : (rule : Rule) (e : Exp) (v : View) (a : Exp) → (expression_row (words ctx at.names).scope at rule e v a).holds → AllHold PlainThere (expression_row (words ctx at.names).scope at rule e v a).parts → IsPlain e → IsPlain a
    row_plain R.Var (X.Var x) v (X.Var y) h s i = refl
    row_plain R.Const e v a h s i = constant_plain v e a h i
    row_plain R.Nat (X.ToNat e) (AsIs o) a h s i = of_its_width (width_in (words ctx at.names).scope e) (λ n. expression at e (Unsigned n) a ∷ []) (IsPlain a) h s (λ n k. k.0.stays i)
    row_plain R.Int (X.ToInt e) (AsIs o) a h s i = of_its_width (width_in (words ctx at.names).scope e) (λ n. expression at e (Signed n) a ∷ []) (IsPlain a) h s (λ n k. k.0.stays i)
    row_plain (R.Word j) e (AsIs o) (X.ToWord n a) h s i = s.0.stays i
    row_plain R.Unat e (Unsigned n) (X.ToNat a) h s i = s.0.stays i
    row_plain R.Sint e (Signed n) (X.ToInt a) h s i = s.0.stays i
    row_plain R.Add (X.WordBinary Wadd a b) v (X.Arith N.Add a' b') h s i = both at a b a' b' s.0 s.1.0 i
    row_plain R.Sub (X.WordBinary Wsub a b) v (X.Arith N.Sub a' b') h s i = both at a b a' b' s.0 s.1.0 i
    row_plain R.Mul (X.WordBinary Wmul a b) v (X.Arith N.Mul a' b') h s i = both at a b a' b' s.0 s.1.0 i
    row_plain R.Neg (X.WordUnary Wneg a) v (X.Negate a') h s i = s.0.stays i
    row_plain R.Udiv (X.WordBinary Wudiv a b) (Unsigned n) (X.Arith N.Div a' b') h s i = both at a b a' b' s.0 s.1.0 i
    row_plain R.Umod (X.WordBinary Wumod a b) (Unsigned n) (X.Arith N.Mod a' b') h s i = both at a b a' b' s.0 s.1.0 i
    row_plain R.Sdiv (X.WordBinary Wsdiv a b) (Signed n) (X.Arith N.Div a' b') h s i = both at a b a' b' s.0 s.1.0 i
    row_plain R.Smod (X.WordBinary Wsmod a b) (Signed n) (X.Arith N.Mod a' b') h s i = both at a b a' b' s.0 s.1.0 i
    row_plain R.Order (X.WordCompare Wult a b) (AsIs o) (X.Lt a' b') h s i = of_its_width (width_in (words ctx at.names).scope a) (λ n. expression at a (Unsigned n) a' ∷ expression at b (Unsigned n) b' ∷ []) (IsPlain (X.Lt a' b')) h s (λ n k. both at a b a' b' k.0 k.1.0 i)
    row_plain R.Order (X.WordCompare Wule a b) (AsIs o) (X.Le a' b') h s i = of_its_width (width_in (words ctx at.names).scope a) (λ n. expression at a (Unsigned n) a' ∷ expression at b (Unsigned n) b' ∷ []) (IsPlain (X.Le a' b')) h s (λ n k. both at a b a' b' k.0 k.1.0 i)
    row_plain R.Order (X.WordCompare Wslt a b) (AsIs o) (X.Lt a' b') h s i = of_its_width (width_in (words ctx at.names).scope a) (λ n. expression at a (Signed n) a' ∷ expression at b (Signed n) b' ∷ []) (IsPlain (X.Lt a' b')) h s (λ n k. both at a b a' b' k.0 k.1.0 i)
    row_plain R.Order (X.WordCompare Wsle a b) (AsIs o) (X.Le a' b') h s i = of_its_width (width_in (words ctx at.names).scope a) (λ n. expression at a (Signed n) a' ∷ expression at b (Signed n) b' ∷ []) (IsPlain (X.Le a' b')) h s (λ n k. both at a b a' b' k.0 k.1.0 i)
    row_plain (R.Eq j) (X.Eq a b) (AsIs o) (X.Eq a' b') h s i = both at a b a' b' s.0 s.1.0 i
    row_plain R.Zext (X.Cast X.Zext m e) (Unsigned j) a h s i = of_its_width (width_in (words ctx at.names).scope e) (λ n. expression at e (Unsigned n) a ∷ []) (IsPlain a) h s (λ n k. k.0.stays i)
    row_plain R.Zext (X.Cast X.Zext m e) (Signed j) a h s i = of_its_width (width_in (words ctx at.names).scope e) (λ n. expression at e (Unsigned n) a ∷ []) (IsPlain a) h s (λ n k. k.0.stays i)
    row_plain R.Sext (X.Cast X.Sext m e) (Signed j) a h s i = of_its_width (width_in (words ctx at.names).scope e) (λ n. expression at e (Signed n) a ∷ []) (IsPlain a) h s (λ n k. k.0.stays i)
    row_plain R.Logic (X.And a b) (AsIs o) (X.And a' b') h s i = both at a b a' b' s.0 s.1.0 i
    row_plain R.Logic (X.Or a b) (AsIs o) (X.Or a' b') h s i = both at a b a' b' s.0 s.1.0 i
    row_plain R.Logic (X.Imp a b) (AsIs o) (X.Imp a' b') h s i = both at a b a' b' s.0 s.1.0 i
    row_plain R.Logic (X.Not a) (AsIs o) (X.Not a') h s i = s.0.stays i
    row_plain R.Cond (X.If c a b) v (X.If c' a' b') h s i =
        let r = plain_children (X.If c a b) i in or_from _ _ (or_from _ _ (s.0.stays r.0) (s.1.0.stays r.1.0)) (s.1.1.0.stays r.1.1.0)
    row_plain R.Op e (AsIs o) a h s i = heads_plain e a h.1 i (all_plain at (children e) (children a) (as_many e a h.1) s (plain_children e i))
    row_plain _ e v a h s i = absurd h

  pub claim_plain : (rule : Rule) (c : Claim) → (table ctx rule c).holds → AllHold PlainThere (table ctx rule c).parts → PlainThere c
  claim_plain rule (expression at e v a) h s = record { stays = row_plain at rule e v a h.1 s }
  claim_plain rule (program at m m' ks) h s = tt
