-- The ends of lists that are left, lists of parts, and the trees of shapes.
use Rattle.std.proofs.Common.{◌≡◌, ℕ, ◌≤◌, ◌<◌, List, [], ◌∷◌, ◌++◌, length, map, Option, Some, Bor, refl, ap, sym, subst, ◌∙◌}
use Rattle.ac_sx.specs.Tree.{Tree, Trees, no_trees, more}
use Rattle.ac_sx.specs.Writing.{Writing, written, all_written}
use Rattle.c_values.specs.declared.types.CType as C
use Rattle.c_values.specs.CodeTypes.{type_of}
use Rattle.expression_lang.specs.declared.expression.Exp as X
use Rattle.expression_lang.specs.declared.expression.Exp.{size-Exp}
use Rattle.expression_lang.specs.Expression as E
use Rattle.expression_lang.specs.CodeExpression.{exp_of}
use Rattle.expression_lang.specs.CodeShape.{shape_of}
use Rattle.expression_text.specs.ExpText.{exp_tree}
use Rattle.expression_text.specs.Lists.{trees_for, joined}
use Rattle.expression_text.specs.CodeWriting.{shape_tree, type_end, type_ends, exp_end, exp_ends, exp_goes_on, LastIsSmaller, AreWithin}

module _ {S : Type 0} (w : Writing S) where
  pub type_ends_push : (xs : List (Bor C.CType)) (x : Bor C.CType) (s : S) → type_ends w (xs ++ x ∷ []) s ≡ type_ends w xs (type_end w (type_of x.now) s)
  type_ends_push [] x s = refl
  type_ends_push (y ∷ ys) x s = ap (type_end w (type_of y.now)) (type_ends_push ys x s)

  pub exp_ends_push : (xs : List (Bor X.Exp)) (x : Bor X.Exp) (s : S) → exp_ends w (xs ++ x ∷ []) s ≡ exp_ends w xs (exp_end w (exp_of x.now) s)
  exp_ends_push [] x s = refl
  exp_ends_push (y ∷ ys) x s = ap (exp_end w (exp_of y.now)) (exp_ends_push ys x s)

  -- one list more that is open
  pub exp_left : (xs now : List (Bor X.Exp)) (rest last : Bor X.Exp) (o : Option (Bor X.Exp)) (old new whole : S) → o ≡ Some last → now ≡ xs ++ rest ∷ [] → exp_goes_on w (exp_of rest.now) o new ≡ written w old (exp_tree (exp_of rest.now)) →
      exp_ends w xs (written w old (exp_tree (exp_of rest.now))) ≡ whole → exp_ends w now (written w new (exp_tree (exp_of last.now))) ≡ whole
  exp_left xs now rest last o old new whole is pushed goes so_far =
      ap (λ ys. exp_ends w ys (written w new (exp_tree (exp_of last.now)))) pushed
      ∙ exp_ends_push xs rest (written w new (exp_tree (exp_of last.now)))
      ∙ ap (exp_ends w xs) (ap (λ p. exp_goes_on w (exp_of rest.now) p new) (sym is) ∙ goes)
      ∙ so_far

  -- the end of the innermost
  pub exp_closed : (xs now : List (Bor X.Exp)) (last : Bor X.Exp) (old new whole : S) → xs ≡ now ++ last ∷ [] → new ≡ exp_end w (exp_of last.now) old → exp_ends w xs old ≡ whole → exp_ends w now new ≡ whole
  exp_closed xs now last old new whole popped ended so_far =
      ap (exp_ends w now) ended ∙ sym (exp_ends_push now last old) ∙ ap (λ ys. exp_ends w ys old) (sym popped) ∙ so_far

  -- some trees, and then others
  pub all_joined : (ts us : Trees) (s : S) → all_written w s (joined ts us) ≡ all_written w (all_written w s ts) us
  all_joined no_trees us s = refl
  all_joined (more t ts) us s = all_joined ts us (written w s t)

  -- no part is left
  pub list_ended : {X A : Type 0} (view : X → A) (tree : A → Tree) (xs : List X) (s whole : S) → length xs ≡ 0 → all_written w s (trees_for tree (map view xs)) ≡ whole → s ≡ whole
  list_ended view tree [] s whole none so_far = so_far
  list_ended view tree (x ∷ xs) s whole none so_far = absurd cc

within_push : (n : ℕ) (xs : List (Bor X.Exp)) (x : Bor X.Exp) → AreWithin n xs → size-Exp x.now ≤ n → AreWithin n (xs ++ x ∷ [])
within_push n [] x are le = (le, tt)
within_push n (y ∷ ys) x are le = (are.0, within_push n ys x are.1 le)

within_pop : (n : ℕ) (xs : List (Bor X.Exp)) (x : Bor X.Exp) → AreWithin n (xs ++ x ∷ []) → AreWithin n xs × (size-Exp x.now ≤ n)
within_pop n [] x are = (tt, are.0)
within_pop n (y ∷ ys) x are = let p = within_pop n ys x are.1 in ((are.0, p.0), p.1)

-- one list more that is open, and one fewer
pub within_opened : (n : ℕ) (xs now : List (Bor X.Exp)) (x : Bor X.Exp) → now ≡ xs ++ x ∷ [] → AreWithin n xs → size-Exp x.now ≤ n → AreWithin n now
within_opened n xs now x pushed are le = subst (AreWithin n) (sym pushed) (within_push n xs x are le)

pub within_closed : (n : ℕ) (xs now : List (Bor X.Exp)) (x : Bor X.Exp) → xs ≡ now ++ x ∷ [] → AreWithin n xs → AreWithin n now × (size-Exp x.now ≤ n)
within_closed n xs now x popped are = within_pop n now x (subst (AreWithin n) popped are)

pub last_smaller : (n : ℕ) (o : Option (Bor X.Exp)) (last : Bor X.Exp) → o ≡ Some last → LastIsSmaller o n → size-Exp last.now < n
last_smaller n o last is less = subst (λ p. LastIsSmaller p n) is less

pub shape_text : (e : E.Exp) → shape_tree (shape_of e) ≡ exp_tree e
shape_text (E.Between low a high) = refl
shape_text _ = refl

pub text_shape : (e : E.Exp) → exp_tree e ≡ shape_tree (shape_of e)
text_shape e = sym (shape_text e)
