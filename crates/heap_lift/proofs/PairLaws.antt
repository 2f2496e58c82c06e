-- Which parts of a Bind are no pair of tests, and which are one.
use Rattle.std.proofs.Common.{◌≡◌, true, false, ◌&&◌, List, [], ◌∷◌, length, refl, ap, ◌∙◌}
use Rattle.std.proofs.lemmas.Bool.{and_parts, and_from, false_from_ne_true}
use Rattle.c_values.specs.Name.{Name}
use Rattle.c_values.specs.Types.{CType, same_type}
use Rattle.c_values.specs.CodeSameType.{same_type-refl}
use Rattle.expression_lang.proofs.Decided.{type_is}
use Rattle.expression_lang.specs.Expression as E
use Rattle.expression_lang.specs.Expression.{Exp}
use Rattle.ac_expr.specs.SameExp.{same_exp}
use Rattle.ac_expr.proofs.SameExps.{exp_is}
use Rattle.monad_lang.specs.Program as M
use Rattle.monad_lang.specs.Program.{Mon}
use Rattle.rule_heap.specs.HeapLifted.{is_pair}
use Rattle.heap_lift.specs.CodeLifted.{IsNoPointerTest, IsNoTagTest}
use Rattle.ac_expr.proofs.Itself.{exp_itself}

pub names_no_pair : (m : Mon) (xs : List Name) (n : Mon) → (length xs ≡ 0 → ⊥) → is_pair m xs n ≡ false
names_no_pair m [] n h = absurd (h refl)
names_no_pair (M.Guard (E.PtrOk t p)) (x ∷ xs) (M.Bind (M.Guard (E.Tagged u q)) [] r) h = refl
names_no_pair m (x ∷ xs) n h = refl

pub no_pointer_no_pair : (m : Mon) (xs : List Name) (n : Mon) → IsNoPointerTest m → is_pair m xs n ≡ false
no_pointer_no_pair (M.Guard (E.PtrOk t p)) xs n h = absurd h
no_pointer_no_pair m xs n h = refl

pub no_tag_no_pair : (m : Mon) (xs : List Name) (n : Mon) → IsNoTagTest n → is_pair m xs n ≡ false
no_tag_no_pair (M.Guard (E.PtrOk t p)) [] (M.Bind (M.Guard (E.Tagged u q)) [] r) h = absurd h
no_tag_no_pair _ _ _ _ = refl

-- the tests are of different types, or look at different pointers
tests_no_pair : (t u : CType) (p q : Exp) (r m n : Mon) (xs : List Name) → m ≡ M.Guard (E.PtrOk t p) → xs ≡ [] → n ≡ M.Bind (M.Guard (E.Tagged u q)) [] r →
    (same_type u t && same_exp q p) ≡ false → is_pair m xs n ≡ false
tests_no_pair t u p q r m n xs a b c h =
    ap (λ x. is_pair x xs n) a ∙ ap (λ y. is_pair (M.Guard (E.PtrOk t p)) y n) b ∙ ap (λ z. is_pair (M.Guard (E.PtrOk t p)) [] z) c ∙ h

pub other_type_no_pair : (t u : CType) (p q : Exp) (r m n : Mon) (xs : List Name) → m ≡ M.Guard (E.PtrOk t p) → xs ≡ [] → n ≡ M.Bind (M.Guard (E.Tagged u q)) [] r →
    (u ≡ t → ⊥) → is_pair m xs n ≡ false
other_type_no_pair t u p q r m n xs a b c h =
    tests_no_pair t u p q r m n xs a b c (false_from_ne_true (same_type u t && same_exp q p) (λ k. h (type_is u t (and_parts (same_type u t) (same_exp q p) k).0)))

pub other_root_no_pair : (t u : CType) (p q : Exp) (r m n : Mon) (xs : List Name) → m ≡ M.Guard (E.PtrOk t p) → xs ≡ [] → n ≡ M.Bind (M.Guard (E.Tagged u q)) [] r →
    (q ≡ p → ⊥) → is_pair m xs n ≡ false
other_root_no_pair t u p q r m n xs a b c h =
    tests_no_pair t u p q r m n xs a b c (false_from_ne_true (same_type u t && same_exp q p) (λ k. h (exp_is q p (and_parts (same_type u t) (same_exp q p) k).1)))

pub same_pair : (t : CType) (p : Exp) (r : Mon) → is_pair (M.Guard (E.PtrOk t p)) [] (M.Bind (M.Guard (E.Tagged t p)) [] r) ≡ true
same_pair t p r = and_from (same_type t t) (same_exp p p) (same_type-refl t) (exp_itself p)
