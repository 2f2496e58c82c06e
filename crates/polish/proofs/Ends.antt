-- Steps are made until none is left: where nothing shorter stands in the place of a well-sorted expression, no row of the table
-- makes another one of it.
use Rattle.std.proofs.Common.{◌≡◌, ℕ, ◌==◌, Bool, true, false, ◌&&◌, List, Option, Some, None, inl, inr, refl, sym, ap, ◌∙◌, subst, arith}
use Rattle.std.proofs.lemmas.Bool.{and_parts, and_from, eq-eqb}
use Rattle.c_values.specs.Word.{Word}
use Rattle.c_values.specs.Number.{Add, least, greatest}
use Rattle.expression_lang.specs.Expression.{Exp, WordLit, NumberLit, TruthLit, ToNat, ToInt, ToWord, Arith, Between, Eq, And, Or, Imp, Not, If}
use Rattle.expression_lang.specs.Sort.{Sort, Scope, sort_of, is_width, is_number, is_word_of, word_width, number_sort, word_sort, of_word}
use Rattle.expression_lang.proofs.Inversion.{where_inv, word_inv, width_inv}
use Rattle.ac_expr.specs.Fact.{Fact}
use Rattle.ac_expr.specs.Known.{IsKnown}
use Rattle.ac_expr.specs.SameExp.{same_exp}
use Rattle.ac_expr.specs.Step.{constant, IsItsValue, IsFlag, Shortens, IsStep}
use Rattle.ac_expr.specs.CodeConstants.{as_constant}
use Rattle.ac_expr.proofs.ConstantsSound.{right}
use Rattle.ac_expr.proofs.ConstantsComplete.{complete}
use Rattle.ac_expr.proofs.Itself.{exp_itself}
use Rattle.monad_lang.specs.Program.{Mon}
use Rattle.rule_eq.specs.Rule.{Point}
use Rattle.expression_steps.specs.Rewritten.{or_else, direct_nodes}
use Rattle.polish.specs.Direct.{direct_step}
use Rattle.expression_steps.specs.Shortened.{folded, where_true, shorter_and, shorter_or, shorter_imp, shorter_if, is_flag, shorter_sum, shorter_value, shorter, shortened}
use Rattle.expression_steps.specs.Known.{is_known}
use Rattle.polish.specs.Polished.{shortened_in}
use Rattle.polish.proofs.Cases.{some_same}
use Rattle.polish.proofs.Fewer.{steps_end}
use Rattle.expression_steps.proofs.KnownIs.{known_exactly}
use Rattle.polish.proofs.Shortened.{shortened_nodes}

-- after the steps in the expressions that stand in a program directly, none is left there
pub none_left : (at : Point) (m : Mon) → direct_step shortened at (shortened_in at m).program ≡ None
none_left at m = steps_end shortened (λ g. shortened_nodes g) at (direct_nodes m) m (omega arith)

some_none : {A : Type 0} (a : A) → ◌≡◌ {A = Option A} (Some a) None → ⊥
some_none a h = cc

where_none : (b : Bool) (e : Exp) → b ≡ true → where_true b e ≡ None → ⊥
where_none true e h k = some_none e k
where_none false e h k = absurd cc

and_right : (a : Exp) → shorter_and a (TruthLit true) ≡ None → ⊥
and_right (TruthLit true) h = some_none (TruthLit true) h
and_right (TruthLit false) h = some_none (TruthLit false) h
and_right a h = some_none a h

if_same : (c a : Exp) → shorter_if c a a ≡ None → ⊥
if_same (TruthLit true) a h = some_none a h
if_same (TruthLit false) a h = some_none a h
if_same c a h = where_none (same_exp a a) a (exp_itself a) h

flag_found : (u v w : Word) → IsFlag u v w → is_flag u v w ≡ true
flag_found u v w h =
    and_from (u.width == w.width && u.bits == 1 && v.width == w.width && v.bits == w.bits) (w.bits == 0)
    (and_from (u.width == w.width && u.bits == 1 && v.width == w.width) (v.bits == w.bits)
    (and_from (u.width == w.width && u.bits == 1) (v.width == w.width)
    (and_from (u.width == w.width) (u.bits == 1) (eq-eqb u.width w.width (ap (λ x. x.width) h.one))
    (eq-eqb u.bits 1 (ap (λ x. x.bits) h.one)))
    (eq-eqb v.width w.width (ap (λ x. x.width) h.zero)))
    (eq-eqb v.bits w.bits (ap (λ x. x.bits) h.zero)))
    (eq-eqb w.bits 0 h.bits)

word_found : (n : ℕ) (o : Option Sort) → word_width o ≡ Some n → is_word_of n o ≡ true
word_found n o h = subst (λ q. is_word_of n q ≡ true) (sym (width_inv o n h)) (eq-eqb n n refl)

wide : (g : Scope) (n : ℕ) (a : Exp) (o : Sort) →
    of_word (word_width (sort_of g (ToWord n a))) (λ m. number_sort) ≡ Some o → is_width n ≡ true
wide g n a o k =
    let i = word_inv (word_width (sort_of g (ToWord n a))) (λ m. number_sort) o k in
    let w = where_inv (is_width n && is_number (sort_of g a)) (word_sort n) _ (width_inv (sort_of g (ToWord n a)) i.0 i.1) in
    (and_parts (is_width n) (is_number (sort_of g a)) w.0).0

value_found : (fs : List Fact) (sign : Bool) (n : ℕ) (a : Exp) → is_width n ≡ true →
    IsKnown fs (Between (least sign n) a (greatest sign n)) → shorter_value fs sign (ToWord n a) ≡ None → ⊥
value_found fs sign n a w h =
    let r = Between (least sign n) a (greatest sign n) in
    where_none (is_width n && is_known fs r) a (and_from (is_width n) (is_known fs r) w ((known_exactly fs r).1 h))

-- where a row makes a well-sorted expression shorter, something shorter stands there
found : (g : Scope) (fs : List Fact) (e r : Exp) (o : Sort) → sort_of g e ≡ Some o → Shortens g fs e r →
    shorter g fs e ≡ None → ⊥
found g fs (Not (Not a)) r o s h k = some_none a k
found g fs (And a b) r o s (inl h) k = some_none b (subst (λ x. shorter_and x b ≡ None) h.0 k)
found g fs (And a b) r o s (inr (inl h)) k = and_right a (subst (λ x. shorter_and a x ≡ None) h.0 k)
found g fs (And a b) r o s (inr (inr h)) k = some_none (TruthLit false) (subst (λ x. shorter_and x b ≡ None) h.0 k)
found g fs (Or a b) r o s (inl h) k = some_none b (subst (λ x. shorter_or x b ≡ None) h.0 k)
found g fs (Or a b) r o s (inr h) k = some_none (TruthLit true) (subst (λ x. shorter_or x b ≡ None) h.0 k)
found g fs (Imp a b) r o s (inl h) k = some_none b (subst (λ x. shorter_imp x b ≡ None) h.0 k)
found g fs (Imp a b) r o s (inr h) k = some_none (TruthLit true) (subst (λ x. shorter_imp x b ≡ None) h.0 k)
found g fs (If c a b) r o s (inl h) k = some_none a (subst (λ x. shorter_if x a b ≡ None) h.0 k)
found g fs (If c a b) r o s (inr (inl h)) k = some_none b (subst (λ x. shorter_if x a b ≡ None) h.0 k)
found g fs (If c a b) r o s (inr (inr h)) k = if_same c a (subst (λ x. shorter_if c a x ≡ None) h.0 k)
found g fs (Eq a b) r o s h k =
    where_none (same_exp b a) (TruthLit true) (subst (λ x. same_exp x a ≡ true) (sym h.0) (exp_itself a)) k
found g fs (Arith Add a b) r o s h k = some_none a (subst (λ x. shorter_sum a x ≡ None) h.0 k)
found g fs (Not (Eq (If c (WordLit u) (WordLit v)) (WordLit w))) r o s h k = where_none (is_flag u v w) c
    (flag_found u v w h.0) k
found g fs (ToWord n (ToNat a)) r o s h k = where_none (is_word_of n (sort_of g a)) a (word_found n (sort_of g a) h.0) k
found g fs (ToWord n (ToInt a)) r o s h k = where_none (is_word_of n (sort_of g a)) a (word_found n (sort_of g a) h.0) k
found g fs (ToNat (ToWord n a)) r o s h k = value_found fs false n a (wide g n a o s) h.0 k
found g fs (ToInt (ToWord n a)) r o s h k = value_found fs true n a (wide g n a o s) h.0 k
found g fs e r o s h k = absurd h

-- constants alone have a value that isn't themselves where they aren't constants
unfolded : (g : Scope) (e r : Exp) (o : Sort) → sort_of g e ≡ Some o → folded g.layout e ≡ None → IsItsValue g.layout e r →
    r ≡ e
unfolded g (WordLit w) r o s k h = sym (some_same (WordLit w) r h.1)
unfolded g (NumberLit n) r o s k h = sym (some_same (NumberLit n) r h.1)
unfolded g (TruthLit b) r o s k h = sym (some_same (TruthLit b) r h.1)
unfolded g e r o s k h =
    let x = complete g e o s h.0 in
    let y = right g.layout e x.value x.is in
    let v : as_constant (Some x.value) ≡ Some r = ap constant (sym y.value) ∙ h.1 in
    let n : as_constant (Some x.value) ≡ None = ap as_constant (sym x.is) ∙ k in
    absurd (some_none r (sym v ∙ n))

neither : (o q : Option Exp) → or_else o q ≡ None → (o ≡ None) × (q ≡ None)
neither (Some a) q h = absurd (some_none a h)
neither None q h = (refl, h)

-- no row of the table makes another expression of it
pub no_row_left : (g : Scope) (fs : List Fact) (e : Exp) (o : Sort) → sort_of g e ≡ Some o → shortened g fs e ≡ None →
    (r : Exp) → IsStep g fs e r → r ≡ e
no_row_left g fs e o s h r (inl k) =
    absurd (found g fs e r o s k (neither (folded g.layout e) (shorter g fs e) h).1)
no_row_left g fs e o s h r (inr k) = unfolded g e r o s (neither (folded g.layout e) (shorter g fs e) h).0 k
