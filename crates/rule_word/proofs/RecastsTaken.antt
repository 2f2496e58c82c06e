-- A program that is taken at some kinds is taken, recast, at other kinds of the same words.
use Rattle.std.proofs.Common.{◌≡◌, ◌==◌, ℕ, Bool, true, false, cond, List, [], ◌∷◌, map, Option, Some, None, refl, sym, subst, ap, ap₂}
use Rattle.std.proofs.lemmas.Bool.{and_parts, eqb-true}
use Rattle.std.proofs.lemmas.Bool.Decides.{Decides-eqb}
use Rattle.c_values.specs.Name.{Name, are_distinct}
use Rattle.expression_lang.specs.Expression.{Exp, Var, ToNat, ToInt, ToWord}
use Rattle.expression_lang.specs.Sort.{Kind, WordKind, NatKind, IntKind, BoolKind, word_sort_of}
use Rattle.monad_lang.specs.Program.{Mon}
use Rattle.rule_trees.specs.RuleTree.{Accepts}
use Rattle.rule_word.specs.Rule.{Context, Point, program}
use Rattle.rule_word.specs.Scopes.{result_as_list}
use Rattle.rule_word.specs.Table.{table, recast, recast_first, recasts}
use Rattle.rule_word.specs.ProgramsAbstracted.{AbstractedProgram, word_kind_of, same_kind, same_kinds, recast_by, result_names, in_words, through_words, recast_or, recast_to}

test_self : (n : ℕ) (a : Exp) → cond (n == n) (Some a) None ≡ Some a
test_self n a = ap (λ t. cond t (Some a) None) ((Decides-eqb n n).1 refl)

to_word : (j : Kind) (e : Exp) → (a : Exp) × (recast j (word_kind_of (word_sort_of j)) e ≡ Some a)
to_word (WordKind n) e = (e, test_self n e)
to_word (NatKind n) e = (ToWord n e, test_self n (ToWord n e))
to_word (IntKind n) e = (ToWord n e, test_self n (ToWord n e))
to_word BoolKind e = (e, refl)

from_word : (k : Kind) (e : Exp) → (a : Exp) × (recast (word_kind_of (word_sort_of k)) k e ≡ Some a)
from_word (WordKind n) e = (e, test_self n e)
from_word (NatKind n) e = (ToNat e, test_self n (ToNat e))
from_word (IntKind n) e = (ToInt e, test_self n (ToInt e))
from_word BoolKind e = (e, refl)

same_kind_is : (j k : Kind) → same_kind j k ≡ true → j ≡ k
same_kind_is (WordKind m) (WordKind n) h = ap (λ x. WordKind x) (eqb-true m n h)
same_kind_is (NatKind m) (NatKind n) h = ap (λ x. NatKind x) (eqb-true m n h)
same_kind_is (IntKind m) (IntKind n) h = ap (λ x. IntKind x) (eqb-true m n h)
same_kind_is BoolKind BoolKind h = refl
same_kind_is _ _ h = absurd cc

same_kinds_are : (js ks : List Kind) → same_kinds js ks ≡ true → js ≡ ks
same_kinds_are [] [] h = refl
same_kinds_are (j ∷ js) (k ∷ ks) h = let r = and_parts (same_kind j k) (same_kinds js ks) h in ap₂ (λ x xs. x ∷ xs) (same_kind_is j k r.0) (same_kinds_are js ks r.1)
same_kinds_are [] (k ∷ ks) h = absurd cc
same_kinds_are (j ∷ js) [] h = absurd cc

distinct : (js : List Kind) → are_distinct (result_names js) ≡ true
distinct [] = refl
distinct (j ∷ js) = refl

module _ (ctx : Context) (at : Point) (m : Mon) where
  abbrev Taken : List Kind → AbstractedProgram → Type 0
  Taken ks x = Accepts (table ctx) x.tree (program at m x.right ks)

  by_taken : (js ks : List Kind) (ys : List Name) (es : List Exp) (x : AbstractedProgram) → recasts js ks ys ≡ Some es → are_distinct ys ≡ true → Taken js x → Taken ks (recast_by js ys (Some es) x)
  by_taken js ks ys es x h d t = ((h, d), (t, tt))

  there_taken : (js ks : List Kind) (ys : List Name) (x : AbstractedProgram) (es : List Exp) → recasts js ks ys ≡ Some es → are_distinct ys ≡ true → Taken js x → Taken ks (recast_by js ys (recasts js ks ys) x)
  there_taken js ks ys x es h d t = subst (λ o. Taken ks (recast_by js ys o x)) (sym h) (by_taken js ks ys es x h d t)

  through_taken : (r : Option Kind) (ks : List Kind) (x : AbstractedProgram) → map word_sort_of (result_as_list r) ≡ map word_sort_of ks → Taken (result_as_list r) x →
      Taken ks (through_words (result_as_list r) ks (result_names (result_as_list r)) x)
  through_taken None [] x h t = there_taken [] [] [] (recast_by [] [] (recasts [] [] []) x) [] refl refl (there_taken [] [] [] x [] refl refl t)
  through_taken None (k ∷ ks) x h t = absurd cc
  through_taken (Some j) [] x h t = absurd cc
  through_taken (Some j) (k ∷ k' ∷ ks) x h t = absurd cc
  through_taken (Some j) (k ∷ []) x h t =
      let same_sort : word_sort_of j ≡ word_sort_of k = cc in
      let e : Exp = Var (36 ∷ 114 ∷ []) in
      let a = to_word j e in
      let b = subst (λ c. (a : Exp) × (recast (word_kind_of c) k e ≡ Some a)) (sym same_sort) (from_word k e) in
      let ys = result_names (j ∷ []) in
      there_taken (in_words (j ∷ [])) (k ∷ []) ys (recast_by (j ∷ []) ys (recasts (j ∷ []) (in_words (j ∷ [])) ys) x) (b.0 ∷ []) (ap (λ o. first o) b.1) refl
      (there_taken (j ∷ []) (in_words (j ∷ [])) ys x (a.0 ∷ []) (ap (λ o. first o) a.1) refl t)
    where
      first : Option Exp → Option (List Exp)
      first o = recast_first o (Some [])

  or_taken : (r : Option Kind) (ks : List Kind) (x : AbstractedProgram) (o : Option (List Exp)) → recasts (result_as_list r) ks (result_names (result_as_list r)) ≡ o → map word_sort_of (result_as_list r) ≡ map word_sort_of ks →
      Taken (result_as_list r) x → Taken ks (recast_or (result_as_list r) ks (result_names (result_as_list r)) o x)
  or_taken r ks x None e h t = through_taken r ks x h t
  or_taken r ks x (Some es) e h t = by_taken (result_as_list r) ks (result_names (result_as_list r)) es x e (distinct (result_as_list r)) t

  pub recast_taken : (r : Option Kind) (ks : List Kind) (x : AbstractedProgram) (b : Bool) → same_kinds (result_as_list r) ks ≡ b → map word_sort_of (result_as_list r) ≡ map word_sort_of ks →
      Taken (result_as_list r) x → Taken ks (recast_to b (result_as_list r) ks x)
  recast_taken r ks x true e h t = subst (λ js. Taken js x) (same_kinds_are (result_as_list r) ks e) t
  recast_taken r ks x false e h t = or_taken r ks x (recasts (result_as_list r) ks (result_names (result_as_list r))) refl h t
