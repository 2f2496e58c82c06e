-- Values that are bound at some kinds, at other kinds of the same words.
use Rattle.std.proofs.Common.{◌≡◌, ℕ, ◌==◌, Bool, true, false, cond, not, List, [], ◌∷◌, map, Option, Some, None, refl, sym, ap, ap₂, ◌∙◌}
use Rattle.std.proofs.lemmas.Bool.{and_parts, cond-true, eqb-true, not-true}
use Rattle.c_values.specs.Name.{Name, same_name, with_name, is_among, are_distinct}
use Rattle.c_values.specs.Word.{IsWord, word, unsigned, signed}
use Rattle.c_values.specs.Value.{Value, Bits, Number, word_in, number_in}
use Rattle.c_values.specs.Layout.{Layout}
use Rattle.c_values.proofs.Laid.{same_name-refl}
use Rattle.c_values.proofs.WordValues.{word-unsigned, word-signed}
use Rattle.c_values.proofs.Options.{some_is}
use Rattle.expression_lang.specs.Expression as X
use Rattle.expression_lang.specs.Expression.{Exp}
use Rattle.expression_lang.specs.Evaluation.{Env, State, value}
use Rattle.expression_lang.specs.Sort.{Kind, WordKind, NatKind, IntKind, BoolKind, word_sort_of}
use Rattle.expression_lang.specs.States.{IsOfSort}
use Rattle.expression_lang.specs.Signature.{bound, values_of}
use Rattle.expression_lang.specs.View.{view_at, views_at}
use Rattle.expression_lang.proofs.Bound.{bound_stays}
use Rattle.program_facts.specs.Lasting.{AreOfSorts}
use Rattle.rule_word.specs.Table.{recast, recast_first, recasts}

-- where a test gives an answer, it holds, and that is the answer
tested : (b : Bool) (e a : Exp) → cond b (Some e) None ≡ Some a → (b ≡ true) × (e ≡ a)
tested true e a h = (refl, some_is h)
tested false e a h = absurd cc

pub same_widths : (m n : ℕ) (e a : Exp) → cond (m == n) (Some e) None ≡ Some a → (m ≡ n) × (e ≡ a)
same_widths m n e a h = let t = tested (m == n) e a h in (eqb-true m n t.0, t.1)

-- the words are the same
pub recast_sort : (j k : Kind) (e a : Exp) → recast j k e ≡ Some a → word_sort_of j ≡ word_sort_of k
recast_sort (WordKind n) (WordKind m) e a h = ap (λ k. word_sort_of (WordKind k)) (sym (same_widths m n e a h).0)
recast_sort (NatKind n) (NatKind m) e a h = ap (λ k. word_sort_of (WordKind k)) (sym (same_widths m n e a h).0)
recast_sort (IntKind n) (IntKind m) e a h = ap (λ k. word_sort_of (WordKind k)) (sym (same_widths m n e a h).0)
recast_sort BoolKind BoolKind e a h = refl
recast_sort (WordKind n) (NatKind m) e a h = ap (λ k. word_sort_of (WordKind k)) (sym (same_widths m n (X.ToNat e) a h).0)
recast_sort (WordKind n) (IntKind m) e a h = ap (λ k. word_sort_of (WordKind k)) (sym (same_widths m n (X.ToInt e) a h).0)
recast_sort (NatKind n) (WordKind m) e a h = ap (λ k. word_sort_of (WordKind k)) (sym (same_widths m n (X.ToWord m e) a h).0)
recast_sort (IntKind n) (WordKind m) e a h = ap (λ k. word_sort_of (WordKind k)) (sym (same_widths m n (X.ToWord m e) a h).0)
recast_sort _ _ e a h = absurd cc

is_bits : (n : ℕ) (v : Value) → IsOfSort (word_sort_of (WordKind n)) v → (v ≡ Bits (word_in v)) × IsWord n (word_in v)
is_bits n (Bits w) h = (refl, h)
is_bits _ _ h = absurd h

module _ (l : Layout) (env : Env) (s : State) where
  pub recast_value : (j k : Kind) (e a : Exp) (u : Value) → recast j k e ≡ Some a → value l env s e ≡ view_at j u → IsOfSort (word_sort_of j) u → value l env s a ≡ view_at k u
  recast_value (WordKind n) (WordKind m) e a u h v i = ap (value l env s) (sym (same_widths m n e a h).1) ∙ v
  recast_value (NatKind n) (NatKind m) e a u h v i = ap (value l env s) (sym (same_widths m n e a h).1) ∙ v
  recast_value (IntKind n) (IntKind m) e a u h v i = ap (value l env s) (sym (same_widths m n e a h).1) ∙ v
  recast_value BoolKind BoolKind e a u h v i = ap (value l env s) (sym (some_is h)) ∙ v
  recast_value (WordKind n) (NatKind m) e a u h v i = ap (value l env s) (sym (same_widths m n (X.ToNat e) a h).1) ∙ ap (λ x. Number (unsigned (word_in x))) v
  recast_value (WordKind n) (IntKind m) e a u h v i = ap (value l env s) (sym (same_widths m n (X.ToInt e) a h).1) ∙ ap (λ x. Number (signed (word_in x))) v
  recast_value (NatKind n) (WordKind m) e a u h v i =
      let w = same_widths m n (X.ToWord m e) a h in
      let b = is_bits n u i in
      ap (value l env s) (sym w.1) ∙ ap₂ (λ k x. Bits (word k (number_in x))) w.0 v ∙ ap (λ x. Bits x) (word-unsigned n (word_in u) b.1) ∙ sym b.0
  recast_value (IntKind n) (WordKind m) e a u h v i =
      let w = same_widths m n (X.ToWord m e) a h in
      let b = is_bits n u i in
      ap (value l env s) (sym w.1) ∙ ap₂ (λ k x. Bits (word k (number_in x))) w.0 v ∙ ap (λ x. Bits x) (word-signed n (word_in u) b.1) ∙ sym b.0
  recast_value _ _ e a u h v i = absurd cc

pub first_inv : (o : Option Exp) (r : Option (List Exp)) (es : List Exp) → recast_first o r ≡ Some es → (e : Exp) × (as' : List Exp) × (o ≡ Some e) × (r ≡ Some as') × (es ≡ e ∷ as')
first_inv (Some e) (Some as') es h = (e, as', refl, refl, sym (some_is h))
first_inv _ _ es h = absurd cc

pub recast_sorts : (js ks : List Kind) (ys : List Name) (es : List Exp) → recasts js ks ys ≡ Some es → map word_sort_of js ≡ map word_sort_of ks
recast_sorts [] [] [] es h = refl
recast_sorts (j ∷ js) (k ∷ ks) (y ∷ ys) es h =
    let f = first_inv (recast j k (X.Var y)) (recasts js ks ys) es h in
    ap₂ (λ c cs. c ∷ cs) (recast_sort j k (X.Var y) f.0 f.2) (recast_sorts js ks ys f.1 f.3)
recast_sorts [] [] (y ∷ ys) es h = absurd cc
recast_sorts [] (k ∷ ks) ys es h = absurd cc
recast_sorts (j ∷ js) [] ys es h = absurd cc
recast_sorts (j ∷ js) (k ∷ ks) [] es h = absurd cc

-- the names have the values at their kinds
abbrev Holds : Env → List Name → List Kind → List Value → Type 0
Holds env [] [] [] = Unit {0}
Holds env (y ∷ ys) (j ∷ js) (u ∷ us) = (env y ≡ view_at j u) × Holds env ys js us
Holds env _ _ _ = Unit {0}

bound_holds : (ys : List Name) (js : List Kind) (us : List Value) (env : Env) → are_distinct ys ≡ true → Holds (bound ys (views_at js us) env) ys js us
bound_holds [] [] [] env h = tt
bound_holds (y ∷ ys) (j ∷ js) (u ∷ us) env h =
    let d = and_parts (not (is_among y ys)) (are_distinct ys) h in (
      bound_stays y ys (views_at js us) (with_name y (view_at j u) env) (not-true (is_among y ys) d.0) ∙ cond-true (same_name y y) (view_at j u) (env y) (same_name-refl y),
      bound_holds ys js us (with_name y (view_at j u) env) d.1,
    )
bound_holds _ _ _ env h = tt

module _ (l : Layout) (env : Env) (s : State) where
  recast_each : (js ks : List Kind) (ys : List Name) (es : List Exp) (us : List Value) → recasts js ks ys ≡ Some es → Holds env ys js us → AreOfSorts (map word_sort_of js) us → values_of l env s es ≡ views_at ks us
  recast_each [] [] [] es [] h v i = ap (values_of l env s) (sym (some_is h))
  recast_each (j ∷ js) (k ∷ ks) (y ∷ ys) es (u ∷ us) h v i =
      let f = first_inv (recast j k (X.Var y)) (recasts js ks ys) es h in
      ap (values_of l env s) f.4 ∙ ap₂ (λ x xs. x ∷ xs) (recast_value l env s j k (X.Var y) f.0 u f.2 v.0 i.0) (recast_each js ks ys f.1 us f.3 v.1 i.1)
  recast_each [] [] [] es (u ∷ us) h v i = absurd i
  recast_each (j ∷ js) (k ∷ ks) (y ∷ ys) es [] h v i = absurd i
  recast_each [] [] (y ∷ ys) es us h v i = absurd cc
  recast_each [] (k ∷ ks) ys es us h v i = absurd cc
  recast_each (j ∷ js) [] ys es us h v i = absurd cc
  recast_each (j ∷ js) (k ∷ ks) [] es us h v i = absurd cc

pub recast_values : (l : Layout) (env : Env) (s : State) (js ks : List Kind) (ys : List Name) (es : List Exp) (us : List Value) → recasts js ks ys ≡ Some es → are_distinct ys ≡ true → AreOfSorts (map word_sort_of js) us →
    values_of l (bound ys (views_at js us) env) s es ≡ views_at ks us
recast_values l env s js ks ys es us h d i = recast_each l (bound ys (views_at js us) env) s js ks ys es us h (bound_holds ys js us env d) i
