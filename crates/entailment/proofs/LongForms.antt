-- Which heads a truth value may have that gives a claim of two sides by one row of the table of steps.
use Rattle.std.proofs.Common.{◌≡◌, ℕ, Bool, true, false, List, Option, Some, None}
use Rattle.c_values.specs.Number.{Add}
use Rattle.expression_lang.specs.Expression.{Exp, TruthLit, Eq, Not, And, Or, Imp, If, Arith, ToWord, ToNat, ToInt}
use Rattle.expression_lang.specs.Sort.{Scope, sort_of, is_truth, where_holds, of_word, word_sort, number_sort}
use Rattle.ac_expr.specs.Fact.{Fact}
use Rattle.ac_expr.specs.Step.{Shortens}
use Rattle.entailment.specs.declared.sides.Relation.{Relation}
use Rattle.entailment.specs.declared.sides.Relation.TheVariants.{AtMost, Equal}
use Rattle.entailment.specs.CodeSides.{related}
use Rattle.entailment.specs.CodeTruth.{is_connective}

pub no_literal : (r : Relation) (a b : Exp) (t : Bool) → related r a b ≡ TruthLit t → ⊥
no_literal AtMost a b t h = cc
no_literal Equal a b t h = cc

-- a word and a number are no truth values

no_word : (o : Bool) (n : ℕ) → is_truth (where_holds o (word_sort n)) ≡ true → ⊥
no_word true n h = cc
no_word false n h = cc

no_number : (o : Bool) → is_truth (where_holds o number_sort) ≡ true → ⊥
no_number true h = cc
no_number false h = cc

no_number_of : (o : Option ℕ) → is_truth (of_word o (λ n. number_sort)) ≡ true → ⊥
no_number_of (Some n) h = cc
no_number_of None h = cc

-- no other head gives the claim
pub no_other : (g : Scope) (fs : List Fact) (r : Relation) (a b e : Exp) (h : Scope) → is_connective e ≡ false →
    is_truth (sort_of h e) ≡ true → Shortens g fs e (related r a b) → ⊥
no_other g fs r a b (And x y) h i j k = absurd cc
no_other g fs r a b (Or x y) h i j k = absurd cc
no_other g fs r a b (Imp x y) h i j k = absurd cc
no_other g fs r a b (Not x) h i j k = absurd cc
no_other g fs r a b (If c x y) h i j k = absurd cc
no_other g fs r a b (Eq x y) h i j k = no_literal r a b true k.1
no_other g fs r a b (Arith Add x y) h i j k = no_number _ j
no_other g fs r a b (ToWord n x) h i j k = no_word _ n j
no_other g fs r a b (ToNat x) h i j k = no_number_of _ j
no_other g fs r a b (ToInt x) h i j k = no_number_of _ j
no_other g fs r a b e h i j k = k
