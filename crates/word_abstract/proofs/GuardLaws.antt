-- Conditions of a loop's guard, one after the other.
use Rattle.std.proofs.Common.{◌≡◌, Bool, List, [], ◌∷◌, ◌++◌, map, refl, ap, ◌∙◌}
use Rattle.expression_lang.specs.Expression as X
use Rattle.expression_lang.specs.Expression.{Exp}
use Rattle.expression_lang.specs.Signature.{Binder}
use Rattle.ac_expr.specs.Fact.{Fact, Whole}
use Rattle.rule_word.specs.Rule.{Context}
use Rattle.rule_word.specs.Table.{truth}
use Rattle.rule_word.specs.WordsAbstracted.{Abstracted}
use Rattle.rule_word.specs.ProgramsAbstracted.{exp_at, guard_at}
use Rattle.word_abstract.specs.CodeKnown.{newest_first}
use Rattle.word_abstract.specs.CodeGuards.{also, all_hold, IsNoAnd}
use Rattle.word_abstract.proofs.KnownLaws.{newest_push}

pub all_hold_push : {A : Type 0} (f : A → Abstracted) (xs : List A) (x : A) (last : Abstracted) → all_hold (map f (xs ++ x ∷ [])) last ≡ all_hold (map f xs) (also (f x) last)
all_hold_push f [] x last = refl
all_hold_push f (y ∷ ys) x last = ap (also (f y)) (all_hold_push f ys x last)

module _ (same : Exp → Exp → Bool) (numbers : Bool) (ctx : Context) (names : List Binder) where
  pub guard_last : (fs : List Fact) (e : Exp) → IsNoAnd e → guard_at same numbers ctx names fs e ≡ exp_at same numbers ctx names fs e truth
  guard_last fs (X.And a b) h = absurd h
  guard_last fs e h = refl

  -- one condition more
  pub guard_also : {A B : Type 0} (f : A → Abstracted) (h : B → Fact) (before : List A) (x : A) (own : List B) (y : B) (outer : List Fact) (a b : Exp) (whole : Abstracted) →
      f x ≡ exp_at same numbers ctx names (newest_first (map h own) outer) a truth →
      h y ≡ Whole (f x).right →
      all_hold (map f before) (guard_at same numbers ctx names (newest_first (map h own) outer) (X.And a b)) ≡ whole →
      all_hold (map f (before ++ x ∷ [])) (guard_at same numbers ctx names (newest_first (map h (own ++ y ∷ [])) outer) b) ≡ whole
  guard_also f h before x own y outer a b whole e i q =
      all_hold_push f before x _
      ∙ ap (λ fs. all_hold (map f before) (also (f x) (guard_at same numbers ctx names fs b))) (newest_push h own y outer ∙ ap (λ t. t ∷ newest_first (map h own) outer) i)
      ∙ ap (λ (z : Abstracted). all_hold (map f before) (also z (guard_at same numbers ctx names (Whole z.right ∷ newest_first (map h own) outer) b))) e
      ∙ q
