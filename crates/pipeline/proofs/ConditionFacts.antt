-- Conditions that are one fact, as a loop's are, give the ranges that they give as facts one after the other.
use Rattle.std.proofs.Common.{◌≡◌, Bool, true, false, ◌||◌, List, [], ◌∷◌, ◌++◌, Option, Some, None, refl, sym, ap, ◌∙◌}
use Rattle.expression_lang.specs.Expression as X
use Rattle.expression_lang.specs.Expression.{Exp}
use Rattle.expression_lang.specs.Signature.{Binder}
use Rattle.simpl_lang.specs.Command.{Condition}
use Rattle.ac_expr.specs.Fact.{Fact, Whole, stands_for}
use Rattle.rule_heap.specs.ExpLifted.{exp_lifted}
use Rattle.rule_local.specs.Table.{conj}
use Rattle.rule_word.specs.Rule.{Context}
use Rattle.rule_word.specs.Table.{truth}
use Rattle.rule_word.specs.Bases.{Base, gives_at_once, some_gives, or_else, first_range, oldest_range, among}
use Rattle.rule_word.specs.ProgramsAbstracted.{exp_at, guard_at}
use Rattle.pipeline.proofs.CommandReady.{is_and, AreSingle}
use Rattle.pipeline.proofs.AlikeSettings.{AreAlike}
use Rattle.rule_word.proofs.AbstractedStays.{first_alike}

or_else_thrice : (a b c : Option Base) → or_else (or_else a b) c ≡ or_else a (or_else b c)
or_else_thrice (Some x) b c = refl
or_else_thrice None b c = refl

or_swapped : (a b c : Bool) → (a || (b || c)) ≡ (b || (a || c))
or_swapped true true c = refl
or_swapped _ _ _ = refl

module _ (same : Exp → Exp → Bool) (natural integer : Exp) where
  -- a fact in front or behind others
  in_front : (f : Fact) (cs fs : List Fact) (e : Exp) → some_gives same (cs ++ (f ∷ fs)) e ≡ some_gives same (f ∷ (cs ++ fs)) e
  in_front f [] fs e = refl
  in_front f (c ∷ cs) fs e =
      ap (λ t. gives_at_once same (stands_for c) e || t) (in_front f cs fs e)
      ∙ or_swapped (gives_at_once same (stands_for c) e) (gives_at_once same (stands_for f) e) (some_gives same (cs ++ fs) e)

module _ (same : Exp → Exp → Bool) (ctx : Context) (names : List Binder) where
  -- a condition that is no list is known as it is
  pub single_guard : (fs : List Fact) (e : Exp) → is_and e ≡ false →
      guard_at same true ctx names fs (exp_lifted e) ≡ exp_at same true ctx names fs (exp_lifted e) truth
  single_guard fs (X.And a b) h = absurd cc
  single_guard fs e h = refl

  abbrev pub fact_of : List Fact → Exp → Fact
  fact_of fs e = Whole (exp_at same true ctx names fs (exp_lifted e) truth).right

  -- conditions as facts, one after the other
  abbrev pub facts_of : List Fact → List Condition → List Fact
  facts_of fs [] = fs
  facts_of fs (c ∷ cs) = facts_of (fact_of fs c.exp ∷ fs) cs

  abbrev as_one : List Fact → List Condition → Exp
  as_one fs cs = (guard_at same true ctx names fs (exp_lifted (conj cs))).right

  ranges_of : (conditions : List Fact) (natural integer : Exp) (c : Condition) (cs : List Condition) (fs : List Fact) →
      AreSingle (c ∷ cs) →
      oldest_range same conditions natural integer (facts_of fs (c ∷ cs))
      ≡ or_else (oldest_range same conditions natural integer fs)
      (first_range same (conditions ++ fs) natural integer (as_one fs (c ∷ cs)))
  ranges_of conditions natural integer c [] fs h =
      ap (λ x. or_else (oldest_range same conditions natural integer fs)
      (first_range same (conditions ++ fs) natural integer x.right)) (sym (single_guard fs c.exp h.0))
  ranges_of conditions natural integer c (d ∷ cs) fs h =
      let x = (exp_at same true ctx names fs (exp_lifted c.exp) truth).right in
      let y = as_one (Whole x ∷ fs) (d ∷ cs) in
      let old = oldest_range same conditions natural integer fs in
      let first = first_range same (conditions ++ fs) natural integer x in
      ranges_of conditions natural integer d cs (Whole x ∷ fs) h.1
      ∙ or_else_thrice old first (first_range same (conditions ++ (Whole x ∷ fs)) natural integer y)
      ∙ ap (λ r. or_else old (or_else first r)) (first_alike same natural integer (conditions ++ (Whole x ∷ fs))
      (Whole x ∷ (conditions ++ fs)) (in_front same natural integer (Whole x) conditions fs) y)

  pub one_fact_alike : (c : Condition) (cs : List Condition) → AreSingle (c ∷ cs) →
      AreAlike same (among (Whole (guard_at same true ctx names [] (exp_lifted (conj (c ∷ cs)))).right ∷ []))
      (among (facts_of [] (c ∷ cs)))
  one_fact_alike c cs h =
      record { conditions = refl; facts = λ conditions natural integer. sym (ranges_of conditions natural integer c cs [] h) }
