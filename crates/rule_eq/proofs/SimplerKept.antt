-- The rules that make programs simpler keep what they give.
use Rattle.std.proofs.Common.{◌≡◌, ℕ, true, false, List, [], map, Option, Some, None, ◌⊎◌, inl, inr, refl, sym, subst}
use Rattle.c_values.specs.Name.{Name}
use Rattle.expression_lang.specs.Expression.{Exp, Var, TruthLit}
use Rattle.expression_lang.specs.Sort.{Scalar}
use Rattle.monad_lang.specs.Program as M
use Rattle.monad_lang.specs.Program.{Mon}
use Rattle.monad_lang.specs.Sorted.{Setting, scalars_given}
use Rattle.rule_eq.specs.Rule as R
use Rattle.rule_eq.specs.Rule.{Rule, Point}
use Rattle.rule_eq.specs.Table.{Taken, taken_at, AreTaken, row}
use Rattle.rule_eq.specs.Tidy.{Simplifies}
use Rattle.rule_eq.proofs.SimplerSorts.{given_back_keeps, nothing_keeps, guard_keeps, choice_keeps, assoc_keeps, put_keeps}

abbrev Gives : Setting → Mon → List Scalar → Type 0
Gives t m cs = scalars_given t m ≡ Some cs

module _ (t : Setting) where
  put_gives : (i : ℕ) (es : List Exp) (xs : List Name) (m m' : Mon) (cs : List Scalar) (o : Option Taken) → taken_at i es xs ≡ o → AreTaken o m m' → Gives t (M.Bind (M.Ret es) xs m) cs → Gives t m' cs
  put_gives i es xs m m' cs None e h g = absurd h
  put_gives i es xs m m' cs (Some k) e h g = subst (λ n. Gives t n cs) (sym h.1) (put_keeps t.scope.layout t.scope.globals t.functions t.sort_for t.scope.names i es xs m k cs e h.0 g)

  back_gives : (m : Mon) (xs : List Name) (n m' : Mon) (cs : List Scalar) → ((n ≡ M.Ret (map (λ x. Var x) xs)) × (m' ≡ m)) ⊎ ((m ≡ M.Ret []) × (xs ≡ []) × (m' ≡ n)) → Gives t (M.Bind m xs n) cs → Gives t m' cs
  back_gives m xs n m' cs (inl h) g =
      subst (λ a. Gives t a cs) (sym h.1) (given_back_keeps t.scope.layout t.scope.globals t.functions t.sort_for t.scope.names m xs cs (subst (λ a. Gives t (M.Bind m xs a) cs) h.0 g))
  back_gives m xs n m' cs (inr h) g =
      subst (λ a. Gives t a cs) (sym h.2)
      (nothing_keeps t.scope.layout t.scope.globals t.functions t.sort_for t.scope.names n cs (subst (λ ys. Gives t (M.Bind (M.Ret []) ys n) cs) h.1 (subst (λ a. Gives t (M.Bind a xs n) cs) h.0 g)))

pub simpler_gives : (at : Point) (rule : Rule) (m m' : Mon) (cs : List Scalar) → Simplifies rule → (row at rule m m').holds → Gives at.setting m cs → Gives at.setting m' cs
simpler_gives at (R.RetOne i) (M.Bind (M.Ret es) xs m) m' cs s h g = put_gives at.setting i es xs m m' cs (taken_at i es xs) refl h g
simpler_gives at R.BindRet (M.Bind m xs n) m' cs s h g = back_gives at.setting m xs n m' cs h g
simpler_gives at R.Assoc (M.Bind (M.Bind a xs b) ys c) m' cs s h g =
    subst (λ n. Gives at.setting n cs) (sym h.1) (assoc_keeps at.setting.scope.layout at.setting.scope.globals at.setting.functions at.setting.sort_for at.setting.scope.names a xs b ys c cs h.0 g)
simpler_gives at R.IfConst (M.If (TruthLit true) m n) m' cs s h g =
    subst (λ a. Gives at.setting a cs) (sym h) (choice_keeps at.setting.scope.layout at.setting.scope.globals at.setting.functions at.setting.sort_for at.setting.scope.names (TruthLit true) m n cs g).0
simpler_gives at R.IfConst (M.If (TruthLit false) m n) m' cs s h g =
    subst (λ a. Gives at.setting a cs) (sym h) (choice_keeps at.setting.scope.layout at.setting.scope.globals at.setting.functions at.setting.sort_for at.setting.scope.names (TruthLit false) m n cs g).1
simpler_gives at R.GuardKnown (M.Bind (M.Guard e) [] m) m' cs s h g =
    subst (λ a. Gives at.setting a cs) (sym h.1) (guard_keeps at.setting.scope.layout at.setting.scope.globals at.setting.functions at.setting.sort_for at.setting.scope.names e m cs g)
simpler_gives at R.Refl m m' cs s h g = absurd s
simpler_gives at (R.Trans n) m m' cs s h g = absurd s
simpler_gives at R.Bind m m' cs s h g = absurd s
simpler_gives at R.If m m' cs s h g = absurd s
simpler_gives at R.Loop m m' cs s h g = absurd s
simpler_gives at R.Exp m m' cs s h g = absurd s
simpler_gives _ _ _ _ _ s h g = absurd h
