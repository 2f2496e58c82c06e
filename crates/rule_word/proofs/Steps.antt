-- The claims of the rules that go along `and`s and along sequences.
use Rattle.std.proofs.Common.{◌≡◌, true, List, [], ◌∷◌, refl, subst, ap}
use Rattle.c_values.specs.Name.{Name}
use Rattle.expression_lang.specs.Expression as X
use Rattle.expression_lang.specs.Expression.{Exp}
use Rattle.expression_lang.specs.Sort.{Kind, Scope}
use Rattle.ac_expr.specs.Fact.{Whole}
use Rattle.monad_lang.specs.Program as M
use Rattle.monad_lang.specs.Program.{Mon}
use Rattle.program_facts.specs.Flow.{facts_after}
use Rattle.rule_word.specs.Rule as R
use Rattle.rule_word.specs.Rule.{Rule, Context, Point, Claim, expression, program}
use Rattle.rule_word.specs.Scopes.{with_kinds, words, own}
use Rattle.rule_word.specs.Table.{knowing, program_row, table}
use Rattle.rule_word.specs.CodeFits.{Fits, ClaimFits, FitInTurn}
use Rattle.rule_word.specs.CodeClaims.{is_and, first_of, behind}
use Rattle.rule_word.proofs.PartsFit.{children_fit}
use Rattle.rule_word.proofs.Rows.{exp_parts}
use Rattle.rule_word.proofs.ProgramRows.{step_in_turn}

module _ (ctx : Context) (at : Point) where
  abbrev g : Scope
  g = (words ctx at.names).scope

  abbrev pub sides : Exp → Exp → Exp → Exp → List Claim
  sides a b a' b' = expression at a (own g a) a' ∷ expression (knowing (Whole a') at) b (own g b) b' ∷ []

  pub and_parts : (a b a' b' : Exp) → Fits g (X.And a b) (own g (X.And a b)) → (table ctx R.Logic (expression at (X.And a b) (own g (X.And a b)) (X.And a' b'))).parts ≡ sides a b a' b'
  and_parts a b a' b' f = exp_parts ctx at R.Logic (X.And a b) (own g (X.And a b)) (X.And a' b') f tt

  pub and_fit : (a b a' b' : Exp) → Fits g (X.And a b) (own g (X.And a b)) → Fits g a (own g a) × Fits g b (own g b)
  and_fit a b a' b' f = let r = children_fit ctx at R.Logic (X.And a b) (own g (X.And a b)) (X.And a' b') f tt tt in ((r.0.0, r.0.1, r.0.1), (r.1.0.0, r.1.0.1, r.1.0.1))

  pub and_rule : (rule : Rule) (e a : Exp) → is_and rule e a ≡ true → rule ≡ R.Logic
  and_rule R.Logic e a i = refl
  and_rule rule e a i = absurd cc

  -- a bind's names
  pub record Binds (js : List Kind) (m m' : Mon) : Type 0 where
    pub names : List Name
    pub left : m ≡ M.Bind (first_of m) names (behind m)
    pub right : m' ≡ M.Bind (first_of m') names (behind m')

  abbrev pub binds : (js ks : List Kind) (m m' : Mon) → (program_row ctx at (R.Bind js) m m' ks).holds → Binds js m m'
  binds js ks (M.Bind m xs n) (M.Bind m' ys n') h = record { names = xs; left = refl; right = ap (λ zs. M.Bind m' zs n') h }
  binds js ks m m' h = absurd h

  -- the point behind a bind
  abbrev pub next_point : List Name → List Kind → Mon → Point
  next_point xs js m' = record { facts = facts_after m' xs at.facts; names = with_kinds xs js at.names }

  abbrev pub two_programs : List Name → List Kind → List Kind → Mon → Mon → List Claim
  two_programs xs js ks m m' = program at (first_of m) (first_of m') js ∷ program (next_point xs js (first_of m')) (behind m) (behind m') ks ∷ []

  pub bind_parts : (js ks : List Kind) (m m' : Mon) (h : (program_row ctx at (R.Bind js) m m' ks).holds) → (program_row ctx at (R.Bind js) m m' ks).parts ≡ two_programs (binds js ks m m' h).names js ks m m'
  bind_parts js ks (M.Bind m xs n) (M.Bind m' ys n') h = refl
  bind_parts js ks m m' h = absurd h

  pub bind_fits : (js ks : List Kind) (m m' : Mon) (h : (program_row ctx at (R.Bind js) m m' ks).holds) → ClaimFits ctx (program at m m' ks) → FitInTurn ctx (two_programs (binds js ks m m' h).names js ks m m')
  bind_fits js ks m m' h f = subst (λ cs. FitInTurn ctx cs) (bind_parts js ks m m' h) (step_in_turn ctx at (R.Bind js) m m' ks refl f h)

  -- a program whose values get other kinds
  pub recast_parts : (js ks : List Kind) (m m' : Mon) → (program_row ctx at (R.Recast js) m m' ks).holds → (program_row ctx at (R.Recast js) m m' ks).parts ≡ program at m (first_of m') js ∷ []
  recast_parts js ks m (M.Bind m' ys (M.Ret es)) h = refl
  recast_parts js ks m m' h = absurd h
