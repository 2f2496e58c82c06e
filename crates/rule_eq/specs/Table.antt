-- The table of the rules that take programs to programs that mean the same: the laws of the state monad, and steps of
-- expressions. One clause for each row: the rule, the left side, the right side; then what is asked and the claims of the parts.
use Rattle.std.specs.Prelude.{◌≡◌, ℕ, zero, suc, true, false, List, [], ◌∷◌, ◌++◌, map, Option, Some, None, ◌⊎◌, unwrap_or}
use Rattle.c_values.specs.Name.{Name}
use Rattle.expression_lang.specs.Expression.{Exp, Var, TruthLit}
use Rattle.expression_lang.specs.Mentions.{names, reads}
use Rattle.expression_lang.specs.Sort.{Scalar}
use Rattle.ac_expr.specs.Fact.{Fact, Whole, NotTrue}
use Rattle.ac_expr.specs.Known.{IsKnown}
use Rattle.ac_expr.specs.Lasting.{is_unnamed}
use Rattle.ac_expr.specs.Step.{OneStepApart, OneOfThem, at_each}
use Rattle.monad_lang.specs.Program as M
use Rattle.monad_lang.specs.Program.{Mon, Start}
use Rattle.monad_lang.specs.Run.{start_names}
use Rattle.monad_lang.specs.Names.{is_free, is_captured}
use Rattle.program_facts.specs.Substituted.{program_substituted}
use Rattle.monad_lang.specs.Form.{all_kept}
use Rattle.monad_lang.specs.Sorted.{Setting, setting_with, scalars_given, start_scalars}
use Rattle.program_facts.specs.Flow.{facts_after}
use Rattle.program_facts.specs.Places.{place_children, place_head}
use Rattle.rule_trees.specs.RuleTree.{Row, asks, no_row, Table, Tree, Accepts}
use Rattle.rule_parts.specs.Starts.{start_exps}
use Rattle.rule_eq.specs.Rule as R
use Rattle.rule_eq.specs.Rule.{Rule, Point, Claim, does}

-- Points

abbrev pub point : List Fact → Setting → Point
point fs t = record { facts = fs; setting = t }

-- where one fact more is known
abbrev pub knowing : Fact → Point → Point
knowing f at = point (f ∷ at.facts) at.setting

-- behind a program whose values have these names
abbrev pub behind : Mon → List Name → Point → Point
behind m xs at =
    point (facts_after m xs at.facts) (setting_with xs (unwrap_or (scalars_given at.setting m) []) at.setting)

-- in a loop, where nothing else is known than these facts
abbrev pub within : List Start → List Fact → Point → Point
within starts fs at =
    point fs (setting_with (start_names starts) (unwrap_or (start_scalars at.setting.scope starts) []) at.setting)

-- Values that are put in

-- one of the values with its name, and the others with theirs
pub record Taken : Type 0 where
  pub exp : Exp
  pub name : Name
  pub exps : List Exp
  pub names : List Name

abbrev pub before : Exp → Name → Option Taken → Option Taken
before e x None = None
before e x (Some k) = Some (record { exp = k.exp; name = k.name; exps = e ∷ k.exps; names = x ∷ k.names })

abbrev pub taken_at : ℕ → List Exp → List Name → Option Taken
taken_at zero (e ∷ es) (x ∷ xs) = Some (record { exp = e; name = x; exps = es; names = xs })
taken_at (suc i) (e ∷ es) (x ∷ xs) = before e x (taken_at i es xs)
taken_at _ _ _ = None

-- The value may stand in the program in place of its name: it doesn't look at a state that may have changed, none of its names
-- is another one that is bound with it, and no binder in the program captures one.
pub record CanStand (k : Taken) (m : Mon) : Type 0 where
  pub state : (reads k.exp ≡ false) ⊎ (is_free k.name m ≡ false)
  pub others : is_unnamed k.names k.exp ≡ true
  pub captured : (y : Name) → names y k.exp ≡ true → is_captured y k.name m ≡ false

-- the values under the names, where there are any, and then the program
abbrev pub with_values : List Exp → List Name → Mon → Mon
with_values [] xs m = m
with_values (e ∷ es) xs m = M.Bind (M.Ret (e ∷ es)) xs m

abbrev pub AreTaken : Option Taken → Mon → Mon → Type 0
AreTaken None m right = ⊥
AreTaken (Some k) m right = CanStand k m × (right ≡ with_values k.exps k.names (program_substituted k.name k.exp m))

-- Expressions

-- one of the expressions by one step, all under the same facts
abbrev pub OneApart : Point → List Exp → List Exp → Type 0
OneApart at es es' = OneOfThem at.setting.scope (at_each at.facts es) es es'

abbrev pub StepApart : Point → Exp → Exp → Type 0
StepApart at e e' = OneStepApart at.setting.scope at.facts e e'

-- the same but for one place of one expression that stands in the program directly
abbrev pub ExpApart : Point → Mon → Mon → Type 0
ExpApart at (M.Ret es) (M.Ret es') = OneApart at es es'
ExpApart at (M.Guard e) (M.Guard e') = StepApart at e e'
ExpApart at (M.If e m n) (M.If e' m' n') = (m' ≡ m) × (n' ≡ n) × StepApart at e e'
ExpApart at (M.Write place e) (M.Write place' e') =
    (place_head place' ≡ place_head place) × OneApart at (place_children place ++ (e ∷ [])) (place_children place' ++ (e' ∷ []))
ExpApart at (M.Loop starts guard test m) (M.Loop starts' guard' test' m') =
    (m' ≡ m)
    × (((start_names starts' ≡ start_names starts) × (guard' ≡ guard) × (test' ≡ test) × OneApart at (start_exps starts) (start_exps starts'))
    ⊎ ((starts' ≡ starts) × (test' ≡ test) × StepApart (within starts' [] at) guard guard')
    ⊎ ((starts' ≡ starts) × (guard' ≡ guard) × StepApart (within starts' (Whole guard ∷ []) at) test test'))
ExpApart at (M.Call f es) (M.Call g es') = (g ≡ f) × OneApart at es es'
ExpApart _ _ _ = ⊥

-- The middle program is well-sorted, and gives the right side's sorts.
abbrev pub IsBetween : Point → Mon → Mon → Type 0
IsBetween at m right =
    (ss : List Scalar) × (scalars_given at.setting m ≡ Some ss) × (scalars_given at.setting right ≡ Some ss)

-- Rows

abbrev pub row : Point → Rule → Mon → Mon → Row Claim
row at R.Refl m m' = asks (m' ≡ m) []
row at (R.Trans n) m m' = asks (IsBetween at n m') (does at m n ∷ does at n m' ∷ [])
row at R.Bind (M.Bind m xs n) (M.Bind m' xs' n') = asks (xs' ≡ xs) (does at m m' ∷ does (behind m' xs' at) n n' ∷ [])
row at R.If (M.If e m n) (M.If e' m' n') =
    asks (e' ≡ e) (does (knowing (Whole e') at) m m' ∷ does (knowing (NotTrue e') at) n n' ∷ [])
row at R.Loop (M.Loop starts guard test m) (M.Loop starts' guard' test' m') =
    asks ((starts' ≡ starts) × (guard' ≡ guard) × (test' ≡ test))
    (does (within starts' (Whole test' ∷ Whole guard' ∷ []) at) m m' ∷ [])
row at (R.RetOne i) (M.Bind (M.Ret es) xs m) m' = asks (AreTaken (taken_at i es xs) m m') []
row at R.BindRet (M.Bind m xs n) m' =
    asks (((n ≡ M.Ret (map (λ x. Var x) xs)) × (m' ≡ m)) ⊎ ((m ≡ M.Ret []) × (xs ≡ []) × (m' ≡ n))) []
row at R.Assoc (M.Bind (M.Bind a xs b) ys c) m' =
    asks ((all_kept xs ys c ≡ true) × (m' ≡ M.Bind a xs (M.Bind b ys c))) []
row at R.IfConst (M.If (TruthLit true) m n) m' = asks (m' ≡ m) []
row at R.IfConst (M.If (TruthLit false) m n) m' = asks (m' ≡ n) []
row at R.GuardKnown (M.Bind (M.Guard e) [] m) m' = asks (IsKnown at.facts e × (m' ≡ m)) []
row at R.Exp m m' = asks (ExpApart at m m') []
row _ _ _ _ = no_row

abbrev pub table : Table Rule Claim
table rule (does at m m') = row at rule m m'

-- under the facts and in the setting of a point, the rules of the tree take the left side to the right side
abbrev pub Takes : Point → Tree Rule → Mon → Mon → Type 0
Takes at t m m' = Accepts table t (does at m m')
