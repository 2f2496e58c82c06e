-- The claims of a row as the code goes along them: first expressions in pairs, each seen in a way that its left side shows, and then what
-- is under more or under other facts.
use Rattle.std.specs.Prelude.{ℕ, Bool, true, false, List, [], ◌∷◌, ◌++◌, map, Option, Some, None}
use Rattle.c_values.specs.Name.{Name}
use Rattle.c_values.specs.Word.{WordTest, Wult, Wule, Wslt, Wsle}
use Rattle.expression_lang.specs.Expression as X
use Rattle.expression_lang.specs.Expression.{Exp}
use Rattle.expression_lang.specs.Sort.{Kind, Scope}
use Rattle.expression_lang.specs.Signature.{Signature, signature, kinds_of}
use Rattle.ac_expr.specs.Fact.{Whole, NotTrue}
use Rattle.ac_expr.specs.Heads.{children}
use Rattle.monad_lang.specs.Program as M
use Rattle.monad_lang.specs.Program.{Mon}
use Rattle.monad_lang.specs.Run.{start_names}
use Rattle.program_facts.specs.Places.{place_children}
use Rattle.rule_word.specs.Rule as R
use Rattle.rule_word.specs.Rule.{Rule, Context, Point, View, AsIs, Unsigned, Signed, Claim, expression, program}
use Rattle.rule_word.specs.Scopes.{with_kinds, words, view_for, own}
use Rattle.rule_word.specs.Table.{knowing, each, views_for, truth}
use Rattle.rule_parts.specs.Starts.{start_exps}
use Rattle.rule_word.specs.LeftWidth.{left_width}

-- a part of what is seen so, of the same sort
abbrev pub again : Scope → View → Exp → View
again g (AsIs o) d = own g d
again g (Unsigned n) d = Unsigned n
again g (Signed n) d = Signed n

abbrev pub or_zero : Option ℕ → ℕ
or_zero None = 0
or_zero (Some n) = n

-- how the operands of an order test are seen
abbrev pub tested : WordTest → ℕ → View
tested Wult n = Unsigned n
tested Wule n = Unsigned n
tested Wslt n = Signed n
tested Wsle n = Signed n

-- the expressions of a side that go in pairs
abbrev pub firsts : Exp → List Exp
firsts (X.And a b) = a ∷ []
firsts (X.Or a b) = a ∷ []
firsts (X.Imp a b) = a ∷ []
firsts (X.If c a b) = c ∷ []
firsts e = children e

abbrev pub lefts : Rule → Exp → List Exp
lefts (R.Word k) e = e ∷ []
lefts R.Unat e = e ∷ []
lefts R.Sint e = e ∷ []
lefts rule e = firsts e

abbrev pub rights : Rule → Exp → List Exp
rights R.Nat a = a ∷ []
rights R.Int a = a ∷ []
rights R.Zext a = a ∷ []
rights R.Sext a = a ∷ []
rights rule a = firsts a

-- how each of them is seen, where the whole is seen so
abbrev pub part_seen : Scope → Rule → Exp → View → Exp → View
part_seen g R.Nat (X.ToNat e) v d = Unsigned (or_zero (left_width g e))
part_seen g R.Int (X.ToInt e) v d = Signed (or_zero (left_width g e))
part_seen g (R.Word k) e v d = again g (view_for k) d
part_seen g R.Unat e v d = own g d
part_seen g R.Sint e v d = own g d
part_seen g R.Order (X.WordCompare test a b) v d = tested test (or_zero (left_width g a))
part_seen g (R.Eq k) e v d = view_for k
part_seen g R.Zext (X.Cast op m e) v d = Unsigned (or_zero (left_width g e))
part_seen g R.Sext (X.Cast op m e) v d = Signed (or_zero (left_width g e))
part_seen g R.Logic e v d = own g d
part_seen g R.Cond e v d = own g d
part_seen g R.Op e v d = own g d
part_seen g rule e v d = again g v d

-- whether the sorts of these are to be looked at
abbrev pub looks : Rule → Bool
looks (R.Eq k) = true
looks rule = false

abbrev pub exp_pairs : Scope → Point → Rule → Exp → View → Exp → List Claim
exp_pairs g at rule e v a = each at (lefts rule e) (map (λ d. part_seen g rule e v d) (lefts rule e)) (rights rule a)

-- what is under more facts
abbrev pub exp_thens : Scope → Point → Exp → View → Exp → List Claim
exp_thens g at (X.And a b) v (X.And a' b') = expression (knowing (Whole a') at) b (own g b) b' ∷ []
exp_thens g at (X.Or a b) v (X.Or a' b') = expression (knowing (NotTrue a') at) b (own g b) b' ∷ []
exp_thens g at (X.Imp a b) v (X.Imp a' b') = expression (knowing (Whole a') at) b (own g b) b' ∷ []
exp_thens g at (X.If c a b) v (X.If c' a' b') =
    expression (knowing (Whole c') at) a (again g v a) a' ∷ expression (knowing (NotTrue c') at) b (again g v b) b' ∷ []
exp_thens g at _ v _ = []

-- the same of programs
abbrev pub program_exps : Mon → List Exp
program_exps (M.Ret es) = es
program_exps (M.Bind m xs n) = []
program_exps (M.Guard e) = e ∷ []
program_exps (M.If e m n) = e ∷ []
program_exps (M.Write place e) = place_children place ++ (e ∷ [])
program_exps (M.Loop starts guard test m) = start_exps starts
program_exps (M.Call f es) = es
program_exps (M.Pick k) = []

-- the kinds of a function's parameters
abbrev pub kinds_taken : Option Signature → List Kind
kinds_taken None = []
kinds_taken (Some f) = kinds_of f.params

abbrev pub program_views : Context → Scope → Rule → Mon → List Kind → List View
program_views ctx g R.Ret m ks = views_for ks
program_views ctx g (R.Loop js) m ks = views_for js
program_views ctx g R.Call (M.Call f es) ks = views_for (kinds_taken (signature ctx.functions f))
program_views ctx g R.Call m ks = []
program_views ctx g rule m ks = map (λ d. own g d) (program_exps m)

abbrev pub program_looks : Rule → Bool
program_looks R.Ret = true
program_looks (R.Loop js) = true
program_looks R.Call = true
program_looks rule = false

abbrev pub program_pairs : Context → Point → Rule → Mon → Mon → List Kind → List Claim
program_pairs ctx at rule m m' ks =
    each at (program_exps m) (program_views ctx (words ctx at.names).scope rule m ks) (program_exps m')

-- where what is behind the pairs stands: in a loop no fact is known before, and its names are in scope
abbrev pub inside : Rule → Mon → Point → Point
inside (R.Loop js) (M.Loop starts guard test m) at = record { facts = []; names = with_kinds (start_names starts) js at.names }
inside rule m at = at

abbrev pub program_thens : Point → Rule → Mon → Mon → List Kind → List Claim
program_thens at R.If (M.If e m n) (M.If e' m' n') ks =
    program (knowing (Whole e') at) m m' ks ∷ program (knowing (NotTrue e') at) n n' ks ∷ []
program_thens at (R.Loop js) (M.Loop starts guard test m) (M.Loop starts' guard' test' m') ks =
    expression at guard truth guard' ∷ expression (knowing (Whole guard') at) test truth test'
    ∷ program (knowing (Whole test') (knowing (Whole guard') at)) m m' js ∷ []
program_thens at _ _ _ ks = []

-- the rules whose parts are other
abbrev pub is_flat : Rule → Bool
is_flat (R.Bind js) = false
is_flat (R.Recast js) = false
is_flat rule = true

-- the rule goes along a sequence
abbrev pub is_bind : Rule → Bool
is_bind (R.Bind js) = true
is_bind rule = false

-- or along `and`s
abbrev pub is_and : Rule → Exp → Exp → Bool
is_and R.Logic (X.And a b) (X.And a' b') = true
is_and _ _ _ = false

-- the first and the second of two programs, or the program itself
abbrev pub first_of : Mon → Mon
first_of (M.Bind m xs n) = m
first_of m = m

abbrev pub behind : Mon → Mon
behind (M.Bind m xs n) = n
behind m = m

-- the names that a program binds to its first part's values
abbrev pub names_bound : Mon → List Name
names_bound (M.Bind m xs n) = xs
names_bound m = []
