-- How programs are made tidy, and the tree of rules that takes a program there: in one pass, where each program is made tidy with
-- what is known at its point. In a sequence the first part is made tidy, and then it is looked at before the second part is: a
-- constant is put in, a guard that is known goes, and a sequence is turned, so that what comes next meets the second part as it
-- will stand. Thus constants go through a program in one pass, and facts are those of what is left. When both parts are tidy, the
-- other rules are made: bind_ret, and ret_one of variables and of what isn't used (so that the programs in the tree are small);
-- a sequence may be turned that couldn't be before. After a value was put in the program is made tidy once more.
--
-- All is structural in the program but where a value was put in; there a number counts down, of the names that are bound: putting
-- a value in takes one away, and no other rule adds any.
use Rattle.std.specs.Prelude.{ℕ, zero, suc, ◌+◌, Bool, true, false, ◌&&◌, List, [], ◌∷◌, ◌++◌, length, Option, Some, None, if◌then◌else◌}
use Rattle.c_values.specs.Name.{Name}
use Rattle.expression_lang.specs.Expression.{Exp, WordLit, NumberLit, TruthLit}
use Rattle.ac_expr.specs.Fact.{Whole, NotTrue}
use Rattle.monad_lang.specs.Program as M
use Rattle.monad_lang.specs.Program.{Mon}
use Rattle.monad_lang.specs.Names.{is_free}
use Rattle.monad_lang.specs.Form.{is_bind_ret, all_kept, is_true_guard, can_be_put}
use Rattle.program_facts.specs.Substituted.{program_substituted}
use Rattle.rule_trees.specs.RuleTree.{Tree, node, no_trees, tree}
use Rattle.rule_eq.specs.Rule as R
use Rattle.rule_eq.specs.Rule.{Rule, Point}
use Rattle.rule_eq.specs.Table.{Taken, taken_at, with_values, knowing, behind, within}
use Rattle.expression_steps.specs.Rewritten.{direct_nodes}
use Rattle.polish.specs.Direct.{direct_steps}
use Rattle.expression_steps.specs.Shortened.{shortened}
use Rattle.expression_steps.specs.Known.{is_known}

-- a program, and the tree of the rules that led there
pub record Polished : Type 0 where
  pub program : Mon
  pub tree : Tree Rule

-- Trees

abbrev pub leaf : Rule → Tree Rule
leaf rule = node rule no_trees

abbrev pub is_refl : Tree Rule → Bool
is_refl (node R.Refl ts) = true
is_refl t = false

-- one tree and then another, with the program between
abbrev pub joined : Mon → Tree Rule → Tree Rule → Tree Rule
joined m t u = if is_refl t then u else if is_refl u then t else node (R.Trans m) (tree t (tree u no_trees))

abbrev pub bind_tree : Tree Rule → Tree Rule → Tree Rule
bind_tree t u = if is_refl t && is_refl u then leaf R.Refl else node R.Bind (tree t (tree u no_trees))

abbrev pub if_tree : Tree Rule → Tree Rule → Tree Rule
if_tree t u = if is_refl t && is_refl u then leaf R.Refl else node R.If (tree t (tree u no_trees))

abbrev pub loop_tree : Tree Rule → Tree Rule
loop_tree t = if is_refl t then leaf R.Refl else node R.Loop (tree t no_trees)

-- steps of expressions, to these programs one after the other
abbrev pub exp_tree : List Mon → Tree Rule
exp_tree [] = leaf R.Refl
exp_tree (m ∷ ms) = joined m (leaf R.Exp) (exp_tree ms)

abbrev pub last_of : Mon → List Mon → Mon
last_of m [] = m
last_of m (n ∷ ns) = last_of n ns

-- Steps at a node

abbrev pub unchanged : Mon → Polished
unchanged m = record { program = m; tree = leaf R.Refl }

abbrev pub at_once : Rule → Mon → Polished
at_once rule m = record { program = m; tree = leaf rule }

-- to a program by one tree, and then on
abbrev pub and_then : Tree Rule → Mon → Polished → Polished
and_then t m p = record { program = p.program; tree = joined m t p.tree }

-- each step of the expressions that stand in it directly, until none is left
abbrev pub shortened_in : Point → Mon → Polished
shortened_in at m =
    let ms = direct_steps shortened at (direct_nodes m) m in
    record { program = last_of m ms; tree = exp_tree ms }

-- what is left of a sequence that bind_ret applies to
abbrev pub what_is_bound : Mon → List Name → Mon → Mon
what_is_bound (M.Ret []) [] n = n
what_is_bound m xs n = m

abbrev pub one_later : Option ℕ → Option ℕ
one_later None = None
one_later (Some i) = Some (suc i)

-- the first position whose value can be put in, given the names before these
abbrev pub first_put : List Name → List Exp → List Name → Mon → Option ℕ
first_put front (e ∷ es) (x ∷ xs) n =
    if can_be_put e x (front ++ xs) n then Some zero else one_later (first_put (x ∷ front) es xs n)
first_put front es xs n = None

abbrev pub is_literal : Exp → Bool
is_literal (WordLit w) = true
is_literal (NumberLit k) = true
is_literal (TruthLit b) = true
is_literal e = false

-- the first position of a constant whose name the program has free
abbrev pub first_constant : List Exp → List Name → Mon → Option ℕ
first_constant (e ∷ es) (x ∷ xs) n =
    if is_literal e && is_free x n then Some zero else one_later (first_constant es xs n)
first_constant es xs n = None

-- How a program is made tidy at a point
abbrev pub Way : Type 0
Way = Point → Mon → Polished

abbrev pub put_taken : Way → Point → Mon → ℕ → Mon → Option Taken → Polished
put_taken again at m i n None = unchanged m
put_taken again at m i n (Some k) =
    let p = with_values k.exps k.names (program_substituted k.name k.exp n) in and_then (leaf (R.RetOne i)) p (again at p)

abbrev pub put_at : Way → Point → List Exp → List Name → Mon → Option ℕ → Polished
put_at again at es xs n None = unchanged (M.Bind (M.Ret es) xs n)
put_at again at es xs n (Some i) = put_taken again at (M.Bind (M.Ret es) xs n) i n (taken_at i es xs)

-- Bind(Bind(a, zs, b), xs, n) with the second sequence made tidy, and then the first
abbrev pub turned : Mon → List Name → Mon → List Name → Mon → Polished → (Mon → Polished) → Polished
turned a zs b xs n r first =
    let q = first r.program in
    and_then (leaf R.Assoc) (M.Bind a zs (M.Bind b xs n)) (and_then (bind_tree (leaf R.Refl) r.tree) (M.Bind a zs r.program) q)

-- the rules that come before the others at a sequence
abbrev pub or_shorter : Mon → List Name → Mon → Polished → Polished
or_shorter m xs n p =
    if is_bind_ret m xs n then at_once R.BindRet (what_is_bound m xs n)
    else if is_true_guard m xs then at_once R.GuardKnown n else p

-- a sequence of two tidy programs
abbrev pub bound : Way → Point → Mon → List Name → Mon → Polished
bound again at (M.Bind a zs b) xs n =
    or_shorter (M.Bind a zs b) xs n
    (if all_kept zs xs n then turned a zs b xs n (bound again (behind a zs at) b xs n) (λ r. bound again at a zs r)
    else unchanged (M.Bind (M.Bind a zs b) xs n))
bound again at (M.Ret es) xs n = or_shorter (M.Ret es) xs n (put_at again at es xs n (first_put [] es xs n))
bound again at m xs n = or_shorter m xs n (unchanged (M.Bind m xs n))

-- A sequence whose first part is tidy, and was reached by a tree; the second is made tidy where it stands in the end.

abbrev pub then_all : Tree Rule → Mon → List Name → Mon → Polished → Polished
then_all t m xs n p = and_then (bind_tree t (leaf R.Refl)) (M.Bind m xs n) p

-- nothing is to be done before the second part is tidy
abbrev pub settled : Way → (Point → Polished) → Point → Tree Rule → Mon → List Name → Polished
settled again last at t m xs =
    let q = last (behind m xs at) in
    and_then (bind_tree t q.tree) (M.Bind m xs q.program) (bound again at m xs q.program)

abbrev pub put_or_settled : Way → (Point → Polished) → Point → Tree Rule → List Exp → List Name → Mon → Option ℕ → Polished
put_or_settled again last at t es xs n None = settled again last at t (M.Ret es) xs
put_or_settled again last at t es xs n (Some i) = then_all t (M.Ret es) xs n (put_at again at es xs n (Some i))

-- What a tree does to a sequence before the sequence is turned, and what is left to be done to its second part then: all of it
-- before, but where the tree goes to the second part alone. So the programs between are those of one step and not of two.
pub record Parted : Type 0 where
  pub before : Tree Rule
  pub second : Mon
  pub tree : Tree Rule

abbrev pub parted : Tree Rule → Mon → Mon → Parted
parted (node R.Bind (tree (node R.Refl ts) (tree t no_trees))) (M.Bind a zs b) c =
    record { before = leaf R.Refl; second = b; tree = t }
parted t m c = record { before = t; second = c; tree = leaf R.Refl }

-- by a tree from the first program to the second, which is tidy and stands in first place
abbrev pub followed : Way → (Point → Polished) → Point → Tree Rule → Mon → Mon → List Name → Mon → Polished
followed again last at t m (M.Bind a zs b) xs n =
    if is_bind_ret (M.Bind a zs b) xs n then then_all t (M.Bind a zs b) xs n (at_once R.BindRet (M.Bind a zs b))
    else if all_kept zs xs n then
    (let k = parted t m b in
    then_all k.before (M.Bind a zs k.second) xs n
    (turned a zs k.second xs n (followed again last (behind a zs at) k.tree k.second b xs n) (λ r. bound again at a zs r)))
    else settled again last at t (M.Bind a zs b) xs
followed again last at t m (M.Ret es) xs n = put_or_settled again last at t es xs n (first_constant es xs n)
followed again last at t m (M.Guard e) [] n =
    if is_known at.facts e then then_all t (M.Guard e) [] n (and_then (leaf R.GuardKnown) n (last at))
    else settled again last at t (M.Guard e) []
followed again last at t m p xs n = settled again last at t p xs

-- Programs

-- an If whose test is short, of these branches
abbrev pub chosen : Point → Mon → (Point → Polished) → (Point → Polished) → Polished
chosen at (M.If (TruthLit true) m n) first second = and_then (leaf R.IfConst) m (first at)
chosen at (M.If (TruthLit false) m n) first second = and_then (leaf R.IfConst) n (second at)
chosen at (M.If e m n) first second =
    let p = first (knowing (Whole e) at) in
    let q = second (knowing (NotTrue e) at) in
    record { program = M.If e p.program q.program; tree = if_tree p.tree q.tree }
chosen at m first second = unchanged m

-- a loop with this body
abbrev pub turning : Point → Mon → (Point → Polished) → Polished
turning at (M.Loop starts guard test m) body =
    let p = body (within starts (Whole test ∷ Whole guard ∷ []) at) in
    record { program = M.Loop starts guard test p.program; tree = loop_tree p.tree }
turning at m body = unchanged m

abbrev pub in_choice : Polished → Point → (Point → Polished) → (Point → Polished) → Polished
in_choice f at first second = and_then f.tree f.program (chosen at f.program first second)

abbrev pub in_loop : Polished → Point → (Point → Polished) → Polished
in_loop f at body = and_then f.tree f.program (turning at f.program body)

-- made tidy, where what a value was put into is made tidy so
abbrev pub polished_with : Way → Mon → Point → Polished
polished_with again (M.Bind m xs n) at =
    let p = polished_with again m at in followed again (polished_with again n) at p.tree m p.program xs n
polished_with again (M.If e m n) at =
    in_choice (shortened_in at (M.If e m n)) at (polished_with again m) (polished_with again n)
polished_with again (M.Loop starts guard test m) at =
    in_loop (shortened_in at (M.Loop starts guard test m)) at (polished_with again m)
polished_with again m at = shortened_in at m

-- where so many values can be put in at most
abbrev pub polished_within : ℕ → Way
polished_within zero at m = polished_with (λ a n. unchanged n) m at
polished_within (suc k) at m = polished_with (polished_within k) m at

-- the names that sequences bind
abbrev pub positions : Mon → ℕ
positions (M.Bind m xs n) = positions m + length xs + positions n
positions (M.If e m n) = positions m + positions n
positions (M.Loop starts guard test m) = positions m
positions m = 0

abbrev pub polished : Way
polished at m = polished_within (positions m) at m
