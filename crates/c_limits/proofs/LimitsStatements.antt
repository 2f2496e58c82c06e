-- What the measure of a function's body lists are its statements and the declarators of its locals in preorder, and the first
-- statement on each level.
use Rattle.std.proofs.Common.{ℕ, ◌≡◌, ◌∙◌, ◌+◌, ◌++◌, List, [], ◌∷◌, Option, Some, None, suc, map, ap, sym, subst, arith}
use Rattle.std.specs.List.{slice_get}
use Rattle.std.proofs.lemmas.List.{append-nil}
use Rattle.c_grammar.specs.Tree as tree
use Rattle.c_grammar.specs.Tree.{Exp, Call, Rhs, Simple, Init, Local, Label, Start, Stmt, Items, Groups}
use Rattle.c_limits.specs.FirstToken.{first_of_declarator, first_of_simple}
use Rattle.c_limits.specs.Limits as limits
use Rattle.c_limits.specs.Limits.{Measure, nothing, beside, all, outermost}
use Rattle.c_limits.specs.CodeLevels.{first_on, in_inits, in_local, in_start, statements_of, in_items, in_groups}
use Rattle.c_limits.proofs.LimitsLevels.{Rows, Counts, first_on_other, rows_none, rows_node, rows_beside, exp_counts, words_counts, declarator_counts}

-- the measure of a part of a body: its statements
record Stands (l : ℕ) (m : Measure) (xs : List (ℕ × ℕ)) : Type 0 where
  rows : Rows l m.statements m.blocks xs

none : (l : ℕ) → Stands l nothing []
none l = record { rows = rows_none l }

more : {l : ℕ} {m n : Measure} {xs ys : List (ℕ × ℕ)} → Stands l m xs → Stands l n ys → Stands l (beside m n) (xs ++ ys)
more s t = record { rows = rows_beside s.rows t.rows }

-- before a part without statements
last : {l : ℕ} {m n : Measure} {xs : List (ℕ × ℕ)} → Stands l m xs → Stands l n [] → Stands l (beside m n) xs
last {l = l} {m = m} {n = n} {xs = xs} s t = subst (λ v. Stands l (beside m n) v) (append-nil xs) (more s t)

one : {l : ℕ} {m : Measure} {xs : List (ℕ × ℕ)} → Stands l m xs → Stands l (all (m ∷ [])) xs
one {l = l} s = last s (none l)

outer : {l : ℕ} {m : Measure} {xs : List (ℕ × ℕ)} → Stands l m xs → Stands l (outermost m) xs
outer s = record { rows = s.rows }

above : {l : ℕ} {m : Measure} {xs : List (ℕ × ℕ)} (a : ℕ) → Stands (suc l) m xs → Stands l (limits.statement a m) ((suc l, a) ∷ xs)
above a s = record { rows = rows_node a s.rows }

-- a declarator is on no level
place : {l : ℕ} {m : Measure} {xs : List (ℕ × ℕ)} (a : ℕ) → Stands l m xs → Stands l (limits.local a m) ((0, a) ∷ xs)
place {l = l} {xs = xs} a s =
    record {
      rows = record {
        preorder = ap (λ o. a ∷ o) s.rows.preorder;
        first = λ k. s.rows.first k ∙ sym (first_on_other (l + k) 0 (suc (l + k)) a xs (omega arith));
      };
    }

-- an expression has no statements
quiet : {k : ℕ} {m : Measure} {xs : List (ℕ × ℕ)} (l : ℕ) → Counts k m xs → Stands l m []
quiet l c = record { rows = record { preorder = c.no_statements; first = λ j. ap (λ b. slice_get b j) c.no_blocks } }

exp_stands : (l : ℕ) (e : Exp) → Stands l (limits.exp e) []
exp_stands l e = quiet l (exp_counts 0 e)

arguments_stand : (l : ℕ) (es : List Exp) → Stands l (limits.arguments es) []
arguments_stand l [] = none l
arguments_stand l (e ∷ es) = outer (more (exp_stands l e) (one (arguments_stand l es)))

call_stands : (l : ℕ) (c : Call) → Stands l (limits.call c) []
call_stands l (tree.Calls a n es) = outer (one (arguments_stand l es))

rhs_stands : (l : ℕ) (r : Rhs) → Stands l (limits.rhs r) []
rhs_stands l (tree.Value e) = outer (one (exp_stands l e))
rhs_stands l (tree.Result c) = one (call_stands l c)

simple_stands : (l : ℕ) (s : Simple) → Stands l (limits.simple s) []
simple_stands l (tree.Assign e r) = outer (more (exp_stands l e) (one (rhs_stands l r)))
simple_stands l (tree.Update o e x) = outer (more (exp_stands l e) (one (exp_stands l x)))
simple_stands l (tree.After o e) = outer (one (exp_stands l e))
simple_stands l (tree.Before a o e) = outer (one (exp_stands l e))
simple_stands l (tree.Invoke c) = outer (one (call_stands l c))

initial_stands : (l : ℕ) (r : Option Rhs) → Stands l (limits.initial r) []
initial_stands l None = none l
initial_stands l (Some r) = one (rhs_stands l r)

inits_stand : (l : ℕ) (is : List Init) → Stands l (limits.inits is) (in_inits is)
inits_stand l [] = none l
inits_stand l (tree.Initialized d r ∷ is) = place (first_of_declarator d) (more (quiet l (declarator_counts 0 d)) (more (initial_stands l r) (one (inits_stand l is))))

locals_stand : (l : ℕ) (d : Local) → Stands l (limits.locals d) (in_local d)
locals_stand l (tree.Locals ws is) = outer (more (quiet l (words_counts 0 ws)) (one (inits_stand l is)))

label_stands : (l : ℕ) (la : Label) → Stands l (limits.label la) []
label_stands l (tree.Case a e) = outer (one (exp_stands l e))
label_stands l (tree.Default a) = none l

labels_stand : (l : ℕ) (las : List Label) → Stands l (limits.labels las) []
labels_stand l [] = none l
labels_stand l (la ∷ las) = more (label_stands l la) (one (labels_stand l las))

start_stands : (l : ℕ) (h : Start) → Stands l (limits.start h) (in_start h)
start_stands l tree.NoStart = none l
start_stands l (tree.StartLocal d) = one (locals_stand l d)
start_stands l (tree.StartSimple s) = one (simple_stands l s)

test_stands : (l : ℕ) (c : Option Exp) → Stands l (limits.test c) []
test_stands l None = none l
test_stands l (Some e) = outer (one (exp_stands l e))

step_stands : (l : ℕ) (u : Option Simple) → Stands l (limits.step u) []
step_stands l None = none l
step_stands l (Some s) = one (simple_stands l s)

mutual
  stmt_stands : (l : ℕ) (s : Stmt) → Stands l (limits.stmt s) (statements_of (suc l) s)
  stmt_stands l (tree.Empty a) = above a (none (suc l))
  stmt_stands l (tree.Block a is) = above a (one (items_stand (suc l) is))
  stmt_stands l (tree.Simply s) = above (first_of_simple s) (one (simple_stands (suc l) s))
  stmt_stands l (tree.Break a) = above a (none (suc l))
  stmt_stands l (tree.Continue a) = above a (none (suc l))
  stmt_stands l (tree.Return a r) = above a (initial_stands (suc l) r)
  stmt_stands l (tree.If a e s) = above a (more (exp_stands (suc l) e) (one (stmt_stands (suc l) s)))
  stmt_stands l (tree.IfElse a e s t) = above a (more (exp_stands (suc l) e) (more (stmt_stands (suc l) s) (one (stmt_stands (suc l) t))))
  stmt_stands l (tree.While a e s) = above a (more (exp_stands (suc l) e) (one (stmt_stands (suc l) s)))
  stmt_stands l (tree.For a h c u s) = above a (more (start_stands (suc l) h) (more (test_stands (suc l) c) (more (step_stands (suc l) u) (one (stmt_stands (suc l) s)))))
  stmt_stands l (tree.Do a s e) = above a (last (stmt_stands (suc l) s) (one (exp_stands (suc l) e)))
  stmt_stands l (tree.Switch a e gs) = above a (more (exp_stands (suc l) e) (one (groups_stand (suc l) gs)))

  items_stand : (l : ℕ) (is : Items) → Stands l (limits.items is) (in_items (suc l) is)
  items_stand l tree.NoItems = none l
  items_stand l (tree.LocalItem d is) = more (locals_stand l d) (one (items_stand l is))
  items_stand l (tree.StatementItem s is) = more (stmt_stands l s) (one (items_stand l is))

  groups_stand : (l : ℕ) (gs : Groups) → Stands l (limits.groups gs) (in_groups (suc l) gs)
  groups_stand l tree.NoGroups = none l
  groups_stand l (tree.MoreGroups la las s is gs) = more (label_stands l la) (more (labels_stand l las) (more (stmt_stands l s) (more (items_stand l is) (one (groups_stand l gs)))))

pub statements_in_preorder : (is : Items) → (limits.items is).statements ≡ map (λ n. n.1) (in_items 1 is)
statements_in_preorder is = (items_stand 0 is).rows.preorder

pub first_statements : (is : Items) (k : ℕ) → slice_get (limits.items is).blocks k ≡ first_on (k + 1) (in_items 1 is)
first_statements is k = let level : suc (0 + k) ≡ k + 1 = omega arith in (items_stand 0 is).rows.first k ∙ ap (λ n. first_on n (in_items 1 is)) level
