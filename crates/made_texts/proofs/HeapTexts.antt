-- A program that was lifted to typed heaps has a text where the program on bytes has one, and so has the tree of rules that leads there;
-- and it binds as few names at a time.
use Rattle.std.proofs.Common.{◌≡◌, ℕ, suc, ◌^◌, ◌≤◌, nat_lt, nat_le, Bool, true, false, cond, ◌&&◌, List, [], ◌∷◌, length, refl, sym, subst, ◌∙◌, arith}
use Rattle.std.proofs.lemmas.Bool.{and_parts, and_from, le-leb}
use Rattle.c_values.specs.Name.{are_distinct}
use Rattle.expression_lang.specs.Expression.{Exp, Var, WordLit, NumberLit, TruthLit, WordBinary, WordShift, WordUnary, WordCompare, Cast, ToNat, ToInt, ToWord, Arith, Negate, Lt, Le, Between, Eq, And, Or, Imp, Not, If, Padd, At, Load, Read, Tagged, PtrOk, Global, Sel, Upd, Path, Here, IntoField, IntoElement}
use Rattle.expression_text.specs.Names.{is_name}
use Rattle.expression_text.specs.Numbers.{is_number}
use Rattle.expression_text.specs.TypeText.{is_type}
use Rattle.expression_text.specs.ExpText.{is_width, is_of_two, is_one_step, is_exp, is_path}
use Rattle.expression_text.specs.Lists.{each}
use Rattle.monad_lang.specs.Program as M
use Rattle.monad_lang.specs.Program.{Mon, Start}
use Rattle.monad_lang.specs.Run.{start_names}
use Rattle.program_text.specs.MonText.{is_mon, is_start, is_place}
use Rattle.rule_trees.specs.RuleTree.{Tree, Trees, node, no_trees, tree, count}
use Rattle.rule_heap.specs.Rule as R
use Rattle.rule_heap.specs.Rule.{Rule}
use Rattle.rule_heap.specs.ExpLifted.{exp_lifted, path_lifted, leaf, over_one, over_two, leaf_or_op, exp_tree, path_trees}
use Rattle.rule_heap.specs.HeapLifted.{exps_lifted, starts_lifted, place_lifted, is_pair, on_heaps, is_plain, exp_trees, start_trees, place_tree, TreesOf, root_of, bind_tree, same_or, alone, trees_of, heap_tree}
use Rattle.rule_heap.proofs.HeapTaken.{starts_named}
use Rattle.rule_text.specs.Arities.{fits, at_least}
use Rattle.rule_text.specs.HeapText.{arity, has_text, is_tree}
use Rattle.rule_text.specs.RuleText as trees
use Rattle.made_texts.specs.Few.{most_names, binds_few}

abbrev pub are_trees : Trees Rule → Bool
are_trees = trees.are_trees arity has_text

-- Arities

pub least : (k n : ℕ) → k ≤ n → fits (at_least k) n ≡ true
least k n h = and_from (nat_le k n) true (le-leb k n h) refl

pub least_one : (n : ℕ) → fits (at_least 1) (suc n) ≡ true
least_one n = least 1 (suc n) (omega arith)

-- Expressions

pub record ExpHasText (e : Exp) : Type 0 where
  pub program : is_exp (exp_lifted e) ≡ true
  pub rules : is_tree (exp_tree e) ≡ true

pub record PathHasText (path : Path) (ts : Trees Rule) : Type 0 where
  pub program : is_path (path_lifted path) ≡ true
  pub rules : are_trees (path_trees path ts) ≡ true

over_one_text : (rule : Rule) (t : Tree Rule) → fits (arity rule) 1 && has_text rule ≡ true → is_tree t ≡ true →
    is_tree (over_one rule t) ≡ true
over_one_text rule t f h = and_from _ _ f (and_from _ _ h refl)

over_two_text : (rule : Rule) (t u : Tree Rule) → fits (arity rule) 2 && has_text rule ≡ true → is_tree t ≡ true →
    is_tree u ≡ true → is_tree (over_two rule t u) ≡ true
over_two_text rule t u f h k = and_from _ _ f (and_from _ _ h (and_from _ _ k refl))

-- of a rule without data
some_text : (rule : Rule) (t : Tree Rule) (ts : Trees Rule) → fits (arity rule) (suc (count ts)) ≡ true → has_text rule ≡ true →
    is_tree t ≡ true → are_trees ts ≡ true → is_tree (node rule (tree t ts)) ≡ true
some_text rule t ts f d h k = and_from _ _ (and_from _ _ f d) (and_from _ _ h k)

leaf_or_text : (ts : Trees Rule) → are_trees ts ≡ true → is_tree (leaf_or_op ts) ≡ true
leaf_or_text no_trees h = refl
leaf_or_text (tree t ts) h = and_from _ _ (and_from _ _ (least_one (count ts)) refl) h

one_step_lifted : (path : Path) → is_one_step (path_lifted path) ≡ is_one_step path
one_step_lifted (IntoField k Here) = refl
one_step_lifted (IntoElement e Here) = refl
one_step_lifted _ = refl

leaf_text : (e : Exp) → is_exp (exp_lifted e) ≡ true → is_tree (exp_tree e) ≡ true → ExpHasText e
leaf_text e h k = record { program = h; rules = k }

mutual
  pub exp_texts : (e : Exp) → is_exp e ≡ true → ExpHasText e
  exp_texts (Var x) h = leaf_text (Var x) h refl
  exp_texts (WordLit w) h = leaf_text (WordLit w) h refl
  exp_texts (NumberLit n) h = leaf_text (NumberLit n) h refl
  exp_texts (TruthLit b) h = leaf_text (TruthLit b) h refl
  exp_texts (WordBinary op a b) h =
      let p = and_parts (is_exp a) (is_exp b) h in
      let x = exp_texts a p.0 in
      let y = exp_texts b p.1 in
      record { program = and_from _ _ x.program y.program; rules = over_two_text R.Op (exp_tree a) (exp_tree b) refl x.rules y.rules }
  exp_texts (WordShift op a b) h =
      let p = and_parts (is_exp a) (is_exp b) h in
      let x = exp_texts a p.0 in
      let y = exp_texts b p.1 in
      record { program = and_from _ _ x.program y.program; rules = over_two_text R.Op (exp_tree a) (exp_tree b) refl x.rules y.rules }
  exp_texts (WordCompare op a b) h =
      let p = and_parts (is_exp a) (is_exp b) h in
      let x = exp_texts a p.0 in
      let y = exp_texts b p.1 in
      record { program = and_from _ _ x.program y.program; rules = over_two_text R.Op (exp_tree a) (exp_tree b) refl x.rules y.rules }
  exp_texts (Lt a b) h =
      let p = and_parts (is_exp a) (is_exp b) h in
      let x = exp_texts a p.0 in
      let y = exp_texts b p.1 in
      record { program = and_from _ _ x.program y.program; rules = over_two_text R.Op (exp_tree a) (exp_tree b) refl x.rules y.rules }
  exp_texts (Le a b) h =
      let p = and_parts (is_exp a) (is_exp b) h in
      let x = exp_texts a p.0 in
      let y = exp_texts b p.1 in
      record { program = and_from _ _ x.program y.program; rules = over_two_text R.Op (exp_tree a) (exp_tree b) refl x.rules y.rules }
  exp_texts (Eq a b) h =
      let p = and_parts (is_exp a) (is_exp b) h in
      let x = exp_texts a p.0 in
      let y = exp_texts b p.1 in
      record { program = and_from _ _ x.program y.program; rules = over_two_text R.Op (exp_tree a) (exp_tree b) refl x.rules y.rules }
  exp_texts (And a b) h =
      let p = and_parts (is_exp a) (is_exp b) h in
      let x = exp_texts a p.0 in
      let y = exp_texts b p.1 in
      record { program = and_from _ _ x.program y.program; rules = over_two_text R.And (exp_tree a) (exp_tree b) refl x.rules y.rules }
  exp_texts (Or a b) h =
      let p = and_parts (is_exp a) (is_exp b) h in
      let x = exp_texts a p.0 in
      let y = exp_texts b p.1 in
      record { program = and_from _ _ x.program y.program; rules = over_two_text R.Or (exp_tree a) (exp_tree b) refl x.rules y.rules }
  exp_texts (Imp a b) h =
      let p = and_parts (is_exp a) (is_exp b) h in
      let x = exp_texts a p.0 in
      let y = exp_texts b p.1 in
      record { program = and_from _ _ x.program y.program; rules = over_two_text R.Imp (exp_tree a) (exp_tree b) refl x.rules y.rules }
  exp_texts (WordUnary op a) h =
      let x = exp_texts a h in record { program = x.program; rules = over_one_text R.Op (exp_tree a) refl x.rules }
  exp_texts (ToNat a) h =
      let x = exp_texts a h in record { program = x.program; rules = over_one_text R.Op (exp_tree a) refl x.rules }
  exp_texts (ToInt a) h =
      let x = exp_texts a h in record { program = x.program; rules = over_one_text R.Op (exp_tree a) refl x.rules }
  exp_texts (Negate a) h =
      let x = exp_texts a h in record { program = x.program; rules = over_one_text R.Op (exp_tree a) refl x.rules }
  exp_texts (Not a) h =
      let x = exp_texts a h in record { program = x.program; rules = over_one_text R.Op (exp_tree a) refl x.rules }
  exp_texts (Cast op n a) h =
      let p = and_parts (is_width n) (is_exp a) h in
      let x = exp_texts a p.1 in
      record { program = and_from _ _ p.0 x.program; rules = over_one_text R.Op (exp_tree a) refl x.rules }
  exp_texts (ToWord n a) h =
      let p = and_parts (is_width n) (is_exp a) h in
      let x = exp_texts a p.1 in
      record { program = and_from _ _ p.0 x.program; rules = over_one_text R.Op (exp_tree a) refl x.rules }
  exp_texts (Arith op a b) h =
      let q = and_parts (is_of_two op) (is_exp a && is_exp b) h in
      let p = and_parts (is_exp a) (is_exp b) q.1 in
      let x = exp_texts a p.0 in
      let y = exp_texts b p.1 in
      record {
        program = and_from _ _ q.0 (and_from _ _ x.program y.program);
        rules = over_two_text R.Op (exp_tree a) (exp_tree b) refl x.rules y.rules;
      }
  exp_texts (Between low a high) h =
      let q = and_parts (is_number low) (is_exp a && is_number high) h in
      let p = and_parts (is_exp a) (is_number high) q.1 in
      let x = exp_texts a p.0 in
      record { program = and_from _ _ q.0 (and_from _ _ x.program p.1); rules = over_one_text R.Op (exp_tree a) refl x.rules }
  exp_texts (If c a b) h =
      let q = and_parts (is_exp c) (is_exp a && is_exp b) h in
      let p = and_parts (is_exp a) (is_exp b) q.1 in
      let z = exp_texts c q.0 in
      let x = exp_texts a p.0 in
      let y = exp_texts b p.1 in
      record {
        program = and_from _ _ z.program (and_from _ _ x.program y.program);
        rules = and_from (is_tree (exp_tree c)) _ z.rules (and_from (is_tree (exp_tree a)) _ x.rules (and_from (is_tree (exp_tree b)) true y.rules refl));
      }
  exp_texts (Padd t a b) h =
      let q = and_parts (is_type t) (is_exp a && is_exp b) h in
      let p = and_parts (is_exp a) (is_exp b) q.1 in
      let x = exp_texts a p.0 in
      let y = exp_texts b p.1 in
      record {
        program = and_from _ _ q.0 (and_from _ _ x.program y.program);
        rules = over_two_text R.Op (exp_tree a) (exp_tree b) refl x.rules y.rules;
      }
  exp_texts (At t a path) h =
      let q = and_parts (is_type t) (is_exp a && is_path path) h in
      let p = and_parts (is_exp a) (is_path path) q.1 in
      let x = exp_texts a p.0 in
      let y = path_texts path no_trees p.1 refl in
      record {
        program = and_from _ _ q.0 (and_from _ _ x.program y.program);
        rules = some_text R.Op (exp_tree a) (path_trees path no_trees) (least_one (count (path_trees path no_trees))) refl x.rules y.rules;
      }
  exp_texts (Load t a path) h =
      let q = and_parts (is_type t) (is_exp a && is_path path) h in
      let p = and_parts (is_exp a) (is_path path) q.1 in
      let x = exp_texts a p.0 in
      let y = path_texts path no_trees p.1 refl in
      record {
        program = and_from _ _ q.0 (and_from _ _ x.program y.program);
        rules = some_text R.Load (exp_tree a) (path_trees path no_trees) (least_one (count (path_trees path no_trees))) refl x.rules y.rules;
      }
  exp_texts (Read t a path) h =
      let q = and_parts (is_type t) (is_exp a && is_path path) h in
      let p = and_parts (is_exp a) (is_path path) q.1 in
      let x = exp_texts a p.0 in
      let y = path_texts path no_trees p.1 refl in
      record {
        program = and_from _ _ q.0 (and_from _ _ x.program y.program);
        rules = some_text R.Op (exp_tree a) (path_trees path no_trees) (least_one (count (path_trees path no_trees))) refl x.rules y.rules;
      }
  exp_texts (Tagged t a) h =
      let p = and_parts (is_type t) (is_exp a) h in
      let x = exp_texts a p.1 in
      record { program = and_from _ _ p.0 x.program; rules = over_one_text R.Tagged (exp_tree a) refl x.rules }
  exp_texts (PtrOk t a) h =
      let p = and_parts (is_type t) (is_exp a) h in
      let x = exp_texts a p.1 in
      record { program = and_from _ _ p.0 x.program; rules = over_one_text R.PtrOk (exp_tree a) refl x.rules }
  exp_texts (Global x path) h =
      let p = and_parts (is_name x) (is_path path) h in
      let y = path_texts path no_trees p.1 refl in
      record { program = and_from _ _ p.0 y.program; rules = leaf_or_text (path_trees path no_trees) y.rules }
  exp_texts (Sel a path) h =
      let q = and_parts (is_exp a) (is_one_step path && is_path path) h in
      let p = and_parts (is_one_step path) (is_path path) q.1 in
      let x = exp_texts a q.0 in
      let y = path_texts path no_trees p.1 refl in
      record {
        program = and_from _ _ x.program (and_from _ _ (one_step_lifted path ∙ p.0) y.program);
        rules = some_text R.Op (exp_tree a) (path_trees path no_trees) (least_one (count (path_trees path no_trees))) refl x.rules y.rules;
      }
  exp_texts (Upd a path b) h =
      let q = and_parts (is_exp a) (is_path path && is_exp b) h in
      let p = and_parts (is_path path) (is_exp b) q.1 in
      let x = exp_texts a q.0 in
      let z = exp_texts b p.1 in
      let y = path_texts path (tree (exp_tree b) no_trees) p.0 (and_from _ _ z.rules refl) in
      record {
        program = and_from _ _ x.program (and_from _ _ y.program z.program);
        rules = some_text R.Op (exp_tree a) (path_trees path (tree (exp_tree b) no_trees)) (least_one (count (path_trees path (tree (exp_tree b) no_trees)))) refl x.rules y.rules;
      }

  pub path_texts : (path : Path) (ts : Trees Rule) → is_path path ≡ true → are_trees ts ≡ true → PathHasText path ts
  path_texts Here ts h k = record { program = refl; rules = k }
  path_texts (IntoField k path) ts h l =
      let p = and_parts (nat_lt k (2 ^ 32)) (is_path path) h in
      let y = path_texts path ts p.1 l in
      record { program = and_from _ _ p.0 y.program; rules = y.rules }
  path_texts (IntoElement e path) ts h l =
      let p = and_parts (is_exp e) (is_path path) h in
      let x = exp_texts e p.0 in
      let y = path_texts path ts p.1 l in
      record { program = and_from _ _ x.program y.program; rules = and_from _ _ x.rules y.rules }

-- Lists of expressions

pub exps_texts : (es : List Exp) → each is_exp es ≡ true → each is_exp (exps_lifted es) ≡ true
exps_texts [] h = refl
exps_texts (e ∷ es) h =
    let p = and_parts (is_exp e) (each is_exp es) h in
    and_from (is_exp (exp_lifted e)) (each is_exp (exps_lifted es)) (exp_texts e p.0).program (exps_texts es p.1)

trees_texts : (es : List Exp) (ts : Trees Rule) → each is_exp es ≡ true → are_trees ts ≡ true →
    are_trees (exp_trees es ts) ≡ true
trees_texts [] ts h k = k
trees_texts (e ∷ es) ts h k =
    let p = and_parts (is_exp e) (each is_exp es) h in
    and_from (is_tree (exp_tree e)) (are_trees (exp_trees es ts)) (exp_texts e p.0).rules (trees_texts es ts p.1 k)

starts_texts : (xs : List Start) → each is_start xs ≡ true → each is_start (starts_lifted xs) ≡ true
starts_texts [] h = refl
starts_texts (x ∷ xs) h =
    let p = and_parts (is_start x) (each is_start xs) h in
    let q = and_parts (is_name x.name) (is_exp x.exp) p.0 in
    and_from (is_name x.name && is_exp (exp_lifted x.exp)) (each is_start (starts_lifted xs))
    (and_from (is_name x.name) (is_exp (exp_lifted x.exp)) q.0 (exp_texts x.exp q.1).program) (starts_texts xs p.1)

start_trees_texts : (xs : List Start) (ts : Trees Rule) → each is_start xs ≡ true → are_trees ts ≡ true →
    are_trees (start_trees xs ts) ≡ true
start_trees_texts [] ts h k = k
start_trees_texts (x ∷ xs) ts h k =
    let p = and_parts (is_start x) (each is_start xs) h in
    let q = and_parts (is_name x.name) (is_exp x.exp) p.0 in
    and_from (is_tree (exp_tree x.exp)) (are_trees (start_trees xs ts)) (exp_texts x.exp q.1).rules
    (start_trees_texts xs ts p.1 k)

-- how many trees there are
more_starts : (xs : List Start) (ts : Trees Rule) → count ts ≤ count (start_trees xs ts)
more_starts [] ts = omega arith
more_starts (x ∷ xs) ts = omega (arith, more_starts xs ts)

more_indices : (path : Path) (ts : Trees Rule) → count ts ≤ count (path_trees path ts)
more_indices Here ts = omega arith
more_indices (IntoField k path) ts = more_indices path ts
more_indices (IntoElement e path) ts = omega (arith, more_indices path ts)

-- Places

place_texts : (place : M.Place) → is_place place ≡ true → is_place (place_lifted place) ≡ true
place_texts (M.Stored t p path) h =
    let i = and_parts (is_type t) (is_exp p && is_path path) h in
    let j = and_parts (is_exp p) (is_path path) i.1 in
    and_from _ _ i.0 (and_from _ _ (exp_texts p j.0).program (path_texts path no_trees j.1 refl).program)
place_texts (M.Written t p path) h =
    let i = and_parts (is_type t) (is_exp p && is_path path) h in
    let j = and_parts (is_exp p) (is_path path) i.1 in
    and_from _ _ i.0 (and_from _ _ (exp_texts p j.0).program (path_texts path no_trees j.1 refl).program)
place_texts (M.Global x path) h =
    let i = and_parts (is_name x) (is_path path) h in and_from _ _ i.0 (path_texts path no_trees i.1 refl).program

written_text : (place : M.Place) (t : Tree Rule) → is_place place ≡ true → is_tree t ≡ true → is_tree (place_tree place t) ≡ true
written_text (M.Stored u p path) t h k =
    let i = and_parts (is_type u) (is_exp p && is_path path) h in
    let j = and_parts (is_exp p) (is_path path) i.1 in
    let ts = path_trees path (tree t no_trees) in
    and_from _ _ (and_from _ _ (least 2 (suc (count ts)) (omega (arith, more_indices path (tree t no_trees)))) refl)
    (and_from _ _ (exp_texts p j.0).rules (path_texts path (tree t no_trees) j.1 (and_from _ _ k refl)).rules)
written_text (M.Written u p path) t h k = refl
written_text (M.Global x path) t h k =
    let i = and_parts (is_name x) (is_path path) h in
    let ts = path_trees path (tree t no_trees) in
    and_from _ _ (and_from _ _ (least 1 (count ts) (omega (arith, more_indices path (tree t no_trees)))) refl)
    (path_texts path (tree t no_trees) i.1 (and_from _ _ k refl)).rules

-- Programs

pub heap_program : (m : Mon) → is_mon m ≡ true → is_mon (on_heaps m) ≡ true
heap_program (M.Ret es) h = exps_texts es h
heap_program (M.Bind m xs n) h =
    let p = and_parts (each is_name xs && are_distinct xs) (is_mon m && is_mon n) h in
    let q = and_parts (is_mon m) (is_mon n) p.1 in
    by_test (is_pair m xs n) p.0 (heap_program m q.0) (heap_program n q.1)
  where
    by_test : (b : Bool) → each is_name xs && are_distinct xs ≡ true → is_mon (on_heaps m) ≡ true → is_mon (on_heaps n) ≡ true →
        is_mon (cond b (on_heaps n) (M.Bind (on_heaps m) xs (on_heaps n))) ≡ true
    by_test true i j k = k
    by_test false i j k = and_from _ _ i (and_from _ _ j k)
heap_program (M.Guard e) h = (exp_texts e h).program
heap_program (M.If e m n) h =
    let p = and_parts (is_exp e) (is_mon m && is_mon n) h in
    let q = and_parts (is_mon m) (is_mon n) p.1 in
    and_from _ _ (exp_texts e p.0).program (and_from _ _ (heap_program m q.0) (heap_program n q.1))
heap_program (M.Write place e) h =
    let p = and_parts (is_place place) (is_exp e) h in and_from _ _ (place_texts place p.0) (exp_texts e p.1).program
heap_program (M.Loop starts guard test m) h =
    let p = and_parts (each is_start starts && are_distinct (start_names starts)) (is_exp guard && (is_exp test && is_mon m)) h in
    let s = and_parts (each is_start starts) (are_distinct (start_names starts)) p.0 in
    let q = and_parts (is_exp guard) (is_exp test && is_mon m) p.1 in
    let r = and_parts (is_exp test) (is_mon m) q.1 in
    and_from _ _
    (and_from _ _ (starts_texts starts s.0) (subst (λ xs. are_distinct xs ≡ true) (sym (starts_named starts)) s.1))
    (and_from _ _ (exp_texts guard q.0).program (and_from _ _ (exp_texts test r.0).program (heap_program m r.1)))
heap_program (M.Call f es) h =
    let p = and_parts (is_name f) (each is_exp es) h in and_from _ _ p.0 (exps_texts es p.1)
heap_program (M.Pick k) h = h

pub heap_few : (m : Mon) → binds_few m ≡ true → binds_few (on_heaps m) ≡ true
heap_few (M.Bind m xs n) h =
    let p = and_parts (nat_le (length xs) most_names) (binds_few m && binds_few n) h in
    let q = and_parts (binds_few m) (binds_few n) p.1 in
    by_test (is_pair m xs n) p.0 (heap_few m q.0) (heap_few n q.1)
  where
    by_test : (b : Bool) → nat_le (length xs) most_names ≡ true → binds_few (on_heaps m) ≡ true →
        binds_few (on_heaps n) ≡ true → binds_few (cond b (on_heaps n) (M.Bind (on_heaps m) xs (on_heaps n))) ≡ true
    by_test true i j k = k
    by_test false i j k = and_from _ _ i (and_from _ _ j k)
heap_few (M.If e m n) h =
    let q = and_parts (binds_few m) (binds_few n) h in and_from _ _ (heap_few m q.0) (heap_few n q.1)
heap_few (M.Loop starts guard test m) h = heap_few m h
heap_few _ _ = refl

-- Trees

same_or_text : (m : Mon) (t : Tree Rule) → is_tree t ≡ true → is_tree (same_or m t) ≡ true
same_or_text m t h = by_test (is_plain m)
  where
    by_test : (b : Bool) → is_tree (cond b (leaf R.Same) t) ≡ true
    by_test true = refl
    by_test false = h

record TreesHaveTexts (ts : TreesOf) : Type 0 where
  here : is_tree ts.here ≡ true
  second : is_tree ts.second ≡ true

alone_text : (m : Mon) (t : Tree Rule) → is_tree t ≡ true → TreesHaveTexts (alone m t)
alone_text m t h = record { here = same_or_text m t h; second = refl }

root_text : (m : Mon) → is_mon m ≡ true → is_exp (root_of m) ≡ true
root_text (M.Guard (PtrOk t p)) h = (and_parts (is_type t) (is_exp p) h).1
root_text m h = refl

pair_text : (b : Bool) (m : Mon) (t : Tree Rule) (n : TreesOf) → is_mon m ≡ true → is_tree t ≡ true → TreesHaveTexts n →
    is_tree (bind_tree b m t n) ≡ true
pair_text true m t n h k l = over_two_text R.Pointer (exp_tree (root_of m)) n.second refl (exp_texts (root_of m) (root_text m h)).rules l.second
pair_text false m t n h k l = over_two_text R.Bind t n.here refl k l.here

trees_texts_of : (m : Mon) → is_mon m ≡ true → TreesHaveTexts (trees_of m)
trees_texts_of (M.Ret es) h =
    alone_text (M.Ret es) (node R.Ret (exp_trees es no_trees))
    (and_from _ _ (and_from _ _ (least 0 (count (exp_trees es no_trees)) (omega arith)) refl) (trees_texts es no_trees h refl))
trees_texts_of (M.Bind m xs n) h =
    let p = and_parts (each is_name xs && are_distinct xs) (is_mon m && is_mon n) h in
    let q = and_parts (is_mon m) (is_mon n) p.1 in
    let a = trees_texts_of m q.0 in
    let b = trees_texts_of n q.1 in
    record {
      here = same_or_text (M.Bind m xs n) (bind_tree (is_pair m xs n) m (trees_of m).here (trees_of n)) (pair_text (is_pair m xs n) m (trees_of m).here (trees_of n) q.0 a.here b);
      second = b.here;
    }
trees_texts_of (M.Guard e) h =
    alone_text (M.Guard e) (over_one R.Guard (exp_tree e)) (over_one_text R.Guard (exp_tree e) refl (exp_texts e h).rules)
trees_texts_of (M.If e m n) h =
    let p = and_parts (is_exp e) (is_mon m && is_mon n) h in
    let q = and_parts (is_mon m) (is_mon n) p.1 in
    alone_text (M.If e m n) (node R.If (tree (exp_tree e) (tree (trees_of m).here (tree (trees_of n).here no_trees))))
    (and_from _ _ (exp_texts e p.0).rules
    (and_from _ _ (trees_texts_of m q.0).here (and_from _ _ (trees_texts_of n q.1).here refl)))
trees_texts_of (M.Write place e) h =
    let p = and_parts (is_place place) (is_exp e) h in
    alone_text (M.Write place e) (place_tree place (exp_tree e)) (written_text place (exp_tree e) p.0 (exp_texts e p.1).rules)
trees_texts_of (M.Loop starts guard test m) h =
    let p = and_parts (each is_start starts && are_distinct (start_names starts)) (is_exp guard && (is_exp test && is_mon m)) h in
    let s = and_parts (each is_start starts) (are_distinct (start_names starts)) p.0 in
    let q = and_parts (is_exp guard) (is_exp test && is_mon m) p.1 in
    let r = and_parts (is_exp test) (is_mon m) q.1 in
    let ts = tree (exp_tree guard) (tree (exp_tree test) (tree (trees_of m).here no_trees)) in
    alone_text (M.Loop starts guard test m) (node R.Loop (start_trees starts ts))
    (and_from _ _ (and_from _ _ (least 3 (count (start_trees starts ts)) (omega (arith, more_starts starts ts))) refl)
    (start_trees_texts starts ts s.0 (and_from _ _ (exp_texts guard q.0).rules
    (and_from _ _ (exp_texts test r.0).rules (and_from _ _ (trees_texts_of m r.1).here refl)))))
trees_texts_of (M.Call f es) h =
    let p = and_parts (is_name f) (each is_exp es) h in
    alone_text (M.Call f es) (node R.Call (exp_trees es no_trees))
    (and_from _ _ (and_from _ _ (least 0 (count (exp_trees es no_trees)) (omega arith)) refl)
    (trees_texts es no_trees p.1 refl))
trees_texts_of (M.Pick k) h = alone_text (M.Pick k) (leaf R.Pick) refl

pub heap_rules : (m : Mon) → is_mon m ≡ true → is_tree (heap_tree m) ≡ true
heap_rules m h = (trees_texts_of m h).here
