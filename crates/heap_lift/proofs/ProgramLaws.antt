-- What a program is lifted to, by its parts.
use Rattle.std.proofs.Common.{◌≡◌, Bool, true, false, ◌&&◌, List, [], ◌∷◌, ◌++◌, cond, refl, sym, ap, ap₂, ◌∙◌}
use Rattle.c_values.specs.Name.{Name}
use Rattle.c_values.specs.Types.{CType}
use Rattle.expression_lang.specs.Expression as E
use Rattle.expression_lang.specs.Expression.{Exp}
use Rattle.monad_lang.specs.Program as M
use Rattle.monad_lang.specs.Program.{Mon, Start}
use Rattle.monad_lang.specs.Form.{is_heaps}
use Rattle.rule_trees.specs.RuleTree.{Tree, node, no_trees, tree}
use Rattle.rule_heap.specs.Rule as R
use Rattle.rule_heap.specs.Rule.{Rule}
use Rattle.rule_heap.specs.ExpLifted.{exp_lifted, exp_tree, over_two, over_three}
use Rattle.rule_heap.specs.HeapLifted.{on_heaps, heap_tree, trees_of, bind_tree, is_plain, is_pair, starts_lifted, start_trees}
use Rattle.heap_lift.specs.declared.fronts.Front as F
use Rattle.heap_lift.specs.Lifted.{Lifted, lifted, lifted_exp, made, bound, tested, looped, pointed, is_plain_exp, are_plain_starts}
use Rattle.heap_lift.specs.CodeLifted.{with_front, with_fronts}
use Rattle.heap_lift.proofs.PlainLaws.{plain_bind, plain_if, plain_loop, plain_pair}
use Rattle.heap_lift.proofs.PairLaws.{same_pair}

pub with_fronts_push : (xs : List F.Front) (x : F.Front) (last : Lifted) → with_fronts (xs ++ x ∷ []) last ≡ with_fronts xs (with_front x last)
with_fronts_push [] x last = refl
with_fronts_push (y ∷ ys) x last = ap (λ l. with_front y l) (with_fronts_push ys x last)

-- what is made of a right side and a tree, whether or not there was nothing to do
made_by : (p : Bool) (a : Bool) (m : Mon) (t : Tree Rule) → p ≡ a → made p m t ≡ made a m t
made_by p a m t e = ap (λ b. made b m t) e

bind_made : (m : Mon) (xs : List Name) (n : Mon) (b : Bool) → is_pair m xs n ≡ b →
    lifted (M.Bind m xs n) ≡ made (is_plain (M.Bind m xs n)) (cond b (on_heaps n) (M.Bind (on_heaps m) xs (on_heaps n))) (bind_tree b m (heap_tree m) (trees_of n))
bind_made m xs n b e = ap (λ c. made (is_plain (M.Bind m xs n)) (cond c (on_heaps n) (M.Bind (on_heaps m) xs (on_heaps n))) (bind_tree c m (heap_tree m) (trees_of n))) e

pub lifted_bind : (m : Mon) (xs : List Name) (n : Mon) → is_pair m xs n ≡ false → lifted (M.Bind m xs n) ≡ bound (lifted m) xs (lifted n)
lifted_bind m xs n e =
    bind_made m xs n false e
    ∙ made_by (is_plain (M.Bind m xs n)) (is_plain m && is_plain n) (M.Bind (on_heaps m) xs (on_heaps n)) (over_two R.Bind (heap_tree m) (heap_tree n)) (plain_bind m xs n)

pair_made : (t : CType) (p : Exp) (r : Mon) → lifted (M.Bind (M.Guard (E.PtrOk t p)) [] (M.Bind (M.Guard (E.Tagged t p)) [] r)) ≡ pointed t (lifted_exp p) (lifted r)
pair_made t p r =
    let m : Mon = M.Guard (E.PtrOk t p) in
    let n : Mon = M.Bind (M.Guard (E.Tagged t p)) [] r in
    let right : Mon = M.Bind (M.Guard (E.Tagged t (exp_lifted p))) [] (on_heaps r) in
    bind_made m [] n true (same_pair t p r)
    ∙ made_by (is_plain (M.Bind m [] n)) false right (over_two R.Pointer (exp_tree p) (heap_tree r)) (plain_pair (is_heaps (M.Bind m [] n)))

pub lifted_pair : (t : CType) (p : Exp) (r : Mon) (m : Mon) (xs : List Name) (n : Mon) →
    (m ≡ M.Guard (E.PtrOk t p)) × (xs ≡ []) × (n ≡ M.Bind (M.Guard (E.Tagged t p)) [] r) →
    lifted (M.Bind m xs n) ≡ pointed t (lifted_exp p) (lifted r)
lifted_pair t p r m xs n (a, b, c) = ap (λ x. lifted (M.Bind x xs n)) a ∙ ap₂ (λ x y. lifted (M.Bind (M.Guard (E.PtrOk t p)) x y)) b c ∙ pair_made t p r

pub lifted_if : (e : Exp) (m n : Mon) → lifted (M.If e m n) ≡ tested (is_plain_exp e) (lifted_exp e) (lifted m) (lifted n)
lifted_if e m n =
    made_by (is_plain (M.If e m n)) ((is_plain_exp e && is_plain m) && is_plain n) (M.If (exp_lifted e) (on_heaps m) (on_heaps n)) (over_three R.If (exp_tree e) (heap_tree m) (heap_tree n)) (plain_if e m n)

pub lifted_loop : (starts : List Start) (guard test : Exp) (m : Mon) → lifted (M.Loop starts guard test m) ≡
    looped ((are_plain_starts starts && is_plain_exp guard) && is_plain_exp test) (starts_lifted starts) (exp_lifted guard) (exp_lifted test)
    (λ more. start_trees starts (tree (exp_tree guard) (tree (exp_tree test) more))) (lifted m)
lifted_loop starts guard test m =
    made_by (is_plain (M.Loop starts guard test m)) (((are_plain_starts starts && is_plain_exp guard) && is_plain_exp test) && is_plain m)
    (M.Loop (starts_lifted starts) (exp_lifted guard) (exp_lifted test) (on_heaps m))
    (node R.Loop (start_trees starts (tree (exp_tree guard) (tree (exp_tree test) (tree (heap_tree m) no_trees))))) (plain_loop starts guard test m)

-- a front around what its last program is lifted to

pub done_bind : (front : F.Front) (x : Lifted) (m a b : Mon) (xs : List Name) → m ≡ M.Bind a xs b → is_pair a xs b ≡ false → x ≡ lifted a →
    ((d : Lifted) → with_front front d ≡ bound x xs d) → with_front front (lifted b) ≡ lifted m
done_bind front x m a b xs here other same made_so =
    made_so (lifted b) ∙ ap (λ y. bound y xs (lifted b)) same ∙ sym (lifted_bind a xs b other) ∙ sym (ap lifted here)

pub done_pair : (front : F.Front) (t : CType) (p : Exp) (m a r n : Mon) (xs : List Name) → m ≡ M.Bind a xs n →
    (a ≡ M.Guard (E.PtrOk t p)) × (xs ≡ []) × (n ≡ M.Bind (M.Guard (E.Tagged t p)) [] r) →
    ((d : Lifted) → with_front front d ≡ pointed t (lifted_exp p) d) → with_front front (lifted r) ≡ lifted m
done_pair front t p m a r n xs here pair made_so = made_so (lifted r) ∙ sym (lifted_pair t p r a xs n pair) ∙ sym (ap lifted here)

pub done_if : (front : F.Front) (x : Lifted) (e : Exp) (m a b : Mon) → m ≡ M.If e a b → x ≡ lifted a →
    ((d : Lifted) → with_front front d ≡ tested (is_plain_exp e) (lifted_exp e) x d) → with_front front (lifted b) ≡ lifted m
done_if front x e m a b here same made_so =
    made_so (lifted b) ∙ ap (λ y. tested (is_plain_exp e) (lifted_exp e) y (lifted b)) same ∙ sym (lifted_if e a b) ∙ sym (ap lifted here)

pub done_loop : (front : F.Front) (starts : List Start) (guard test : Exp) (m a : Mon) → m ≡ M.Loop starts guard test a →
    ((d : Lifted) → with_front front d ≡
    looped ((are_plain_starts starts && is_plain_exp guard) && is_plain_exp test) (starts_lifted starts) (exp_lifted guard) (exp_lifted test)
    (λ more. start_trees starts (tree (exp_tree guard) (tree (exp_tree test) more))) d) →
    with_front front (lifted a) ≡ lifted m
done_loop front starts guard test m a here made_so = made_so (lifted a) ∙ sym (lifted_loop starts guard test a) ∙ sym (ap lifted here)
