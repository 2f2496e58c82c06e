-- The trees that are put together here are accepted.
use Rattle.std.proofs.Common.{◌≡◌, true, cond, ◌&&◌, List, [], ◌∷◌, Some, refl, sym, ap, ap₂, subst}
use Rattle.std.proofs.lemmas.Bool.{and_parts, cond_both}
use Rattle.c_values.specs.Name.{Name}
use Rattle.expression_lang.specs.Expression.{Exp}
use Rattle.expression_lang.specs.Sort.{Scalar}
use Rattle.ac_expr.specs.Fact.{Whole, NotTrue}
use Rattle.monad_lang.specs.Program as M
use Rattle.monad_lang.specs.Program.{Mon, Start}
use Rattle.monad_lang.specs.Sorted.{scalars_given}
use Rattle.rule_trees.specs.RuleTree.{Tree, node, no_trees, tree}
use Rattle.rule_eq.specs.Rule as R
use Rattle.rule_eq.specs.Rule.{Rule, Point}
use Rattle.rule_eq.specs.Table.{Takes, knowing, behind, within}
use Rattle.polish.specs.Polished.{leaf, is_refl, joined, bind_tree, if_tree, loop_tree}

abbrev pub Gives : Point → Mon → List Scalar → Type 0
Gives at m cs = scalars_given at.setting m ≡ Some cs

pub nothing_taken : (at : Point) (m : Mon) → Takes at (leaf R.Refl) m m
nothing_taken at m = (refl, tt)

-- a tree that is the rule refl
pub taken_nowhere : (at : Point) (t : Tree Rule) (m n : Mon) → is_refl t ≡ true → Takes at t m n → n ≡ m
taken_nowhere at (node R.Refl ts) m n h k = k.0
taken_nowhere at (node rule ts) m n h k = absurd cc

pub joined_taken : (at : Point) (t u : Tree Rule) (m n o : Mon) (cs : List Scalar) → Takes at t m n → Takes at u n o →
    Gives at n cs → Gives at o cs → Takes at (joined n t u) m o
joined_taken at t u m n o cs h k g g' =
    cond_both (is_refl t) u (cond (is_refl u) t (node (R.Trans n) (tree t (tree u no_trees)))) (λ w. Takes at w m o)
    (λ e. subst (λ q. Takes at u q o) (taken_nowhere at t m n e h) k)
    (λ e. cond_both (is_refl u) t (node (R.Trans n) (tree t (tree u no_trees))) (λ w. Takes at w m o)
    (λ e'. subst (λ q. Takes at t m q) (sym (taken_nowhere at u n o e' k)) h)
    (λ e'. ((cs, g, g'), (h, (k, tt)))))

pub bind_taken : (at : Point) (t u : Tree Rule) (m m' : Mon) (xs : List Name) (n n' : Mon) → Takes at t m m' →
    Takes (behind m' xs at) u n n' →
    Takes at (bind_tree t u) (M.Bind m xs n) (M.Bind m' xs n')
bind_taken at t u m m' xs n n' h k =
    cond_both (is_refl t && is_refl u) (leaf R.Refl) (node R.Bind (tree t (tree u no_trees)))
    (λ w. Takes at w (M.Bind m xs n) (M.Bind m' xs n'))
    (λ e.
    let p = and_parts (is_refl t) (is_refl u) e in
    (ap₂ (λ a b. M.Bind a xs b) (taken_nowhere at t m m' p.0 h) (taken_nowhere (behind m' xs at) u n n' p.1 k), tt))
    (λ e. (refl, (h, (k, tt))))

pub if_taken : (at : Point) (t u : Tree Rule) (e : Exp) (m m' n n' : Mon) → Takes (knowing (Whole e) at) t m m' →
    Takes (knowing (NotTrue e) at) u n n' →
    Takes at (if_tree t u) (M.If e m n) (M.If e m' n')
if_taken at t u e m m' n n' h k =
    cond_both (is_refl t && is_refl u) (leaf R.Refl) (node R.If (tree t (tree u no_trees)))
    (λ w. Takes at w (M.If e m n) (M.If e m' n'))
    (λ i.
    let p = and_parts (is_refl t) (is_refl u) i in (
      ap₂ (λ a b. M.If e a b) (taken_nowhere (knowing (Whole e) at) t m m' p.0 h)
          (taken_nowhere (knowing (NotTrue e) at) u n n' p.1 k),
      tt,
    ))
    (λ i. (refl, (h, (k, tt))))

pub loop_taken : (at : Point) (t : Tree Rule) (starts : List Start) (guard test : Exp) (m m' : Mon) →
    Takes (within starts (Whole test ∷ Whole guard ∷ []) at) t m m' →
    Takes at (loop_tree t) (M.Loop starts guard test m) (M.Loop starts guard test m')
loop_taken at t starts guard test m m' h =
    cond_both (is_refl t) (leaf R.Refl) (node R.Loop (tree t no_trees))
    (λ w. Takes at w (M.Loop starts guard test m) (M.Loop starts guard test m'))
    (λ e.
    (ap (λ a. M.Loop starts guard test a) (taken_nowhere (within starts (Whole test ∷ Whole guard ∷ []) at) t m m' e h), tt))
    (λ e. ((refl, refl, refl), (h, tt)))
