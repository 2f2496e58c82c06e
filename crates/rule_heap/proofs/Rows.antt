-- The claims of the table's rows as the code goes along them.
use Rattle.std.proofs.Common.{◌≡◌, true, false, List, [], ◌∷◌, ◌++◌, refl, sym, ap, ap₂, ◌∙◌}
use Rattle.c_values.specs.Layout.{Layout}
use Rattle.expression_lang.specs.Expression as E
use Rattle.expression_lang.specs.Expression.{Exp, Path, Here, IntoField, IntoElement}
use Rattle.ac_expr.specs.Fact.{Fact}
use Rattle.ac_expr.specs.Heads.{children, head, path_children, path_head}
use Rattle.monad_lang.specs.Program as M
use Rattle.monad_lang.specs.Program.{Mon}
use Rattle.rule_heap.specs.Rule as R
use Rattle.rule_heap.specs.Rule.{Rule, Claim, OfExp}
use Rattle.rule_heap.specs.Table.{each, exp_row, row, has_rule}
use Rattle.rule_heap.specs.CodeParts.{firsts, rights, exp_thens, program_exps, program_thens, is_flat}

no_more : (cs : List Claim) → cs ≡ cs ++ []
no_more [] = refl
no_more (c ∷ cs) = ap (λ ds. c ∷ ds) (no_more cs)

-- an expression without children
bare_firsts : (a : Exp) → children a ≡ [] → firsts a ≡ []
bare_firsts (E.And a b) h = cc
bare_firsts (E.Or a b) h = cc
bare_firsts (E.Imp a b) h = cc
bare_firsts (E.If c a b) h = cc
bare_firsts a h = h

bare_thens : (fs : List Fact) (a b : Exp) → children a ≡ [] → exp_thens fs a b ≡ []
bare_thens fs (E.And a b) e h = cc
bare_thens fs (E.Or a b) e h = cc
bare_thens fs (E.Imp a b) e h = cc
bare_thens fs (E.If c a b) e h = cc
bare_thens fs a e h = refl

-- one whose head has no rule of its own
head_rule : (a : Exp) → has_rule (head a) ≡ has_rule a
head_rule (E.Var x) = refl
head_rule a = refl

plain_firsts : (a : Exp) → has_rule a ≡ false → firsts a ≡ children a
plain_firsts (E.And a b) h = cc
plain_firsts (E.Or a b) h = cc
plain_firsts (E.Imp a b) h = cc
plain_firsts (E.If c a b) h = cc
plain_firsts a h = refl

plain_thens : (fs : List Fact) (a b : Exp) → has_rule a ≡ false → exp_thens fs a b ≡ []
plain_thens fs (E.And a b) e h = cc
plain_thens fs (E.Or a b) e h = cc
plain_thens fs (E.Imp a b) e h = cc
plain_thens fs (E.If c a b) e h = cc
plain_thens fs a e h = refl

op_parts : (fs : List Fact) (a b : Exp) → has_rule a ≡ false → head b ≡ head a → each fs (children a) (children b) ≡ each fs (firsts a) (firsts b) ++ exp_thens fs a b
op_parts fs a b h e =
    let other : has_rule b ≡ false = sym (head_rule b) ∙ ap has_rule e ∙ head_rule a ∙ h in
    sym (ap₂ (λ x y. each fs x y) (plain_firsts a h) (plain_firsts b other)) ∙ no_more _ ∙ ap (λ t. each fs (firsts a) (firsts b) ++ t) (sym (plain_thens fs a b h))

leaf_parts : (fs : List Fact) (a b : Exp) → children a ≡ [] → [] ≡ each fs (firsts a) (firsts b) ++ exp_thens fs a b
leaf_parts fs a b h = sym (ap₂ (λ x t. each fs x (firsts b) ++ t) (bare_firsts a h) (bare_thens fs a b h))

pub exp_parts : (l : Layout) (fs : List Fact) (rule : Rule) (a b : Exp) → (exp_row l fs rule a b).holds → (exp_row l fs rule a b).parts ≡ each fs (firsts a) (rights rule b) ++ exp_thens fs a b
exp_parts l fs R.Leaf a b h = leaf_parts fs a b h.0
exp_parts l fs R.Load (E.Load t p path) (E.Read u q way) h = no_more _
exp_parts l fs R.Tagged (E.Tagged t p) (E.Tagged u q) h = refl
exp_parts l fs R.PtrOk (E.PtrOk t p) (E.PtrOk u q) h = refl
exp_parts l fs R.Op a b h = op_parts fs a b h.0 h.2
exp_parts l fs R.And (E.And a b) (E.And a' b') h = refl
exp_parts l fs R.Or (E.Or a b) (E.Or a' b') h = refl
exp_parts l fs R.Imp (E.Imp a b) (E.Imp a' b') h = refl
exp_parts l fs R.Cond (E.If c a b) (E.If c' a' b') h = refl
exp_parts l fs (R.Known q) (E.PtrOk t p) (E.TruthLit true) h = refl
exp_parts l fs rule a b h = absurd h

-- an expression behind the indexes of two paths that are the same but for these
each_last : (fs : List Fact) (path way : Path) (e e' : Exp) → path_head way ≡ path_head path →
    each fs (path_children path) (path_children way) ++ (OfExp fs e e' ∷ []) ≡ each fs (path_children path ++ (e ∷ [])) (path_children way ++ (e' ∷ []))
each_last fs Here Here e e' h = refl
each_last fs (IntoField k path) (IntoField j way) e e' h = let same : path_head way ≡ path_head path = cc in each_last fs path way e e' same
each_last fs (IntoElement i path) (IntoElement j way) e e' h =
    let same : path_head way ≡ path_head path = cc in ap (λ cs. OfExp fs i j ∷ cs) (each_last fs path way e e' same)
each_last fs _ _ e e' h = cc

pub program_parts : (l : Layout) (fs : List Fact) (rule : Rule) (a b : Mon) → is_flat rule ≡ true → (row l fs rule a b).holds →
    (row l fs rule a b).parts ≡ each fs (program_exps a) (program_exps b) ++ program_thens fs a b
program_parts l fs R.Ret (M.Ret es) (M.Ret es') f h = no_more _
program_parts l fs R.Guard (M.Guard e) (M.Guard e') f h = refl
program_parts l fs R.If (M.If e m n) (M.If e' m' n') f h = refl
program_parts l fs R.Global (M.Write (M.Global x path) e) (M.Write (M.Global y way) e') f h = each_last fs path way e e' h.1 ∙ no_more _
program_parts l fs R.Loop (M.Loop starts guard test m) (M.Loop starts' guard' test' m') f h = refl
program_parts l fs R.Call (M.Call g es) (M.Call k es') f h = no_more _
program_parts l fs R.Pick (M.Pick k) (M.Pick j) f h = refl
program_parts l fs R.Write (M.Write (M.Stored t p path) e) (M.Write (M.Written u q way) e') f h = ap (λ cs. OfExp fs p q ∷ cs) (each_last fs path way e e' h.1 ∙ no_more _)
program_parts l fs R.Bind a b f h = cc
program_parts l fs R.Pointer a b f h = cc
program_parts l fs (R.Drop q) a b f h = cc
program_parts l fs R.Same a b f h = cc
program_parts l fs rule a b f h = absurd h
