-- The claims of the parts in the step to typed heaps: their left sides are where the code goes on.
use Rattle.std.proofs.Common.{◌≡◌, true, ℕ, suc, List, [], ◌∷◌, ◌++◌, length, Some, None, refl, ap, ◌∙◌, arith}
use Rattle.c_values.specs.Layout.{Layout}
use Rattle.expression_lang.specs.Expression as E
use Rattle.expression_lang.specs.Expression.{Exp}
use Rattle.ac_expr.specs.Fact.{Fact}
use Rattle.ac_expr.specs.Heads.{children, path_children}
use Rattle.monad_lang.specs.Program as M
use Rattle.monad_lang.specs.Program.{Mon, Start}
use Rattle.monad_lang.specs.Run.{start_names}
use Rattle.rule_heap.specs.Rule as H
use Rattle.rule_heap.specs.Rule.{Claim, OfProgram, OfExp}
use Rattle.rule_heap.specs.Table as Heaps
use Rattle.rule_heap.specs.Table.{each, exp_row}
use Rattle.rule_parts.specs.Starts.{start_exps}
use Rattle.rule_word.proofs.AskedPrograms.{start_count}
use Rattle.refused_parts.specs.CodeInside.{heap_inside}
use Rattle.refused_parts.specs.Lefts.{heap_left}
use Rattle.refused_parts.proofs.Positions.{IsAt, AreBare, no_claims, one_more, of_two, behind_one, two_behind, last_of}

abbrev AreExps : List Claim → Type 0
AreExps cs = AreBare heap_left cs

no_exps : AreExps []
no_exps = no_claims heap_left

exp_more : (fs : List Fact) (a b : Exp) (cs : List Claim) → AreExps cs → AreExps (OfExp fs a b ∷ cs)
exp_more fs a b cs h = one_more heap_left (OfExp fs a b) cs refl h

each_exps : (fs : List Fact) (as' bs : List Exp) (cs : List Claim) → AreExps cs → AreExps (each fs as' bs ++ cs)
each_exps fs (a ∷ as') (b ∷ bs) cs h = exp_more fs a b (each fs as' bs ++ cs) (each_exps fs as' bs cs h)
each_exps fs [] bs cs h = h
each_exps fs (a ∷ as') [] cs h = h

only_each : (fs : List Fact) (as' bs : List Exp) → AreExps (each fs as' bs)
only_each fs (a ∷ as') (b ∷ bs) = exp_more fs a b (each fs as' bs) (only_each fs as' bs)
only_each fs [] bs = no_exps
only_each fs (a ∷ as') [] = no_exps

exp_row_exps : (l : Layout) (fs : List Fact) (r : H.Rule) (a b : Exp) → (exp_row l fs r a b).holds → AreExps (exp_row l fs r a b).parts
exp_row_exps l fs H.Leaf a b h = no_exps
exp_row_exps l fs H.Load (E.Load t p path) (E.Read u q way) h = exp_more fs p q _ (only_each fs (path_children path) (path_children way))
exp_row_exps l fs H.Tagged (E.Tagged t p) (E.Tagged u q) h = exp_more fs p q [] no_exps
exp_row_exps l fs H.PtrOk (E.PtrOk t p) (E.PtrOk u q) h = exp_more fs p q [] no_exps
exp_row_exps l fs H.Op a b h = only_each fs (children a) (children b)
exp_row_exps l fs H.And (E.And a b) (E.And a' b') h = exp_more fs a a' _ (exp_more _ b b' [] no_exps)
exp_row_exps l fs H.Or (E.Or a b) (E.Or a' b') h = exp_more fs a a' _ (exp_more _ b b' [] no_exps)
exp_row_exps l fs H.Imp (E.Imp a b) (E.Imp a' b') h = exp_more fs a a' _ (exp_more _ b b' [] no_exps)
exp_row_exps l fs H.Cond (E.If c a b) (E.If c' a' b') h = exp_more fs c c' _ (exp_more _ a a' _ (exp_more _ b b' [] no_exps))
exp_row_exps l fs (H.Known q) (E.PtrOk t p) (E.TruthLit true) h = exp_more fs p q [] no_exps
exp_row_exps l fs r a b h = absurd h

same_lengths : (xs ys : List Start) → start_names ys ≡ start_names xs → length (start_exps ys) ≡ length (start_exps xs)
same_lengths [] [] h = refl
same_lengths (x ∷ xs) (y ∷ ys) h = let e : start_names ys ≡ start_names xs = cc in ap suc (same_lengths xs ys e)
same_lengths [] (y ∷ ys) h = absurd cc
same_lengths (x ∷ xs) [] h = absurd cc

pairs : (fs : List Fact) (as' bs : List Exp) → length bs ≡ length as' → length (each fs as' bs) ≡ length as'
pairs fs [] [] e = refl
pairs fs (a ∷ as') (b ∷ bs) e = let s : length bs ≡ length as' = omega arith in ap suc (pairs fs as' bs s)
pairs fs [] (b ∷ bs) e = absurd (omega arith)
pairs fs (a ∷ as') [] e = absurd (omega arith)

heap_row : (l : Layout) (fs : List Fact) (r : H.Rule) (a b : Mon) (i : ℕ) (d : Claim) → (Heaps.row l fs r a b).holds → IsAt (Heaps.row l fs r a b).parts i d → heap_left d ≡ heap_inside r a i
heap_row l fs H.Ret (M.Ret es) (M.Ret es') i d h k = (only_each fs es es').none i d k
heap_row l fs H.Bind (M.Bind m xs n) (M.Bind m' xs' n') i d h k = of_two heap_left m n _ _ d i refl refl k
heap_row l fs H.Guard (M.Guard e) (M.Guard e') i d h k = (exp_more fs e e' [] no_exps).none i d k
heap_row l fs H.If (M.If e m n) (M.If e' m' n') i d h k = two_behind heap_left m n _ _ _ d i refl refl refl k
heap_row l fs H.Global (M.Write (M.Global x path) e) (M.Write (M.Global y way) e') i d h k = (each_exps fs (path_children path) (path_children way) _ (exp_more fs e e' [] no_exps)).none i d k
heap_row l fs H.Loop (M.Loop starts guard test m) (M.Loop starts' guard' test' m') i d h k =
    last_of heap_left (each fs (start_exps starts) (start_exps starts')) _ _ _ m (length starts) i d (only_each fs (start_exps starts) (start_exps starts'))
    (pairs fs (start_exps starts) (start_exps starts') (same_lengths starts starts' h) ∙ start_count starts) refl refl refl k
heap_row l fs H.Call (M.Call f es) (M.Call g es') i d h k = (only_each fs es es').none i d k
heap_row l fs H.Pick (M.Pick j) (M.Pick j') i d h k = absurd k
heap_row l fs H.Write (M.Write (M.Stored t p path) e) (M.Write (M.Written u q way) e') i d h k = (exp_more fs p q _ (each_exps fs (path_children path) (path_children way) _ (exp_more fs e e' [] no_exps))).none i d k
heap_row l fs H.Pointer (M.Bind (M.Guard (E.PtrOk t p)) [] (M.Bind (M.Guard (E.Tagged u q)) [] m)) (M.Bind (M.Guard (E.Tagged v p')) [] m') i d h k = behind_one heap_left (Some m) _ _ d i refl refl k
heap_row l fs (H.Drop q) (M.Bind (M.Guard (E.PtrOk t p)) [] m) m' i d h k = behind_one heap_left (Some m) _ _ d i refl refl k
heap_row l fs H.Same m m' i d h k = absurd k
heap_row l fs r a b i d h k = absurd h

module _ (l : Layout) where
  pub heap_steps : (r : H.Rule) (c d : Claim) (p : Mon) (i : ℕ) → (Heaps.table l r c).holds → heap_left c ≡ Some p → IsAt (Heaps.table l r c).parts i d → heap_left d ≡ heap_inside r p i
  heap_steps r (OfProgram fs a b) d p i h e k = let same : a ≡ p = cc in heap_row l fs r a b i d h k ∙ ap (λ m. heap_inside r m i) same
  heap_steps r (OfExp fs a b) d p i h e k = absurd cc

  pub heap_stays : (r : H.Rule) (c d : Claim) (i : ℕ) → (Heaps.table l r c).holds → heap_left c ≡ None → IsAt (Heaps.table l r c).parts i d → heap_left d ≡ None
  heap_stays r (OfProgram fs a b) d i h e k = absurd cc
  heap_stays r (OfExp fs a b) d i h e k = (exp_row_exps l fs r a b h).none i d k
