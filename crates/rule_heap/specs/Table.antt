-- The table of the rules that take programs on bytes to programs on typed heaps: loads become reads and stores writes,
-- where it is known that the root is covered and that each index is in range. One clause for each row: the rule, the
-- left side, the right side, and then what is asked and the claims of the parts, in text order. Facts are expressions
-- of the right side.
use Rattle.std.specs.Prelude.{◌≡◌, ◌≢◌, suc, Bool, true, false, List, [], ◌∷◌, ◌++◌, length, Option, Some, None, pos}
use Rattle.c_values.specs.Types.{CType}
use Rattle.c_values.specs.Layout.{Layout, Shape, Record, Row as Elements, shape_of}
use Rattle.c_values.specs.Path.{Spot, member_spot}
use Rattle.expression_lang.specs.Expression as E
use Rattle.expression_lang.specs.Expression.{Exp, Path, Here, IntoField, IntoElement}
use Rattle.ac_expr.specs.Heads.{children, head, path_children, path_head}
use Rattle.ac_expr.specs.Fact.{Fact, Whole, NotTrue}
use Rattle.ac_expr.specs.Known.{IsKnown}
use Rattle.monad_lang.specs.Program as M
use Rattle.monad_lang.specs.Program.{Mon}
use Rattle.monad_lang.specs.Run.{start_names}
use Rattle.monad_lang.specs.Form.{is_heaps}
use Rattle.program_facts.specs.Flow.{facts_after}
use Rattle.rule_trees.specs.RuleTree.{Row, asks, no_row, Table, Tree, Accepts}
use Rattle.rule_parts.specs.Starts.{start_exps}
use Rattle.rule_heap.specs.Rule as R
use Rattle.rule_heap.specs.Rule.{Rule, Claim, OfProgram, OfExp}

-- expressions in pairs, each under the same facts
abbrev pub each : List Fact → List Exp → List Exp → List Claim
each fs (a ∷ as') (b ∷ bs) = OfExp fs a b ∷ each fs as' bs
each fs _ _ = []

abbrev pub InMember : Option Spot → (Shape → Type 0) → Type 0
InMember None P = ⊥
InMember (Some q) P = P q.shape

-- each member of the path is there, and each index is known to be of an element that is
abbrev pub AreInRange : List Fact → Path → Shape → Type 0
AreInRange fs Here s = Unit {0}
AreInRange fs (IntoField k path) (Record x size align members) =
    InMember (member_spot members k) (λ s. AreInRange fs path s)
AreInRange fs (IntoElement e path) (Elements s (suc n)) =
    IsKnown fs (E.Between (pos 0) e (pos n)) × AreInRange fs path s
AreInRange fs _ _ = ⊥

-- a place of a typed heap: its root is known to be covered, and its path to be in range
abbrev pub IsPlace : Layout → List Fact → CType → Exp → Path → Type 0
IsPlace l fs t p path = IsKnown fs (E.Tagged t p) × AreInRange fs path (shape_of l t)

-- these have rules of their own; and a read stands in no left side
abbrev pub has_rule : Exp → Bool
has_rule (E.Load t p path) = true
has_rule (E.Read t p path) = true
has_rule (E.Tagged t p) = true
has_rule (E.PtrOk t p) = true
has_rule (E.And a b) = true
has_rule (E.Or a b) = true
has_rule (E.Imp a b) = true
has_rule (E.If c a b) = true
has_rule _ = false

abbrev pub exp_row : Layout → List Fact → Rule → Exp → Exp → Row Claim
exp_row l fs R.Leaf a b = asks ((children a ≡ []) × (b ≡ a)) []
exp_row l fs R.Load (E.Load t p path) (E.Read u q way) =
    asks ((u ≡ t) × (path_head way ≡ path_head path) × IsPlace l fs t q way)
    (OfExp fs p q ∷ each fs (path_children path) (path_children way))
exp_row l fs R.Tagged (E.Tagged t p) (E.Tagged u q) = asks (u ≡ t) (OfExp fs p q ∷ [])
exp_row l fs R.PtrOk (E.PtrOk t p) (E.PtrOk u q) = asks (u ≡ t) (OfExp fs p q ∷ [])
exp_row l fs R.Op a b =
    asks ((has_rule a ≡ false) × (children a ≢ []) × (head b ≡ head a)) (each fs (children a) (children b))
exp_row l fs R.And (E.And a b) (E.And a' b') = asks (Unit {0}) (OfExp fs a a' ∷ OfExp (Whole a' ∷ fs) b b' ∷ [])
exp_row l fs R.Or (E.Or a b) (E.Or a' b') = asks (Unit {0}) (OfExp fs a a' ∷ OfExp (NotTrue a' ∷ fs) b b' ∷ [])
exp_row l fs R.Imp (E.Imp a b) (E.Imp a' b') = asks (Unit {0}) (OfExp fs a a' ∷ OfExp (Whole a' ∷ fs) b b' ∷ [])
exp_row l fs R.Cond (E.If c a b) (E.If c' a' b') =
    asks (Unit {0}) (OfExp fs c c' ∷ OfExp (Whole c' ∷ fs) a a' ∷ OfExp (NotTrue c' ∷ fs) b b' ∷ [])
exp_row l fs (R.Known q) (E.PtrOk t p) (E.TruthLit true) = asks (IsKnown fs (E.Tagged t q)) (OfExp fs p q ∷ [])
exp_row _ _ _ _ _ = no_row

abbrev pub row : Layout → List Fact → Rule → Mon → Mon → Row Claim
row l fs R.Ret (M.Ret es) (M.Ret es') = asks (length es' ≡ length es) (each fs es es')
row l fs R.Bind (M.Bind m xs n) (M.Bind m' xs' n') =
    asks (xs' ≡ xs) (OfProgram fs m m' ∷ OfProgram (facts_after m' xs fs) n n' ∷ [])
row l fs R.Guard (M.Guard e) (M.Guard e') = asks (Unit {0}) (OfExp fs e e' ∷ [])
row l fs R.If (M.If e m n) (M.If e' m' n') =
    asks (Unit {0}) (OfExp fs e e' ∷ OfProgram (Whole e' ∷ fs) m m' ∷ OfProgram (NotTrue e' ∷ fs) n n' ∷ [])
row l fs R.Global (M.Write (M.Global x path) e) (M.Write (M.Global y way) e') =
    asks ((y ≡ x) × (path_head way ≡ path_head path))
    (each fs (path_children path) (path_children way) ++ (OfExp fs e e' ∷ []))
row l fs R.Loop (M.Loop starts guard test m) (M.Loop starts' guard' test' m') =
    asks (start_names starts' ≡ start_names starts)
    (each fs (start_exps starts) (start_exps starts')
    ++ (OfExp [] guard guard' ∷ OfExp (Whole guard' ∷ []) test test'
    ∷ OfProgram (Whole test' ∷ Whole guard' ∷ []) m m' ∷ []))
row l fs R.Call (M.Call f es) (M.Call g es') = asks ((g ≡ f) × (length es' ≡ length es)) (each fs es es')
row l fs R.Pick (M.Pick k) (M.Pick j) = asks (j ≡ k) []
row l fs R.Write (M.Write (M.Stored t p path) e) (M.Write (M.Written u q way) e') =
    asks ((u ≡ t) × (path_head way ≡ path_head path) × IsPlace l fs t q way)
    (OfExp fs p q ∷ (each fs (path_children path) (path_children way) ++ (OfExp fs e e' ∷ [])))
row l fs R.Pointer (M.Bind (M.Guard (E.PtrOk t p)) [] (M.Bind (M.Guard (E.Tagged u q)) [] m))
    (M.Bind (M.Guard (E.Tagged v p')) [] m') =
    asks ((u ≡ t) × (q ≡ p) × (v ≡ t))
    (OfExp fs p p' ∷ OfProgram (facts_after (M.Guard (E.Tagged t p')) [] fs) m m' ∷ [])
row l fs (R.Drop q) (M.Bind (M.Guard (E.PtrOk t p)) [] m) m' =
    asks (IsKnown fs (E.Tagged t q)) (OfExp fs p q ∷ OfProgram fs m m' ∷ [])
row l fs R.Same m m' = asks ((is_heaps m ≡ true) × (m' ≡ m)) []
row _ _ _ _ _ = no_row

abbrev pub table : Layout → Table Rule Claim
table l rule (OfProgram fs a b) = row l fs rule a b
table l rule (OfExp fs a b) = exp_row l fs rule a b

-- under the facts the rules of the tree take the left side to the right side
abbrev pub Takes : Layout → List Fact → Tree Rule → Mon → Mon → Type 0
Takes l fs t a b = Accepts (table l) t (OfProgram fs a b)

abbrev pub TakesExp : Layout → List Fact → Tree Rule → Exp → Exp → Type 0
TakesExp l fs t a b = Accepts (table l) t (OfExp fs a b)
