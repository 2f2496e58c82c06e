-- The parts of two sides as the code goes along them: first expressions in pairs under what is known at the node, and then what is
-- under more, or under other facts.
use Rattle.std.specs.Prelude.{ℕ, zero, suc, Bool, true, false, List, [], ◌∷◌, ◌++◌, Option, Some, None}
use Rattle.expression_lang.specs.Expression as E
use Rattle.expression_lang.specs.Expression.{Exp}
use Rattle.expression_lang.specs.CodeExpression.{exp_of}
use Rattle.ac_expr.specs.Fact.{Fact, Whole, NotTrue}
use Rattle.ac_expr.specs.Passed.{Part}
use Rattle.ac_expr.specs.Heads.{children, path_children}
use Rattle.monad_lang.specs.Program as M
use Rattle.monad_lang.specs.Program.{Mon}
use Rattle.monad_lang.specs.CodeProgram.{mon_of}
use Rattle.rule_heap.specs.declared.claims.Given as G
use Rattle.rule_heap.specs.declared.claims.Claim as C
use Rattle.rule_heap.specs.declared.claims.Then as T
use Rattle.rule_heap.specs.Rule as R
use Rattle.rule_heap.specs.Rule.{Rule, Claim, OfProgram, OfExp}
use Rattle.rule_parts.specs.Starts.{start_exps}

-- the expressions of a side that go in pairs
abbrev pub firsts : Exp → List Exp
firsts (E.And a b) = a ∷ []
firsts (E.Or a b) = a ∷ []
firsts (E.Imp a b) = a ∷ []
firsts (E.If c a b) = c ∷ []
firsts e = children e

-- of the right side, where the rule may have it
abbrev pub rights : Rule → Exp → List Exp
rights (R.Known q) e = q ∷ []
rights _ e = firsts e

abbrev pub program_exps : Mon → List Exp
program_exps (M.Ret es) = es
program_exps (M.Bind m xs n) = []
program_exps (M.Guard e) = e ∷ []
program_exps (M.If e m n) = e ∷ []
program_exps (M.Write (M.Stored t p path) e) = p ∷ (path_children path ++ (e ∷ []))
program_exps (M.Write (M.Written t p path) e) = p ∷ (path_children path ++ (e ∷ []))
program_exps (M.Write (M.Global x path) e) = path_children path ++ (e ∷ [])
program_exps (M.Loop starts guard test m) = start_exps starts
program_exps (M.Call f es) = es
program_exps (M.Pick k) = []

-- the rules of programs that go along a sequence, and the one without parts, are others
abbrev pub is_flat : Rule → Bool
is_flat R.Bind = false
is_flat R.Pointer = false
is_flat (R.Drop q) = false
is_flat R.Same = false
is_flat _ = true

-- what is under more, or under other facts
abbrev pub exp_thens : List Fact → Exp → Exp → List Claim
exp_thens fs (E.And a b) (E.And a' b') = OfExp (Whole a' ∷ fs) b b' ∷ []
exp_thens fs (E.Or a b) (E.Or a' b') = OfExp (NotTrue a' ∷ fs) b b' ∷ []
exp_thens fs (E.Imp a b) (E.Imp a' b') = OfExp (Whole a' ∷ fs) b b' ∷ []
exp_thens fs (E.If c a b) (E.If c' a' b') = OfExp (Whole c' ∷ fs) a a' ∷ OfExp (NotTrue c' ∷ fs) b b' ∷ []
exp_thens fs _ _ = []

abbrev pub program_thens : List Fact → Mon → Mon → List Claim
program_thens fs (M.If e m n) (M.If e' m' n') = OfProgram (Whole e' ∷ fs) m m' ∷ OfProgram (NotTrue e' ∷ fs) n n' ∷ []
program_thens fs (M.Loop starts g t m) (M.Loop starts' g' t' m') =
    OfExp [] g g' ∷ OfExp (Whole g' ∷ []) t t' ∷ OfProgram (Whole t' ∷ Whole g' ∷ []) m m' ∷ []
program_thens fs _ _ = []

-- the first claim of a rule that goes along a sequence
abbrev pub step_claim : List Fact → Rule → Mon → Mon → Claim
step_claim fs R.Bind (M.Bind m xs n) (M.Bind m' xs' n') = OfProgram fs m m'
step_claim fs R.Pointer (M.Bind (M.Guard (E.PtrOk t p)) xs n) (M.Bind (M.Guard (E.Tagged u p')) ys n') = OfExp fs p p'
step_claim fs (R.Drop q) (M.Bind (M.Guard (E.PtrOk t p)) xs n) m' = OfExp fs p q
step_claim fs _ m m' = OfProgram fs m m'

-- the first of two programs, or the program itself, and the pointer that it guards
abbrev pub first_of : Mon → Mon
first_of (M.Bind m xs n) = m
first_of m = m

abbrev pub guarded : Mon → Option Exp
guarded (M.Guard (E.PtrOk t p)) = Some p
guarded (M.Guard (E.Tagged t p)) = Some p
guarded _ = None

abbrev pub address : Mon → Option Exp
address m = guarded (first_of m)

-- the second of two programs, or the program itself
abbrev pub behind : Mon → Mon
behind (M.Bind m xs n) = n
behind m = m

-- what is left of both sides
abbrev pub left_behind : Rule → Mon → Mon
left_behind R.Pointer m = behind (behind m)
left_behind _ m = behind m

abbrev pub right_behind : Rule → Mon → Mon
right_behind (R.Drop q) m = m
right_behind _ m = behind m

abbrev pub passes : Rule → ℕ
passes (R.Drop q) = 0
passes _ = 1

-- the parts behind the first so many
abbrev pub rest_of : ℕ → List Part → List Part
rest_of zero ps = ps
rest_of (suc n) [] = []
rest_of (suc n) (p ∷ ps) = rest_of n ps

abbrev pub is_step : Rule → Bool
is_step R.Bind = true
is_step R.Pointer = true
is_step (R.Drop q) = true
is_step _ = false

abbrev pub given : List Fact → G.Given → List Fact
given fs G.TheVariants.Nothing = []
given fs (G.TheVariants.Whole e) = Whole (exp_of e.now) ∷ fs
given fs (G.TheVariants.Not e) = NotTrue (exp_of e.now) ∷ fs
given fs (G.TheVariants.Only e) = Whole (exp_of e.now) ∷ []
given fs (G.TheVariants.Both e g) = Whole (exp_of e.now) ∷ Whole (exp_of g.now) ∷ []

abbrev pub claim_in : List Fact → C.Claim → Claim
claim_in fs (C.TheVariants.Program g m n) = OfProgram (given fs g) (mon_of m.now.value) (mon_of n.now.value)
claim_in fs (C.TheVariants.Exp g a b) = OfExp (given fs g) (exp_of a.now) (exp_of b.now)

-- the same, where what is known at the part is known already
abbrev pub claim_here : List Fact → C.Claim → Claim
claim_here fs (C.TheVariants.Program g m n) = OfProgram fs (mon_of m.now.value) (mon_of n.now.value)
claim_here fs (C.TheVariants.Exp g a b) = OfExp fs (exp_of a.now) (exp_of b.now)

abbrev pub given_in : C.Claim → G.Given
given_in (C.TheVariants.Program g m n) = g
given_in (C.TheVariants.Exp g a b) = g

abbrev pub then_in : List Fact → T.Then → List Claim
then_in fs T.TheVariants.Nothing = []
then_in fs (T.TheVariants.Last c) = claim_in fs c ∷ []
then_in fs (T.TheVariants.Branches e m m' n n') =
    OfProgram (Whole (exp_of e.now) ∷ fs) (mon_of m.now.value) (mon_of m'.now.value) ∷ OfProgram (NotTrue (exp_of e.now) ∷ fs) (mon_of n.now.value) (mon_of n'.now.value) ∷ []
then_in fs (T.TheVariants.Cases c a a' b b') =
    OfExp (Whole (exp_of c.now.value) ∷ fs) (exp_of a.now.value) (exp_of a'.now.value) ∷ OfExp (NotTrue (exp_of c.now.value) ∷ fs) (exp_of b.now.value) (exp_of b'.now.value) ∷ []
then_in fs (T.TheVariants.Test g' t t' m m') =
    OfExp (Whole (exp_of g'.now) ∷ []) (exp_of t.now) (exp_of t'.now)
    ∷ OfProgram (Whole (exp_of t'.now) ∷ Whole (exp_of g'.now) ∷ []) (mon_of m.now.value) (mon_of m'.now.value) ∷ []
then_in fs (T.TheVariants.Turn g g' t t' m m') =
    OfExp [] (exp_of g.now) (exp_of g'.now) ∷ OfExp (Whole (exp_of g'.now) ∷ []) (exp_of t.now) (exp_of t'.now)
    ∷ OfProgram (Whole (exp_of t'.now) ∷ Whole (exp_of g'.now) ∷ []) (mon_of m.now.value) (mon_of m'.now.value) ∷ []
