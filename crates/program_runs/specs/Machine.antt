-- Runs of programs with what is still to do kept in a list, the next first: what the whole may end with, what it costs at most,
-- and which such runs are well-sorted.
use Rattle.std.specs.Prelude.{◌≡◌, ℕ, zero, suc, ◌+◌, ◌<◌, Bool, true, List, [], ◌∷◌, map, Some, None}
use Rattle.std.proofs.Common.{inl}
use Rattle.correspondence.specs.Outcome.{Ends, done, Then, loop}
use Rattle.correspondence.specs.Included.{Included}
use Rattle.c_values.specs.Name.{Name}
use Rattle.c_values.specs.Value.{Value}
use Rattle.c_values.specs.Layout.{global_type}
use Rattle.c_values.specs.Choice.{Fill}
use Rattle.expression_lang.specs.Expression.{Exp}
use Rattle.expression_lang.specs.Sort.{Scalar, is_truth, sort_of_kind}
use Rattle.expression_lang.specs.Sorted.{program_sort}
use Rattle.expression_lang.specs.Evaluation.{Env, State, value, holds}
use Rattle.expression_lang.specs.Wide.{wide, or_else}
use Rattle.expression_lang.specs.Signature.{bound}
use Rattle.expression_lang.specs.CodeState.{Bindings, env_of, scalars_with, AreScalars}
use Rattle.monad_lang.specs.Program.{Place, Mon, Ret, Bind, Guard, If, Write, Loop, Call, Pick, FinalFn, FinalUnit}
use Rattle.monad_lang.specs.Run.{Answer, written}
use Rattle.monad_lang.specs.Sorted.{Setting, setting_with, scalars_given, signature_of}
use Rattle.program_facts.specs.Lasting.{AreOfSorts}
use Rattle.program_runs.specs.WideRun.{Trouble, wide_at_place, wide_entered, wide_runs, wide_functions_below}

-- the turns and the nested calls that are left
pub record Bound : Type 0 where
  pub turns : ℕ
  pub depth : ℕ

-- a loop without the expressions that its names begin with
pub record Turns : Type 0 where
  pub names : List Name
  pub guard : Exp
  pub test : Exp
  pub body : Mon
  pub left : Bound

-- what is to do with the values that a program gives
pub data Pending : Type 0 where
  -- the rest of a Bind
  Rest : Bindings → List Name → Mon → Bound → Pending
  -- the next turn of a loop
  Turn : Bindings → Turns → Pending
  -- the rest of a caller
  Caller : Pending

-- a program that runs, a loop that comes to its guard with values for its names, or values that are given
pub data Now : Type 0 where
  Running : Bindings → Mon → Bound → Now
  Turning : Bindings → Turns → List Value → Now
  Gave : List Value → Now

pub record Machine : Type 0 where
  pub stack : List Pending
  pub now : Now
  pub state : State

module _ (u : FinalUnit) (k : ℕ) where
  abbrev pub runs_at : Env → Mon → Bound → State → Ends Answer Trouble
  runs_at env m b s = wide_runs u.layout (Fill k) m env (Some b.depth) (wide_functions_below u (Fill k) b.turns) s

  -- the turns of a loop, from the values of an answer
  abbrev pub turns_at : Env → Turns → Answer → Ends Answer Trouble
  turns_at env t =
      loop (wide_entered u.layout t.guard t.test (λ a. bound t.names a.values env))
      (λ gs a. Then (wide_runs u.layout (Fill k) t.body (bound t.names a.values env) (Some t.left.depth) gs a.state) (λ b. done (inl b)))
      (wide_functions_below u (Fill k) t.left.turns)

  -- what the whole ends with, by what the part ends with that is running
  abbrev pub resumed : List Pending → Ends Answer Trouble → Ends Answer Trouble
  resumed [] p = p
  resumed (Rest bs xs n b ∷ fs) p = resumed fs (Then p (λ a. runs_at (bound xs a.values (env_of bs)) n b a.state))
  resumed (Turn bs t ∷ fs) p = resumed fs (Then p (turns_at (env_of bs) t))
  resumed (Caller ∷ fs) p = resumed fs p

  abbrev pub ends_now : Now → State → Ends Answer Trouble
  ends_now (Running bs m b) s = runs_at (env_of bs) m b s
  ends_now (Turning bs t vs) s = turns_at (env_of bs) t (record { values = vs; state = s })
  ends_now (Gave vs) s = done (record { values = vs; state = s })

  abbrev pub whole : Machine → Ends Answer Trouble
  whole m = resumed m.stack (ends_now m.now m.state)

-- how many steps a program takes at most, by the same of all functions at each smaller bound
abbrev pub turning : (List ℕ → ℕ) → List ℕ → ℕ
turning body [] = 1
turning body (g ∷ gs) = 2 + (body gs + turning body gs)

abbrev pub calling : List ℕ → ℕ
calling [] = 1
calling (g ∷ gs) = 2 + g

abbrev pub cost : Mon → List ℕ → ℕ
cost (Ret es) gs = 1
cost (Bind m xs n) gs = 2 + (cost m gs + cost n gs)
cost (Guard e) gs = 1
cost (If e m n) gs = 1 + (cost m gs + cost n gs)
cost (Write place e) gs = 1
cost (Loop starts guard test m) gs = 1 + turning (cost m) gs
cost (Call f es) gs = calling gs
cost (Pick k) gs = 1

abbrev pub cost_of_all : List FinalFn → List ℕ → ℕ
cost_of_all [] gs = 0
cost_of_all (f ∷ fs) gs = cost f.body gs + cost_of_all fs gs

abbrev pub costs_below : List FinalFn → ℕ → List ℕ
costs_below fs zero = []
costs_below fs (suc n) = cost_of_all fs (costs_below fs n) ∷ costs_below fs n

module _ (u : FinalUnit) where
  abbrev pub cost_at : Mon → ℕ → ℕ
  cost_at m n = cost m (costs_below u.functions n)

  abbrev pub turns_cost : Turns → ℕ
  turns_cost t = turning (cost t.body) (costs_below u.functions t.left.turns)

  abbrev pub stack_cost : List Pending → ℕ
  stack_cost [] = 0
  stack_cost (Rest bs xs n b ∷ fs) = 1 + (cost_at n b.turns + stack_cost fs)
  stack_cost (Turn bs t ∷ fs) = 1 + (turns_cost t + stack_cost fs)
  stack_cost (Caller ∷ fs) = 1 + stack_cost fs

  abbrev pub now_cost : Now → ℕ
  now_cost (Running bs m b) = cost_at m b.turns
  now_cost (Turning bs t vs) = turns_cost t
  now_cost (Gave vs) = 0

  abbrev pub machine_cost : Machine → ℕ
  machine_cost m = now_cost m.now + stack_cost m.stack

  -- what is in scope where names have these values
  abbrev pub setting_at : Bindings → Setting
  setting_at bs = record {
    scope = record { layout = u.layout; names = scalars_with bs (λ x. None); globals = global_type u.globals };
    functions = map signature_of u.functions;
    sort_for = sort_of_kind;
  }

  -- a loop whose names have these scalars
  pub record IsLoop (bs : Bindings) (t : Turns) (ss : List Scalar) : Type 0 where
    pub bindings : AreScalars bs
    pub guard : is_truth (program_sort (setting_with t.names ss (setting_at bs)).scope t.guard) ≡ true
    pub test : is_truth (program_sort (setting_with t.names ss (setting_at bs)).scope t.test) ≡ true
    pub body : scalars_given (setting_with t.names ss (setting_at bs)) t.body ≡ Some ss

  -- a program that gives values of these scalars
  pub record IsRun (bs : Bindings) (m : Mon) (ss : List Scalar) : Type 0 where
    pub bindings : AreScalars bs
    pub gives : scalars_given (setting_at bs) m ≡ Some ss

  pub record IsRest (bs : Bindings) (xs : List Name) (n : Mon) (ss ts : List Scalar) : Type 0 where
    pub bindings : AreScalars bs
    pub gives : scalars_given (setting_with xs ss (setting_at bs)) n ≡ Some ts

  -- values of the first scalars become values of the second
  abbrev pub Resumes : List Pending → List Scalar → List Scalar → Type 0
  Resumes [] ss out = ss ≡ out
  Resumes (Rest bs xs n b ∷ fs) ss out = (ts : List Scalar) × IsRest bs xs n ss ts × Resumes fs ts out
  Resumes (Turn bs t ∷ fs) ss out = IsLoop bs t ss × Resumes fs ss out
  Resumes (Caller ∷ fs) ss out = Resumes fs ss out

  abbrev pub IsNow : Now → List Scalar → Type 0
  IsNow (Running bs m b) ss = IsRun bs m ss
  IsNow (Turning bs t vs) ss = IsLoop bs t ss × AreOfSorts ss vs
  IsNow (Gave vs) ss = AreOfSorts ss vs

  -- it gives values of these scalars
  pub record IsSorted (m : Machine) (out : List Scalar) : Type 0 where
    pub here : List Scalar
    pub now : IsNow m.now here
    pub rest : Resumes m.stack here out

-- a step: each end of the whole after it is an end of it before, and less is to do
pub record Steps (u : FinalUnit) (k : ℕ) (out : List Scalar) (before after : Machine) : Type 0 where
  pub within : Included (whole u k after) (whole u k before)
  pub less : machine_cost u after < machine_cost u before
  pub sorted : IsSorted u after out

-- whatever is pending, a program comes in one step to what is next
abbrev pub Leads : FinalUnit → ℕ → Bindings → Mon → Bound → State → Now → State → Type 0
Leads u k bs m b s now s' =
    (fs : List Pending) (out : List Scalar) → IsSorted u (record { stack = fs; now = Running bs m b; state = s }) out →
    Steps u k out (record { stack = fs; now = Running bs m b; state = s }) (record { stack = fs; now = now; state = s' })

-- a well-sorted program where names have these values
pub record CanRun (u : FinalUnit) (bs : Bindings) (m : Mon) : Type 0 where
  pub bindings : AreScalars bs
  pub scalars : List Scalar
  pub gives : scalars_given (setting_at u bs) m ≡ Some scalars

-- a loop that comes to its guard with values for its names
pub record CanTurn (u : FinalUnit) (bs : Bindings) (t : Turns) (vs : List Value) : Type 0 where
  pub scalars : List Scalar
  pub loop : IsLoop u bs t scalars
  pub values : AreOfSorts scalars vs

-- the guard holds, and the test is the truth
pub record Enters (u : FinalUnit) (bs : Bindings) (t : Turns) (s : State) (truth : Bool) : Type 0 where
  pub narrow_guard : wide u.layout (env_of bs) s t.guard ≡ None
  pub guard : holds u.layout (env_of bs) s t.guard ≡ true
  pub narrow_test : wide u.layout (env_of bs) s t.test ≡ None
  pub test : holds u.layout (env_of bs) s t.test ≡ truth

-- a place takes the value of an expression, and nothing is wide there
pub record Writes (u : FinalUnit) (bs : Bindings) (place : Place) (e : Exp) (before after : State) : Type 0 where
  pub narrow : or_else (wide_at_place u.layout (env_of bs) before place) (wide u.layout (env_of bs) before e) ≡ None
  pub written : after ≡ written u.layout (env_of bs) before place (value u.layout (env_of bs) before e)
