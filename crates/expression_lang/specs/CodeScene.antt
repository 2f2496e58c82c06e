-- Where the code evaluates expressions, and what its answers stand for.
use Rattle.std.specs.Prelude.{◌≡◌, Bool, true, false, List, [], ◌∷◌, ◌++◌, map, Option, Some, None, Vec}
use Rattle.std.specs.declared.alloc.Global.{Global}
use Rattle.c_values.specs.declared.values.Value as V
use Rattle.c_memory.specs.declared.steps.Step as P
use Rattle.c_values.specs.Value.{number_in, truth_in}
use Rattle.c_values.specs.Layout.{Layout}
use Rattle.c_values.specs.CodeValue.{value_of}
use Rattle.c_memory.specs.CodeStep.{step_of}
use Rattle.c_memory.specs.Heap.{Heap}
use Rattle.expression_lang.specs.declared.scene.Scene as S
use Rattle.expression_lang.specs.declared.faults.EvalFault as F
use Rattle.expression_lang.specs.Expression.{Exp, Path}
use Rattle.expression_lang.specs.Evaluation.{Env, State, value, steps}
use Rattle.expression_lang.specs.Wide.{wide, wide_in}
use Rattle.expression_lang.specs.CodeArity.{second_part}
use Rattle.expression_lang.specs.CodeReady.{IsReady, AreReady}
use Rattle.expression_lang.specs.CodeState.{env_of, state_of}
use Rattle.expression_lang.specs.CodeFault.{Gives}

pub record Scene : Type 0 where
  pub layout : Layout
  pub env : Env
  pub state : State

-- the scene of the code, by what is in its heap
abbrev pub scene_of : {H : Type 0} → (H → Heap) → S.Scene H → Scene
scene_of content s = record { layout = s.layout.now; env = env_of s.env.now.items; state = state_of (content s.heap.now) s.vars.now s.globals.now }

-- a value of an expression in which no operation is wide
abbrev pub HasValue : Scene → Exp → V.Value → Type 0
HasValue s e v = (value_of v ≡ value s.layout s.env s.state e) × (wide s.layout s.env s.state e ≡ None)

abbrev pub HasTruth : Scene → Exp → Bool → Type 0
HasTruth s e b = (b ≡ truth_in (value s.layout s.env s.state e)) × (wide s.layout s.env s.state e ≡ None)

-- the truth of a connective whose first operand decides; else it is that of the second
abbrev pub IsDecided : Scene → Exp → Option Bool → Type 0
IsDecided s e (Some b) = HasTruth s e b
IsDecided s e None =
    (truth_in (value s.layout s.env s.state e) ≡ truth_in (value s.layout s.env s.state (second_part e))) × (wide s.layout s.env s.state e ≡ wide s.layout s.env s.state (second_part e))

-- the steps of a path in which no operation is wide
abbrev pub HasSteps : Scene → Path → List P.Step → Type 0
HasSteps s path ps = (map step_of ps ≡ steps s.layout s.env s.state path) × (wide_in s.layout s.env s.state path ≡ None)

abbrev pub GivesValue : Scene → Exp → Option V.Value → F.EvalFault → Type 0
GivesValue s e r f = Gives value_of r f (value s.layout s.env s.state e) (wide s.layout s.env s.state e)

abbrev pub GivesTruth : Scene → Exp → Option Bool → F.EvalFault → Type 0
GivesTruth s e r f = Gives (λ b. b) r f (truth_in (value s.layout s.env s.state e)) (wide s.layout s.env s.state e)

abbrev pub GivesSteps : Scene → Path → Option (Vec P.Step Global) → F.EvalFault → Type 0
GivesSteps s path r f = Gives (λ ps. map step_of ps.items) r f (steps s.layout s.env s.state path) (wide_in s.layout s.env s.state path)

abbrev pub ReadyIn : Scene → Exp → Type 0
ReadyIn s e = IsReady s.layout s.env s.state e

abbrev pub ReadyAlong : Scene → Path → Type 0
ReadyAlong s path = AreReady s.layout s.env s.state path

-- an index is put after steps, where there is one and there is room
abbrev pub IsPushed : Option V.Value → List P.Step → F.EvalFault → Bool → List P.Step → F.EvalFault → Type 0
IsPushed (Some v) old f true new g = new ≡ old ++ (P.TheVariants.Index (number_in (value_of v)) ∷ [])
IsPushed (Some v) old f false new g = g ≡ F.TheVariants.Memory
IsPushed None old f b new g = (b ≡ false) × (g ≡ f)
