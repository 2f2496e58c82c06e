-- What both sides have in common: the state, and the values of the names that the right side looks at.
use Rattle.std.specs.Prelude.{◌≡◌, List, [], ◌∷◌, Some, false}
use Rattle.c_values.specs.Name.{Name, is_among}
use Rattle.c_values.specs.Value.{Value}
use Rattle.expression_lang.specs.Evaluation.{Env}
use Rattle.expression_lang.specs.View.{zero_word_at}
use Rattle.expression_lang.specs.Sort.{Kind}
use Rattle.expression_lang.specs.Machine.{Machine}
use Rattle.simpl_lang.specs.Command.{kind_of}
use Rattle.simpl_lang.specs.Exec.{Flow, Normal, Abrupt}
use Rattle.monad_lang.specs.Run.{Answer}
use Rattle.monad_lang.specs.Agree.{AgreeOn}
use Rattle.rule_local.specs.Rule.{Context}

-- the values of names
abbrev pub held : List Name → Env → List Value
held [] env = []
held (x ∷ xs) env = env x ∷ held xs env

-- what the program gives is what the command leaves in the outputs, and memory and globals are the same
pub record Gives (vs : List Name) (m : Machine) (a : Answer) : Type 0 where
  pub values : a.values ≡ held vs m.locals
  pub state : a.state ≡ m.state

-- the command ends normally
abbrev pub GivesAt : List Name → Flow → Answer → Type 0
GivesAt vs (Normal m) a = Gives vs m a
GivesAt vs (Abrupt m) a = ⊥

-- at a function's start every local that is no parameter is zero
pub record Begins (ctx : Context) (env locals : Env) : Type 0 where
  pub parameters : AgreeOn (λ y. is_among y ctx.parameters) env locals
  pub others : (x : Name) (k : Kind) → is_among x ctx.parameters ≡ false → kind_of ctx.locals x ≡ Some k → locals x ≡ zero_word_at k
