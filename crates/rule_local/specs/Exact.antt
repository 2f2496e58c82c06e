-- What an accepted tree gives of a command and a program alone.
use Rattle.std.specs.Prelude.{ℕ, List, Option}
use Rattle.correspondence.specs.Corresponds.{Corresponds, Paired}
use Rattle.c_values.specs.Name.{Name}
use Rattle.c_values.specs.Choice.{Choice}
use Rattle.expression_lang.specs.Evaluation.{Env}
use Rattle.expression_lang.specs.Machine.{Machine}
use Rattle.simpl_lang.specs.Command.{Simpl, SimplUnit}
use Rattle.simpl_lang.specs.Exec as Simpl
use Rattle.simpl_lang.specs.Exec.{execs}
use Rattle.monad_lang.specs.Program.{Mon, FinalUnit}
use Rattle.monad_lang.specs.Names.{is_free}
use Rattle.monad_lang.specs.Run as Mon
use Rattle.monad_lang.specs.Run.{runs}
use Rattle.rule_local.specs.Rule.{Context}
use Rattle.monad_lang.specs.Agree.{AgreeOn}
use Rattle.rule_local.specs.Agree.{GivesAt, Begins}
use Rattle.rule_local.specs.Kept.{BothFail, LocalsKept, CallsFit}

-- The right side stands for the left side. Over the functions of any two units that do the same at all smaller bounds, from a
-- machine and an environment that are related, and the same state: the right side fails exactly where the left side fails; its
-- results are exactly what the left side leaves in the outputs, with memory and globals; and it stops exactly where the left
-- side stops.
abbrev pub StandsFrom : (Env → Env → Type 0) → Context → Simpl → Mon → List Name → Type 0
StandsFrom related ctx left right vs =
    (u : SimplUnit) (v : FinalUnit) (p : Choice) (n : ℕ) → Paired (LocalsKept u.signatures) (Simpl.functions_below u p n) (Mon.functions_below v p n) → CallsFit u.signatures left →
    (depth : Option ℕ) (m : Machine) (env : Env) → related env m.locals →
    Corresponds (GivesAt vs) BothFail (execs u.layout p ctx.locals left depth (Simpl.functions_below u p n) m) (runs u.layout p right env depth (Mon.functions_below v p n) m.state)

-- from a machine and an environment that agree on the free names of the right side
abbrev pub StandsFor : Context → Simpl → Mon → List Name → Type 0
StandsFor ctx left right vs = StandsFrom (AgreeOn (λ y. is_free y right)) ctx left right vs

-- from a function's start
abbrev pub StandsForWhole : Context → Simpl → Mon → List Name → Type 0
StandsForWhole ctx left right vs = StandsFrom (Begins ctx) ctx left right vs
