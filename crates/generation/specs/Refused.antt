-- The conditions of a guard, on a run.
use Rattle.std.specs.Prelude.{List, [], ◌∷◌, Option, Some, None, if◌then◌else◌}
use Rattle.c_values.specs.Layout.{Layout}
use Rattle.expression_lang.specs.GuardKind.{GuardKind}
use Rattle.expression_lang.specs.Evaluation.{Env, State, holds}
use Rattle.simpl_lang.specs.Command.{Condition}

-- the kind of the first condition that doesn't hold
abbrev pub refused : Layout → Env → State → List Condition → Option GuardKind
refused l env s [] = None
refused l env s (c ∷ cs) = if holds l env s c.exp then refused l env s cs else Some c.kind
