-- Conditions that stand in order: the first that doesn't hold, by its kind.
use Rattle.std.specs.Prelude.{List, [], ◌∷◌, Option, Some, None, if◌then◌else◌}
use Rattle.c_values.specs.Layout.{Layout}
use Rattle.expression_lang.specs.GuardKind.{GuardKind}
use Rattle.expression_lang.specs.Machine.{Machine}
use Rattle.simpl_lang.specs.Command.{Condition}
use Rattle.simpl_lang.specs.Exec.{holds_on}

abbrev pub first_broken : Layout → Machine → List Condition → Option GuardKind
first_broken l m [] = None
first_broken l m (c ∷ cs) = if holds_on l m c.exp then first_broken l m cs else Some c.kind
