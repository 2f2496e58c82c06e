-- What the code's lifted programs stand for.
use Rattle.std.specs.Prelude.{◌≡◌, List, map}
use Rattle.c_values.specs.Name.{Name}
use Rattle.expression_lang.specs.declared.signatures.Binder as B
use Rattle.expression_lang.specs.CodeSignature.{binder_of}
use Rattle.simpl_lang.specs.Command.{Simpl}
use Rattle.monad_lang.specs.CodeProgram.{mon_of}
use Rattle.rule_local.specs.CodeRule.{tree_of}
use Rattle.rule_local.specs.Lifted.{Lifted}
use Rattle.local_lift.specs.Live.{live}
use Rattle.local_lift.specs.LiftedByLive.{among, by_live}
use Rattle.local_lift.specs.CodeNames.{names}
use Rattle.local_lift.specs.CodeRows.{marks}
use Rattle.local_lift.specs.declared.lifted.Lifted as L
use Rattle.local_lift.specs.declared.lifting.LiftedFrom as F

abbrev pub lifted_of : L.Lifted → Lifted
lifted_of l = record { right = mon_of l.right.value; tree = tree_of l.tree }

-- what the command is lifted to for these outputs, and the locals that are live before it
pub record IsLifted (bs : List B.Binder) (a : Simpl) (vs : List Name) (l : F.LiftedFrom) : Type 0 where
  pub lifted : lifted_of l.lifted ≡ by_live (map binder_of bs) a vs
  pub before : l.before.flags.items ≡ marks (live (names bs) a (among vs)) bs
