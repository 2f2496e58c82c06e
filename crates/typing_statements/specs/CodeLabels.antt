-- What the code's labels of a switch stand for.
use Rattle.std.specs.Prelude.{true, false, [], ◌∷◌}
use Rattle.typing_statements.specs.declared.labels.Found.{Found}
use Rattle.typing_statements.specs.declared.labels.Found.TheVariants as F
use Rattle.typing_statements.specs.declared.labels.Labels as L
use Rattle.typing_rules.specs.Checked.{Judgement, pure, ◌>>=◌}
use Rattle.typing_rules.specs.Statements.{Labels, both}

abbrev pub found_of : Found → Labels
found_of (F.Case n) = record { values = n ∷ []; has_default = false }
found_of F.Default = record { values = []; has_default = true }

abbrev pub labels_of : L.Labels → Labels
labels_of l = record { values = l.values.items; has_default = l.has_default }

-- labels behind those of the switch, and behind those of the group
abbrev pub joined : Labels → Labels → Judgement Labels → Judgement (Labels × Labels)
joined seen found j = j >>= λ ls. pure (both seen ls, both found ls)
