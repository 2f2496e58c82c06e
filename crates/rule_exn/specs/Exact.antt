-- What an accepted tree gives of the two commands alone.
use Rattle.std.specs.Prelude.{◌≡◌, ℕ, false, List, Option}
use Rattle.correspondence.specs.Corresponds.{Corresponds, Paired}
use Rattle.c_values.specs.Choice.{Choice}
use Rattle.expression_lang.specs.Machine.{Machine}
use Rattle.expression_lang.specs.Signature.{Binder}
use Rattle.simpl_lang.specs.Command.{Simpl, SimplUnit}
use Rattle.simpl_lang.specs.Exec.{execs, functions_below}
use Rattle.rule_exn.specs.Flagged.{Flagged, Shows}
use Rattle.rule_exn.specs.Units.{RunAlike}

-- The right side stands for the left side. Over the functions of any two units that run alike at all smaller bounds, and from
-- machines that are the same but for a flag that is `#f`: the right side fails exactly where the left side fails, by the same
-- kind; it ends with the flag `#f` exactly where the left side ends normally, and `#t` where abruptly, all else being equal; and
-- it stops exactly where the left side stops.
abbrev pub StandsFor : Simpl → Simpl → Type 0
StandsFor left right =
    (u v : SimplUnit) (p : Choice) (n : ℕ) → Paired RunAlike (functions_below u p n) (functions_below v p n) → (locals : List Binder) (depth : Option ℕ) (m m' : Machine) → Flagged false m m' →
    Corresponds Shows (λ k j. j ≡ k) (execs u.layout p locals left depth (functions_below u p n) m) (execs u.layout p locals right depth (functions_below v p n) m')
