-- What is in scope at the code's place of a derivation.
use Rattle.std.specs.Prelude.{Option, Some}
use Rattle.c_values.specs.Name.{Name, with_name}
use Rattle.expression_lang.specs.Sort.{Scalar}
use Rattle.expression_lang.specs.CodeSort.{scalar_of}
use Rattle.monad_lang.specs.CodeProgram.{mon_of}
use Rattle.monad_sorts.specs.CodeInside.{setting_in, no_names}
use Rattle.monad_sorts.specs.CodeTold.{names_after}
use Rattle.hoare_check.specs.declared.scoping.InScope as C

abbrev pub names_in : {N : Type 0} → (N → Name → Option Scalar) → C.InScope N → Name → Option Scalar
names_in scalars (C.Outer n) x = scalars n.now x
names_in scalars (C.Passed' p outer s m) x =
    names_after (setting_in s no_names) 1 (λ y. names_in scalars outer y) (mon_of m.now) x
names_in scalars (C.Named' p outer own s) x = with_name own.now (Some (scalar_of s)) (λ y. names_in scalars outer y) x
