use Rattle.std.proofs.Common.{map}
use Rattle.c_values.specs.Name.{Name}
use Rattle.c_values.specs.Layout.{Shape}
use Rattle.c_values.specs.CodeTypes.{target_of}
use Rattle.c_values.specs.CodeLayout.{struct_def_of}
use Rattle.c_values.specs.CodeStructTable.{Describes, Finds}
use Rattle.c_values.proofs.Tabulating.{Tabulating}
use Rattle.c_values.proofs.tabulation.tabulate.Given as goal

abbrev pub invariant-loop-position : goal.invariant-loop-position
invariant-loop-position l = record {
  structs : Name → Shape;
  done : Tabulating (target_of l.target) (map struct_def_of l.structs) l.position structs;
  describes : Describes l.table structs;
  finds : Finds l.table l.structs;
}
