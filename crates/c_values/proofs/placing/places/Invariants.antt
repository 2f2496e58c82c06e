use Rattle.std.proofs.Common.{◌≤◌, map, drop}
use Rattle.c_values.specs.Name.{Name}
use Rattle.c_values.specs.Layout.{Shape, shape_from}
use Rattle.c_values.specs.CodeTypes.{target_of}
use Rattle.c_values.specs.CodeLayout.{member_of}
use Rattle.c_values.specs.CodeStructTable.{Describes}
use Rattle.c_values.proofs.PlacingMembers.{Placing}
use Rattle.c_values.proofs.placing.places.Given as goal

abbrev pub invariant-loop-ty : goal.invariant-loop-ty
invariant-loop-ty l = record {
  within : l.end ≤ 65536;
  some : 1 ≤ l.alignment;
  few : l.alignment ≤ 8;
  placing : (structs : Name → Shape) → Describes l.table structs → Placing (shape_from (target_of l.target) structs) (map member_of l.definition.members.items) (map member_of (drop l.ty-index l.definition.members.items)) l.end l.alignment l.offsets.items;
}
