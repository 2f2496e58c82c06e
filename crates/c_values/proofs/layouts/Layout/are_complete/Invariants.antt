use Rattle.std.proofs.Common.{◌≡◌, map, drop}
use Rattle.c_values.specs.Layout.{shape_of, all_members_complete}
use Rattle.c_values.specs.CodeLayout.{member_of}
use Rattle.c_values.proofs.layouts.Layout.are_complete.Given as goal

abbrev pub invariant-loop-ty : goal.invariant-loop-ty
invariant-loop-ty l = all_members_complete (shape_of l.self) (map member_of l.members) ≡ all_members_complete (shape_of l.self) (drop l.ty-index (map member_of l.members))
