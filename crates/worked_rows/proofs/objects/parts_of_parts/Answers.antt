use Rattle.std.proofs.Common.{refl}
use Rattle.worked_rows.proofs.ComputedObjects.{both}
use Rattle.worked_rows.proofs.objects.parts_of_parts.Goals as goal

pub returns : goal.returns
returns c = record {
  by_path = both _ _ refl refl refl refl refl refl;
  by_pointer = both _ _ refl refl refl refl refl refl;
  part = both _ _ refl refl refl refl refl refl;
}
