use Rattle.std.proofs.Common.{refl}
use Rattle.worked_rows.proofs.ComputedObjects.{both}
use Rattle.worked_rows.proofs.objects.pointers_to_one_object.Goals as goal

pub returns : goal.returns
returns c = record {
  aliased = both _ _ refl refl refl refl refl refl;
  aliased_by_path = both _ _ refl refl refl refl refl refl;
  apart = both _ _ refl refl refl refl refl refl;
  structs = both _ _ refl refl refl refl refl refl;
}
