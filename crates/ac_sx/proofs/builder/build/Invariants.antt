-- With the bytes of an atom that have been passed, what is left builds what the text does.
use Rattle.std.proofs.Common.{◌≡◌, ◌≤◌, drop, true}
use Rattle.std.specs.List.{list_all, slice_range}
use Rattle.ac_sx.specs.Tree.{is_atom_byte}
use Rattle.ac_sx.specs.CodeBuilder.{building_of, built_from, built}
use Rattle.ac_sx.proofs.builder.build.Given as goal

abbrev pub invariant-loop-at : goal.invariant-loop-at
invariant-loop-at l = record {
  begun : l.start ≤ l.at;
  word : list_all is_atom_byte (slice_range l.text l.start l.at) ≡ true;
  same : built_from (building_of l.builder) (slice_range l.text l.start l.at) (drop l.at l.text) ≡ built l.text;
}
