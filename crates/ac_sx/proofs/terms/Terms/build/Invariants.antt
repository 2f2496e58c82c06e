-- With the bytes of an atom that have been passed, what is left builds what the line does; the table has grown by no more than one
-- entry a byte before them.
use Rattle.std.proofs.Common.{◌≡◌, ◌+◌, ◌≤◌, ◌++◌, ◌∷◌, [], length, drop, true}
use Rattle.std.specs.List.{list_all, slice_range}
use Rattle.ac_sx.specs.Tree.{is_atom_byte, line_end}
use Rattle.ac_sx.specs.Table.{Keeps}
use Rattle.ac_sx.specs.CodeBuilder.{built_from, built}
use Rattle.ac_sx.specs.CodeTermReader.{open_of, building_in, are_open_below, IsLow}
use Rattle.ac_sx.proofs.Levels.{Passing}
use Rattle.ac_sx.proofs.terms.Terms.build.Given as goal

abbrev pub invariant-loop-at : goal.invariant-loop-at
invariant-loop-at l = record {
  begun : l.start ≤ l.at;
  word : list_all is_atom_byte (slice_range l.bytes l.start l.at) ≡ true;
  below : are_open_below (length l.self) (open_of l.lists) ≡ true;
  same : built_from (building_in l.self (open_of l.lists)) (slice_range l.bytes l.start l.at) (drop l.at l.bytes ++ line_end ∷ []) ≡ built (l.bytes ++ line_end ∷ []);
  kept : Keeps l.fn.self l.self;
  low : IsLow (building_in l.self (open_of l.lists));
  passing : Passing (length (building_in l.self (open_of l.lists)).around) (drop l.at l.bytes ++ line_end ∷ []);
  len : length l.self ≤ length l.fn.self + l.start;
}
