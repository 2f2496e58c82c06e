-- The functions that are left are those from the position on, with their levels, and what is written are the lines of those before.
use Rattle.std.proofs.Common.{map, length}
use Rattle.c_values.specs.Name.{Name}
use Rattle.expression_lang.specs.Sort.{Level}
use Rattle.expression_lang.specs.CodeExpression.{level_of}
use Rattle.c_lang.specs.CodeTyped.{function_of, unit_of}
use Rattle.c_levels.specs.CodeModes.{AreLevels}
use Rattle.checking.proofs.LinesLeft.{AreFrom, AreWritten}
use Rattle.checking.proofs.lines.function_lines.Given as goal

abbrev pub invariant-functions : goal.invariant-functions
invariant-functions l = record {
  from : AreFrom (unit_of l.unit).functions l.at (map function_of l.functions);
  written : (levels : Name → Level) → AreLevels (unit_of l.unit) l.modes levels →
      AreWritten levels (unit_of l.unit).functions (map function_of l.functions) (map level_of l.levels) l.lines.items;
}

abbrev pub decreases-functions : goal.decreases-functions
decreases-functions l = length l.functions
