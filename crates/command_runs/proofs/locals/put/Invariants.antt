-- The names before have been passed by.
use Rattle.std.proofs.Common.{◌≡◌, length, ◌-◌, ◌++◌, take, drop}
use Rattle.c_values.specs.CodeValue.{value_of}
use Rattle.command_runs.specs.Locals.{put_in}
use Rattle.command_runs.specs.CodeRun.{table_of}
use Rattle.command_runs.proofs.locals.put.Given as goal

abbrev pub invariant-locals : goal.invariant-locals
invariant-locals l = record {
  same : l.locals.items ≡ l.fn.locals.items;
  passed : put_in l.name (value_of l.value) (table_of l.locals.items)
      ≡ table_of (take l.k l.locals.items) ++ put_in l.name (value_of l.value) (table_of (drop l.k l.locals.items));
}

abbrev pub decreases-locals : goal.decreases-locals
decreases-locals l = length l.locals.items - l.k
