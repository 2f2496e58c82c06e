-- What is left gives the name what the whole gives it.
use Rattle.std.proofs.Common.{◌≡◌, map, string_bytes, length}
use Rattle.monad_lang.specs.Run.{start_names}
use Rattle.monad_lang.specs.CodeProgram.{start_of}
use Rattle.assertion_walks.specs.Put.{exp_for}
use Rattle.assertion_walks.specs.CodePut.{variables}
use Rattle.assertion_walks.proofs.value_tables.NamesForValues.value.Given as goal

abbrev pub invariant-along : goal.invariant-along
invariant-along l =
    exp_for (map string_bytes l.names) (variables (start_names (map start_of l.starts))) l.name
    ≡ exp_for (map string_bytes l.self.names.now) (variables (start_names (map start_of l.self.starts.now))) l.name

abbrev pub decreases-along : goal.decreases-along
decreases-along l = length l.names
