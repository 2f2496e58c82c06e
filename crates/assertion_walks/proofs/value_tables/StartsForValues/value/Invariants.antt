-- What is left gives the name what the whole gives it.
use Rattle.std.proofs.Common.{◌≡◌, map, length}
use Rattle.monad_lang.specs.Run.{start_names}
use Rattle.monad_lang.specs.CodeProgram.{start_of}
use Rattle.rule_parts.specs.Starts.{start_exps}
use Rattle.assertion_walks.specs.Put.{exp_for}
use Rattle.assertion_walks.proofs.value_tables.StartsForValues.value.Given as goal

abbrev pub invariant-along : goal.invariant-along
invariant-along l =
    exp_for (start_names (map start_of l.starts)) (start_exps (map start_of l.starts)) l.name
    ≡ exp_for (start_names (map start_of l.self.starts.now)) (start_exps (map start_of l.self.starts.now)) l.name

abbrev pub decreases-along : goal.decreases-along
decreases-along l = length l.starts
