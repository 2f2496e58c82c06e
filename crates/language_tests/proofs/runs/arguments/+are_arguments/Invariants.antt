-- There are fewer parameters each time.
use Rattle.std.proofs.Common.{length}
use Rattle.language_tests.proofs.runs.arguments.+are_arguments.Given as goal

abbrev pub decreases-are_arguments : goal.decreases-are_arguments
decreases-are_arguments l = length l.parameters.now
