-- The names of numbered locals.
use Rattle.std.proofs.Common.{◌++◌, ap, codes, arith}
use Rattle.std.proofs.lemmas.Fmt.{decimal_digit}
use Rattle.worked_rows.proofs.generation_rows.functions.Goals as goal

pub returns-clause-names : goal.returns-clause-names
returns-clause-names c =
    (ap (λ ds. codes "$r" ++ ds) (decimal_digit 3 (omega arith)), ap (λ ds. codes "$sw" ++ ds) (decimal_digit 1 (omega arith)), ap (λ ds. codes "$first" ++ ds) (decimal_digit 2 (omega arith)))
