-- The expressions that stand in a program directly, as the code goes along them.
use Rattle.std.specs.Prelude.{List, map}
use Rattle.expression_lang.specs.Expression.{Exp}
use Rattle.ac_expr.specs.CodeHeads.{children_in}
use Rattle.monad_lang.specs.CodeProgram.{start_of}
use Rattle.rule_parts.specs.Starts.{start_exps}
use Rattle.rule_parts.specs.declared.exps.Exps as X

abbrev pub exps_in : X.Exps → List Exp
exps_in (X.TheVariants.Children es) = children_in es
exps_in (X.TheVariants.Starts xs) = start_exps (map start_of xs.now)
