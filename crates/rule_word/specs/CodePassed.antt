-- What stands before a place, as facts see it: parts of a program, or first sides of `and`s.
use Rattle.std.specs.Prelude.{Bool, false, List, [], ◌∷◌, Option, Some, None}
use Rattle.expression_lang.specs.Expression.{Exp, And}
use Rattle.expression_lang.specs.CodeExpression.{exp_of}
use Rattle.ac_expr.specs.Passed.{Part}
use Rattle.program_facts.specs.CodeParts as program
use Rattle.rule_word.specs.declared.passed.Passed as P

-- the first sides, each of which holds where those behind it stand
abbrev pub conjuncts : Exp → List Part
conjuncts (And a b) = record { guard = Some a; names = []; changes = false } ∷ conjuncts b
conjuncts e = []

abbrev pub sequence : P.Passed → List Part
sequence (P.TheVariants.Program ps) = program.sequence ps
sequence (P.TheVariants.Sides a b) = record { guard = Some (exp_of a.now.value); names = []; changes = false } ∷ conjuncts (exp_of b.now.value)
sequence (P.TheVariants.Side e) = conjuncts (exp_of e.now.value)

abbrev pub guard_at : P.Passed → Option Exp
guard_at (P.TheVariants.Program ps) = program.guard_at ps
guard_at (P.TheVariants.Sides a b) = None
guard_at (P.TheVariants.Side e) = Some (exp_of e.now.value)

abbrev pub changes_at : P.Passed → Bool
changes_at (P.TheVariants.Program ps) = program.changes_at ps
changes_at (P.TheVariants.Sides a b) = false
changes_at (P.TheVariants.Side e) = false
