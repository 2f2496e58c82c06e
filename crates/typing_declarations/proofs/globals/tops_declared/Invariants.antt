-- What is left is judged, behind what is declared, as all is.
use Rattle.std.proofs.Common.{◌≡◌, length, map}
use Rattle.c_grammar.specs.CodeTree.{top_of}
use Rattle.typing_rules.specs.CodeWords.{base_of}
use Rattle.typing_rules.specs.Globals.{tops}
use Rattle.typing_scope.specs.CodeScope.{scope_of}
use Rattle.typing_declarations.proofs.globals.tops_declared.Given as goal

abbrev pub invariant-loop-top : goal.invariant-loop-top
invariant-loop-top l =
    tops l.is_typedef (base_of l.base) (map top_of l.fn.tops) (scope_of l.fn.scope) ≡ tops l.is_typedef (base_of l.base) (map top_of l.rest) (scope_of l.scope)

abbrev pub decreases-loop-top : goal.decreases-loop-top
decreases-loop-top l = length l.rest
