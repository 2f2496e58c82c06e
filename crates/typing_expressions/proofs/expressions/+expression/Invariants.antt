-- What is left is no deeper than the whole, and its judgement, behind what was found, is that of the whole.
use Rattle.std.proofs.Common.{◌≡◌, ◌≤◌, [], pos}
use Rattle.c_grammar.specs.CodeTree as view
use Rattle.c_grammar.specs.declared.tree.Words.{size-Words}
use Rattle.c_grammar.specs.declared.tree.Members.{size-Members}
use Rattle.c_grammar.specs.declared.tree.Declarators.{size-Declarators}
use Rattle.c_grammar.specs.declared.tree.Dimensions.{size-Dimensions}
use Rattle.c_grammar.specs.declared.tree.Enumerators.{size-Enumerators}
use Rattle.c_values.specs.CodeTypes.{type_of}
use Rattle.typing_scope.specs.CodeScope.{scope_of}
use Rattle.typing_rules.specs.CodeWords.{specs_of}
use Rattle.typing_scope.specs.CodeFields.{members_of}
use Rattle.typing_rules.specs.Declarations.{no_specs}
use Rattle.typing_rules.specs.Expressions as expressions
use Rattle.typing_expressions.proofs.expressions.+expression.Given as goal

abbrev pub invariant-base-loop-rest : goal.invariant-base-loop-rest
invariant-base-loop-rest l =
    (size-Words l.rest ≤ size-Words l.fn.words)
    × (expressions.words no_specs (view.words_of l.fn.words) (scope_of l.fn.scope) ≡ expressions.words (specs_of l.specs) (view.words_of l.rest) (scope_of l.scope))

abbrev pub invariant-members-loop-rest : goal.invariant-members-loop-rest
invariant-members-loop-rest l =
    (size-Members l.rest ≤ size-Members l.fn.members)
    × (expressions.members [] (view.members_of l.fn.members) (scope_of l.fn.scope) ≡ expressions.members (members_of l.fields) (view.members_of l.rest) (scope_of l.scope))

abbrev pub invariant-declarators-loop-rest : goal.invariant-declarators-loop-rest
invariant-declarators-loop-rest l =
    (size-Declarators l.rest ≤ size-Declarators l.fn.declared)
    × (expressions.declarators (type_of l.fn.ty) (members_of l.fn.fields) (view.declarators_of l.fn.declared) (scope_of l.fn.scope) ≡ expressions.declarators (type_of l.ty) (members_of l.fields) (view.declarators_of l.rest) (scope_of l.scope))

abbrev pub invariant-lengths-loop-rest : goal.invariant-lengths-loop-rest
invariant-lengths-loop-rest l =
    (size-Dimensions l.rest ≤ size-Dimensions l.fn.dimensions)
    × (expressions.dimensions [] (view.dimensions_of l.fn.dimensions) (scope_of l.fn.scope) ≡ expressions.dimensions l.lengths.items (view.dimensions_of l.rest) (scope_of l.scope))

abbrev pub invariant-enumerators-loop-rest : goal.invariant-enumerators-loop-rest
invariant-enumerators-loop-rest l =
    (size-Enumerators l.rest ≤ size-Enumerators l.fn.enumerators)
    × (expressions.enumerators (pos 0) (view.enumerators_of l.fn.enumerators) (scope_of l.fn.scope) ≡ expressions.enumerators l.next (view.enumerators_of l.rest) (scope_of l.scope))
