use Rattle.std.proofs.Common.{◌≤◌}
use Rattle.c_grammar.specs.declared.tree.Words.{size-Words}
use Rattle.c_grammar.specs.declared.tree.Members.{size-Members}
use Rattle.c_grammar.specs.declared.tree.Declarators.{size-Declarators}
use Rattle.c_grammar.specs.declared.tree.Dimensions.{size-Dimensions}
use Rattle.c_grammar.specs.declared.tree.Enumerators.{size-Enumerators}
use Rattle.c_grammar.proofs.+drop_exp.Given as goal

abbrev pub invariant-tree::Words::drop-loop-self : goal.invariant-tree::Words::drop-loop-self
invariant-tree::Words::drop-loop-self l = size-Words l.self ≤ size-Words l.initial.self

abbrev pub invariant-tree::Members::drop-loop-self : goal.invariant-tree::Members::drop-loop-self
invariant-tree::Members::drop-loop-self l = size-Members l.self ≤ size-Members l.initial.self

abbrev pub invariant-tree::Declarators::drop-loop-self : goal.invariant-tree::Declarators::drop-loop-self
invariant-tree::Declarators::drop-loop-self l = size-Declarators l.self ≤ size-Declarators l.initial.self

abbrev pub invariant-tree::Dimensions::drop-loop-self : goal.invariant-tree::Dimensions::drop-loop-self
invariant-tree::Dimensions::drop-loop-self l = size-Dimensions l.self ≤ size-Dimensions l.initial.self

abbrev pub invariant-tree::Enumerators::drop-loop-self : goal.invariant-tree::Enumerators::drop-loop-self
invariant-tree::Enumerators::drop-loop-self l = size-Enumerators l.self ≤ size-Enumerators l.initial.self
