-- What the code's certificates stand for.
use Rattle.std.specs.Prelude.{string_bytes}
use Rattle.std.specs.Option.{option_map}
use Rattle.expression_lang.specs.CodeExpression.{level_of}
use Rattle.simpl_lang.specs.CodeCommand.{simpl_of}
use Rattle.monad_lang.specs.CodeProgram.{mon_of}
use Rattle.rule_trees.specs.CodeTree as trees
use Rattle.rule_exn.specs.CodeRule as exceptions
use Rattle.rule_local.specs.CodeRule as locals
use Rattle.rule_heap.specs.CodeRule as heaps
use Rattle.rule_word.specs.CodeRule as words
use Rattle.rule_eq.specs.CodeRule as equality
use Rattle.acceptance.specs.declared.certificate.Step as T
use Rattle.acceptance.specs.declared.certificate.Steps as S
use Rattle.acceptance.specs.Certificate.{Step, Steps}

abbrev pub step_of : {P R Program Rule : Type 0} → (P → Program) → (R → Rule) → T.Step P R → Step Program Rule
step_of program rule s = record { program = program s.program.value; tree = trees.tree_of rule s.tree }

abbrev pub steps_of : S.Steps → Steps
steps_of c = record {
  name = string_bytes c.name;
  level = level_of c.level;
  exception = step_of simpl_of exceptions.rule_of c.exception;
  local = step_of mon_of locals.rule_of c.local;
  heap = option_map (step_of mon_of heaps.rule_of) c.heap;
  word = step_of mon_of words.rule_of c.word;
  equal = step_of mon_of equality.rule_of c.equal;
}
