-- The first part of a sequence as the code makes it.
use Rattle.std.specs.Prelude.{◌≡◌, List, map, string_bytes}
use Rattle.c_values.specs.Name.{Name}
use Rattle.expression_lang.specs.CodeExpression.{kind_of}
use Rattle.monad_lang.specs.Program.{Mon}
use Rattle.monad_lang.specs.CodeProgram.{mon_of}
use Rattle.monad_lang.specs.Sorted.{scalars_given}
use Rattle.rule_word.specs.Scopes.{words}
use Rattle.rule_word.specs.CodeRule.{tree_of}
use Rattle.rule_word.specs.ProgramsAbstracted.{kinds_for, scalars_there}
use Rattle.word_abstract.specs.CodeScenes.{context_at, binders_at, local_kinds, program_there}
use Rattle.word_abstract.specs.declared.points.Scene as P
use Rattle.word_abstract.specs.declared.passing.Front as F

pub record IsFrontAt (p : P.Scene) (m : Mon) (xs : List Name) (f : F.Front) : Type 0 where
  pub kinds : map kind_of f.kinds.items ≡ kinds_for (λ x. local_kinds p.setting.now x) xs (scalars_there (scalars_given (words (context_at p) (binders_at p)) m))
  pub names : map string_bytes f.names.items ≡ xs
  pub right : mon_of f.right.value ≡ (program_there p m (map kind_of f.kinds.items)).right
  pub tree : tree_of f.tree ≡ (program_there p m (map kind_of f.kinds.items)).tree
