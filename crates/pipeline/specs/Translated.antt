-- The last programs of a typed unit, by the translations alone: exceptions eliminated, locals lifted, loads made reads where a
-- function is lifted, and words abstracted. The last step, which makes programs tidier, is left out: it changes nothing.
use Rattle.std.specs.Prelude.{Bool}
use Rattle.c_values.specs.Name.{Name}
use Rattle.expression_lang.specs.Expression.{Exp}
use Rattle.expression_lang.specs.Sort.{Level}
use Rattle.monad_lang.specs.Program.{FinalUnit}
use Rattle.rule_word.specs.UnitAbstracted.{unit_abstracted}
use Rattle.c_lang.specs.Typed.{TypedUnit}
use Rattle.generation.specs.Generate.{generated}
use Rattle.pipeline.specs.GeneratesReady.{kinds_in, on_words}

-- expressions are compared by a test
abbrev pub unit_translated : (Exp → Exp → Bool) → TypedUnit → (Name → Level) → FinalUnit
unit_translated same u levels = unit_abstracted same (on_words (generated u levels)) (kinds_in (generated u levels))
