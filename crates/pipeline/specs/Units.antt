-- The units that a certificate makes of a generated one: its functions with the programs of one step, in their order.
use Rattle.std.specs.Prelude.{List, [], ◌∷◌}
use Rattle.expression_lang.specs.Signature.{Signature}
use Rattle.simpl_lang.specs.Command.{Simpl, SimplFn, SimplUnit}
use Rattle.monad_lang.specs.Program.{Mon, FinalFn, FinalUnit}
use Rattle.rule_local.specs.Lifted.{in_words, result_in_words}
use Rattle.rule_word.specs.Scopes.{result_as_list}
use Rattle.acceptance.specs.Certificate.{Steps, before_words}

-- Flat commands: all but the bodies stays.

abbrev pub with_body : SimplFn → Simpl → SimplFn
with_body f a = record { name = f.name; locals = f.locals; level = f.level; body = a }

abbrev pub flat_functions : List SimplFn → List Steps → List SimplFn
flat_functions (f ∷ fs) (c ∷ cs) = with_body f c.exception.program ∷ flat_functions fs cs
flat_functions _ _ = []

abbrev pub flat_unit : SimplUnit → List Steps → SimplUnit
flat_unit u cs = record {
  layout = u.layout;
  globals = u.globals;
  functions = flat_functions u.functions cs;
  signatures = u.signatures;
}

-- Programs: a function takes and gives what its signature says, and words of it before words become numbers.

abbrev pub on_words : Signature → Mon → FinalFn
on_words s m = record {
  name = s.name;
  level = s.level;
  params = in_words s.params;
  results = result_in_words s.result;
  body = m;
}

abbrev pub on_numbers : Signature → Mon → FinalFn
on_numbers s m =
    record { name = s.name; level = s.level; params = s.params; results = result_as_list s.result; body = m }

abbrev pub functions_with : (Signature → Mon → FinalFn) → (Steps → Mon) → List Signature → List Steps → List FinalFn
functions_with function program (s ∷ ss) (c ∷ cs) = function s (program c) ∷ functions_with function program ss cs
functions_with _ _ _ _ = []

abbrev pub unit_with : (Signature → Mon → FinalFn) → (Steps → Mon) → SimplUnit → List Steps → FinalUnit
unit_with function program u cs = record {
  layout = u.layout;
  globals = u.globals;
  functions = functions_with function program u.signatures cs;
}

abbrev pub local_unit : SimplUnit → List Steps → FinalUnit
local_unit u cs = unit_with on_words (λ c. c.local.program) u cs

-- on typed heaps where the function is lifted
abbrev pub heap_unit : SimplUnit → List Steps → FinalUnit
heap_unit u cs = unit_with on_words before_words u cs

abbrev pub word_unit : SimplUnit → List Steps → FinalUnit
word_unit u cs = unit_with on_numbers (λ c. c.word.program) u cs

abbrev pub last_unit : SimplUnit → List Steps → FinalUnit
last_unit u cs = unit_with on_numbers (λ c. c.equal.program) u cs
