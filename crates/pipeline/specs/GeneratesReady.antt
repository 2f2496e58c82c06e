-- That what generation makes of a typed unit, exceptions eliminated, locals lifted and loads made reads, is ready to become programs on
-- what stands for words: each name that is bound is a word or a truth value, and at level numbers each sum, negation and signed division
-- stands where one of its ranges is known.
use Rattle.std.specs.Prelude.{◌≡◌, Bool, true, List, [], ◌∷◌}
use Rattle.c_values.specs.Name.{Name}
use Rattle.expression_lang.specs.Expression.{Exp}
use Rattle.expression_lang.specs.Sort.{Level}
use Rattle.expression_lang.specs.Signature.{Signature}
use Rattle.simpl_lang.specs.Command.{SimplFn, SimplUnit}
use Rattle.monad_lang.specs.Program.{FinalFn, FinalUnit}
use Rattle.rule_local.specs.Lifted.{unit_lifted}
use Rattle.rule_heap.specs.HeapLifted.{unit_on_heaps}
use Rattle.rule_word.specs.Rule.{Context}
use Rattle.rule_word.specs.Scopes.{result_as_list}
use Rattle.rule_word.specs.Ready.{is_numbers_level, program_ready}
use Rattle.rule_word.specs.UnitAbstracted.{FunctionKinds, scope_for, kinds_there, right_context, IsFor}
use Rattle.c_lang.specs.Typed.{TypedUnit}
use Rattle.generation.specs.Generate.{generated}
use Rattle.pipeline.specs.Ready.{unit_eliminated}

-- the kinds of generated functions: of their parameters, of their results, and of their locals
abbrev pub kinds_of_functions : List SimplFn → List Signature → List FunctionKinds
kinds_of_functions (f ∷ fs) (s ∷ ss) =
    record { params = s.params; result = s.result; locals = f.locals } ∷ kinds_of_functions fs ss
kinds_of_functions _ _ = []

abbrev pub kinds_in : SimplUnit → List FunctionKinds
kinds_in u = kinds_of_functions u.functions u.signatures

-- after the three steps before
abbrev pub on_words : SimplUnit → FinalUnit
on_words u = unit_on_heaps (unit_lifted (unit_eliminated u))

pub record IsWordReady (same : Exp → Exp → Bool) (ctx : Context) (f : FinalFn) (k : FunctionKinds) : Type 0 where
  pub kinds : IsFor ctx f k
  pub ready : program_ready same (is_numbers_level f.level) ctx (kinds_there k) [] (scope_for k) f.body
      (result_as_list k.result) ≡ true

abbrev pub AreWordReady : (Exp → Exp → Bool) → Context → List FinalFn → List FunctionKinds → Type 0
AreWordReady same ctx [] [] = Unit {0}
AreWordReady same ctx (f ∷ fs) (k ∷ ks) = IsWordReady same ctx f k × AreWordReady same ctx fs ks
AreWordReady same ctx _ _ = ⊥

-- by any test of expressions that finds equal ones
abbrev pub GeneratesWordReady : TypedUnit → Type 0
GeneratesWordReady u =
    (same : Exp → Exp → Bool) → ((e : Exp) → same e e ≡ true) → (levels : Name → Level) →
    let g = generated u levels in
    AreWordReady same (right_context (on_words g) (kinds_in g)) (on_words g).functions (kinds_in g)
