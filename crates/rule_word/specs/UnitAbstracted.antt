-- A unit made a unit of programs on what stands for words: each function has parameters and a result of the kinds that are said, and its
-- body is abstracted, by what is known of its locals. Words are to be numbers where the function's level says so.
use Rattle.std.specs.Prelude.{◌≡◌, Bool, true, List, [], ◌∷◌, map, Option}
use Rattle.c_values.specs.Name.{Name}
use Rattle.expression_lang.specs.Expression.{Exp}
use Rattle.expression_lang.specs.Sort.{Kind, sort_of_kind, word_sort_of}
use Rattle.expression_lang.specs.Signature.{Binder, Signature, names_of, kinds_of}
use Rattle.monad_lang.specs.Program.{FinalFn, FinalUnit}
use Rattle.rule_word.specs.Rule.{Context}
use Rattle.rule_word.specs.Scopes as S
use Rattle.rule_word.specs.Scopes.{names_in, with_kinds, result_as_list}
use Rattle.rule_word.specs.ProgramsAbstracted.{AbstractedProgram, program_abstracted, binds_words}
use Rattle.rule_word.specs.Ready.{is_numbers_level}

-- the kinds that a function has on the right, its locals' among them
pub record FunctionKinds : Type 0 where
  pub params : List Binder
  pub result : Option Kind
  pub locals : List Binder

abbrev pub right_signature : FinalFn → FunctionKinds → Signature
right_signature f k = record { name = f.name; level = f.level; params = k.params; result = k.result }

abbrev pub right_signatures : List FinalFn → List FunctionKinds → List Signature
right_signatures (f ∷ fs) (k ∷ ks) = right_signature f k ∷ right_signatures fs ks
right_signatures _ _ = []

abbrev pub scope_for : FunctionKinds → List Binder
scope_for k = with_kinds (names_of k.params) (kinds_of k.params) []

abbrev pub kinds_there : FunctionKinds → Name → Option Kind
kinds_there k = names_in (λ i. i) k.locals

module _ (same : Exp → Exp → Bool) (ctx : Context) where
  abbrev pub body_abstracted : FinalFn → FunctionKinds → AbstractedProgram
  body_abstracted f k =
      program_abstracted same (is_numbers_level f.level) ctx (kinds_there k) [] (scope_for k) f.body (result_as_list k.result)

  abbrev pub function_abstracted : FinalFn → FunctionKinds → FinalFn
  function_abstracted f k = record {
    name = f.name;
    level = f.level;
    params = k.params;
    results = result_as_list k.result;
    body = (body_abstracted f k).right;
  }

  abbrev pub functions_abstracted : List FinalFn → List FunctionKinds → List FinalFn
  functions_abstracted (f ∷ fs) (k ∷ ks) = function_abstracted f k ∷ functions_abstracted fs ks
  functions_abstracted _ _ = []

abbrev pub right_context : FinalUnit → List FunctionKinds → Context
right_context u ks = record { layout = u.layout; globals = u.globals; functions = right_signatures u.functions ks }

abbrev pub unit_abstracted : (Exp → Exp → Bool) → FinalUnit → List FunctionKinds → FinalUnit
unit_abstracted same u ks = record {
  layout = u.layout;
  globals = u.globals;
  functions = functions_abstracted same (right_context u ks) u.functions ks;
}

-- the kinds are of the words that the function takes and gives, and each bound name is a word or a truth value
pub record IsFor (ctx : Context) (f : FinalFn) (k : FunctionKinds) : Type 0 where
  pub parameters : names_of f.params ≡ names_of k.params
  pub words : map sort_of_kind (kinds_of f.params) ≡ map word_sort_of (kinds_of k.params)
  pub results : map sort_of_kind f.results ≡ map word_sort_of (result_as_list k.result)
  pub binds : binds_words (S.words ctx (scope_for k)) f.body ≡ true

abbrev pub AreFor : Context → List FinalFn → List FunctionKinds → Type 0
AreFor ctx [] [] = Unit {0}
AreFor ctx (f ∷ fs) (k ∷ ks) = IsFor ctx f k × AreFor ctx fs ks
AreFor ctx _ _ = ⊥
