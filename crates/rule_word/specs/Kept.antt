-- What the phase keeps of functions: called with words of its parameters' kinds on the left, and with what stands for them at these
-- kinds on the right, in one state that can be, a function gives words, and what stands for them at its results' kinds, with equal
-- states; both fail alike and stop alike. On either heap.
use Rattle.std.specs.Prelude.{◌≡◌, List, [], map, Option, Some, None}
use Rattle.correspondence.specs.Related.{Related, BothFail}
use Rattle.c_values.specs.Name.{Name}
use Rattle.expression_lang.specs.Sort.{Kind, word_sort_of}
use Rattle.expression_lang.specs.States.{IsState}
use Rattle.expression_lang.specs.Signature.{Signature, Invocation, kinds_of, signature}
use Rattle.expression_lang.specs.View.{views_at, AreOfKinds}
use Rattle.program_facts.specs.Lasting.{AreOfSorts}
use Rattle.monad_lang.specs.Program.{FinalUnit}
use Rattle.monad_lang.specs.Run as Mon
use Rattle.monad_lang.specs.Run.{Answer}
use Rattle.monad_lang.specs.Sorted.{signature_of}
use Rattle.rule_word.specs.Rule.{Context}
use Rattle.rule_word.specs.Scopes.{result_as_list}

-- the context of a unit whose functions are at their kinds
abbrev pub context_of : FinalUnit → Context
context_of u = record { layout = u.layout; globals = u.globals; functions = map signature_of u.functions }

-- what a function takes and gives
abbrev pub kinds_taken : Option Signature → List Kind
kinds_taken None = []
kinds_taken (Some f) = kinds_of f.params

abbrev pub kinds_given : Option Signature → List Kind
kinds_given None = []
kinds_given (Some f) = result_as_list f.result

abbrev pub parameter_kinds : Context → Name → List Kind
parameter_kinds ctx x = kinds_taken (signature ctx.functions x)

abbrev pub result_kinds : Context → Name → List Kind
result_kinds ctx x = kinds_given (signature ctx.functions x)

pub record AtItsKinds (ctx : Context) (c c' : Invocation) : Type 0 where
  pub name : c'.name ≡ c.name
  pub words : AreOfSorts (map word_sort_of (parameter_kinds ctx c.name)) c.arguments
  pub arguments : c'.arguments ≡ views_at (parameter_kinds ctx c.name) c.arguments
  pub in_range : AreOfKinds (parameter_kinds ctx c.name) c'.arguments
  pub state : c'.state ≡ c.state
  pub can_be : IsState ctx.layout ctx.globals c.state

pub record AnswersAtItsKinds (ctx : Context) (c : Invocation) (a b : Answer) : Type 0 where
  pub values : b.values ≡ views_at (result_kinds ctx c.name) a.values
  pub state : b.state ≡ a.state

abbrev pub WordsKept : Context → Mon.Runs → Mon.Runs → Type 0
WordsKept ctx f g = Related (AtItsKinds ctx) (AnswersAtItsKinds ctx) BothFail f g
