-- A lifted function takes and gives words of the kinds that it was generated with.
use Rattle.std.proofs.Common.{◌≡◌, [], ◌∷◌, map, Option, Some, None, refl, ap}
use Rattle.expression_lang.specs.Sort.{Kind, sort_of_kind, word_sort_of}
use Rattle.expression_lang.specs.Signature.{Signature, names_of, kinds_of}
use Rattle.simpl_lang.specs.Command.{SimplFn}
use Rattle.monad_lang.specs.Program.{FinalFn}
use Rattle.rule_local.specs.Lifted.{result_in_words, function_lifted}
use Rattle.rule_heap.specs.HeapLifted.{function_on_heaps}
use Rattle.rule_word.specs.Scopes.{result_as_list}
use Rattle.rule_local.proofs.LiftedSorted.{word_sort_is}
use Rattle.rule_local.proofs.UnitsSorted.{sorts_in_words}
use Rattle.rule_local.proofs.UnitsLifted.{words_named}

pub word_of_result : (r : Option Kind) → map sort_of_kind (result_in_words r) ≡ map word_sort_of (result_as_list r)
word_of_result None = refl
word_of_result (Some k) = ap (λ c. c ∷ []) (word_sort_is k)

-- of a function, on typed heaps or not
pub record TakesWords (f : FinalFn) (s : Signature) : Type 0 where
  pub parameters : names_of f.params ≡ names_of s.params
  pub words : map sort_of_kind (kinds_of f.params) ≡ map word_sort_of (kinds_of s.params)
  pub results : map sort_of_kind f.results ≡ map word_sort_of (result_as_list s.result)

pub takes_words : (f : SimplFn) (s : Signature) → TakesWords (function_on_heaps (function_lifted f s)) s
takes_words f s = record { parameters = words_named s.params; words = sorts_in_words s.params; results = word_of_result s.result }
