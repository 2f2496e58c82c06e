-- Calls in a generated unit: with words of the kinds in the context as with words.
use Rattle.std.proofs.Common.{◌≡◌, Bool, true, false, cond, List, [], ◌∷◌, map, Option, Some, None, refl, sym, subst, ap, ap₂}
use Rattle.c_values.specs.Name.{Name, same_name}
use Rattle.c_values.specs.Layout.{Layout}
use Rattle.expression_lang.specs.Sort.{Level, Scalar, Kind, Scope, word_sort_of, sort_of_kind}
use Rattle.expression_lang.specs.Signature.{Signature, signature}
use Rattle.expression_lang.specs.Sorted.{same_scalars, result_scalars, call_scalars}
use Rattle.monad_lang.specs.Program.{Mon}
use Rattle.monad_lang.specs.Sorted.{scalars_given}
use Rattle.rule_local.specs.Table.{word_kind}
use Rattle.rule_local.specs.Lifted.{in_words, functions_lifted}
use Rattle.rule_local.proofs.LiftedSorted.{word_sort_is}
use Rattle.rule_heap.specs.HeapLifted.{functions_on_heaps}
use Rattle.rule_word.specs.UnitAbstracted.{right_signatures}
use Rattle.rule_word.proofs.SettingsAlike.{TakesAlike, SignedAlike, given_alike}
use Rattle.rule_local.proofs.UnitsSorted.{sorts_in_words}
use Rattle.c_lang.specs.Typed as C
use Rattle.generation.specs.Generate.{function_of, signature_of}
use Rattle.pipeline.specs.Ready.{function_eliminated}
use Rattle.pipeline.specs.GeneratesReady.{kinds_of_functions}

-- what a function takes and gives, in words
abbrev pub result_in_word : Option Kind → Option Kind
result_in_word None = None
result_in_word (Some k) = Some (word_kind k)

abbrev pub signature_in_words : Signature → Signature
signature_in_words s = record { name = s.name; level = s.level; params = in_words s.params; result = result_in_word s.result }

abbrev pub in_words_all : List Signature → List Signature
in_words_all ss = map signature_in_words ss

result_alike : (r : Option Kind) → result_scalars word_sort_of r ≡ result_scalars sort_of_kind (result_in_word r)
result_alike None = refl
result_alike (Some k) = ap (λ c. c ∷ []) (sym (word_sort_is k))

takes_alike : (s : Signature) → TakesAlike word_sort_of sort_of_kind s (signature_in_words s)
takes_alike s = record { takes = sym (sorts_in_words s.params); gives = result_alike s.result }

alike : (ss : List Signature) (x : Name) → SignedAlike word_sort_of sort_of_kind (signature ss x) (signature (in_words_all ss) x)
alike [] x = tt
alike (s ∷ ss) x = by_test (same_name s.name x) (alike ss x)
  where
    by_test : (b : Bool) → SignedAlike word_sort_of sort_of_kind (signature ss x) (signature (in_words_all ss) x) →
        SignedAlike word_sort_of sort_of_kind (cond b (Some s) (signature ss x))
        (cond b (Some (signature_in_words s)) (signature (in_words_all ss) x))
    by_test true h = takes_alike s
    by_test false h = h

both_call : (a b : Option Signature) → SignedAlike word_sort_of sort_of_kind a b → (o : Option (List Scalar)) →
    call_scalars sort_of_kind b o ≡ call_scalars word_sort_of a o
both_call (Some a) (Some b) h (Some cs) = ap₂ (λ ds r. cond (same_scalars ds cs) (Some r) None) (sym h.takes) (sym h.gives)
both_call None (Some b) h o = absurd h
both_call (Some a) None h o = absurd h
both_call _ _ _ _ = refl

pub calls_alike : (ss : List Signature) (f : Name) (o : Option (List Scalar)) →
    call_scalars sort_of_kind (signature (in_words_all ss) f) o ≡ call_scalars word_sort_of (signature ss f) o
calls_alike ss f o = both_call (signature ss f) (signature (in_words_all ss) f) (alike ss f) o

-- with the functions of a context that are these
pub given_in_words : (functions ss : List Signature) → functions ≡ ss → (m : Mon) (s : Scope) →
    scalars_given (record { scope = s; functions = functions; sort_for = word_sort_of }) m
    ≡ scalars_given (record { scope = s; functions = in_words_all ss; sort_for = sort_of_kind }) m
given_in_words functions ss e m s =
    subst (λ fs. scalars_given (record { scope = s; functions = fs; sort_for = word_sort_of }) m
    ≡ scalars_given (record { scope = s; functions = in_words_all ss; sort_for = sort_of_kind }) m) (sym e)
    (given_alike word_sort_of sort_of_kind ss (in_words_all ss) (alike ss) m s)

-- the functions of a generated unit, after three steps, have the signatures that they were generated with
pub same_signatures : (l : Layout) (levels : Name → Level) (fs : List C.TypedFn) →
    right_signatures (functions_on_heaps (functions_lifted
    (map function_eliminated (map (λ f. function_of l (levels f.name) f) fs))
    (map (λ f. signature_of l (levels f.name) f) fs)))
    (kinds_of_functions (map (λ f. function_of l (levels f.name) f) fs) (map (λ f. signature_of l (levels f.name) f) fs))
    ≡ map (λ f. signature_of l (levels f.name) f) fs
same_signatures l levels [] = refl
same_signatures l levels (f ∷ fs) = ap (λ ss. signature_of l (levels f.name) f ∷ ss) (same_signatures l levels fs)
